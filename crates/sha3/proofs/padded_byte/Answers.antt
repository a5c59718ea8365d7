-- `padded_byte` meets its contract: each way out is a case of the padding.
use mathlib.Core.Path.{◌∙◌}
use native.Mathlib.Omega.{arith}
use borrow.Author.Rules.{rules}
use Rattle.sha3.proofs.Padding.{in-message, only-byte, first_byte, last_byte, between}
use Rattle.sha3.proofs.padded_byte.Goals as goal

pub returns-then-k-n : goal.returns-then-k-n
returns-then-k-n c =
    let m = c.args.message.now in
    let k = c.args.k in
    record { byte = c.wide.ensures ∙ in-message m k c.if-k-n.true; small = omega (arith, c.wide.ensures, c.type_inv.message k) }

pub returns-then-k-last : goal.returns-then-k-last
returns-then-k-last c =
    record { byte = only-byte c.args.message.now c.args.k c.if-k-n-2.true c.if-k-last.true; small = search rules }

pub returns-then-k-n-2 : goal.returns-then-k-n-2
returns-then-k-n-2 c =
    record { byte = first_byte c.args.message.now c.args.k c.if-k-n-2.true c.if-k-last.false; small = search rules }

pub returns-then-k-last-2 : goal.returns-then-k-last-2
returns-then-k-last-2 c =
    record { byte = last_byte c.args.message.now c.args.k c.if-k-n.false c.if-k-n-2.false c.if-k-last-2.true; small = search rules }

pub returns : goal.returns
returns c =
    record { byte = between c.args.message.now c.args.k c.if-k-n.false c.if-k-n-2.false c.if-k-last-2.false; small = search rules }
