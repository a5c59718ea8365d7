-- `hwsl` meets its contract: sixteen bits and a shift below 16 fit 64 bits.
use mathlib.Core.Path.{sym, ap, ◌∙◌, subst}
use Prim.Native.Nat.{ℕ, ◌/◌, ◌%◌, ◌<◌}
use native.Mathlib.Omega.{arith}
use lib.Pow.{shl_exact}
use Rattle.bits.proofs.Halves.{split-half, carry-half}
use Rattle.keccak_rnd_halfword.proofs.hwsl.Goals as goal

pub returns : goal.returns
returns c =
    let e = shl_exact 16 c.args.shift 64 c.requires.0 (omega arith) in
    record {
      parts = (ap (λ (n : ℕ). n % 65536) e, ap (λ (n : ℕ). n / 65536) e);
      lossless = (split-half _ ∙ e, subst (λ (n : ℕ). n / 65536 < 65536) (sym e) (carry-half c.args.half c.args.shift c.requires.0 c.requires.1));
    }
