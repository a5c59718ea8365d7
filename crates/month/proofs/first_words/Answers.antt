-- `month::first_words` meets its contract: the eight words, the used rows as operations times rounds (Totals.antt).
use mathlib.Core.Path.{◌≡◌, refl, sym, ap, ◌∙◌}
use mathlib.Core.List.{List}
use Prim.Native.Nat.{ℕ, ◌*◌}
use native.Mathlib.Omega.{arith}
use Rattle.month.specs.Month.{operations_of, used_of}
use Rattle.month.proofs.Totals.{used-is, used-and-padding, used-sum-most}
use Rattle.month.proofs.Writing.{first-eight}
use Rattle.month.proofs.first_words.Goals as goal

-- the used rows
used : (nr floor : ℕ) (counts : List ℕ) {ops : ℕ} → ops ≡ operations_of counts → ops * nr ≡ used_of nr counts
used nr floor counts e = ap (λ (n : ℕ). n * nr) e ∙ sym (used-is nr floor counts)

pub overflow_mul-used : goal.overflow_mul-used
overflow_mul-used c =
    omega (arith, used c.args.nr c.args.floor c.args.counts.now c.all_operations-ops.ensures, used-sum-most _ _ _ c.requires, c.requires.few)

pub overflow_sub-padding : goal.overflow_sub-padding
overflow_sub-padding c =
    omega (arith, used c.args.nr c.args.floor c.args.counts.now c.all_operations-ops.ensures, c.all_rows.ensures, used-and-padding c.args.nr c.args.floor c.args.counts.now)

pub returns : goal.returns
returns c =
    let full = c.rows_shown-full.ensures in
    let empty = c.rows_shown-empty.ensures in
    first-eight _ _ _ c.all_operations-ops.ensures refl c.all_rows.ensures full.0 full.1 empty.0 empty.1
