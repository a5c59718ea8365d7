-- `keccak_counts::charge_core_row` meets its contract: the pointers, the alignment, the address's bytes (Rows.antt).
use mathlib.Core.Path.{◌≡◌, sym, subst}
use mathlib.Core.List.{List}
use Prim.Native.Nat.{ℕ}
use native.Mathlib.Omega.{arith}
use Rattle.field.specs.Elements.{ElementRow}
use Rattle.bitwise.specs.Columns.{NUM-COUNTERS}
use Rattle.bitwise.specs.Charge.{charged_counters}
use Rattle.bitwise.proofs.Charge.{may_add, elements-add, charged-elements}
use Rattle.keccak_counts.specs.Places.{align_place}
use Rattle.keccak_counts.proofs.Rows.{address-all}
use Rattle.keccak_counts.proofs.charge_core_row.Goals as goal

-- the counters after the pointers
pointed : {old C : List ℕ} (f : ℕ → ℕ) → ElementRow NUM-COUNTERS old → C ≡ charged_counters old f → ElementRow NUM-COUNTERS C
pointed f r e = subst (ElementRow NUM-COUNTERS) (sym e) (charged-elements _ _ r.long)

pub charge_word-requires : goal.charge_word-requires
charge_word-requires c = may_add _ (pointed _ c.requires.0 c.charge_pointers.ensures) (omega arith)

pub charge_pairs-requires : goal.charge_pairs-requires
charge_pairs-requires c =
    let row = pointed _ c.requires.0 c.charge_pointers.ensures in
    subst (ElementRow NUM-COUNTERS) (sym c.charge_word.ensures) (elements-add (align_place c.args.address) 1 row (omega arith))

pub returns : goal.returns
returns c =
    address-all c.args.address c.requires.0 c.charge_pointers.ensures c.charge_word.ensures c.charge_pairs.ensures
