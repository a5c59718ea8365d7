-- `keccak_row::put_pad_row` meets its contract: the three groups one after the other.
use mathlib.Core.Path.{◌≡◌, refl, sym}
use Prim.Native.Nat.{ℕ, ◌+◌}
use native.Mathlib.Omega.{arith}
use lib.ListN.{length-set, set}
use mathlib.Core.List.{List}
use native.Mathlib.Nat.{add-zero}
use lib.Seq.{sets}
use Rattle.lists.specs.Tab.{tab}
use Rattle.keccak.specs.Row.{core_pad, core_pad_groups, pointer_limb}
use Rattle.lists.proofs.Laws.{wrote_none, wrote-more, sets-cell}
use Rattle.keccak_row.proofs.put_pad_row.Goals as goal

pub shape_of-row : goal.shape_of-row
shape_of-row c = simp length-set (omega arith)

-- the three groups, one after the other
groups : (l : List ℕ) (at : ℕ) (r₀ r₁ : List ℕ) → r₀ ≡ sets l at (tab 410 (λ k. 0)) → r₁ ≡ sets r₀ (at + 410) (tab 75 (pointer_limb 0)) → set r₁ (at + 485) 0 ≡ sets l at core_pad
unfolding core_pad core_pad_groups
groups l at r₀ r₁ e₀ e₁ =
    let w₀ = wrote-more _ _ (wrote_none l at) (sym (add-zero at)) e₀ in
    let w₁ = wrote-more _ _ w₀ refl e₁ in
    (wrote-more _ _ w₁ refl (sets-cell r₁ (at + 485) 0)).is

pub returns : goal.returns
returns c =
    groups c.args.row.now c.args.at _ _ c.put_zeros.ensures c.put_pointers.ensures
