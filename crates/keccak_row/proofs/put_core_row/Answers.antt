-- `keccak_row::put_core_row` meets its contract: the six groups one after the other.
use mathlib.Core.Path.{◌≡◌, refl, sym}
use Prim.Native.Nat.{ℕ, ◌+◌}
use native.Mathlib.Omega.{arith}
use lib.ListN.{length-set, set}
use mathlib.Core.List.{List}
use native.Mathlib.Nat.{add-zero}
use lib.Seq.{sets}
use Rattle.lists.specs.Tab.{tab}
use Rattle.bits.specs.Bits.{byte_at, lane_byte, word_at}
use Rattle.keccak.specs.Row.{core_row, core_groups, pointer_limb}
use Rattle.keccak.specs.declared.KeccakOperation.{KeccakOperation}
use Rattle.lists.proofs.Laws.{wrote_none, wrote-more, sets-cell}
use Rattle.keccak_row.proofs.put_core_row.Goals as goal

-- the six groups, one after the other
groups : (l : List ℕ) (at : ℕ) (r₀ r₁ r₂ r₃ r₄ : List ℕ) (o : KeccakOperation)
    → r₀ ≡ sets l at (tab 2 (word_at o.timestamp))
    → r₁ ≡ sets r₀ (at + 2) (tab 8 (byte_at o.state_addr))
    → r₂ ≡ sets r₁ (at + 10) (tab 200 (lane_byte o.input))
    → r₃ ≡ sets r₂ (at + 210) (tab 200 (lane_byte o.output))
    → r₄ ≡ sets r₃ (at + 410) (tab 75 (pointer_limb o.state_addr))
    → set r₄ (at + 485) 1 ≡ sets l at (core_row o)
unfolding core_row core_groups
groups l at r₀ r₁ r₂ r₃ r₄ o e₀ e₁ e₂ e₃ e₄ =
    let w₀ = wrote-more _ _ (wrote_none l at) (sym (add-zero at)) e₀ in
    let w₁ = wrote-more _ _ w₀ refl e₁ in
    let w₂ = wrote-more _ _ w₁ refl e₂ in
    let w₃ = wrote-more _ _ w₂ refl e₃ in
    let w₄ = wrote-more _ _ w₃ refl e₄ in
    (wrote-more _ _ w₄ refl (sets-cell r₄ (at + 485) 1)).is

pub shape_of-row : goal.shape_of-row
shape_of-row c = simp length-set (omega arith)

pub returns : goal.returns
returns c =
    groups c.args.row.now c.args.at _ _ _ _ _ c.args.op c.put_dword_wl.ensures c.put_dword_bl.ensures c.put_lanes.ensures
    c.put_lanes-2.ensures c.put_pointers.ensures
