-- `put_rho` meets its contract: three groups of lanes.
use mathlib.Core.Path.{refl, sym, ap, ◌∙◌}
use mathlib.Core.List.{List}
use Prim.Native.Nat.{ℕ}
use native.Mathlib.Nat.{add-zero}
use lib.Seq.{sets}
use Rattle.lists.specs.Tab.{tab}
use Rattle.lists.proofs.Laws.{wrote_none, wrote-more}
use Rattle.bits.specs.Bits.{lane_byte}
use Rattle.keccak_rnd.specs.Parts.{rho_groups}
use Rattle.keccak_rnd.proofs.Tables.{left-lanes, right-lanes}
use Rattle.keccak_rnd_row.proofs.put_rho.Goals as goal

pub returns : goal.returns
unfolding rho_groups
returns c =
    let t = c.args.t in
    let w0 = wrote-more _ _ (wrote_none c.args.row.now c.args.at) (sym (add-zero _)) c.put_lanes.ensures in
    let w1 = wrote-more _ _ w0 refl (c.put_lanes-2.ensures ∙ ap (sets _ _) (ap (λ (l : List ℕ). tab 200 (lane_byte l)) c.rot_left-left.ensures ∙ left-lanes t)) in
    (wrote-more _ _ w1 refl (c.put_lanes-3.ensures ∙ ap (sets _ _) (ap (λ (l : List ℕ). tab 200 (lane_byte l)) c.rot_right-right.ensures ∙ right-lanes t))).is
