-- `put_chi` meets its contract: five groups, one after the other.
use mathlib.Core.Path.{refl, sym, ap, ◌∙◌}
use mathlib.Core.List.{List}
use Prim.Native.Nat.{ℕ}
use native.Mathlib.Nat.{add-zero}
use lib.ListN.{get_or}
use lib.Seq.{sets}
use Rattle.lists.specs.Tab.{tab}
use Rattle.lists.proofs.Laws.{wrote_none, wrote-more}
use Rattle.bits.specs.Bits.{byte_at, lane_byte}
use Rattle.keccak_rnd.specs.Parts.{chi_groups}
use Rattle.keccak_rnd.proofs.Tables.{iota-bytes}
use Rattle.keccak_rnd_row.proofs.put_chi.Goals as goal

pub returns : goal.returns
unfolding chi_groups
returns c =
    let w0 = wrote-more _ _ (wrote_none c.args.row.now c.args.at) (sym (add-zero _)) (c.put_lanes.ensures ∙ ap (sets _ _) (ap (λ (l : List ℕ). tab 200 (lane_byte l)) c.chi_ands-ands.ensures)) in
    let w1 = wrote-more _ _ w0 refl c.put_lanes-2.ensures in
    let w2 = wrote-more _ _ w1 refl (c.put_dword_bl.ensures ∙ ap (sets _ _) (ap (λ (n : ℕ). tab 8 (byte_at n)) c.round_constant-rc.ensures)) in
    let w3 = wrote-more _ _ w2 refl (c.put_dword_bl-2.ensures ∙ ap (sets _ _) (iota-bytes (get_or c.args.v 0 0) c.round_constant-rc.ensures)) in
    (wrote-more _ _ w3 refl c.put_word.ensures).is
