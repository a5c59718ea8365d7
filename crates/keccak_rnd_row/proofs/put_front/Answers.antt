-- `put_front` meets its contract: seven groups, one after the other.
use mathlib.Core.Path.{refl, sym}
use native.Mathlib.Nat.{add-zero}
use Rattle.keccak_rnd.specs.Parts.{front_groups}
use Rattle.lists.proofs.Laws.{wrote_none, wrote-more}
use Rattle.keccak_rnd_row.proofs.put_front.Goals as goal

pub returns : goal.returns
unfolding front_groups
returns c =
    let w0 = wrote-more _ _ (wrote_none c.args.row.now c.args.at) (sym (add-zero _)) c.put_dword_wl.ensures in
    let w1 = wrote-more _ _ w0 refl c.put_word.ensures in
    let w2 = wrote-more _ _ w1 refl c.put_lanes.ensures in
    let w3 = wrote-more _ _ w2 refl c.put_stages.ensures in
    let w4 = wrote-more _ _ w3 refl c.put_table.ensures in
    let w5 = wrote-more _ _ w4 refl c.put_bits.ensures in
    (wrote-more _ _ w5 refl c.put_table-2.ensures).is
