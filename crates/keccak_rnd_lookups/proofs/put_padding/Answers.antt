-- `keccak_rnd_lookups::put_padding` meets its contract: a tuple that is not sent leaves 0.
use Rattle.keccak_rnd_lookups.proofs.Joins.{all-stored, none-sent}
use Rattle.keccak_rnd_lookups.proofs.put_padding.Goals as goal

pub returns : goal.returns
returns c =
    let e = c.requires.1 in
    all-stored _ _ c.put_first.ensures (none-sent _ _ 3 0 160 e c.put_zeros.ensures) c.put_left.ensures (none-sent _ _ 183 160 240 e c.put_zeros-2.ensures) c.put_rot.ensures (none-sent _ _ 623 400 408 e c.put_zeros-3.ensures)
