-- `left_bytes` meets its contract, halfword by halfword.
use Rattle.keccak_rnd.proofs.Tables.{left-eight}
use Rattle.keccak_rnd_parity.proofs.left_bytes.Goals as goal

pub returns : goal.returns
returns c =
    left-eight c.args.c c.low_half-a.ensures c.low_half-b.ensures c.low_half-d.ensures c.low_half-e.ensures
