-- `keccak_rnd_lookups::rc::rc_residue` meets its contract: one test after the other.
use Rattle.residue.proofs.Residue.{idle}
use Rattle.keccak_rnd_lookups.proofs.Joins.{rc-past, rc-known}
use Rattle.keccak_rnd_lookups.proofs.rc.rc_residue.Goals as goal

pub returns-then-row-eq0 : goal.returns-then-row-eq0
returns-then-row-eq0 c = idle _ c.if-row-eq0.true

pub returns-then-round-ge32 : goal.returns-then-round-ge32
returns-then-round-ge32 c = rc-past c.args.row.now c.if-row-eq0.false c.if-round-ge32.true

pub returns : goal.returns
returns c =
    rc-known c.args.row.now c.if-row-eq0.false c.if-round-ge32.false c.round_constant-constant.ensures c.constant_residue.ensures
