-- `keccak_rnd_tuples::tuple_length` meets its contract: the index in three cases.
use Rattle.keccak_rnd_tuples.proofs.Tuples.{keccak-size, rc-size}
use Rattle.keccak_rnd_tuples.proofs.tuple_length.Goals as goal

pub returns-then-index-lt2 : goal.returns-then-index-lt2
returns-then-index-lt2 c = λ row. keccak-size row _ c.if-index-lt2.true

pub returns-then-index-eq2 : goal.returns-then-index-eq2
returns-then-index-eq2 c = λ row. rc-size row _ c.if-index-eq2.true
