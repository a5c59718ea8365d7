-- `keccak_rnd_tuples::byte_length` meets its contract: the index in five cases.
use Rattle.keccak_rnd_tuples.proofs.Tuples.{front-size, left-size, middle-size, rot-size, back-size}
use Rattle.keccak_rnd_tuples.proofs.byte_length.Goals as goal

pub returns-then-index-lt-CXZ_LEFT_TUPLES : goal.returns-then-index-lt-CXZ_LEFT_TUPLES
returns-then-index-lt-CXZ_LEFT_TUPLES c = λ row. front-size row _ c.requires c.if-index-lt-CXZ_LEFT_TUPLES.true

pub returns-then-index-lt-DXZ_TUPLES : goal.returns-then-index-lt-DXZ_TUPLES
returns-then-index-lt-DXZ_TUPLES c = λ row. left-size row _ c.if-index-lt-CXZ_LEFT_TUPLES.false c.if-index-lt-DXZ_TUPLES.true

pub returns-then-index-lt-ROT_TUPLES : goal.returns-then-index-lt-ROT_TUPLES
returns-then-index-lt-ROT_TUPLES c = λ row. middle-size row _ c.if-index-lt-DXZ_TUPLES.false c.if-index-lt-ROT_TUPLES.true

pub returns-then-index-lt-CHI_ANDS_TUPLES : goal.returns-then-index-lt-CHI_ANDS_TUPLES
returns-then-index-lt-CHI_ANDS_TUPLES c = λ row. rot-size row _ c.if-index-lt-ROT_TUPLES.false c.if-index-lt-CHI_ANDS_TUPLES.true

pub returns-else-index-lt-CHI_ANDS_TUPLES : goal.returns-else-index-lt-CHI_ANDS_TUPLES
returns-else-index-lt-CHI_ANDS_TUPLES c = λ row. back-size row _ c.if-index-lt-CHI_ANDS_TUPLES.false
