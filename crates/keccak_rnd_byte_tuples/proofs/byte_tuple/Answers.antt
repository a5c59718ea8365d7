-- `keccak_rnd_byte_tuples::byte_tuple` meets its contract: the index in five cases.
use native.Mathlib.Omega.{arith}
use Rattle.keccak_rnd_byte_tuples.proofs.Places.{left-values, at_front, at_back, rot-values, at-middle, alu-values}
use Rattle.tuple.proofs.Call.{as-tuple}
use Rattle.keccak_rnd_byte_tuples.proofs.byte_tuple.Goals as goal

pub alu_tuple-requires : goal.alu_tuple-requires
alu_tuple-requires c = (c.requires.0, omega arith, alu-values _ _ _ (at_front _ _ c.requires.1 c.if-index-lt-CXZ_LEFT_TUPLES.true) c.requires.3)

pub returns-then-index-lt-CXZ_LEFT_TUPLES : goal.returns-then-index-lt-CXZ_LEFT_TUPLES
returns-then-index-lt-CXZ_LEFT_TUPLES c = let t = as-tuple _ (at_front _ _ c.requires.1 c.if-index-lt-CXZ_LEFT_TUPLES.true) c.alu_tuple.ensures.answer c.alu_tuple.ensures.words in record { answer = t.0; words = t.1 }

pub left_tuple-requires : goal.left_tuple-requires
left_tuple-requires c = (c.requires.0.long, omega arith, left-values _ _ c.if-index-lt-CXZ_LEFT_TUPLES.false c.if-index-lt-DXZ_TUPLES.true c.requires.3)

pub alu_tuple-requires-then-index-lt-ROT_TUPLES : goal.alu_tuple-requires-then-index-lt-ROT_TUPLES
alu_tuple-requires-then-index-lt-ROT_TUPLES c = (c.requires.0, omega arith, alu-values _ _ _ (at-middle _ _ c.if-index-lt-DXZ_TUPLES.false c.if-index-lt-ROT_TUPLES.true) c.requires.3)

pub returns-then-index-lt-ROT_TUPLES : goal.returns-then-index-lt-ROT_TUPLES
returns-then-index-lt-ROT_TUPLES c = let t = as-tuple _ (at-middle _ _ c.if-index-lt-DXZ_TUPLES.false c.if-index-lt-ROT_TUPLES.true) c.alu_tuple-then-index-lt-ROT_TUPLES.ensures.answer c.alu_tuple-then-index-lt-ROT_TUPLES.ensures.words in record { answer = t.0; words = t.1 }

pub rot_tuple-requires : goal.rot_tuple-requires
rot_tuple-requires c = (c.requires.0.long, omega arith, rot-values _ _ c.if-index-lt-ROT_TUPLES.false c.if-index-lt-CHI_ANDS_TUPLES.true c.requires.3)

pub alu_tuple-requires-2 : goal.alu_tuple-requires-2
alu_tuple-requires-2 c = (c.requires.0, omega arith, alu-values _ _ _ (at_back _ _ c.if-index-lt-CHI_ANDS_TUPLES.false) c.requires.3)

pub returns : goal.returns
returns c = let t = as-tuple _ (at_back _ _ c.if-index-lt-CHI_ANDS_TUPLES.false) c.alu_tuple-2.ensures.answer c.alu_tuple-2.ensures.words in record { answer = t.0; words = t.1 }
