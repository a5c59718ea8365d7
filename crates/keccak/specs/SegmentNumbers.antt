-- Segment numbers stand in no column: "The tables' columns don't hold it". Two lists of operations that differ in their segment numbers
-- only, in which every number fits; proofs/SegmentNumbers.antt: every call of the core table refuses both alike and writes the same of both.
use Rattle.std.specs.Prelude.{ℕ, ◌+◌, ◌*◌, ◌≤◌, ◌<◌, ◌≡◌, List, length}
use Rattle.lists.specs.Tab.{word}
use Rattle.keccak.specs.Row.{OP-WORDS, SEGMENT-WORD, LAST-SEGMENT}
use Rattle.keccak.specs.Refusals.{op_count, segment_at}

-- every other word is the same
pub record ButSegments (a b : List ℕ) : Type 0 where
  pub long : length a ≡ length b
  pub words : (i k : ℕ) → k < SEGMENT-WORD → word a (OP-WORDS * i + k) ≡ word b (OP-WORDS * i + k)

-- no segment number is refused
abbrev pub ShortSegments : List ℕ → Type 0
ShortSegments ops = (i : ℕ) → i < op_count ops → segment_at ops i ≤ LAST-SEGMENT
