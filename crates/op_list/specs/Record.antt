-- An operation's 53 words as the bytes of its record: the mark, then 8 bytes to a word, lowest first, and of its segment
-- number four. What reads them back is `record_word` (op_file/specs/File.antt).
use Rattle.std.specs.Prelude.{ℕ, ◌+◌, ◌-◌, ◌/◌, ◌%◌, ◌<◌, ◌≡◌, Bool, true, not, List, ◌∷◌, eqb}
use Rattle.lists.specs.Tab.{pick, tab, word}
use Rattle.bits.specs.Bits.{byte_at}
use Rattle.keccak.specs.Row.{SEGMENT-WORD}
use Rattle.op_file.specs.File.{FIRST-MARK, PLAIN-MARK, SEGMENT-MARK, record_size, is_whole}

-- byte k of the words f 0, f 1, ..
unfoldable pub word_byte : (ℕ → ℕ) → ℕ → ℕ
word_byte f k = byte_at (f (k / 8)) (k % 8)

-- an operation of segment 0 is written as records of old, any other under 4B 50
unfoldable pub is_numbered : (ℕ → ℕ) → Bool
is_numbered f = not (eqb (f SEGMENT-WORD) 0)

abbrev pub mark_of : Bool → ℕ
mark_of numbered = pick numbered SEGMENT-MARK PLAIN-MARK

-- the bytes behind the mark: those of 52 words, and the four of the segment number where it is written
abbrev pub body_size : (ℕ → ℕ) → ℕ
body_size f = record_size (is_numbered f) - 2

unfoldable pub record_bytes : (ℕ → ℕ) → List ℕ
record_bytes f = FIRST-MARK ∷ mark_of (is_numbered f) ∷ tab (body_size f) (word_byte f)

-- the words from a place of a flat list on
abbrev pub words_from : List ℕ → ℕ → ℕ → ℕ
words_from ops at j = word ops (at + j)

-- a whole record of bytes
pub record Record (r : List ℕ) : Type 0 where
  pub whole : is_whole r ≡ true
  pub bytes : (k : ℕ) → word r k < 256
