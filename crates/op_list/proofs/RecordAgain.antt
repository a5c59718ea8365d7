-- Bytes to words and back, and words to bytes and back, change nothing.
--     record-word, record-number   the words of a written record are those that were written
--     bytes_back                   a record that is read and written again is the same
--     word_in, segment-in          a word that was read at its place in a file is that of the record there
use Prim.Native.Nat.{ℕ, zero, suc, ◌+◌, ◌-◌, ◌*◌, ◌/◌, ◌%◌, ◌^◌, ◌<◌, ◌≤◌}
use mathlib.Core.Path.{◌≡◌, refl, sym, ap, ap₂, ◌∙◌}
use mathlib.Core.Bool.{Bool, true, false, not}
use mathlib.Core.List.{List, [], ◌∷◌}
use native.Mathlib.Nat.{div-div-eq-div-mul, div-one, div-add-mod', mod-eq_of_lt}
use native.Mathlib.Numerals.{add-one}
use native.Mathlib.Omega.{arith}
use borrow.Author.Tests.{eqb-true, eq-eqb, ne_eqb, lt-ltb, le-ltb, not-false}
use lib.Dec.{eqb}
use lib.Pow.{pow-add}
use lib.ListN.{length, take, drop, get_or, set}
use lib.Seq.{sets, get_or-take, get_or-drop}
use Rattle.lists.specs.Tab.{pick, tab, word}
use Rattle.lists.proofs.Laws.{length-tab, sets-append, get_d-tab, tab-same, list-tab}
use Rattle.lists.proofs.Tests.{true-not-false}
use Rattle.lists.proofs.Then.{by_le}
use Rattle.bits.specs.Bits.{byte_at, pack, lane_of}
use Rattle.bits.proofs.Bytes.{pack-by, lane-byte_at, lane-of-bytes}
use Rattle.keccak.specs.Row.{OP-WORDS, SEGMENT-WORD, LAST-SEGMENT}
use Rattle.op_file.specs.File.{RECORD-BYTES, FIRST-MARK, PLAIN-MARK, SEGMENT-MARK, is_mark, is_marked, record_size, size_of, segment_of, record_word, operation_words}
use Rattle.op_file.proofs.Steps.{size-least, size-most, upper-half}
use Rattle.op_file.proofs.Starts.{Marked, marked, first-marked}
use Rattle.op_list.specs.Record.{word_byte, is_numbered, mark_of, body_size, record_bytes, Record}

-- ---- the words of a record
-- word j by its eight bytes
pub word_of : (r : List ℕ) (j : ℕ) → j < SEGMENT-WORD → record_word r j ≡ lane_of (λ b. word r (2 + 8 * j + b))
unfolding record_word
word_of r j h =
    simp (lt-ltb j SEGMENT-WORD h)
    (pack-by 8 (2 + 8 * j) 0 (word r) (λ b. word r (2 + 8 * j + b)) (λ b l. ap (λ (k : ℕ). word r (2 + 8 * j + k)) (same b)))
  where
    same : (b : ℕ) → b ≡ 0 + b
    same b = omega arith

-- a word that was read at its place in a file is that of the record there
pub word_in : {v : ℕ} (s : List ℕ) (from j : ℕ) → j < SEGMENT-WORD → v ≡ pack 8 (from + 2 + 8 * j) (word s) → v ≡ record_word (drop from s) j
unfolding record_word
word_in s from j h q =
    simp (lt-ltb j SEGMENT-WORD h)
    (q
    ∙ pack-by 8 (from + 2 + 8 * j) (2 + 8 * j) (word s) (word (drop from s))
    (λ b l. let e : from + 2 + 8 * j + b ≡ from + (2 + 8 * j + b) = omega arith in ap (word s) e ∙ sym (get_or-drop from s (2 + 8 * j + b) 0)))

pub segment-in : {v : ℕ} (s : List ℕ) (from : ℕ) → v ≡ pick (is_marked (drop from s)) (pack 4 (from + RECORD-BYTES) (word s)) 0 → v ≡ record_word (drop from s) SEGMENT-WORD
unfolding record_word segment_of
segment-in s from q =
    q
    ∙ ap (λ (n : ℕ). pick (is_marked (drop from s)) n 0)
    (pack-by 4 (from + RECORD-BYTES) RECORD-BYTES (word s) (word (drop from s))
    (λ b l. let e : from + RECORD-BYTES + b ≡ from + (RECORD-BYTES + b) = omega arith in ap (word s) e ∙ sym (get_or-drop from s (RECORD-BYTES + b) 0)))

-- its mark, read at its place in a file
pub mark-in : (s : List ℕ) (from : ℕ) → eqb (get_or s (from + 1) 0) SEGMENT-MARK ≡ is_marked (drop from s)
unfolding is_marked
mark-in s from = ap (λ (b : ℕ). eqb b SEGMENT-MARK) (sym (get_or-drop from s 1 0))

-- its segment number, where it has one
told-number : (r : List ℕ) → is_marked r ≡ true → segment_of r ≡ pack 4 RECORD-BYTES (word r)
unfolding segment_of
told-number r e = rw e refl

no_number : (r : List ℕ) → is_marked r ≡ false → segment_of r ≡ 0
unfolding segment_of
no_number r e = rw e refl

-- the words of a record are those of its own bytes alone
part-word : (n : ℕ) (s : List ℕ) (k m : ℕ) → k + m ≤ n → pack m k (word s) ≡ pack m k (word (take n s))
part-word n s k m l = pack-by m k k (word s) (word (take n s)) (λ b h. sym (get_or-take n s (k + b) 0 (omega arith)))

marked-long : (b : Bool) → b ≡ true → 422 ≤ record_size b
unfolding record_size
marked-long b e = rw e (omega arith)

segment-first : (s : List ℕ) → segment_of s ≡ segment_of (take (size_of s) s)
unfolding segment_of
segment-first s = by (is_marked s) refl ∙ ap (λ (b : Bool). pick b (pack 4 RECORD-BYTES (word (take (size_of s) s))) 0) (sym (first-marked s))
  where
    by : (b : Bool) → is_marked s ≡ b → pick b (pack 4 RECORD-BYTES (word s)) 0 ≡ pick b (pack 4 RECORD-BYTES (word (take (size_of s) s))) 0
    by true e = part-word (size_of s) s RECORD-BYTES 4 (marked-long (is_marked s) e)
    by false e = refl

word-past : (r : List ℕ) (j : ℕ) → SEGMENT-WORD ≤ j → record_word r j ≡ segment_of r
unfolding record_word
word-past r j h = simp (le-ltb j SEGMENT-WORD h)

word_low : (r : List ℕ) (j : ℕ) → j < SEGMENT-WORD → record_word r j ≡ pack 8 (2 + 8 * j) (word r)
unfolding record_word
word_low r j h = simp (lt-ltb j SEGMENT-WORD h)

first_word : (s : List ℕ) (j : ℕ) → record_word s j ≡ record_word (take (size_of s) s) j
first_word s j =
    by_le SEGMENT-WORD j
    (λ (h : SEGMENT-WORD ≤ j). word-past s j h ∙ segment-first s ∙ sym (word-past (take (size_of s) s) j h))
    (λ (h : j < SEGMENT-WORD).
    word_low s j h ∙ part-word (size_of s) s (2 + 8 * j) 8 (omega (arith, size-least (is_marked s))) ∙ sym (word_low (take (size_of s) s) j h))

pub first-words : (s : List ℕ) → operation_words s ≡ operation_words (take (size_of s) s)
unfolding operation_words
first-words s = tab-same OP-WORDS (record_word s) (record_word (take (size_of s) s)) (λ j l. first_word s j)

-- ---- the bytes of a record
body-size : (f : ℕ → ℕ) → 2 + body_size f ≡ record_size (is_numbered f)
body-size f = omega (arith, size-least (is_numbered f))

pub record-length : (f : ℕ → ℕ) → length (record_bytes f) ≡ record_size (is_numbered f)
unfolding record_bytes
record-length f = let e = length-tab (body_size f) (word_byte f) in omega (arith, e, body-size f)

record-byte : (f : ℕ → ℕ) (k : ℕ) → k < body_size f → word (record_bytes f) (2 + k) ≡ word_byte f k
unfolding record_bytes
record-byte f k h =
    let e : 2 + k ≡ suc (suc k) = omega arith in
    ap (word (FIRST-MARK ∷ mark_of (is_numbered f) ∷ tab (body_size f) (word_byte f))) e ∙ get_d-tab (body_size f) (word_byte f) k 0 h

-- its mark says whether it has a segment number, so it is as long as it says
pub record-marked : (f : ℕ → ℕ) → is_marked (record_bytes f) ≡ is_numbered f
unfolding is_marked record_bytes
record-marked f = by (is_numbered f)
  where
    by : (b : Bool) → eqb (mark_of b) SEGMENT-MARK ≡ b
    by true = refl
    by false = refl

pub record-sized : (f : ℕ → ℕ) → length (record_bytes f) ≡ size_of (record_bytes f)
record-sized f = record-length f ∙ ap record_size (sym (record-marked f))

-- byte b of word j of a record
written_byte : (f : ℕ → ℕ) (j b : ℕ) → 8 * j + b < body_size f → b < 8 → word (record_bytes f) (2 + 8 * j + b) ≡ byte_at (f j) b
unfolding word_byte
written_byte f j b h hb =
    let e : 2 + 8 * j + b ≡ 2 + (8 * j + b) = omega arith in
    let q : (8 * j + b) / 8 ≡ j = omega arith in
    let m : (8 * j + b) % 8 ≡ b = omega arith in
    ap (word (record_bytes f)) e ∙ record-byte f (8 * j + b) h ∙ ap₂ (λ (x y : ℕ). byte_at (f x) y) q m

-- ---- written and read again
pub record-word : (f : ℕ → ℕ) (j : ℕ) → j < SEGMENT-WORD → f j < 2 ^ 64 → record_word (record_bytes f) j ≡ f j
record-word f j h small =
    word_of (record_bytes f) j h
    ∙ lane-of-bytes (f j) (λ b. word (record_bytes f) (2 + 8 * j + b)) small
    (λ b hb. written_byte f j b (omega (arith, size-least (is_numbered f))) hb)

-- four bytes make a number below 2^32
four-parts : (x : ℕ) → x ≤ LAST-SEGMENT → ((x / 16777216 % 256 * 256 + x / 65536 % 256) * 256 + x / 256 % 256) * 256 + x % 256 ≡ x
four-parts x l =
    let a : x / 65536 ≡ x / 256 / 256 = sym (div-div-eq-div-mul x 256 256) in
    let b : x / 16777216 ≡ x / 256 / 256 / 256 = sym (ap (λ (n : ℕ). n / 256) (div-div-eq-div-mul x 256 256) ∙ div-div-eq-div-mul x 65536 256) in
    let q : x / 256 / 256 / 256 % 256 ≡ x / 256 / 256 / 256 = mod-eq_of_lt (omega (arith, b)) in
    rw (a, b, q, div-add-mod' (x / 256 / 256) 256, div-add-mod' (x / 256) 256, div-add-mod' x 256) refl

four_bytes_lem : (x k : ℕ) (g : ℕ → ℕ) → x ≤ LAST-SEGMENT → ((b : ℕ) → b < 4 → g (k + b) ≡ byte_at x b) → pack 4 k g ≡ x
unfolding pack
four_bytes_lem x k g l h =
    let e0 : k + 0 ≡ k = omega arith in
    let e1 : k + 1 ≡ suc k = omega arith in
    let e2 : k + 2 ≡ suc (suc k) = omega arith in
    let e3 : k + 3 ≡ suc (suc (suc k)) = omega arith in
    let b0 : g k ≡ x % 256 = ap g (sym e0) ∙ h 0 (omega arith) ∙ ap (λ (n : ℕ). n % 256) (div-one x) in
    let b1 : g (suc k) ≡ x / 256 % 256 = ap g (sym e1) ∙ h 1 (omega arith) in
    let b2 : g (suc (suc k)) ≡ x / 65536 % 256 = ap g (sym e2) ∙ h 2 (omega arith) in
    let b3 : g (suc (suc (suc k))) ≡ x / 16777216 % 256 = ap g (sym e3) ∙ h 3 (omega arith) in
    omega (arith, b0, b1, b2, b3, four-parts x l)

zero_number : (f : ℕ → ℕ) → is_numbered f ≡ false → 0 ≡ f SEGMENT-WORD
unfolding is_numbered
zero_number f e = sym (eqb-true (f SEGMENT-WORD) 0 (not-false (eqb (f SEGMENT-WORD) 0) e))

pub record-number : (f : ℕ → ℕ) → f SEGMENT-WORD ≤ LAST-SEGMENT → record_word (record_bytes f) SEGMENT-WORD ≡ f SEGMENT-WORD
record-number f small = word-past (record_bytes f) SEGMENT-WORD (omega arith) ∙ number (is_numbered f) refl
  where
    number : (b : Bool) → is_numbered f ≡ b → segment_of (record_bytes f) ≡ f SEGMENT-WORD
    number true e = told-number (record_bytes f) (record-marked f ∙ e)
        ∙ four_bytes_lem (f SEGMENT-WORD) RECORD-BYTES (word (record_bytes f)) small
        (λ b hb. written_byte f SEGMENT-WORD b (omega (arith, marked-long (is_numbered f) e)) (omega arith))
    number false e = no_number (record_bytes f) (record-marked f ∙ e) ∙ zero_number f e

numbered-same : (f g : ℕ → ℕ) → f SEGMENT-WORD ≡ g SEGMENT-WORD → is_numbered f ≡ is_numbered g
unfolding is_numbered
numbered-same f g e = ap (λ (n : ℕ). not (eqb n 0)) e

long-marked : (b : Bool) → 418 < record_size b → b ≡ true
unfolding record_size
long-marked true l = refl
long-marked false l = absurd (omega arith)

second_is : (r : List ℕ) → eqb (word r 1) SEGMENT-MARK ≡ is_marked r
unfolding is_marked
second_is r = refl

-- ---- read and written again
four-at : (k : ℕ) (g : ℕ → ℕ) → ((b : ℕ) → g b < 256) → (b : ℕ) → b < 4 → byte_at (pack 4 (k + 4) g) b ≡ g (k + (4 + b))
four-at k g small b l =
    let d : 2 ^ 32 * 2 ^ (8 * b) ≡ 2 ^ (8 * (4 + b)) = sym (pow-add 2 32 (8 * b)) ∙ ap (λ (n : ℕ). 2 ^ n) (omega arith) in
    ap (λ (n : ℕ). byte_at n b) (sym (upper-half k g small))
    ∙ ap (λ (n : ℕ). n % 256) (div-div-eq-div-mul (pack 8 k g) (2 ^ 32) (2 ^ (8 * b)) ∙ ap (λ (n : ℕ). pack 8 k g / n) d)
    ∙ ap (λ (n : ℕ). byte_at n (4 + b)) (pack-by 8 k 0 g (λ c. g (k + c)) (λ c h. ap (λ (n : ℕ). g (k + n)) (same c)))
    ∙ lane-byte_at (λ c. g (k + c)) (λ c h. small (k + c)) (4 + b) (omega arith)
  where
    same : (c : ℕ) → c ≡ 0 + c
    same c = omega arith

-- a record with a mark that says what it has
numbered_is : (r : List ℕ) → (is_marked r ≡ true → 0 < segment_of r) → is_numbered (record_word r) ≡ is_marked r
unfolding is_numbered
numbered_is r h = ap (λ (n : ℕ). not (eqb n 0)) (word-past r SEGMENT-WORD (omega arith)) ∙ by (is_marked r) refl
  where
    by : (b : Bool) → is_marked r ≡ b → not (eqb (segment_of r) 0) ≡ b
    by true e = ap not (ne_eqb (segment_of r) 0 (λ z. omega (arith, h e)))
    by false e = ap not (eq-eqb (segment_of r) 0 (no_number r e))

-- the mark's second byte is the one that is written
mark-back : (b : ℕ) → is_mark b ≡ true → (c : Bool) → eqb b SEGMENT-MARK ≡ c → mark_of c ≡ b
unfolding is_mark
mark-back b e true q = sym (eqb-true b SEGMENT-MARK q)
mark-back b e false q = by (eqb b PLAIN-MARK) refl e
  where
    by : (d : Bool) → eqb b PLAIN-MARK ≡ d → pick d true (eqb b SEGMENT-MARK) ≡ true → PLAIN-MARK ≡ b
    by true p e = sym (eqb-true b PLAIN-MARK p)
    by false p e = absurd (true-not-false (sym e ∙ q))

module _ (r : List ℕ) (h : Record r) (above : is_marked r ≡ true → 0 < segment_of r) where
  m : Marked r
  m = marked r h.whole

  size_is : record_size (is_numbered (record_word r)) ≡ length r
  size_is = ap record_size (numbered_is r above) ∙ sym m.long

  -- behind the mark: the words, and the segment number
  low_byte : (k : ℕ) → k < 416 → word_byte (record_word r) k ≡ word r (2 + k)
  unfolding word_byte
  low_byte k l =
      let e : 2 + 8 * (k / 8) + k % 8 ≡ 2 + k = omega arith in
      ap (λ (w : ℕ). byte_at w (k % 8)) (word_of r (k / 8) (omega arith))
      ∙ lane-byte_at (λ b. word r (2 + 8 * (k / 8) + b)) (λ b hb. h.bytes (2 + 8 * (k / 8) + b)) (k % 8) (omega arith)
      ∙ ap (word r) e

  high_byte : (b : ℕ) → b < 4 → is_marked r ≡ true → word_byte (record_word r) (416 + b) ≡ word r (2 + (416 + b))
  unfolding word_byte
  high_byte b l e =
      let q : (416 + b) / 8 ≡ SEGMENT-WORD = omega arith in
      let p : (416 + b) % 8 ≡ b = omega arith in
      let d : 414 + (4 + b) ≡ 2 + (416 + b) = omega arith in
      ap₂ (λ (x y : ℕ). byte_at (record_word r x) y) q p
      ∙ ap (λ (n : ℕ). byte_at n b) (word-past r SEGMENT-WORD (omega arith) ∙ told-number r e)
      ∙ four-at 414 (word r) h.bytes b l
      ∙ ap (word r) d

  body-byte : (k : ℕ) → 2 + k < length r → word_byte (record_word r) k ≡ word r (2 + k)
  body-byte k l =
      by_le 416 k
      (λ (g : 416 ≤ k).
      let e : 416 + (k - 416) ≡ k = omega arith in
      let mk : is_marked r ≡ true = long-marked (is_marked r) (omega (arith, m.long)) in
      ap (word_byte (record_word r)) (sym e) ∙ high_byte (k - 416) (omega (arith, m.long, size-most (is_marked r))) mk ∙ ap (λ (n : ℕ). word r (2 + n)) e)
      (λ (g : k < 416). low_byte k g)

  each-byte : (k : ℕ) → k < length r → word (record_bytes (record_word r)) k ≡ word r k
  unfolding record_bytes
  each-byte zero l = sym m.first
  each-byte (suc zero) l = mark-back (word r 1) m.second (is_numbered (record_word r)) (second_is r ∙ sym (numbered_is r above))
  each-byte (suc (suc k)) l =
      let e : 2 + k ≡ suc (suc k) = omega arith in
      get_d-tab (body_size (record_word r)) (word_byte (record_word r)) k 0 (omega (arith, size_is)) ∙ body-byte k (omega arith) ∙ ap (word r) e

  pub bytes_back : record_bytes (record_word r) ≡ r
  bytes_back =
      list-tab (record_bytes (record_word r)) (length r) (record-length (record_word r) ∙ size_is)
      ∙ tab-same (length r) (word (record_bytes (record_word r))) (word r) each-byte
      ∙ sym (list-tab r (length r) refl)

-- the mark and then the bytes, stored one after the other
pub record-stores : (l : List ℕ) (to : ℕ) (f : ℕ → ℕ) → sets (set (set l to FIRST-MARK) (to + 1) (mark_of (is_numbered f))) (to + 2) (tab (body_size f) (word_byte f)) ≡ sets l to (record_bytes f)
unfolding record_bytes
record-stores l to f =
    ap (λ (k : ℕ). sets (set (set l to FIRST-MARK) k (mark_of (is_numbered f))) (to + 2) (tab (body_size f) (word_byte f))) (add-one to)
    ∙ sets-append l to (FIRST-MARK ∷ mark_of (is_numbered f) ∷ []) (tab (body_size f) (word_byte f))

-- a record depends on its words alone
pub record_same : (f g : ℕ → ℕ) → ((j : ℕ) → j < OP-WORDS → f j ≡ g j) → record_bytes f ≡ record_bytes g
unfolding record_bytes word_byte
record_same f g h =
    let e = numbered-same f g (h SEGMENT-WORD (omega arith)) in
    (λ i. FIRST-MARK ∷ mark_of (e i) ∷ tab (record_size (e i) - 2) (λ k. byte_at (f (k / 8)) (k % 8)))
    ∙ ap (λ (t : List ℕ). FIRST-MARK ∷ mark_of (is_numbered g) ∷ t)
    (tab-same (body_size g) (λ k. byte_at (f (k / 8)) (k % 8)) (λ k. byte_at (g (k / 8)) (k % 8))
    (λ k l. ap (λ (w : ℕ). byte_at w (k % 8)) (h (k / 8) (omega (arith, size-most (is_numbered g))))))
