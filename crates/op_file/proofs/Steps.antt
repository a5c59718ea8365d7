-- A reader within one record.
--     feed-append   a piece after another is the two as one piece
--     skip, address, tail   bytes of no weight; those of the address; those of the segment number
--     whole         a whole record from its start: at its fault, or before the next record
--     cut_on        the bytes behind the mark of a record that is cut
use Prim.Native.Nat.{ℕ, zero, suc, ◌+◌, ◌*◌, ◌/◌, ◌^◌, ◌<◌, ◌≤◌}
use mathlib.Core.Path.{◌≡◌, refl, sym, ap, ◌∙◌}
use mathlib.Core.Bool.{Bool, true, false}
use mathlib.Core.List.{List, [], ◌∷◌, ◌++◌}
use mathlib.Core.Option.{Option, none, some}
use native.Mathlib.Nat.{add-zero, div-div-eq-div-mul, pow-suc, mul_comm, div-one}
use native.Mathlib.Omega.{arith}
use lib.Dec.{ltb, leb, eqb}
use lib.ListN.{length, take, drop, get_or, take-append-drop, length-take, length-drop}
use lib.Seq.{take_all, drop-drop}
use borrow.Author.Tests.{lt-ltb, le-ltb, le-leb, lt-leb, eq-eqb, ne_eqb}
use Rattle.lists.specs.Tab.{pick, word}
use Rattle.bits.specs.Bits.{pack}
use Rattle.bits.proofs.Bytes.{pack-by, pack-part, pack-cons}
use Rattle.answer.specs.Limits.{MAX-OPS}
use Rattle.answer.specs.Refusal.{refuse_if}
use Rattle.answer.specs.declared.Refusal.{Refusal}
use Rattle.answer.specs.declared.Refusal.TheVariants.{HighAddress, BadRecord}
use Rattle.keccak.specs.Row.{LAST-ADDRESS}
use Rattle.op_file.specs.File.{RECORD-BYTES, FIRST-MARK, SEGMENT-MARK, is_mark, is_marked, record_size, size_of, is_whole, segment_of, record_word, address_of, fault_of}
use Rattle.op_file.specs.Reader.{wrong, in_address, shifted, segment_by, has_segment, taken, none_begun, record_read, record_count, reading, step_of, feed_of, after}
use Rattle.op_file.specs.declared.Whole.{Whole}
use Rattle.op_file.specs.declared.Begun.{Begun}
use Rattle.op_file.specs.declared.Reading.{Reading}
use Rattle.std.specs.Prelude.{Result, Ok, Err}

-- ---- pieces
pub feed-append : (c : Result Reading Refusal) (a b : List ℕ) → feed_of c (a ++ b) ≡ feed_of (feed_of c a) b
unfolding feed_of
feed-append c [] b = refl
feed-append c (x ∷ a) b = feed-append (step_of c x) a b

pub feed-refused : (r : Refusal) (s : List ℕ) → feed_of (Err r) s ≡ Err r
unfolding feed_of step_of
feed-refused r [] = refl
feed-refused r (x ∷ s) = feed-refused r s

pub feed-split : (c : Result Reading Refusal) (k : ℕ) (s : List ℕ) → feed_of c s ≡ feed_of (feed_of c (take k s)) (drop k s)
feed-split c k s = ap (feed_of c) (sym (take-append-drop k s)) ∙ feed-append c (take k s) (drop k s)

-- ---- the bytes of a number, shifted in
unfoldable pub shifts : ℕ → List ℕ → ℕ
shifts a [] = a
shifts a (b ∷ s) = shifts (shifted a b) s

shifted-once : (a b : ℕ) → shifted a b ≡ (a + b * 18446744073709551616) / 256
unfolding shifted
shifted-once a b = omega arith

shifts_none : (a : ℕ) → a ≡ (a + 18446744073709551616 * pack 0 0 (word [])) / 256 ^ 0
unfolding pack
shifts_none a = omega (arith, div-one (a + 0))

shifts-all : (a : ℕ) (s : List ℕ) → shifts a s ≡ (a + 18446744073709551616 * pack (length s) 0 (word s)) / 256 ^ length s
unfolding shifts
shifts-all a [] = shifts_none a
shifts-all a (b ∷ s) =
    let k : ℕ = 18446744073709551616 in
    let d : ℕ = pack (length s) 0 (word s) in
    shifts-all (shifted a b) s
    ∙ ap (λ (x : ℕ). (x + k * d) / 256 ^ length s) (shifted-once a b)
    ∙ ap (λ (x : ℕ). x / 256 ^ length s) (omega arith)
    ∙ div-div-eq-div-mul (a + k * (b + 256 * d)) 256 (256 ^ length s)
    ∙ ap (λ (x : ℕ). (a + k * (b + 256 * d)) / x) (mul_comm 256 (256 ^ length s) ∙ sym (pow-suc 256 (length s)))
    ∙ ap (λ (x : ℕ). (a + k * x) / 256 ^ suc (length s)) (pack-cons b s)

pub shifts-eight : (a : ℕ) (s : List ℕ) → a < 18446744073709551616 → length s ≡ 8 → shifts a s ≡ pack 8 0 (word s)
shifts-eight a s l e =
    shifts-all a s ∙ ap (λ (n : ℕ). (a + 18446744073709551616 * pack n 0 (word s)) / 256 ^ n) e ∙ omega arith

-- after four of them the number is the upper half
shifts-four : (a : ℕ) (s : List ℕ) → a < 18446744073709551616 → length s ≡ 4 → shifts a s / 2 ^ 32 ≡ pack 4 0 (word s)
shifts-four a s l e =
    ap (λ (n : ℕ). n / 2 ^ 32) (shifts-all a s ∙ ap (λ (n : ℕ). (a + 18446744073709551616 * pack n 0 (word s)) / 256 ^ n) e) ∙ omega arith

pub shifts-more : (a : ℕ) (s : List ℕ) (k : ℕ) → k < length s → shifts a (take (k + 1) s) ≡ shifted (shifts a (take k s)) (get_or s k 0)
unfolding shifts
shifts-more a [] k l = absurd (omega arith)
shifts-more a (x ∷ s) zero l = refl
shifts-more a (x ∷ s) (suc k) l =
    let e : suc k + 1 ≡ suc (k + 1) = omega arith in rw e (shifts-more (shifted a x) s k (omega arith))

shifts-append : (a : ℕ) (s t : List ℕ) → shifts a (s ++ t) ≡ shifts (shifts a s) t
unfolding shifts
shifts-append a [] t = refl
shifts-append a (x ∷ s) t = shifts-append (shifted a x) s t

-- the last n bytes of a list
pack-rest : (n k : ℕ) (s : List ℕ) → length (drop k s) ≡ n → pack n 0 (word (drop k s)) ≡ pack n k (word s)
pack-rest n k s e = ap (λ (t : List ℕ). pack n 0 (word t)) (sym (take_all n (drop k s) (omega arith))) ∙ pack-part n k s

-- four bytes are the upper half of the eight that they end
pub upper-half : (k : ℕ) (f : ℕ → ℕ) → ((b : ℕ) → f b < 256) → pack 8 k f / 2 ^ 32 ≡ pack 4 (k + 4) f
unfolding pack
upper-half k f h =
    let e : suc (suc (suc (suc k))) ≡ k + 4 = omega arith in
    rw (sym e) (omega (arith, h k, h (suc k), h (suc (suc k)), h (suc (suc (suc k)))))

-- ---- the bytes of a record
-- those that are neither of the mark nor of the address
plain-low : (k : ℕ) → k < 10 → in_address k ≡ false
unfolding in_address
plain-low k l = simp (lt-leb 10 k l)

pub plain-high : (k : ℕ) → 18 ≤ k → in_address k ≡ false
unfolding in_address
plain-high k l = let h : 10 ≤ k = omega arith in simp (le-leb 10 k h, le-ltb k 18 l)

in-address : (k : ℕ) → 10 ≤ k → k < 18 → in_address k ≡ true
unfolding in_address
in-address k l h = simp (le-leb 10 k l, lt-ltb k 18 h)

right-past : (at b : ℕ) → 2 ≤ at → wrong at b ≡ false
unfolding wrong
right-past at b l = simp (ne_eqb at 0 (λ e. omega arith), ne_eqb at 1 (λ e. omega arith))

-- how long a record is
pub size-least : (m : Bool) → RECORD-BYTES ≤ record_size m
unfolding record_size
size-least true = omega arith
size-least false = omega arith

pub size-most : (m : Bool) → record_size m ≤ 422
unfolding record_size
size-most true = omega arith
size-most false = omega arith

abbrev pub begun : ℕ → ℕ → ℕ → ℕ → Begun
begun at m a t = record { at = at; mark = m; addr = a; tail = t }

-- the mark of a record with a segment number
abbrev pub long : ℕ → Bool
long m = eqb m SEGMENT-MARK

module _ (w : Whole) (few : record_count w < MAX-OPS) where
  step-on : (p : Begun) (b : ℕ) → wrong p.at b ≡ false → p.at + 1 < record_size (has_segment p) → step_of (Ok (reading w p)) b ≡ Ok (reading w (taken p b))
  unfolding step_of
  step-on p b e l = simp (lt-leb MAX-OPS (record_count w) few, e, lt-leb (record_size (has_segment p)) (p.at + 1) l)

  -- past the mark
  on : (at m a t b : ℕ) → 2 ≤ at → at + 1 < record_size (long m) →
      step_of (Ok (reading w (begun at m a t))) b ≡ Ok (reading w (begun (at + 1) m (pick (in_address at) (shifted a b) a) (pick (leb RECORD-BYTES at) (shifted t b) t)))
  unfolding taken
  on at m a t b l h = step-on (begun at m a t) b (right-past at b l) h ∙ simp (ne_eqb at 1 (λ e. omega arith))

  -- bytes that are neither of the address nor of the segment number; those of the address; those of the segment number
  pub skip : (at m a t : ℕ) (s : List ℕ) → 2 ≤ at → ((k : ℕ) → at ≤ k → k < at + length s → in_address k ≡ false) →
      at + length s < record_size (long m) → at + length s ≤ RECORD-BYTES → feed_of (Ok (reading w (begun at m a t))) s ≡ Ok (reading w (begun (at + length s) m a t))
  unfolding feed_of
  skip at m a t [] l p h g = ap (λ (k : ℕ). Ok (reading w (begun k m a t))) (sym (add-zero at))
  skip at m a t (x ∷ s) l p h g =
      let n : at < RECORD-BYTES = omega arith in
      ap (λ (c : Result Reading Refusal). feed_of c s)
      (on at m a t x l (omega arith) ∙ (λ i. Ok (reading w (begun (at + 1) m (pick (p at (omega arith) (omega arith) i) (shifted a x) a) (pick (lt-leb RECORD-BYTES at n i) (shifted t x) t)))))
      ∙ skip (at + 1) m a t s (omega arith) (λ k u v. p k (omega arith) (omega arith)) (omega arith) (omega arith)
      ∙ ap (λ (k : ℕ). Ok (reading w (begun k m a t))) (omega arith)

  address : (at m a t : ℕ) (s : List ℕ) → 10 ≤ at → at + length s ≤ 18 → feed_of (Ok (reading w (begun at m a t))) s ≡ Ok (reading w (begun (at + length s) m (shifts a s) t))
  unfolding feed_of shifts
  address at m a t [] l h = ap (λ (k : ℕ). Ok (reading w (begun k m a t))) (sym (add-zero at))
  address at m a t (x ∷ s) l h =
      let n : at < RECORD-BYTES = omega arith in
      ap (λ (c : Result Reading Refusal). feed_of c s)
      (on at m a t x (omega arith) (omega (arith, size-least (long m))) ∙ (λ i. Ok (reading w (begun (at + 1) m (pick (in-address at l (omega arith) i) (shifted a x) a) (pick (lt-leb RECORD-BYTES at n i) (shifted t x) t)))))
      ∙ address (at + 1) m (shifted a x) t s (omega arith) (omega arith)
      ∙ ap (λ (k : ℕ). Ok (reading w (begun k m (shifts (shifted a x) s) t))) (omega arith)

  tail : (at m a t : ℕ) (s : List ℕ) → 422 ≡ record_size (long m) → RECORD-BYTES ≤ at → at + length s ≤ 421 → feed_of (Ok (reading w (begun at m a t))) s ≡ Ok (reading w (begun (at + length s) m a (shifts t s)))
  unfolding feed_of shifts
  tail at m a t [] e l h = ap (λ (k : ℕ). Ok (reading w (begun k m a t))) (sym (add-zero at))
  tail at m a t (x ∷ s) e l h =
      ap (λ (c : Result Reading Refusal). feed_of c s)
      (on at m a t x (omega arith) (omega arith) ∙ (λ i. Ok (reading w (begun (at + 1) m (pick (plain-high at (omega arith) i) (shifted a x) a) (pick (le-leb RECORD-BYTES at l i) (shifted t x) t)))))
      ∙ tail (at + 1) m a (shifted t x) s e (omega arith) (omega arith)
      ∙ ap (λ (k : ℕ). Ok (reading w (begun k m a (shifts (shifted t x) s)))) (omega arith)

  -- what follows the mark of a record that is cut
  pub cut_on : (p : Begun) (s : List ℕ) → 2 ≤ p.at → p.at + length s < record_size (has_segment p) →
      ((q : Begun) × (feed_of (Ok (reading w p)) s ≡ Ok (reading w q)) × (p.at + length s ≡ q.at))
  unfolding feed_of taken
  cut_on p [] l h = (p, refl, add-zero p.at)
  cut_on p (x ∷ s) l h =
      let e : has_segment (taken p x) ≡ has_segment p = simp (ne_eqb p.at 1 (λ e. omega arith)) in
      let n : p.at + 1 + length s < record_size (has_segment (taken p x)) = rw e (omega arith) in
      let r = cut_on (taken p x) s (omega arith) n in
      (r.0, ap (λ (c : Result Reading Refusal). feed_of c s) (step-on p x (right-past p.at x l) (omega arith)) ∙ r.1, omega (arith, r.2))

  -- the last byte of a record, where its mark is m
  last : (at m A t : ℕ) (s : List ℕ) → 2 ≤ at → at + 1 ≡ record_size (long m) → length s ≡ 1 →
      feed_of (Ok (reading w (begun at m A t))) s ≡ pick (ltb LAST-ADDRESS A) (Err (HighAddress A)) (Ok (reading (record_read w A (long m) (segment_by (long m) (shifts t s))) none_begun))
  unfolding feed_of step_of shifts
  last at m A t [] l h e = absurd (omega arith)
  last at m A t (z ∷ []) l h e =
      let g : record_size (long m) ≤ at + 1 = omega arith in
      simp (lt-leb MAX-OPS (record_count w) few, right-past at z l, le-leb (record_size (long m)) (at + 1) g)
  last at m A t (z ∷ y ∷ s) l h e = absurd (omega arith)

  -- what follows the mark, up to the last byte that both kinds have; then the rest, for each kind
  body : (m a t : ℕ) (u : List ℕ) → a < 18446744073709551616 → 415 ≤ length u →
      feed_of (Ok (reading w (begun 2 m a t))) u ≡ feed_of (Ok (reading w (begun 417 m (pack 8 8 (word u)) t))) (drop 415 u)
  body m a t u l e =
      let A = pack 8 8 (word u) in
      let v = drop 8 u in
      let x = drop 8 v in
      let e1 : length (take 8 u) ≡ 8 = simp length-take (omega arith) in
      let e2 : length (take 8 v) ≡ 8 = simp (length-take, length-drop) (omega arith) in
      let e3 : length (take 399 x) ≡ 399 = simp (length-take, length-drop) (omega arith) in
      let far = size-least (long m) in
      let s1 : feed_of (Ok (reading w (begun 2 m a t))) (take 8 u) ≡ Ok (reading w (begun 10 m a t)) =
      skip 2 m a t (take 8 u) (omega arith) (λ k g h. plain-low k (omega arith)) (omega arith) (omega arith) ∙ ap (λ (k : ℕ). Ok (reading w (begun k m a t))) (omega arith)
      in
      let s2 : feed_of (Ok (reading w (begun 10 m a t))) (take 8 v) ≡ Ok (reading w (begun 18 m A t)) =
      address 10 m a t (take 8 v) (omega arith) (omega arith)
      ∙ ap (λ (k : ℕ). Ok (reading w (begun k m (shifts a (take 8 v)) t))) (omega arith)
      ∙ ap (λ (b : ℕ). Ok (reading w (begun 18 m b t))) (shifts-eight a (take 8 v) l e2 ∙ pack-part 8 8 u)
      in
      let s3 : feed_of (Ok (reading w (begun 18 m A t))) (take 399 x) ≡ Ok (reading w (begun 417 m A t)) =
      skip 18 m A t (take 399 x) (omega arith) (λ k g h. plain-high k g) (omega arith) (omega arith) ∙ ap (λ (k : ℕ). Ok (reading w (begun k m A t))) (omega arith)
      in
      feed-split (Ok (reading w (begun 2 m a t))) 8 u
      ∙ ap (λ (c : Result Reading Refusal). feed_of c v) s1
      ∙ feed-split (Ok (reading w (begun 10 m a t))) 8 v
      ∙ ap (λ (c : Result Reading Refusal). feed_of c x) s2
      ∙ feed-split (Ok (reading w (begun 18 m A t))) 399 x
      ∙ ap (λ (c : Result Reading Refusal). feed_of c (drop 399 x)) s3
      ∙ ap (feed_of (Ok (reading w (begun 417 m A t)))) (drop-drop 399 8 v ∙ drop-drop 407 8 u)

  abbrev pub Ended : Bool → ℕ → ℕ → Result Reading Refusal
  Ended m A S = pick (ltb LAST-ADDRESS A) (Err (HighAddress A)) (Ok (reading (record_read w A m S) none_begun))

  rest : (b : Bool) (m A t : ℕ) (u : List ℕ) → long m ≡ b → t < 18446744073709551616 → length u + 2 ≡ record_size b →
      feed_of (Ok (reading w (begun 417 m A t))) (drop 415 u) ≡ Ended b A (pick b (pack 4 416 (word u)) 0)
  unfolding record_size segment_by
  rest false m A t u q l e =
      let e1 : length (drop 415 u) ≡ 1 = simp length-drop (omega arith) in
      last 417 m A t (drop 415 u) (omega arith) (ap record_size (sym q)) e1 ∙ ap (λ (b : Bool). Ended b A (segment_by b (shifts t (drop 415 u)))) q
  rest true m A t u q l e =
      let v = drop 415 u in
      let x = drop 416 u in
      let size : 422 ≡ record_size (long m) = ap record_size (sym q) in
      let e1 : length (take 1 v) ≡ 1 = simp (length-take, length-drop) (omega arith) in
      let e2 : length (take 3 x) ≡ 3 = simp (length-take, length-drop) (omega arith) in
      let e3 : length (drop 3 x) ≡ 1 = simp (length-drop, length-drop) (omega arith) in
      let e4 : length x ≡ 4 = simp length-drop (omega arith) in
      let s1 : feed_of (Ok (reading w (begun 417 m A t))) (take 1 v) ≡ Ok (reading w (begun 418 m A t)) =
      skip 417 m A t (take 1 v) (omega arith) (λ k g h. plain-high k (omega arith)) (omega arith) (omega arith) ∙ ap (λ (k : ℕ). Ok (reading w (begun k m A t))) (omega arith)
      in
      let s2 : feed_of (Ok (reading w (begun 418 m A t))) (take 3 x) ≡ Ok (reading w (begun 421 m A (shifts t (take 3 x)))) =
      tail 418 m A t (take 3 x) size (omega arith) (omega arith) ∙ ap (λ (k : ℕ). Ok (reading w (begun k m A (shifts t (take 3 x))))) (omega arith)
      in
      feed-split (Ok (reading w (begun 417 m A t))) 1 v
      ∙ ap (λ (c : Result Reading Refusal). feed_of c (drop 1 v)) s1
      ∙ ap (feed_of (Ok (reading w (begun 418 m A t)))) (drop-drop 1 415 u)
      ∙ feed-split (Ok (reading w (begun 418 m A t))) 3 x
      ∙ ap (λ (c : Result Reading Refusal). feed_of c (drop 3 x)) s2
      ∙ last 421 m A (shifts t (take 3 x)) (drop 3 x) (omega arith) size e3
      ∙ ap (λ (b : Bool). Ended b A (segment_by b (shifts (shifts t (take 3 x)) (drop 3 x)))) q
      ∙ ap (λ (S : ℕ). Ended true A (S / 2 ^ 32)) (sym (shifts-append t (take 3 x) (drop 3 x)) ∙ ap (shifts t) (take-append-drop 3 x))
      ∙ ap (Ended true A) (shifts-four t x l e4 ∙ pack-rest 4 416 u e4)

  pub step-wrong : (p : Begun) (b : ℕ) → wrong p.at b ≡ true → step_of (Ok (reading w p)) b ≡ Err (BadRecord w.start)
  unfolding step_of
  step-wrong p b e = simp (lt-leb MAX-OPS (record_count w) few, e)

  -- the mark, right or wrong at either byte
  module _ (m a t b0 : ℕ) where
    pub first-wrong : (s : List ℕ) → eqb b0 FIRST-MARK ≡ false → feed_of (Ok (reading w (begun 0 m a t))) (b0 ∷ s) ≡ Err (BadRecord w.start)
    unfolding feed_of wrong
    first-wrong s e = ap (λ (c : Result Reading Refusal). feed_of c s) (step-wrong (begun 0 m a t) b0 (simp e)) ∙ feed-refused (BadRecord w.start) s

    pub first-right : eqb b0 FIRST-MARK ≡ true → step_of (Ok (reading w (begun 0 m a t))) b0 ≡ Ok (reading w (begun 1 m a t))
    unfolding wrong taken in_address
    first-right e = step-on (begun 0 m a t) b0 (simp e) (omega (arith, size-least (long m)))

    module _ (b1 : ℕ) (u : List ℕ) (e : eqb b0 FIRST-MARK ≡ true) where
      pub second-wrong : is_mark b1 ≡ false → feed_of (Ok (reading w (begun 0 m a t))) (b0 ∷ b1 ∷ u) ≡ Err (BadRecord w.start)
      unfolding feed_of wrong
      second-wrong d =
          ap (λ (c : Result Reading Refusal). feed_of (step_of c b1) u) (first-right e)
          ∙ ap (λ (c : Result Reading Refusal). feed_of c u) (step-wrong (begun 1 m a t) b1 (simp d))
          ∙ feed-refused (BadRecord w.start) u

      pub marked-right : is_mark b1 ≡ true → feed_of (Ok (reading w (begun 0 m a t))) (b0 ∷ b1 ∷ u) ≡ feed_of (Ok (reading w (begun 2 b1 a t))) u
      unfolding feed_of wrong taken in_address
      marked-right d =
          ap (λ (c : Result Reading Refusal). feed_of (step_of c b1) u) (first-right e)
          ∙ ap (λ (c : Result Reading Refusal). feed_of c u) (step-on (begun 1 m a t) b1 (simp d) (omega (arith, size-least (long m))))

-- ---- a whole record
-- a number of it, from the mark's end on
past-mark : (n k b0 b1 : ℕ) (t : List ℕ) → pack n k (word t) ≡ pack n (2 + k) (word (b0 ∷ b1 ∷ t))
past-mark n k b0 b1 t = pack-by n k (2 + k) (word t) (word (b0 ∷ b1 ∷ t)) (λ d l. ap (word (b0 ∷ b1 ∷ t)) (next d))
  where
    next : (d : ℕ) → suc (suc (k + d)) ≡ 2 + k + d
    next d = omega arith

after-pick : (b : Bool) (x : Refusal) (c : Result Reading Refusal) → pick b (Err x) c ≡ after (refuse_if b x none) c
unfolding refuse_if
after-pick true x c = refl
after-pick false x c = refl

-- its fault, where there is room for it
module _ (i at : ℕ) (r : List ℕ) (few : i < MAX-OPS) where
  pub fault-bad : is_whole r ≡ false → fault_of i at r ≡ some (BadRecord at)
  unfolding fault_of refuse_if
  fault-bad e = simp (lt-leb MAX-OPS i few, e)

  pub fault-good : is_whole r ≡ true → fault_of i at r ≡ refuse_if (ltb LAST-ADDRESS (address_of r)) (HighAddress (address_of r)) none
  unfolding fault_of refuse_if
  fault-good e = simp (lt-leb MAX-OPS i few, e)

-- what makes it whole or not
module _ (r : List ℕ) where
  either-false : (p q : Bool) → q ≡ false → pick p q false ≡ false
  either-false true q e = e
  either-false false q e = refl

  pub first-not : eqb (get_or r 0 0) FIRST-MARK ≡ false → is_whole r ≡ false
  unfolding is_whole
  first-not e = either-false (eqb (length r) (size_of r)) _ (rw e refl)

  pub second-not : is_mark (get_or r 1 0) ≡ false → is_whole r ≡ false
  unfolding is_whole
  second-not e = either-false (eqb (length r) (size_of r)) _ (either-false (eqb (get_or r 0 0) FIRST-MARK) _ e)

  pub both_right : length r ≡ size_of r → eqb (get_or r 0 0) FIRST-MARK ≡ true → is_mark (get_or r 1 0) ≡ true → is_whole r ≡ true
  unfolding is_whole
  both_right l e d = simp (eq-eqb (length r) (size_of r) l, e, d)

-- a reader after it, without its fault and with it
abbrev pub Next : Whole → List ℕ → Result Reading Refusal
Next w r = Ok (reading (record_read w (address_of r) (is_marked r) (segment_of r)) none_begun)

abbrev pub Then : Whole → List ℕ → Result Reading Refusal
Then w r = after (fault_of (record_count w) w.start r) (Next w r)

module _ (w : Whole) (few : record_count w < MAX-OPS) (r : List ℕ) where
  -- one with a wrong mark, and one that is whole
  pub bad-ends : is_whole r ≡ false → Err (BadRecord w.start) ≡ Then w r
  bad-ends e = ap (λ (f : Option Refusal). after f (Next w r)) (sym (fault-bad (record_count w) w.start r few e))

  pub good-ends : {A S : ℕ} {m : Bool} → is_whole r ≡ true → A ≡ address_of r → m ≡ is_marked r → S ≡ segment_of r → Ended w few m A S ≡ Then w r
  good-ends e a m s =
      (λ i. Ended w few (m i) (a i) (s i))
      ∙ after-pick (ltb LAST-ADDRESS (address_of r)) (HighAddress (address_of r)) (Next w r)
      ∙ ap (λ (f : Option Refusal). after f (Next w r)) (sym (fault-good (record_count w) w.start r few e))

module _ (w : Whole) (few : record_count w < MAX-OPS) (m a t : ℕ) (small : a < 18446744073709551616) (low : t < 18446744073709551616) where
  whole_by : (b0 b1 : ℕ) (u : List ℕ) (p q : Bool) → length (b0 ∷ b1 ∷ u) ≡ size_of (b0 ∷ b1 ∷ u) → eqb b0 FIRST-MARK ≡ p → is_mark b1 ≡ q →
      feed_of (Ok (reading w (begun 0 m a t))) (b0 ∷ b1 ∷ u) ≡ Then w (b0 ∷ b1 ∷ u)
  unfolding is_marked record_word segment_of
  whole_by b0 b1 u false q l e d = first-wrong w few m a t b0 (b1 ∷ u) e ∙ bad-ends w few (b0 ∷ b1 ∷ u) (first-not (b0 ∷ b1 ∷ u) e)
  whole_by b0 b1 u true false l e d = second-wrong w few m a t b0 b1 u e d ∙ bad-ends w few (b0 ∷ b1 ∷ u) (second-not (b0 ∷ b1 ∷ u) d)
  whole_by b0 b1 u true true l e d =
      let n = size-least (long b1) in
      marked-right w few m a t b0 b1 u e d
      ∙ body w few b1 a t u small (omega arith)
      ∙ rest w few (long b1) b1 (pack 8 8 (word u)) t u refl low (omega arith)
      ∙ good-ends w few (b0 ∷ b1 ∷ u) (both_right (b0 ∷ b1 ∷ u) l e d) (past-mark 8 8 b0 b1 u) refl (λ i. pick (long b1) (past-mark 4 416 b0 b1 u i) 0)

  pub whole : (r : List ℕ) → length r ≡ size_of r → feed_of (Ok (reading w (begun 0 m a t))) r ≡ Then w r
  whole [] l = absurd (omega (arith, size-least (is_marked [])))
  whole (b0 ∷ []) l = absurd (omega (arith, size-least (is_marked (b0 ∷ []))))
  whole (b0 ∷ b1 ∷ u) l = whole_by b0 b1 u (eqb b0 FIRST-MARK) (is_mark b1) l refl refl
