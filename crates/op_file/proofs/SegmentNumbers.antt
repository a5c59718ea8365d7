-- The segment numbers of counted records: whether they are told, and which.
--     any-marked     they are told exactly where one of the records is marked 4B 50
--     segments-told  then the two numbers are those of records, and no record has a lower or a higher one
use Prim.Native.Nat.{ℕ, zero, suc, ◌+◌, ◌≤◌, ◌<◌}
use mathlib.Core.Path.{◌≡◌, refl, sym, ap, ◌∙◌, subst}
use mathlib.Core.Bool.{Bool, true, false}
use mathlib.Core.List.{List, [], ◌∷◌}
use mathlib.Core.Logic.{◌↔◌}
use native.Mathlib.Omega.{arith}
use lib.ListN.{length, take, drop, get_or}
use lib.Seq.{get_or-drop}
use Rattle.lists.specs.Tab.{pick, word}
use Rattle.lists.specs.Select.{cons_if, selected}
use Rattle.lists.proofs.Tests.{true-not-false, not-true}
use Rattle.lists.proofs.Then.{by_le}
use Rattle.bits.specs.Bits.{pack}
use Rattle.bits.proofs.Bytes.{pack-lt}
use Rattle.keccak.specs.Row.{LAST-SEGMENT}
use Rattle.op_file.specs.File.{RECORD-BYTES, is_marked, size_of, records_of, segment_of, is_aligned, aligned_of, start_at, any_marked, least_of, greatest_of, none_told, told, segments_of}
use Rattle.op_file.specs.declared.Segments.{Segments}
use Rattle.op_file.proofs.Starts.{record-there}

-- what is so of each record that passes a test is so of each that is selected
pub of-selected : (P : List ℕ → Type 0) (act : List ℕ → Bool) (rs : List (List ℕ)) → ((i : ℕ) → i < length rs → act (get_or rs i []) ≡ true → P (get_or rs i [])) →
    (j : ℕ) → j < length (selected act rs) → P (get_or (selected act rs) j [])
unfolding selected
of-selected P act [] h j l = absurd (omega arith)
of-selected P act (r ∷ rs) h j l = by (act r) refl j l (of-selected P act rs (λ i m t. h (suc i) (omega arith) t))
  where
    by : (b : Bool) → act r ≡ b → (j : ℕ) → j < length (cons_if b r (selected act rs)) →
        ((k : ℕ) → k < length (selected act rs) → P (get_or (selected act rs) k [])) → P (get_or (cons_if b r (selected act rs)) j [])
    by true e zero l rest = h 0 (omega arith) e
    by true e (suc k) l rest = rest k (omega arith)
    by false e j l rest = rest j l

-- ---- a list of records
-- one of them has the mark
abbrev pub SomeMarked : List (List ℕ) → Type 0
SomeMarked rs = (i : ℕ) × (i < length rs) × (is_marked (get_or rs i []) ≡ true)

any_found : (rs : List (List ℕ)) → any_marked rs ≡ true → SomeMarked rs
unfolding any_marked
any_found [] e = absurd (true-not-false (sym e))
any_found (r ∷ rs) e = by (is_marked r) refl e (any_found rs)
  where
    by : (b : Bool) → is_marked r ≡ b → pick b true (any_marked rs) ≡ true → (any_marked rs ≡ true → SomeMarked rs) → SomeMarked (r ∷ rs)
    by true q e f = (0, omega arith, q)
    by false q e f = let h = f e in (suc h.0, omega (arith, h.1), h.2)

any-has : (rs : List (List ℕ)) (i : ℕ) → i < length rs → is_marked (get_or rs i []) ≡ true → any_marked rs ≡ true
unfolding any_marked
any-has [] i l e = absurd (omega arith)
any-has (r ∷ rs) zero l e = rw e refl
any-has (r ∷ rs) (suc i) l e = ap (pick (is_marked r) true) (any-has rs i (omega arith) e) ∙ either (is_marked r)
  where
    either : (b : Bool) → pick b true true ≡ true
    either true = refl
    either false = refl

pub any-marked : (rs : List (List ℕ)) → (any_marked rs ≡ true) ↔ SomeMarked rs
any-marked rs = (any_found rs, λ h. any-has rs h.0 h.1 h.2)

-- the least is below all, and one of them, where they have 32 bits
pub least-low : (rs : List (List ℕ)) (i : ℕ) → i < length rs → least_of rs ≤ segment_of (get_or rs i [])
unfolding least_of
least-low [] i l = absurd (omega arith)
least-low (r ∷ rs) zero l = omega arith
least-low (r ∷ rs) (suc i) l = omega (arith, least-low rs i (omega arith))

pub greatest-high : (rs : List (List ℕ)) (i : ℕ) → i < length rs → segment_of (get_or rs i []) ≤ greatest_of rs
unfolding greatest_of
greatest-high [] i l = absurd (omega arith)
greatest-high (r ∷ rs) zero l = omega arith
greatest-high (r ∷ rs) (suc i) l = omega (arith, greatest-high rs i (omega arith))

abbrev pub OneOf : List (List ℕ) → ℕ → Type 0
OneOf rs s = (i : ℕ) × (i < length rs) × (s ≡ segment_of (get_or rs i []))

later-one : (r : List ℕ) (rs : List (List ℕ)) {s t : ℕ} → s ≡ t → OneOf rs t → OneOf (r ∷ rs) s
later-one r rs e h = (suc h.0, omega (arith, h.1), e ∙ h.2)

pub least-one : (rs : List (List ℕ)) → 0 < length rs → ((i : ℕ) → i < length rs → segment_of (get_or rs i []) ≤ LAST-SEGMENT) → OneOf rs (least_of rs)
unfolding least_of
least-one [] l h = absurd (omega arith)
least-one (r ∷ []) l h = let n = h 0 (omega arith) in (0, omega arith, omega (arith, n))
least-one (r ∷ q ∷ rs) l h =
    by_le (segment_of r) (least_of (q ∷ rs))
    (λ (m : segment_of r ≤ least_of (q ∷ rs)). (0, omega arith, omega arith))
    (λ (m : least_of (q ∷ rs) < segment_of r). later-one r (q ∷ rs) (omega arith) (least-one (q ∷ rs) (omega arith) (λ i k. h (suc i) (omega arith))))

pub greatest-one : (rs : List (List ℕ)) → 0 < length rs → OneOf rs (greatest_of rs)
unfolding greatest_of
greatest-one [] l = absurd (omega arith)
greatest-one (r ∷ []) l = (0, omega arith, omega arith)
greatest-one (r ∷ q ∷ rs) l =
    by_le (greatest_of (q ∷ rs)) (segment_of r)
    (λ (m : greatest_of (q ∷ rs) ≤ segment_of r). (0, omega arith, omega arith))
    (λ (m : segment_of r < greatest_of (q ∷ rs)). later-one r (q ∷ rs) (omega arith) (greatest-one (q ∷ rs) (omega arith)))

-- ---- a file of bytes
pub part_small : (n : ℕ) (s : List ℕ) → ((k : ℕ) → word s k < 256) → (k : ℕ) → word (take n s) k < 256
part_small zero s h k = omega arith
part_small (suc n) [] h k = omega arith
part_small (suc n) (b ∷ s) h zero = h 0
part_small (suc n) (b ∷ s) h (suc k) = part_small n s (λ j. h (suc j)) k

segment-narrow : (r : List ℕ) → ((k : ℕ) → word r k < 256) → segment_of r ≤ LAST-SEGMENT
unfolding segment_of
segment-narrow r h = by (is_marked r)
  where
    by : (b : Bool) → pick b (pack 4 RECORD-BYTES (word r)) 0 ≤ LAST-SEGMENT
    by true = omega (arith, pack-lt 4 RECORD-BYTES (word r) (λ b l m. h b))
    by false = omega arith

module _ (file : List ℕ) (small : (k : ℕ) → word file k < 256) where
  pub narrow-all : (i : ℕ) → i < length (records_of file) → segment_of (get_or (records_of file) i []) ≤ LAST-SEGMENT
  narrow-all i l =
      let t = drop (start_at (records_of file) i) file in
      subst (λ (r : List ℕ). segment_of r ≤ LAST-SEGMENT) (sym (record-there file i l))
      (segment-narrow (take (size_of t) t) (part_small (size_of t) t (λ k. subst (λ (v : ℕ). v < 256) (sym (get_or-drop (start_at (records_of file) i) file k 0)) (small (start_at (records_of file) i + k)))))

  pub narrow-counted : (i : ℕ) → i < length (aligned_of file) → segment_of (get_or (aligned_of file) i []) ≤ LAST-SEGMENT
  narrow-counted = of-selected (λ r. segment_of r ≤ LAST-SEGMENT) is_aligned (records_of file) (λ i l t. narrow-all i l)

-- what the line tells
pub record Told (rs : List (List ℕ)) (s : Segments) : Type 0 where
  pub lowest : (i : ℕ) → i < length rs → s.least ≤ segment_of (get_or rs i [])
  pub least-of : OneOf rs s.least
  pub highest : (i : ℕ) → i < length rs → segment_of (get_or rs i []) ≤ s.greatest
  pub greatest-of : OneOf rs s.greatest

pub segments-told : (file : List ℕ) → ((k : ℕ) → word file k < 256) → SomeMarked (aligned_of file) →
    (((segments_of (aligned_of file)).shown ≡ 1) × Told (aligned_of file) (segments_of (aligned_of file)))
unfolding segments_of told
segments-told file small some =
    let e = (any-marked (aligned_of file)).1 some in
    let l : 0 < length (aligned_of file) = omega (arith, some.1) in
    rw e (
      refl,
      record {
        lowest = least-low (aligned_of file);
        least-of = least-one (aligned_of file) l (narrow-counted file small);
        highest = greatest-high (aligned_of file);
        greatest-of = greatest-one (aligned_of file) l;
      },
    )

-- no line: no counted record has the mark
pub segments-none : (rs : List (List ℕ)) → (SomeMarked rs → ⊥) → segments_of rs ≡ none_told
unfolding segments_of told
segments-none rs h = rw (not-true (any_marked rs) (λ e. h (any_found rs e))) refl
