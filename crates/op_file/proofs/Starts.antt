-- Where the records of a file start, and which of them is told as faulty.
--     record-there   record i is what stands in the file where it starts
--     file-reached   a file without a fault has all bytes of each record
--     bad-start      the detail of 6 is the byte where the first faulty record starts
use Prim.Native.Nat.{ℕ, zero, suc, ◌+◌, ◌<◌, ◌≤◌}
use mathlib.Core.Path.{◌≡◌, refl, sym, ap, ◌∙◌}
use mathlib.Core.Bool.{Bool, true, false, not}
use mathlib.Core.List.{List, [], ◌∷◌, ◌++◌}
use mathlib.Core.Logic.{⊎_elim}
use mathlib.Core.Option.{Option, none, some}
use mathlib.Mathlib.Data.Option.Basic.{or_else-eq-some, or_else-eq-none}
use native.Mathlib.Nat.{add-zero}
use native.Mathlib.Omega.{arith}
use lib.Dec.{eqb}
use lib.ListN.{length, take, drop, get_or, length-take, length-drop, length-append, drop_of_length-le, take-append-drop}
use lib.Seq.{drop-drop, get_or-take, take-append_seam, drop-append_seam}
use borrow.Author.Tests.{eqb-true, not-false}
use Rattle.lists.specs.Tab.{pick}
use Rattle.lists.proofs.Tests.{true-not-false}
use Rattle.lists.proofs.Then.{by_le}
use Rattle.answer.specs.Refusal.{refuse_if}
use Rattle.answer.specs.declared.Refusal.{Refusal}
use Rattle.answer.specs.declared.Refusal.TheVariants.{BadRecord}
use Rattle.answer.proofs.Laws.{unlike, later-if, none_told_lem, passed-if}
use Rattle.op_file.specs.File.{FIRST-MARK, is_mark, is_marked, record_size, size_of, split, records_of, bytes_of, is_whole, fault_of, start_at, first_fault}
use Rattle.op_file.proofs.Steps.{size-least}

-- ---- a whole record
-- what makes it one
pub record Marked (r : List ℕ) : Type 0 where
  pub long : length r ≡ size_of r
  pub first : get_or r 0 0 ≡ FIRST-MARK
  pub second : is_mark (get_or r 1 0) ≡ true

both : (p q : Bool) → pick p q false ≡ true → (p ≡ true) × (q ≡ true)
both true q e = (refl, e)
both false q e = absurd (true-not-false (sym e))

pub marked : (r : List ℕ) → is_whole r ≡ true → Marked r
unfolding is_whole
marked r e =
    let a = both (eqb (length r) (size_of r)) _ e in
    let b = both (eqb (get_or r 0 0) FIRST-MARK) _ a.1 in
    record { long = eqb-true _ _ a.0; first = eqb-true _ _ b.0; second = b.1 }

-- a record without a fault is one
pub fault-whole : (i at : ℕ) (r : List ℕ) → fault_of i at r ≡ none → is_whole r ≡ true
unfolding fault_of
fault-whole i at r e = not-false _ (passed-if _ _ _ (passed-if _ _ _ e).1).0

-- so is each of a list of records without a fault
pub each-whole : (i at : ℕ) (rs : List (List ℕ)) → first_fault i at rs ≡ none → (j : ℕ) → j < length rs → is_whole (get_or rs j []) ≡ true
unfolding first_fault
each-whole i at [] e j l = absurd (omega arith)
each-whole i at (r ∷ rs) e zero l = fault-whole i at r ((or_else-eq-none (fault_of i at r) (first_fault (i + 1) (at + length r) rs)).0 e).0
each-whole i at (r ∷ rs) e (suc j) l = each-whole (i + 1) (at + length r) rs ((or_else-eq-none (fault_of i at r) (first_fault (i + 1) (at + length r) rs)).0 e).1 j (omega arith)

-- ---- where they start
start-next : (rs : List (List ℕ)) (i : ℕ) → i < length rs → start_at rs (i + 1) ≡ start_at rs i + length (get_or rs i [])
unfolding start_at
start-next [] i l = absurd (omega arith)
start-next (r ∷ rs) zero l = omega arith
start-next (r ∷ rs) (suc i) l = let e : suc i + 1 ≡ suc (i + 1) = omega arith in rw e (omega (arith, start-next rs i (omega arith)))

split-none : (k : ℕ) → split k [] ≡ []
unfolding split
split-none zero = refl
split-none (suc k) = refl

-- what stands there
abbrev There : List ℕ → List (List ℕ) → ℕ → Type 0
There s rs i = get_or rs i [] ≡ take (size_of (drop (start_at rs i) s)) (drop (start_at rs i) s)

there : (k : ℕ) (s : List ℕ) (i : ℕ) → length s ≤ k → i < length (split k s) → There s (split k s) i
unfolding split start_at
there zero s i l h = absurd (omega arith)
there (suc k) [] i l h = absurd (omega arith)
there (suc k) (b ∷ s) zero l h = refl
there (suc k) (b ∷ s) (suc i) l h =
    let n = size_of (b ∷ s) in
    let low = size-least (is_marked (b ∷ s)) in
    let rest = drop n (b ∷ s) in
    by_le n (suc (length s))
    (λ (m : n ≤ suc (length s)).
    let e : length (take n (b ∷ s)) ≡ n = length-take n (b ∷ s) ∙ omega arith in
    let d : drop (start_at (split k rest) i) rest ≡ drop (length (take n (b ∷ s)) + start_at (split k rest) i) (b ∷ s) =
    drop-drop (start_at (split k rest) i) n (b ∷ s) ∙ ap (λ (x : ℕ). drop (x + start_at (split k rest) i) (b ∷ s)) (sym e)
    in
    there k rest i (simp length-drop (omega arith)) (omega arith) ∙ ap (λ (t : List ℕ). take (size_of t) t) d)
    (λ (m : suc (length s) < n).
    let g : length (b ∷ s) ≤ n = omega arith in
    let none_left : length (split k rest) ≡ 0 = ap (λ (t : List ℕ). length (split k t)) (drop_of_length-le (b ∷ s) g) ∙ ap length (split-none k) in
    absurd (omega (arith, none_left, h)))

pub record-there : (file : List ℕ) (i : ℕ) → i < length (records_of file) → There file (records_of file) i
unfolding records_of
record-there file i l = there (length file) file i (omega arith) l

-- ---- a file is its records, and records are those of their bytes
joined-split : (k : ℕ) (s : List ℕ) → length s ≤ k → bytes_of (split k s) ≡ s
unfolding split bytes_of
joined-split zero [] l = refl
joined-split zero (b ∷ s) l = absurd (omega arith)
joined-split (suc k) [] l = refl
joined-split (suc k) (b ∷ s) l =
    let n = size_of (b ∷ s) in
    let rest = joined-split k (drop n (b ∷ s)) (simp length-drop (omega (arith, size-least (is_marked (b ∷ s))))) in
    ap (λ (t : List ℕ). take n (b ∷ s) ++ t) rest ∙ take-append-drop n (b ∷ s)

pub bytes-again : (file : List ℕ) → bytes_of (records_of file) ≡ file
unfolding records_of
bytes-again file = joined-split (length file) file (omega arith)

-- each as long as it says
abbrev pub Sized : List (List ℕ) → Type 0
Sized rs = (i : ℕ) → i < length rs → length (get_or rs i []) ≡ size_of (get_or rs i [])

split-first : (k b : ℕ) (r t : List ℕ) → length (b ∷ r) ≡ size_of (b ∷ r) → split (suc k) (b ∷ r ++ t) ≡ (b ∷ r) ∷ split k t
unfolding split is_marked
split-first k b [] t e = absurd (omega (arith, size-least (is_marked (b ∷ []))))
split-first k b (c ∷ r) t e = (λ i. take (sym e i) (b ∷ c ∷ r ++ t) ∷ split k (drop (sym e i) (b ∷ c ∷ r ++ t))) ∙ (λ i. take-append_seam (b ∷ c ∷ r) t i ∷ split k (drop-append_seam (b ∷ c ∷ r) t i))

split-joined : (k : ℕ) (rs : List (List ℕ)) → Sized rs → length (bytes_of rs) ≤ k → split k (bytes_of rs) ≡ rs
unfolding bytes_of
split-joined k [] h l = split-none k
split-joined zero (r ∷ rs) h l = absurd (omega (arith, h 0 (omega arith), size-least (is_marked r), length-append r (bytes_of rs)))
split-joined (suc k) ([] ∷ rs) h l = absurd (omega (arith, h 0 (omega arith), size-least (is_marked [])))
split-joined (suc k) ((b ∷ r) ∷ rs) h l =
    split-first k b r (bytes_of rs) (h 0 (omega arith))
    ∙ ap (λ (t : List (List ℕ)). (b ∷ r) ∷ t) (split-joined k rs (λ i m. h (suc i) (omega arith)) (omega (arith, length-append r (bytes_of rs))))

pub records-again : (rs : List (List ℕ)) → Sized rs → records_of (bytes_of rs) ≡ rs
unfolding records_of
records-again rs h = split-joined (length (bytes_of rs)) rs h (omega arith)

-- a file without a fault: the next record starts behind what the bytes there say, and the file has them all
pub record Reached (file : List ℕ) (i : ℕ) : Type 0 where
  pub there : get_or (records_of file) i [] ≡ take (size_of (drop (start_at (records_of file) i) file)) (drop (start_at (records_of file) i) file)
  pub next : start_at (records_of file) (i + 1) ≡ start_at (records_of file) i + size_of (drop (start_at (records_of file) i) file)
  pub long : start_at (records_of file) i + size_of (drop (start_at (records_of file) i) file) ≤ length file

-- the first record of some bytes has their mark
pub first-marked : (s : List ℕ) → is_marked (take (size_of s) s) ≡ is_marked s
unfolding is_marked
first-marked s = ap (λ (b : ℕ). eqb b 0x50) (get_or-take (size_of s) s 1 0 (omega (arith, size-least (is_marked s))))

pub file-reached : (file : List ℕ) → first_fault 0 0 (records_of file) ≡ none → (i : ℕ) → i < length (records_of file) → Reached file i
file-reached file right i l =
    record {
      there = at;
      next = start-next (records_of file) i l ∙ ap (λ (n : ℕ). start_at (records_of file) i + n) size;
      long = omega (arith, size, ap length at, length-take (size_of t) t, length-drop (start_at (records_of file) i) file, size-least (is_marked t));
    }
  where
    t : List ℕ
    t = drop (start_at (records_of file) i) file

    at : get_or (records_of file) i [] ≡ take (size_of t) t
    at = record-there file i l

    size : length (get_or (records_of file) i []) ≡ size_of t
    size = (marked (get_or (records_of file) i []) (each-whole 0 0 (records_of file) right i l)).long ∙ ap size_of at ∙ ap record_size (first-marked t)

-- ---- the detail of 6
bad-if : (b : Bool) (at d : ℕ) (later : Option Refusal) → (later ≡ some (BadRecord d) → ⊥) → refuse_if (not b) (BadRecord at) later ≡ some (BadRecord d) → (d ≡ at) × (b ≡ false)
unfolding refuse_if
bad-if true at d later never e = absurd (never e)
bad-if false at d later never e = (cc, refl)

bad-record : (i at : ℕ) (r : List ℕ) (d : ℕ) → fault_of i at r ≡ some (BadRecord d) → (d ≡ at) × (is_whole r ≡ false)
unfolding fault_of
bad-record i at r d e =
    bad-if (is_whole r) at d _ (λ q. none_told_lem (later-if _ _ (unlike _ _ (λ z. omega arith)) q)) (later-if _ _ (unlike _ _ (λ z. omega arith)) e)

-- those before it are whole
abbrev FirstBad : ℕ → List (List ℕ) → ℕ → Type 0
FirstBad at rs d = (j : ℕ) × (j < length rs) × (d ≡ at + start_at rs j) × (is_whole (get_or rs j []) ≡ false) × ((m : ℕ) → m < j → is_whole (get_or rs m []) ≡ true)

first-bad : (i at : ℕ) (rs : List (List ℕ)) (d : ℕ) → first_fault i at rs ≡ some (BadRecord d) → FirstBad at rs d
unfolding first_fault start_at
first-bad i at [] d e = absurd (none_told_lem e)
first-bad i at (r ∷ rs) d e =
    ⊎_elim
    (λ h. let q = bad-record i at r d h in (0, omega arith, q.0 ∙ sym (add-zero at), q.1, λ m l. absurd (omega arith)))
    (λ h.
    let q = first-bad (i + 1) (at + length r) rs d h.1 in
    (suc q.0, omega (arith, q.1), omega (arith, q.2), q.3, before (fault-whole i at r h.0) q.0 q.4))
    ((or_else-eq-some (fault_of i at r) (first_fault (i + 1) (at + length r) rs) (BadRecord d)).0 e)
  where
    before : is_whole r ≡ true → (j : ℕ) → ((m : ℕ) → m < j → is_whole (get_or rs m []) ≡ true) → (m : ℕ) → m < suc j → is_whole (get_or (r ∷ rs) m []) ≡ true
    before w j h zero l = w
    before w j h (suc m) l = h m (omega arith)

pub bad-start : (file : List ℕ) (d : ℕ) → first_fault 0 0 (records_of file) ≡ some (BadRecord d) →
    ((j : ℕ) × (j < length (records_of file)) × (d ≡ start_at (records_of file) j) × (is_whole (get_or (records_of file) j []) ≡ false) × ((m : ℕ) → m < j → is_whole (get_or (records_of file) m []) ≡ true))
bad-start file d e = let q = first-bad 0 0 (records_of file) d e in (q.0, q.1, omega (arith, q.2), q.3, q.4)
