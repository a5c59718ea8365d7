-- Laws of the tuples of a row as words: how many words, in parts, and the invariant of a loop that writes them.
use mathlib.Core.Path.{◌≡◌, refl, sym, ap, ap₂, ◌∙◌, subst}
use mathlib.Core.Logic.{⊎_elim}
use mathlib.Core.List.{List, [], ◌∷◌, ◌++◌, append_assoc, append-nil}
use Prim.Native.Nat.{ℕ, zero, suc, ◌+◌, ◌-◌, ◌*◌, ◌≤◌, ◌<◌}
use native.Mathlib.Nat.{le_antisymm, le_refl, le_trans, le-add_right, le_of_suc-le-suc, not-suc-le-zero, eq-or-lt_of_le, add-zero, add-suc}
use native.Mathlib.Numerals.{add-one}
use native.Mathlib.Omega.{arith}
use lib.ListN.{length, set, length-append}
use lib.Seq.{sets, length-sets, set_comm}
use borrow.Rule.Slice.PartMut.{mid_of, put_mid, mid_len}
use Rattle.lists.specs.Tab.{followed_by}
use Rattle.lists.specs.Sum.{sum_below}
use Rattle.lists.proofs.Sum.{sum_same, sum-const, sum_then}
use Rattle.lists.proofs.Laws.{sets-append, sets-mid}
use Rattle.answer.specs.Refusal.{overwrite}
use Rattle.answer.proofs.Laws.{sets-overwrite}
use Rattle.tuple.specs.Tuple.{Tuple}
use Rattle.tuple.specs.Call.{interaction_of}
use Rattle.tuple.specs.declared.BusInteraction.{BusInteraction}
use Rattle.tuple.specs.Words.{header_words, tuple_words, tuples_words}

-- ---- how many words
pub tuple-length : (t : Tuple) → length (tuple_words t) ≡ 4 + length t.values
unfolding tuple_words
tuple-length t = omega arith

pub tuples-length : (t : ℕ → Tuple) (n : ℕ) → length (tuples_words t n) ≡ sum_below n (λ i. length (tuple_words (t i)))
unfolding tuples_words sum_below
tuples-length t zero = refl
tuples-length t (suc n) = length-append (tuples_words t n) (tuple_words (t n)) ∙ ap (λ (k : ℕ). k + length (tuple_words (t n))) (tuples-length t n)

-- n tuples of c values each
pub words_same_lem : (n c : ℕ) (f : ℕ → Tuple) → ((i : ℕ) → length (f i).values ≡ c) → sum_below n (λ i. length (tuple_words (f i))) ≡ n * (4 + c)
words_same_lem n c f e = sum_same n (λ i. length (tuple_words (f i))) (λ i. 4 + c) (λ i h. tuple-length (f i) ∙ ap (λ (k : ℕ). 4 + k) (e i)) ∙ sum-const n (4 + c)

-- n tuples, and then m others
pub words-then : (n m : ℕ) {a b : ℕ} (f g : ℕ → Tuple) → sum_below n (λ i. length (tuple_words (f i))) ≡ a → sum_below m (λ i. length (tuple_words (g i))) ≡ b
    → sum_below (n + m) (λ i. length (tuple_words (followed_by n f g i))) ≡ a + b
words-then n m f g e q = sum_then (λ t. length (tuple_words t)) n m f g ∙ ap₂ ◌+◌ e q

-- ---- a tuple is stored where its values are stored first and then the words before them
set_before : (l : List ℕ) (i x j : ℕ) (vs : List ℕ) → i < j → set (sets l j vs) i x ≡ sets (set l i x) j vs
set_before l i x j [] h = refl
set_before l i x j (v ∷ vs) h =
    set_before (set l j v) i x (suc j) vs (omega arith) ∙ ap (λ (r : List ℕ). sets r (suc j) vs) (set_comm l j i v x (λ e. ne e))
  where
    ne : j ≡ i → ⊥
    ne e = omega arith

sets-before : (l : List ℕ) (i : ℕ) (ws : List ℕ) (j : ℕ) (vs : List ℕ) → i + length ws ≤ j → sets (sets l j vs) i ws ≡ sets (sets l i ws) j vs
sets-before l i [] j vs h = refl
sets-before l i (w ∷ ws) j vs h =
    ap (λ (r : List ℕ). sets r (suc i) ws) (set_before l i w j vs (omega arith)) ∙ sets-before (set l i w) (suc i) ws j vs (omega arith)

tuple-stored : (l : List ℕ) (at : ℕ) (t : Tuple) → sets (sets l (at + 4) t.values) at (header_words (interaction_of t)) ≡ sets l at (tuple_words t)
unfolding tuple_words
tuple-stored l at t =
    sets-before l at (header_words (interaction_of t)) (at + 4) t.values (omega arith)
    ∙ sets-append l at (header_words (interaction_of t)) t.values

-- what a call leaves that is lent the words from `from` on and overwrites the first of them
part-stored : (l new : List ℕ) (from : ℕ) → from + length new ≤ length l
    → put_mid from (length l - from) l (overwrite new (mid_of from (length l - from) l)) ≡ sets l from new
part-stored l new from h =
    let k = length l - from in
    let e : length (mid_of from k l) ≡ length l - from = mid_len from (length l) l (le_refl (length l)) in
    sym (ap (put_mid from k l) (sets-overwrite (mid_of from k l) new (omega arith)))
    ∙ sets-mid from k 0 l new (omega arith) (omega arith)
    ∙ ap (λ (j : ℕ). sets l j new) (add-zero from)

-- the part of l that takes the values of the tuple at `at`; l with that part back; and then the four words before it
module _ (l : List ℕ) (at : ℕ) (t : Tuple) (h : at + length (tuple_words t) ≤ length l) where
  pub part_room : length t.values ≤ length (mid_of (at + 4) (length l - (at + 4)) l)
  part_room =
      let e : length (mid_of (at + 4) (length l - (at + 4)) l) ≡ length l - (at + 4) = mid_len (at + 4) (length l) l (le_refl (length l)) in
      omega (arith, tuple-length t, h, e)

  pub part-back : (part : List ℕ) → part ≡ overwrite t.values (mid_of (at + 4) (length l - (at + 4)) l)
      → put_mid (at + 4) (length l - (at + 4)) l part ≡ sets l (at + 4) t.values
  part-back part e = ap (put_mid (at + 4) (length l - (at + 4)) l) e ∙ part-stored l t.values (at + 4) (omega (arith, tuple-length t, h))

  pub header-after : (out : List ℕ) (given : BusInteraction) → given ≡ interaction_of t → out ≡ sets l (at + 4) t.values
      → sets out at (header_words given) ≡ sets l at (tuple_words t)
  header-after out given e q =
      ap (λ (b : BusInteraction). sets out at (header_words b)) e ∙ ap (λ (r : List ℕ). sets r at (header_words (interaction_of t))) q ∙ tuple-stored l at t

-- four stores in a row
pub stores-four : (l : List ℕ) (at a b c d : ℕ) → set (set (set (set l at a) (at + 1) b) (at + 2) c) (at + 3) d ≡ sets l at (a ∷ b ∷ c ∷ d ∷ [])
stores-four l at a b c d =
    let two : at + 2 ≡ suc (suc at) = omega arith in
    let three : at + 3 ≡ suc (suc (suc at)) = omega arith in
    ap (λ (k : ℕ). set (set (set (set l at a) k b) (at + 2) c) (at + 3) d) (add-one at)
    ∙ ap (λ (k : ℕ). set (set (set (set l at a) (suc at) b) k c) (at + 3) d) two
    ∙ ap (λ (k : ℕ). set (set (set (set l at a) (suc at) b) (suc (suc at)) c) k d) three

-- ---- the words of tuples t 0 .. t (n - 1): those of the first n, then those of m more, which are g's
pub words-add : (n m : ℕ) (t g : ℕ → Tuple) → ((k : ℕ) → k < m → t (n + k) ≡ g k) → tuples_words t (n + m) ≡ tuples_words t n ++ tuples_words g m
unfolding tuples_words
words-add n zero t g h = ap (tuples_words t) (add-zero n) ∙ sym (append-nil (tuples_words t n))
words-add n (suc m) t g h =
    ap (tuples_words t) (add-suc n m)
    ∙ ap₂ (λ (a b : List ℕ). a ++ b) (words-add n m t g (λ k l. h k (omega arith))) (ap tuple_words (h m (omega arith)))
    ∙ append_assoc (tuples_words t n) (tuples_words g m) (tuple_words (g m))

-- n tuples of c values each
pub words_count : (n c : ℕ) (t : ℕ → Tuple) → ((i : ℕ) → length (t i).values ≡ c) → length (tuples_words t n) ≡ n * (4 + c)
words_count n c t e = tuples-length t n ∙ words_same_lem n c t e

-- ---- the invariant of a loop that stores tuples t 0 .. t (n - 1) in l from `from`, one after the other: i of them are stored, and the next
-- goes to `at`
pub record Listed (l : List ℕ) (from : ℕ) (t : ℕ → Tuple) (n : ℕ) (out : List ℕ) (i at : ℕ) : Type 0 where
  pub bound : i ≤ n
  pub place : at ≡ from + length (tuples_words t i)
  pub long : length out ≡ length l
  pub is : out ≡ sets l from (tuples_words t i)

pub listed-none : (l : List ℕ) (from : ℕ) (t : ℕ → Tuple) (n : ℕ) → Listed l from t n l 0 from
unfolding tuples_words
listed-none l from t n = record { bound = omega arith; place = sym (add-zero from); long = refl; is = refl }

words_more : (t : ℕ → Tuple) (i : ℕ) → length (tuples_words t (suc i)) ≡ length (tuples_words t i) + length (tuple_words (t i))
unfolding tuples_words
words_more t i = length-append (tuples_words t i) (tuple_words (t i))

-- the words of the first tuples are no more than those of all
words-le : (t : ℕ → Tuple) (i n : ℕ) → i ≤ n → length (tuples_words t i) ≤ length (tuples_words t n)
words-le t zero zero h = le_refl (length (tuples_words t 0))
words-le t (suc i) zero h = absurd (not-suc-le-zero h)
words-le t i (suc n) h =
    ⊎_elim
    (λ e. subst (λ (k : ℕ). length (tuples_words t i) ≤ length (tuples_words t k)) e (le_refl (length (tuples_words t i))))
    (λ l. le_trans (words-le t i n (le_of_suc-le-suc l)) (subst (λ (k : ℕ). length (tuples_words t n) ≤ k) (sym (words_more t n)) (le-add_right (length (tuples_words t n)) (length (tuple_words (t n))))))
    (eq-or-lt_of_le h)

module _ {l : List ℕ} {from : ℕ} {t : ℕ → Tuple} {n : ℕ} {out : List ℕ} {i at : ℕ} (h : Listed l from t n out i at) where
  -- there is room for the next tuple
  pub listed-room : from + length (tuples_words t n) ≤ length l → i < n → at + length (tuple_words (t i)) ≤ length out
  listed-room r b =
      let more = words_more t i in
      let le = words-le t (suc i) n b in
      omega (arith, h.place, h.long, more, le, r)

  -- a turn that stores m tuples
  pub listed-part : {out' : List ℕ} {at' : ℕ} (m : ℕ) (g : ℕ → Tuple) → i + m ≤ n → ((k : ℕ) → k < m → t (i + k) ≡ g k)
      → at' ≡ at + length (tuples_words g m) → out' ≡ sets out at (tuples_words g m) → Listed l from t n out' (i + m) at'
  listed-part {out'} {at'} m g b s q e =
      let a : length (tuples_words t (i + m)) ≡ length (tuples_words t i) + length (tuples_words g m) = ap length (words-add i m t g s) ∙ length-append (tuples_words t i) (tuples_words g m) in
      record {
        bound = b;
        place = omega (arith, q, h.place, a);
        long = ap length e ∙ length-sets out at (tuples_words g m) ∙ h.long;
        is = e ∙ (λ k. sets (h.is k) (h.place k) (tuples_words g m)) ∙ sets-append l from (tuples_words t i) (tuples_words g m) ∙ ap (sets l from) (sym (words-add i m t g s));
      }

  -- of c values each
  pub listed-lane : {out' : List ℕ} {i' at' : ℕ} (m c : ℕ) (g : ℕ → Tuple) → i + m ≤ n → ((k : ℕ) → k < m → t (i + k) ≡ g k)
      → ((k : ℕ) → length (g k).values ≡ c) → i' ≡ i + m → at' ≡ at + m * (4 + c) → out' ≡ sets out at (tuples_words g m) → Listed l from t n out' i' at'
  listed-lane {out'} {i'} {at'} m c g b s u j q e =
      subst (λ (k : ℕ). Listed l from t n out' k at') (sym j)
      (listed-part m g b s (q ∙ ap (λ (k : ℕ). at + k) (sym (words_count m c g u))) e)

  -- one that stores the next
  pub listed_more : {out' : List ℕ} {at' : ℕ} → i < n → at' ≡ at + length (tuple_words (t i)) → out' ≡ sets out at (tuple_words (t i)) → Listed l from t n out' (i + 1) at'
  unfolding tuples_words
  listed_more b q e = listed-part 1 (λ k. t i) (omega arith) (λ k s. ap t (same k s)) q e
    where
      same : (k : ℕ) → k < 1 → i + k ≡ i
      same k s = omega arith

  pub listed-all : n ≤ i → out ≡ sets l from (tuples_words t n)
  listed-all b = h.is ∙ ap (λ (k : ℕ). sets l from (tuples_words t k)) (le_antisymm h.bound b)
