-- What a look puts: the sums by kind, the largest counters of the charged copy, and the copy itself.
use mathlib.Core.Bool.{Bool}
use mathlib.Core.List.{List, [], ◌∷◌, ◌++◌}
use mathlib.Core.Path.{◌≡◌, refl, sym, ap, ap₂, subst, ◌∙◌}
use Prim.Native.Nat.{ℕ, zero, suc, ◌+◌, ◌*◌, ◌/◌, ◌%◌, ◌^◌, ◌≤◌, ◌<◌}
use native.Mathlib.Nat.{le_refl}
use native.Mathlib.Numerals.{add-one}
use native.Mathlib.Omega.{arith}
use borrow.Author.Tests.{eq-eqb, ne_eqb}
use lib.Dec.{eqb, ltb}
use lib.ListN.{length, set, drop}
use lib.Seq.{sets, length-sets, drop-append_seam}
use Rattle.lists.specs.Tab.{pick, tab, tab_from, word}
use Rattle.lists.specs.Sum.{largest_below}
use Rattle.lists.proofs.Laws.{Filled, filled_next, filled-whole, length-tab, get_d-tab, tab-same}
use Rattle.lists.proofs.Kept.{filled-past}
use Rattle.field.specs.Field.{p}
use Rattle.field.specs.Elements.{ElementRow}
use Rattle.fips202.specs.Lanes.{Lanes}
use Rattle.answer.specs.Refusal.{overwrite}
use Rattle.answer.proofs.Laws.{sets-overwrite}
use Rattle.answer.proofs.Overwrite.{over-new, over-length}
use Rattle.bitwise.specs.Columns.{NUM-ROWS, NUM-COUNTERS}
use Rattle.bitwise.specs.Charge.{charged_words, charged_counters, charged_kind}
use Rattle.keccak.specs.Row.{OP-WORDS, op_at}
use Rattle.keccak.specs.Refusals.{op_count}
use Rattle.keccak_rnd.specs.Row.{round_height}
use Rattle.segment_counts.specs.Segment.{sent_rows, list_charged, largest, look_words}
use Rattle.segment_counts.specs.Sums.{kind_sum}
use Rattle.segment_counts.specs.Kinds.{larger, look_word}
use Rattle.segment_counts.proofs.Sums.{kind-sums-at}

-- ---- the sums
pub sums-listed : (nr floor : ℕ) (shipped : Bool) (n s : ℕ) → s ≡ sent_rows shipped n (round_height nr floor n)
    → 0 ∷ 0 ∷ 0 ∷ (4 * n + 220 * s) ∷ (25 * n) ∷ 0 ∷ 0 ∷ (n + 200 * (n * nr)) ∷ 0 ∷ (608 * (n * nr)) ∷ [] ≡ tab 10 (kind_sum nr floor shipped n)
unfolding tab tab_from kind_sum
sums-listed nr floor shipped n s e = ap (λ (k : ℕ). 0 ∷ 0 ∷ 0 ∷ (4 * n + 220 * k) ∷ (25 * n) ∷ 0 ∷ 0 ∷ (n + 200 * (n * nr)) ∷ 0 ∷ (608 * (n * nr)) ∷ []) e

-- the input lanes of operations are words
pub op-lanes : (ops : List ℕ) → ((k : ℕ) → word ops k < 2 ^ 64) → (i : ℕ) → Lanes (op_at ops i).input
unfolding op_at
op-lanes ops h i j l = subst (λ (n : ℕ). n < 2 ^ 64) (sym (get_d-tab 25 (λ k. word ops (OP-WORDS * i + 2 + k)) j 0 l)) (h (OP-WORDS * i + 2 + j))

-- what is computed of a list is what its rows add
module _ (nr floor : ℕ) (few : nr ≤ 24) (shipped : Bool) (ops : List ℕ) (small : (k : ℕ) → word ops k < 2 ^ 64) where
  pub sums-charged : (sums : List ℕ) → sums ≡ tab 10 (kind_sum nr floor shipped (op_count ops)) → (k : ℕ) → k < 10 → word sums k ≡ charged_kind (list_charged nr floor shipped ops) k
  sums-charged sums e k l =
      ap (λ (w : List ℕ). word w k) e
      ∙ get_d-tab 10 (kind_sum nr floor shipped (op_count ops)) k 0 l
      ∙ sym (kind-sums-at shipped (op_count ops) (op_at ops) (λ i _. op-lanes ops small i) nr floor few k l)

-- ---- the words of the answer
module _ (sums most : List ℕ) (j : ℕ) where
  pub word_even : j % 2 ≡ 0 → word sums (j / 2) ≡ look_word sums most j
  word_even e = sym (ap (λ (t : Bool). pick t (word sums (j / 2)) (word most (j / 2))) (eq-eqb (j % 2) 0 e))

  pub word-odd : (j % 2 ≡ 0 → ⊥) → word most (j / 2) ≡ look_word sums most j
  word-odd d = sym (ap (λ (t : Bool). pick t (word sums (j / 2)) (word most (j / 2))) (ne_eqb (j % 2) 0 d))

-- ---- the largest
-- a turn of `raise`: the word is still the one at entry
pub raise-turn : (l counters : List ℕ) (at : ℕ) {row : List ℕ} {k v : ℕ} → Filled l 0 10 (λ j. larger (word l j) (word counters (at + j))) row k → k < 10 → k ≤ length l
    → v ≡ larger (word row k) (word counters (at + k)) → Filled l 0 10 (λ j. larger (word l j) (word counters (at + j))) (set row k v) (k + 1)
raise-turn l counters at {k = k} {v} h b c e = filled_next v h b (e ∙ ap (λ (n : ℕ). larger n (word counters (at + k))) (filled-past h c k (le_refl k)))

-- the largest of the first r rows, kind by kind
abbrev pub up_to : List ℕ → ℕ → List ℕ
up_to counters r = tab 10 (λ k. largest_below r (λ q. word counters (q * 10 + k)))

pub up_none : (counters : List ℕ) → 0 ∷ 0 ∷ 0 ∷ 0 ∷ 0 ∷ 0 ∷ 0 ∷ 0 ∷ 0 ∷ 0 ∷ [] ≡ up_to counters 0
unfolding tab tab_from largest_below
up_none counters = refl

pub up-long : (counters most : List ℕ) (r : ℕ) → most ≡ up_to counters r → length most ≡ 10
up-long counters most r e = ap length e ∙ length-tab 10 (λ k. largest_below r (λ q. word counters (q * 10 + k)))

one_more : (r : ℕ) (f : ℕ → ℕ) → larger (largest_below r f) (f r) ≡ largest_below (r + 1) f
unfolding larger largest_below
one_more r f = ap (λ (k : ℕ). largest_below k f) (sym (add-one r))

pub up_more : (counters most most' : List ℕ) (r : ℕ) → most ≡ up_to counters r
    → most' ≡ sets most 0 (tab 10 (λ k. larger (word most k) (word counters (r * 10 + k)))) → most' ≡ up_to counters (r + 1)
up_more counters most most' r e f =
    filled-whole (record { bound = le_refl 10; long = ap length f ∙ length-sets most 0 (tab 10 g); is = f }) (up-long counters most r e) (le_refl 10)
    ∙ tab-same 10 g (λ k. largest_below (r + 1) (λ q. word counters (q * 10 + k))) turn
  where
    g : ℕ → ℕ
    g k = larger (word most k) (word counters (r * 10 + k))

    turn : (k : ℕ) → k < 10 → g k ≡ largest_below (r + 1) (λ q. word counters (q * 10 + k))
    turn k l =
        ap (λ (m : ℕ). larger m (word counters (r * 10 + k))) (ap (λ (m : List ℕ). word m k) e ∙ get_d-tab 10 (λ k. largest_below r (λ q. word counters (q * 10 + k))) k 0 l)
        ∙ one_more r (λ q. word counters (q * 10 + k))

pub up-all : (counters most : List ℕ) (r : ℕ) → most ≡ up_to counters r → r ≤ NUM-ROWS → NUM-ROWS ≤ r → most ≡ tab 10 (largest counters)
unfolding largest
up-all counters most r e l g = let q : r ≡ NUM-ROWS = omega arith in e ∙ ap (up_to counters) q

largest-same : (n : ℕ) (f g : ℕ → ℕ) → ((k : ℕ) → k < n → f k ≡ g k) → largest_below n f ≡ largest_below n g
unfolding largest_below
largest-same zero f g h = refl
largest-same (suc n) f g h =
    let a = largest-same n f g (λ k l. h k (omega arith)) in
    let b = h n (omega arith) in
    λ t. pick (ltb (a t) (b t)) (b t) (a t)

-- ---- the copy
module _ (counters copy : List ℕ) (long : NUM-COUNTERS ≤ length copy) where
  abbrev copied : List ℕ
  copied = overwrite (tab NUM-COUNTERS (word counters)) copy

  pub copy-all : (C : List ℕ) → C ≡ sets copy 0 (tab NUM-COUNTERS (word counters)) → C ≡ copied
  copy-all C e = e ∙ sets-overwrite copy (tab NUM-COUNTERS (word counters)) (subst (λ (n : ℕ). n ≤ length copy) (sym (length-tab NUM-COUNTERS (word counters))) long)

  pub copy-elements : ElementRow NUM-COUNTERS counters → ElementRow NUM-COUNTERS copied
  copy-elements e =
      record {
        long = subst (λ (n : ℕ). NUM-COUNTERS ≤ n) (sym (over-length NUM-COUNTERS (word counters) copy long)) long;
        below = λ c l. subst (λ (n : ℕ). n < p) (sym (over-new NUM-COUNTERS (word counters) copy c l)) (e.below c l);
      }

  module _ (f : ℕ → ℕ) where
    -- what it holds after the charge
    pub copy-charged : charged_counters copied f ≡ overwrite (charged_words counters f) copy
    unfolding charged_counters charged_words overwrite
    copy-charged =
        let T : List ℕ = tab NUM-COUNTERS (word counters) in
        let W : List ℕ = tab NUM-COUNTERS (λ c. (word copied c + f c) % p) in
        let B : List ℕ = tab NUM-COUNTERS (λ c. (word counters c + f c) % p) in
        let t : length T ≡ NUM-COUNTERS = length-tab NUM-COUNTERS (word counters) in
        let w : length W ≡ NUM-COUNTERS = length-tab NUM-COUNTERS (λ c. (word copied c + f c) % p) in
        let b : length B ≡ NUM-COUNTERS = length-tab NUM-COUNTERS (λ c. (word counters c + f c) % p) in
        ap₂ ◌++◌
        (tab-same NUM-COUNTERS (λ c. (word copied c + f c) % p) (λ c. (word counters c + f c) % p)
        (λ c l. ap (λ (n : ℕ). (n + f c) % p) (over-new NUM-COUNTERS (word counters) copy c l)))
        (ap (λ (n : ℕ). drop n (T ++ drop (length T) copy)) (w ∙ sym t) ∙ drop-append_seam T (drop (length T) copy) ∙ ap (λ (n : ℕ). drop n copy) (t ∙ sym b))

    copy-largest : (k : ℕ) → k < 10 → largest (overwrite (charged_words counters f) copy) k ≡ largest (charged_words counters f) k
    unfolding largest charged_words
    copy-largest k l =
        let g : ℕ → ℕ = λ c. (word counters c + f c) % p in
        largest-same NUM-ROWS (λ r. word (overwrite (tab NUM-COUNTERS g) copy) (r * 10 + k)) (λ r. word (tab NUM-COUNTERS g) (r * 10 + k))
        (λ r b. over-new NUM-COUNTERS g copy (r * 10 + k) (omega arith) ∙ sym (get_d-tab NUM-COUNTERS g (r * 10 + k) 0 (omega arith)))

-- ---- the answer
module _ (nr floor : ℕ) (few : nr ≤ 24) (shipped : Bool) (ops counters copy : List ℕ) (long : NUM-COUNTERS ≤ length copy) (small : (k : ℕ) → word ops k < 2 ^ 64) where
  abbrev f : ℕ → ℕ
  f = list_charged nr floor shipped ops

  pub look-words : (sums most C out out' : List ℕ) → sums ≡ tab 10 (kind_sum nr floor shipped (op_count ops)) → C ≡ overwrite (charged_words counters f) copy → most ≡ tab 10 (largest C)
      → 20 ≤ length out → out' ≡ sets out 0 (tab 20 (look_word sums most)) → out' ≡ overwrite (look_words counters f) out
  unfolding look_words
  look-words sums most C out out' es ec em room e =
      e
      ∙ sets-overwrite out (tab 20 (look_word sums most)) (subst (λ (n : ℕ). n ≤ length out) (sym (length-tab 20 (look_word sums most))) room)
      ∙ ap (λ (w : List ℕ). overwrite w out)
      (tab-same 20 (look_word sums most) (λ j. pick (eqb (j % 2) 0) (charged_kind f (j / 2)) (largest (charged_words counters f) (j / 2)))
      (λ j l. ap₂ (λ (a b : ℕ). pick (eqb (j % 2) 0) a b) (sums-charged nr floor few shipped ops small sums es (j / 2) (omega arith)) (top (j / 2) (omega arith))))
    where
      top : (k : ℕ) → k < 10 → word most k ≡ largest (charged_words counters f) k
      top k l = ap (λ (w : List ℕ). word w k) em ∙ get_d-tab 10 (largest C) k 0 l ∙ ap (λ (w : List ℕ). largest w k) ec ∙ copy-largest counters copy long f k l
