-- Operations whose words stand one after the other in a list are read back.
use mathlib.Core.Path.{◌≡◌, sym, ap, ap₂, subst, ◌∙◌}
use mathlib.Core.List.{List, [], ◌∷◌, ◌++◌, append-nil, append_assoc}
use Prim.Native.Nat.{ℕ, zero, suc, ◌+◌, ◌-◌, ◌*◌, ◌/◌, ◌%◌, ◌^◌, ◌<◌}
use native.Mathlib.Omega.{arith}
use lib.ListN.{length, get_or, set, length-append, get_or-append, get_or-eq_default}
use lib.Seq.{sets, drop-length, get_or-append-add}
use Rattle.lists.specs.Tab.{tab, word, table_of}
use Rattle.lists.proofs.Laws.{table_at, length-table, list-tab, sets-append, sets-front}
use Rattle.lists.proofs.Then.{by_le}
use Rattle.fips202.specs.Lanes.{Lanes}
use Rattle.keccak.specs.Row.{OP-WORDS, SEGMENT-WORD, op_at, list_words}
use Rattle.keccak.specs.Refusals.{op_count}
use Rattle.keccak.specs.declared.KeccakOperation.{KeccakOperation}
use Rattle.keccak.proofs.Refusals.{words_size, op-words}
use Rattle.keccak.proofs.Joined.{op_same}

-- 25 lanes each
pub record Lanes25 (o : KeccakOperation) : Type 0 where
  pub input : length o.input ≡ 25
  pub output : length o.output ≡ 25

pub length-words : (o : KeccakOperation) → Lanes25 o → length (list_words o) ≡ OP-WORDS
unfolding list_words
length-words o h = words_size o.timestamp o.state_addr o.input o.output o.segment h.input h.output

-- what a writer of one operation's words stores: the first two words, 25 from 2 on, 25 from 27 on, and the last
pub words-stored : (o : KeccakOperation) → Lanes25 o → (l row row' : List ℕ) → length l ≡ OP-WORDS →
    row ≡ sets (set (set l 0 o.timestamp) 1 o.state_addr) 2 (tab 25 (word o.input)) → row' ≡ sets row 27 (tab 25 (word o.output)) →
    set row' SEGMENT-WORD o.segment ≡ list_words o
unfolding list_words
words-stored o h l row row' size p q =
    let n = h.input in
    let m = h.output in
    let input : row ≡ sets l 0 (front ++ o.input) =
    p ∙ ap (sets (sets l 0 front) 2) (sym (list-tab o.input 25 n)) ∙ sets-append l 0 front o.input in
    let a : 27 ≡ 0 + length (front ++ o.input) = omega (arith, length-append front o.input) in
    let output : row' ≡ sets l 0 ((front ++ o.input) ++ o.output) =
    q ∙ ap₂ (λ (r v : List ℕ). sets r 27 v) input (sym (list-tab o.output 25 m))
    ∙ ap (λ (k : ℕ). sets (sets l 0 (front ++ o.input)) k o.output) a ∙ sets-append l 0 (front ++ o.input) o.output in
    let b : 52 ≡ 0 + length ((front ++ o.input) ++ o.output) = omega (arith, length-append front o.input, length-append (front ++ o.input) o.output) in
    let whole : length (((front ++ o.input) ++ o.output) ++ (o.segment ∷ [])) ≡ length l =
    omega (arith, length-append front o.input, length-append (front ++ o.input) o.output, length-append ((front ++ o.input) ++ o.output) (o.segment ∷ [])) in
    ap (λ (r : List ℕ). set r 52 o.segment) output
    ∙ ap (λ (k : ℕ). sets (sets l 0 ((front ++ o.input) ++ o.output)) k (o.segment ∷ [])) b
    ∙ sets-append l 0 ((front ++ o.input) ++ o.output) (o.segment ∷ [])
    ∙ sets-front l (((front ++ o.input) ++ o.output) ++ (o.segment ∷ [])) (length l) whole (omega arith)
    ∙ ap (λ (r : List ℕ). (((front ++ o.input) ++ o.output) ++ (o.segment ∷ [])) ++ r) (drop-length l)
    ∙ append-nil (((front ++ o.input) ++ o.output) ++ (o.segment ∷ []))
    ∙ append_assoc (front ++ o.input) o.output (o.segment ∷ [])
  where
    front : List ℕ
    front = o.timestamp ∷ o.state_addr ∷ []

-- one operation
pub words-read : (o : KeccakOperation) → Lanes25 o → op_at (list_words o) 0 ≡ o
unfolding list_words
words-read o h =
    ap (λ (l : List ℕ). op_at l 0) (sym (append-nil (list_words o)))
    ∙ op-words o.timestamp o.state_addr o.input o.output o.segment h.input h.output [] [] 0 (omega arith)

-- words below 2^64: of two lists, of one word and a list, of 25 lanes, of an operation
below-append : (xs ys : List ℕ) → ((k : ℕ) → word xs k < 2 ^ 64) → ((k : ℕ) → word ys k < 2 ^ 64) → (k : ℕ) → word (xs ++ ys) k < 2 ^ 64
below-append xs ys hx hy k =
    by_le (length xs) k
    (λ g.
    let e : k ≡ length xs + (k - length xs) = omega arith in
    subst (λ (w : ℕ). w < 2 ^ 64) (sym (ap (word (xs ++ ys)) e ∙ get_or-append-add xs ys (k - length xs) 0)) (hy (k - length xs)))
    (λ g. subst (λ (w : ℕ). w < 2 ^ 64) (sym (get_or-append xs ys 0 k g)) (hx k))

below-cons : (x : ℕ) (xs : List ℕ) → x < 2 ^ 64 → ((k : ℕ) → word xs k < 2 ^ 64) → (k : ℕ) → word (x ∷ xs) k < 2 ^ 64
below-cons x xs h hs zero = h
below-cons x xs h hs (suc k) = hs k

below-lanes : (s : List ℕ) → length s ≡ 25 → Lanes s → (k : ℕ) → word s k < 2 ^ 64
below-lanes s e h k = by_le 25 k (λ g. subst (λ (w : ℕ). w < 2 ^ 64) (sym (get_or-eq_default s 0 {n = k} (omega arith))) (omega arith)) (λ g. h k g)

below_none : (k : ℕ) → word [] k < 2 ^ 64
below_none k = omega arith

pub words-below : (o : KeccakOperation) → Lanes25 o → o.timestamp < 2 ^ 64 → o.state_addr < 2 ^ 64 → Lanes o.input → Lanes o.output → o.segment < 2 ^ 64 →
    (k : ℕ) → word (list_words o) k < 2 ^ 64
unfolding list_words
words-below o h t a ins outs seg =
    below-cons o.timestamp (o.state_addr ∷ (o.input ++ (o.output ++ (o.segment ∷ [])))) t
    (below-cons o.state_addr (o.input ++ (o.output ++ (o.segment ∷ []))) a
    (below-append o.input (o.output ++ (o.segment ∷ [])) (below-lanes o.input h.input ins)
    (below-append o.output (o.segment ∷ []) (below-lanes o.output h.output outs) (below-cons o.segment [] seg below_none))))

-- n of them
module _ (n : ℕ) (op : ℕ → KeccakOperation) where
  abbrev pub listed : List ℕ
  listed = table_of n OP-WORDS (λ i. list_words (op i))

  pub length-listed : length listed ≡ n * OP-WORDS
  length-listed = length-table n OP-WORDS (λ i. list_words (op i))

  pub count-listed : op_count listed ≡ n
  count-listed = omega (arith, length-listed)

  pub whole-listed : length listed % OP-WORDS ≡ 0
  whole-listed = omega (arith, length-listed)

  pub listed-read : (i : ℕ) → i < n → Lanes25 (op i) → op_at listed i ≡ op i
  listed-read i l h =
      op_same listed (list_words (op i)) i 0 (λ k g. ap (λ (m : ℕ). get_or listed m 0) (place k) ∙ table_at n OP-WORDS (λ i. list_words (op i)) i k l g ∙ ap (λ (m : ℕ). get_or (list_words (op i)) m 0) (front k))
      ∙ words-read (op i) h
    where
      place : (k : ℕ) → OP-WORDS * i + k ≡ i * OP-WORDS + k
      place k = omega arith

      front : (k : ℕ) → k ≡ OP-WORDS * 0 + k
      front k = omega arith

  pub listed_below : ((i : ℕ) → i < n → (k : ℕ) → word (list_words (op i)) k < 2 ^ 64) → (k : ℕ) → word listed k < 2 ^ 64
  listed_below h k =
      by_le (n * OP-WORDS) k
      (λ g. subst (λ (w : ℕ). w < 2 ^ 64) (sym (get_or-eq_default listed 0 {n = k} (omega (arith, length-listed)))) (omega arith))
      (λ g.
      let e : k ≡ k / OP-WORDS * OP-WORDS + k % OP-WORDS = omega arith in
      let i : k / OP-WORDS < n = omega arith in
      subst (λ (w : ℕ). w < 2 ^ 64) (sym (ap (word listed) e ∙ table_at n OP-WORDS (λ i. list_words (op i)) (k / OP-WORDS) (k % OP-WORDS) i (omega arith))) (h (k / OP-WORDS) i (k % OP-WORDS)))
