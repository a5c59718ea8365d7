-- The operations of a message: their sizes, one block after the other, and a list as the judge compares it.
use mathlib.Core.Path.{◌≡◌, refl, sym, ap, ap₂, ◌∙◌}
use mathlib.Core.Bool.{Bool, true, false, not}
use mathlib.Core.List.{List}
use Prim.Native.Nat.{ℕ, ◌+◌, ◌-◌, ◌*◌, ◌<◌}
use native.Mathlib.Numerals.{add-one}
use native.Mathlib.Omega.{arith}
use borrow.Author.Tests.{eqb-true, eq-eqb, not-false}
use lib.Bits.{bit_xor}
use lib.ListN.{length, get_or}
use lib.Seq.{ext_get_or}
use Rattle.lists.specs.Tab.{word}
use Rattle.lists.specs.First.{any_below}
use Rattle.lists.specs.Select.{words_test, words_differ}
use Rattle.lists.proofs.First.{any-clear, any-nothing}
use Rattle.lists.proofs.Laws.{length-tab, table_at}
use Rattle.lists.proofs.Reading.{Alike}
use Rattle.lists.proofs.Select.{words_same_lem, words-sound}
use Rattle.lists.proofs.Tests.{true-not-false, T_of}
use Rattle.lists.proofs.Then.{by_le, T_true}
use Rattle.fips202.proofs.Rounds.{length-rounds}
use Rattle.sha3.specs.Sha3.{blocks, block_lane, added, absorbed}
use Rattle.keccak.specs.Row.{OP-WORDS, list_words}
use Rattle.keccak.specs.declared.KeccakOperation.{KeccakOperation}
use Rattle.keccak.proofs.Listed.{Lanes25, length-words, length-listed}
use Rattle.message.specs.Message.{operation_from, message_op, message_list}

-- ---- one operation
module _ (m : List ℕ) (address timestamp i : ℕ) where
  pub op-lanes : Lanes25 (message_op m address timestamp i)
  unfolding operation_from added
  op-lanes =
      let n : length (added m i (absorbed m i)) ≡ 25 = length-tab 25 (λ j. bit_xor (get_or (absorbed m i) j 0) (block_lane m i j)) in
      record { input = n; output = length-rounds 0 24 (added m i (absorbed m i)) n }

  pub length-op : length (list_words (message_op m address timestamp i)) ≡ OP-WORDS
  length-op = length-words (message_op m address timestamp i) op-lanes

  -- the operation that the code makes from the state it has, and the state that it goes on with
  pub turn-op : (o : KeccakOperation) (s : List ℕ) → o ≡ operation_from m address timestamp i s → s ≡ absorbed m i → o ≡ message_op m address timestamp i
  turn-op o s e q = e ∙ ap (operation_from m address timestamp i) q

  pub turn-state : (o : KeccakOperation) (s : List ℕ) → o ≡ operation_from m address timestamp i s → s ≡ absorbed m i → o.output ≡ absorbed m (i + 1)
  unfolding operation_from absorbed
  turn-state o s e q = ap (λ (o : KeccakOperation). o.output) (turn-op o s e q) ∙ ap (absorbed m) (sym (add-one i))

-- ---- a list compared with a message's, one operation after the other
pub test-same : (xs ys : List ℕ) → xs ≡ ys → words_test xs ys ≡ true
test-same xs ys e = ap (words_test xs) (sym e) ∙ T_true (words_test xs xs) (words_same_lem xs)

pub test-apart : (xs ys : List ℕ) → (xs ≡ ys → ⊥) → words_test xs ys ≡ false
test-apart xs ys ne = go (words_test xs ys) refl
  where
    go : (b : Bool) → words_test xs ys ≡ b → b ≡ false
    go true e = absurd (ne (words-sound xs ys (T_of (words_test xs ys) e)))
    go false e = refl

module _ (m : List ℕ) (address timestamp : ℕ) where
  abbrev L : List ℕ
  L = message_list m address timestamp

  pub length-list : length L ≡ blocks m * OP-WORDS
  unfolding message_list
  length-list = length-listed (blocks m) (message_op m address timestamp)

  pub list_at : (i k : ℕ) → i < blocks m → k < OP-WORDS → word L (i * OP-WORDS + k) ≡ word (list_words (message_op m address timestamp i)) k
  unfolding message_list
  list_at i k l h = table_at (blocks m) OP-WORDS (λ i. list_words (message_op m address timestamp i)) i k l h

  module _ (ops : List ℕ) (i : ℕ) (l : i < blocks m) (o : KeccakOperation) (is : o ≡ message_op m address timestamp i) where
    abbrev differ : Bool
    differ = any_below (words_differ ops (i * OP-WORDS) (list_words o) 0) OP-WORDS

    word-is : (k : ℕ) → k < OP-WORDS → word (list_words o) (0 + k) ≡ word L (i * OP-WORDS + k)
    word-is k h =
        let z : 0 + k ≡ k = omega arith in
        ap₂ (λ (o : KeccakOperation) (k : ℕ). word (list_words o) k) is z ∙ sym (list_at i k l h)

    pub part_same : differ ≡ false → Alike (i * OP-WORDS) ops L → Alike ((i + 1) * OP-WORDS) ops L
    unfolding words_differ
    part_same e before k h =
        by_le (i * OP-WORDS) k
        (λ g.
        let p : k ≡ i * OP-WORDS + (k - i * OP-WORDS) = omega arith in
        ap (word ops) p ∙ eqb-true _ _ (not-false _ (any-clear (words_differ ops (i * OP-WORDS) (list_words o) 0) OP-WORDS (k - i * OP-WORDS) e (omega arith)))
        ∙ word-is (k - i * OP-WORDS) (omega arith) ∙ ap (word L) (sym p))
        (λ g. before k g)

    pub part-differs : differ ≡ true → words_test ops L ≡ false
    unfolding words_differ
    part-differs e =
        test-apart ops L (λ q. true-not-false (sym e ∙ any-nothing (words_differ ops (i * OP-WORDS) (list_words o) 0) OP-WORDS (λ k h.
        ap not (eq-eqb (word ops (i * OP-WORDS + k)) (word (list_words o) (0 + k)) (ap (λ (x : List ℕ). word x (i * OP-WORDS + k)) q ∙ sym (word-is k h))))))

  pub all_same : (ops : List ℕ) → length ops ≡ blocks m * OP-WORDS → Alike (blocks m * OP-WORDS) ops L → words_test ops L ≡ true
  all_same ops size e = test-same ops L (ext_get_or 0 ops L (size ∙ sym length-list) (λ k l. e k (omega (arith, size))))
