-- The words of a core row's tuples are 1,457: 4 × 84 and 1,121 values.
use mathlib.Core.Path.{◌≡◌, sym, ◌∙◌}
use mathlib.Core.List.{List}
use Prim.Native.Nat.{ℕ, ◌/◌, ◌%◌}
use native.Mathlib.Omega.{arith}
use lib.ListN.{length}
use Rattle.lists.specs.Sum.{sum_below}
use Rattle.tuple.specs.Words.{tuple_words, tuples_words}
use Rattle.tuple.proofs.Words.{tuples-length, words_same_lem, words-then}
use Rattle.keccak.specs.Tuples.{NUM-TUPLES, pointer_tuple, core_tuple}
use Rattle.keccak.proofs.Tuples.{ecall-length, addr-length, sent-length, received-length, align-length, bytes-length, lane-length}
use Rattle.keccak_interactions.specs.Words.{NUM-WORDS}

-- the 50 tuples of the pointers, two values and one by turns
pointers : (row : List ℕ) → sum_below 50 (λ i. length (tuple_words (pointer_tuple row (i / 2) (i % 2)))) ≡ 275
unfolding sum_below pointer_tuple tuple_words
pointers row = omega arith

pub words-length : (nr syscall : ℕ) (row : List ℕ) → length (tuples_words (core_tuple nr syscall row) NUM-TUPLES) ≡ NUM-WORDS
unfolding core_tuple
words-length nr syscall row =
    tuples-length (core_tuple nr syscall row) 84
    ∙ words-then 1 83 _ _ (words_same_lem 1 4 _ (λ i. sym (ecall-length row syscall)))
    (words-then 1 82 _ _ (words_same_lem 1 24 _ (λ i. sym (addr-length row)))
    (words-then 1 81 _ _ (words_same_lem 1 203 _ (λ i. sym (sent-length row nr)))
    (words-then 1 80 _ _ (words_same_lem 1 203 _ (λ i. sym (received-length row)))
    (words-then 50 30 _ _ (pointers row)
    (words-then 1 29 _ _ (words_same_lem 1 4 _ (λ i. sym (align-length row)))
    (words-then 4 25 _ _ (words_same_lem 4 2 _ (λ i. sym (bytes-length row i)))
    (words_same_lem 25 24 _ (λ i. sym (lane-length row i)))))))))
