-- The words of a round row's tuples are 8,211: 4 × 1,031 and 4,087 values; 427 of them are those of the first three. The runs of
-- tuples on one bus, stored one behind the other.
use mathlib.Core.Path.{◌≡◌, refl, sym, ap, ◌∙◌}
use mathlib.Core.List.{List}
use Prim.Native.Nat.{ℕ, ◌+◌, ◌*◌, ◌/◌, ◌<◌}
use native.Mathlib.Nat.{zero-add}
use native.Mathlib.Omega.{arith}
use lib.ListN.{length}
use lib.Seq.{sets}
use Rattle.lists.specs.Sum.{sum_below}
use Rattle.lists.proofs.Sum.{sum_same, sum-const}
use Rattle.tuple.specs.Tuple.{Tuple}
use Rattle.tuple.specs.Words.{tuple_words, tuples_words}
use Rattle.tuple.proofs.Words.{tuple-length, tuples-length, words_same_lem, words-then, Listed, listed-none, listed-part, listed-all}
use Rattle.keccak.proofs.Reading.{keccak-length}
use Rattle.keccak_rnd.specs.Tuples.{NUM-TUPLES, round_received, round_sent, round_tuple}
use Rattle.keccak_rnd_operands.specs.Lanes.{alu_tuple}
use Rattle.keccak_rnd_operands.proofs.Groups.{front-run, middle-run, back-run, alu-size, left_is, rot-is}
use Rattle.keccak_rnd_byte_tuples.proofs.Places.{rot-sent}
use Rattle.keccak_rnd_tuples.proofs.Tuples.{rc-length}
use Rattle.keccak_rnd_interactions.specs.Words.{NUM-WORDS}

pub words-length : (row : List ℕ) → length (tuples_words (round_tuple row) NUM-TUPLES) ≡ NUM-WORDS
unfolding round_tuple round_received round_sent
words-length row =
    tuples-length (round_tuple row) 1031
    ∙ words-then 1 1030 _ _ (words_same_lem 1 203 _ (λ i. keccak-length _ _ _ _))
    (words-then 1 1029 _ _ (words_same_lem 1 203 _ (λ i. keccak-length _ _ _ _))
    (words-then 1 1028 _ _ (words_same_lem 1 9 _ (λ i. rc-length row))
    (words-then 40 988 _ _ (words_same_lem 40 4 _ (λ i. refl))
    (words-then 120 868 _ _ (words_same_lem 120 4 _ (λ i. refl))
    (words-then 20 848 _ _ (words_same_lem 20 2 _ (λ i. refl))
    (words-then 40 808 _ _ (words_same_lem 40 4 _ (λ i. refl))
    (words-then 200 608 _ _ (words_same_lem 200 4 _ (λ i. refl))
    (words-then 200 408 _ _ (words_same_lem 200 2 _ (λ i. refl))
    (words-then 200 208 _ _ (words_same_lem 200 4 _ (λ i. refl))
    (words-then 200 8 _ _ (words_same_lem 200 4 _ (λ i. refl))
    (words_same_lem 8 4 _ (λ i. refl))))))))))))

-- the first three
no_words : (f : ℕ → Tuple) → sum_below 0 (λ i. length (tuple_words (f i))) ≡ 0
unfolding sum_below
no_words f = refl

pub first-length : (row : List ℕ) → length (tuples_words (round_tuple row) 3) ≡ 427
unfolding round_tuple round_received round_sent
first-length row =
    tuples-length (round_tuple row) 3
    ∙ words-then 1 2 _ _ (words_same_lem 1 203 _ (λ i. keccak-length _ _ _ _))
    (words-then 1 1 _ _ (words_same_lem 1 203 _ (λ i. keccak-length _ _ _ _))
    (words-then 1 0 _ _ (words_same_lem 1 9 _ (λ i. rc-length row)) (no_words _)))

-- ---- one run behind the other
-- m tuples of c values each
run_length : (m c : ℕ) (t : ℕ → Tuple) → ((i : ℕ) → i < m → length (t i).values ≡ c) → length (tuples_words t m) ≡ m * (4 + c)
run_length m c t h =
    tuples-length t m
    ∙ sum_same m (λ i. length (tuple_words (t i))) (λ i. 4 + c) (λ i b. tuple-length (t i) ∙ ap (λ (k : ℕ). 4 + k) (h i b))
    ∙ sum-const m (4 + c)

module _ (row : List ℕ) where
  front_length : length (tuples_words (λ i. alu_tuple row (0 + i)) 160) ≡ 1280
  front_length = run_length 160 4 (λ i. alu_tuple row (0 + i)) (λ i b. alu-size row (0 + i))

  left-length : length (tuples_words (λ i. round_tuple row (163 + i)) 20) ≡ 120
  left-length = run_length 20 2 (λ i. round_tuple row (163 + i)) (λ i b. ap (λ (t : Tuple). length t.values) ((left_is i b).tuple row))

  middle-length : length (tuples_words (λ i. alu_tuple row (160 + i)) 240) ≡ 1920
  middle-length = run_length 240 4 (λ i. alu_tuple row (160 + i)) (λ i b. alu-size row (160 + i))

  rot-length : length (tuples_words (λ i. round_tuple row (423 + i)) 200) ≡ 1200
  rot-length =
      run_length 200 2 (λ i. round_tuple row (423 + i))
      (λ i b. let h : i / 8 < 25 = omega arith in ap (λ (t : Tuple). length t.values) (rot-sent row i (rot-is (i / 8) h)))

  back-length : length (tuples_words (λ i. alu_tuple row (400 + i)) 408) ≡ 3264
  back-length = run_length 408 4 (λ i. alu_tuple row (400 + i)) (λ i b. alu-size row (400 + i))

  pub all-stored : (l : List ℕ) {a b c d e f : List ℕ} → a ≡ sets l 0 (tuples_words (round_tuple row) 3)
      → b ≡ sets a 427 (tuples_words (λ i. alu_tuple row (0 + i)) 160)
      → c ≡ sets b 1707 (tuples_words (λ i. round_tuple row (163 + i)) 20)
      → d ≡ sets c 1827 (tuples_words (λ i. alu_tuple row (160 + i)) 240)
      → e ≡ sets d 3747 (tuples_words (λ i. round_tuple row (423 + i)) 200)
      → f ≡ sets e 4947 (tuples_words (λ i. alu_tuple row (400 + i)) 408)
      → f ≡ sets l 0 (tuples_words (round_tuple row) 1031)
  all-stored l {a} {b} {c} {d} {e} {f} o p q r s t = listed-all sixth (omega arith)
    where
      first : Listed l 0 (round_tuple row) 1031 a 3 427
      first = listed-part (listed-none l 0 (round_tuple row) 1031) 3 (round_tuple row) (omega arith) (λ k h. ap (round_tuple row) (zero-add k)) (sym (zero-add (length (tuples_words (round_tuple row) 3)) ∙ first-length row)) o

      second : Listed l 0 (round_tuple row) 1031 b 163 1707
      second = listed-part first 160 (λ i. alu_tuple row (0 + i)) (omega arith) (front-run row) (ap (λ (k : ℕ). 427 + k) (sym front_length)) p

      third : Listed l 0 (round_tuple row) 1031 c 183 1827
      third = listed-part second 20 (λ i. round_tuple row (163 + i)) (omega arith) (λ k h. refl) (ap (λ (k : ℕ). 1707 + k) (sym left-length)) q

      fourth : Listed l 0 (round_tuple row) 1031 d 423 3747
      fourth = listed-part third 240 (λ i. alu_tuple row (160 + i)) (omega arith) (middle-run row) (ap (λ (k : ℕ). 1827 + k) (sym middle-length)) r

      fifth : Listed l 0 (round_tuple row) 1031 e 623 4947
      fifth = listed-part fourth 200 (λ i. round_tuple row (423 + i)) (omega arith) (λ k h. refl) (ap (λ (k : ℕ). 3747 + k) (sym rot-length)) s

      sixth : Listed l 0 (round_tuple row) 1031 f 1031 8211
      sixth = listed-part fifth 408 (λ i. alu_tuple row (400 + i)) (omega arith) (λ k h. back-run row k) (ap (λ (k : ℕ). 4947 + k) (sym back-length)) t
