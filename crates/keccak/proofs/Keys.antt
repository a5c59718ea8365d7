-- The words of the keys by their place in the flat list.
use Prim.Native.Nat.{ℕ, ◌+◌, ◌*◌, ◌/◌, ◌%◌, ◌<◌}
use mathlib.Core.Path.{◌≡◌, ◌∙◌}
use native.Mathlib.Omega.{arith}
use lib.ListN.{length, get_or}
use Rattle.lists.proofs.Laws.{length-tab, get_d-tab}
use Rattle.lists.proofs.Then.{at-two, at-three}
use Rattle.is_wh.specs.Key.{of-dword}
use Rattle.keccak.specs.Row.{is-wh-key, is-wh-keys, key_word, key_words, pointer_key}
use Rattle.keccak.specs.declared.KeccakOperation.{KeccakOperation}

-- word j of the key of pointer i
pub pointer-key : (a i j : ℕ) → j < 2 → pointer_key a (2 * i + j) ≡ key_word (of-dword (a + 8 * i)) j
unfolding pointer_key
pointer-key a i j h =
    let q : (2 * i + j) / 2 ≡ i = omega arith in
    let r : (2 * i + j) % 2 ≡ j = omega arith in
    at-two (λ (x y : ℕ). key_word (of-dword (a + 8 * x)) y) q r

-- word j of the keys of operation i
pub operation-key : (op : ℕ → KeccakOperation) (i j : ℕ) → j < 50
    → key_word (is-wh-keys op ((i * 50 + j) / 2)) ((i * 50 + j) % 2) ≡ pointer_key (op i).state_addr j
unfolding is-wh-keys pointer_key
operation-key op i j h =
    let q : (i * 50 + j) / 2 / 25 ≡ i = omega arith in
    let l : (i * 50 + j) / 2 % 25 ≡ j / 2 = omega arith in
    let r : (i * 50 + j) % 2 ≡ j % 2 = omega arith in
    at-three (λ (x y z : ℕ). key_word (is-wh-key (op x) y) z) q l r

pub length-keys : (n : ℕ) (op : ℕ → KeccakOperation) → length (key_words n op) ≡ n * 50
unfolding key_words
length-keys n op = length-tab (n * 50) (λ k. key_word (is-wh-keys op (k / 2)) (k % 2))

-- of each key the word comes first, then the half
pub word_first : (n : ℕ) (op : ℕ → KeccakOperation) (k : ℕ) → k < n * 25 → get_or (key_words n op) (2 * k) 0 ≡ (is-wh-keys op k).word
unfolding key_words
word_first n op k h =
    let q : 2 * k / 2 ≡ k = omega arith in
    let r : 2 * k % 2 ≡ 0 = omega arith in
    get_d-tab (n * 50) _ (2 * k) 0 (omega arith) ∙ at-two (λ (x y : ℕ). key_word (is-wh-keys op x) y) q r

pub half-second : (n : ℕ) (op : ℕ → KeccakOperation) (k : ℕ) → k < n * 25 → get_or (key_words n op) (2 * k + 1) 0 ≡ (is-wh-keys op k).half
unfolding key_words
half-second n op k h =
    let q : (2 * k + 1) / 2 ≡ k = omega arith in
    let r : (2 * k + 1) % 2 ≡ 1 = omega arith in
    get_d-tab (n * 50) _ (2 * k + 1) 0 (omega arith) ∙ at-two (λ (x y : ℕ). key_word (is-wh-keys op x) y) q r
