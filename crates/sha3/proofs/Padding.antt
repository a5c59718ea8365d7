-- A byte of the padded message, case by case; eight of them as a lane, the highest first; a lane of a block.
use mathlib.Core.Path.{◌≡◌, refl, sym, ap, ap₂, ◌∙◌, subst}
use mathlib.Core.Bool.{Bool, true, false}
use mathlib.Core.List.{List}
use Prim.Native.Nat.{ℕ, suc, ◌+◌, ◌-◌, ◌*◌, ◌/◌, ◌^◌, ◌≤◌, ◌<◌}
use native.Mathlib.Nat.{lt_of_lt_of_le}
use native.Mathlib.Numerals.{add-one}
use native.Mathlib.Omega.{arith}
use borrow.Author.Tests.{eq-eqb, ne_eqb, lt-ltb, le-ltb}
use lib.Arith.{digits_lt}
use lib.Dec.{eqb}
use lib.ListN.{length, get_or, get_or-eq_default}
use lib.Pow.{pow-add, pow_mono}
use Rattle.lists.specs.Tab.{pick}
use Rattle.bits.specs.Bits.{pack, lane_of}
use Rattle.sha3.specs.Sha3.{RATE, blocks, padded_byte, block_lane}

module _ (m : List ℕ) (k : ℕ) where
  by_tests : (v : ℕ) (a b : Bool) → get_or m k 0 ≡ v → eqb k (length m) ≡ a → eqb (k + 1) (RATE * blocks m) ≡ b
      → v + pick a 0x06 0 + pick b 0x80 0 ≡ padded_byte m k
  unfolding padded_byte
  by_tests v a b e p q = cc

  is_last : k ≡ length m / 136 * 136 + 135 → k + 1 ≡ RATE * blocks m
  is_last e = omega arith

  not_last : (k ≡ length m / 136 * 136 + 135 → ⊥) → k + 1 ≡ RATE * blocks m → ⊥
  not_last e q = e (back q)
    where
      back : k + 1 ≡ RATE * blocks m → k ≡ length m / 136 * 136 + 135
      back q = omega arith

  pub in-message : k < length m → get_or m k 0 ≡ padded_byte m k
  in-message h =
      let n : k ≡ length m → ⊥ = λ e. omega arith in
      let l : k + 1 ≡ RATE * blocks m → ⊥ = λ e. omega arith in
      let z : get_or m k 0 ≡ get_or m k 0 + 0 + 0 = omega arith in
      z ∙ by_tests (get_or m k 0) false false refl (ne_eqb _ _ n) (ne_eqb _ _ l)

  pub only-byte : k ≡ length m → k ≡ length m / 136 * 136 + 135 → 0x86 ≡ padded_byte m k
  only-byte n e = by_tests 0 true true (get_or-eq_default m 0 {n = k} (omega arith)) (eq-eqb _ _ n) (eq-eqb _ _ (is_last e))

  pub first_byte : k ≡ length m → (k ≡ length m / 136 * 136 + 135 → ⊥) → 0x06 ≡ padded_byte m k
  first_byte n e = by_tests 0 true false (get_or-eq_default m 0 {n = k} (omega arith)) (eq-eqb _ _ n) (ne_eqb _ _ (not_last e))

  pub last_byte : length m ≤ k → (k ≡ length m → ⊥) → k ≡ length m / 136 * 136 + 135 → 0x80 ≡ padded_byte m k
  last_byte h n e = by_tests 0 false true (get_or-eq_default m 0 {n = k} h) (ne_eqb _ _ n) (eq-eqb _ _ (is_last e))

  pub between : length m ≤ k → (k ≡ length m → ⊥) → (k ≡ length m / 136 * 136 + 135 → ⊥) → 0 ≡ padded_byte m k
  between h n e = by_tests 0 false false (get_or-eq_default m 0 {n = k} h) (ne_eqb _ _ n) (ne_eqb _ _ (not_last e))

-- the invariant of a loop that makes a lane: `lane` holds the n highest of the eight bytes f 0 to f 7
pub record Packed (f : ℕ → ℕ) (n lane : ℕ) : Type 0 where
  pub bound : n ≤ 8
  pub is : lane ≡ pack n (8 - n) f
  pub small : lane < 2 ^ (8 * n)

pub packed_none : (f : ℕ → ℕ) → Packed f 0 0
unfolding pack
packed_none f = record { bound = omega arith; is = refl; small = omega arith }

pub packed-small : {f : ℕ → ℕ} {n lane : ℕ} → Packed f n lane → n < 8 → lane < 2 ^ 56
packed-small {n} h l = lt_of_lt_of_le h.small (pow_mono {i = 8 * n} {j = 56} (omega arith))

pub packed_more : {f : ℕ → ℕ} {n lane : ℕ} (byte : ℕ) → Packed f n lane → n < 8 → byte ≡ f (7 - n) → byte < 256
    → Packed f (n + 1) (lane * 256 + byte)
unfolding pack
packed_more {f} {n} {lane} byte h l e b =
    let back : 8 - suc n ≡ 7 - n = omega arith in
    let next : 8 - n ≡ suc (7 - n) = omega arith in
    let wide : 8 * n + 8 ≡ 8 * (n + 1) = omega arith in
    record {
      bound = omega arith;
      is = ap₂ (λ (q r : ℕ). q * 256 + r) (h.is ∙ ap (λ (i : ℕ). pack n i f) next) e
          ∙ ap (λ (i : ℕ). pack (suc n) i f) (sym back)
          ∙ ap (λ (k : ℕ). pack k (8 - k) f) (sym (add-one n));
      small = subst (λ (w : ℕ). lane * 256 + byte < 2 ^ w) wide (rw (pow-add 2 (8 * n) 8) (digits_lt h.small b));
    }

pub packed_all : {f : ℕ → ℕ} {n lane : ℕ} → Packed f n lane → 8 ≤ n → lane ≡ lane_of f
packed_all {f} {n} h l =
    let all : n ≡ 8 = omega arith in
    h.is ∙ ap (λ (k : ℕ). pack k (8 - k) f) all

-- a lane of a block, below the capacity and in it
pub block-below : (m : List ℕ) (i j : ℕ) → j < 17 → lane_of (λ b. padded_byte m (RATE * i + 8 * j + b)) ≡ block_lane m i j
unfolding block_lane
block-below m i j h = ap (λ (t : Bool). pick t (lane_of (λ b. padded_byte m (RATE * i + 8 * j + b))) 0) (sym (lt-ltb j 17 h))

pub block-past : (m : List ℕ) (i j : ℕ) → 17 ≤ j → 0 ≡ block_lane m i j
unfolding block_lane
block-past m i j h = ap (λ (t : Bool). pick t (lane_of (λ b. padded_byte m (RATE * i + 8 * j + b))) 0) (sym (le-ltb j 17 h))
