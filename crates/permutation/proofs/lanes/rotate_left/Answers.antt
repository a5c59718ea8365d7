-- `rotate_left` meets its contract: the two parts share no bit, so their bits together are their sum.
use mathlib.Core.Path.{◌≡◌, sym, ap, ap₂, ◌∙◌, subst}
use Prim.Native.Nat.{ℕ, ◌+◌, ◌-◌, ◌*◌, ◌/◌, ◌%◌, ◌^◌, ◌<◌}
use native.Mathlib.Nat.{add-zero, mul-one, mod-eq_of_lt, div-eq_of_lt, div-one}
use native.Mathlib.Omega.{arith}
use lib.Bits.{bit_or, or_self, or_shifted}
use lib.Pow.{shr_lt}
use Rattle.lists.proofs.Then.{by_le}
use Rattle.bits.specs.Bits.{rot}
use Rattle.bits.proofs.BitLaws.{shifted}
use Rattle.permutation.proofs.lanes.rotate_left.Goals as goal

unrotated : (n : ℕ) → n < 2 ^ 64 → bit_or (n * 1 % 2 ^ 64) (n / 1) ≡ n * 1 % 2 ^ 64 + n / 2 ^ 64
unrotated n h =
    let low : n * 1 % 2 ^ 64 ≡ n = ap (λ (m : ℕ). m % 2 ^ 64) (mul-one n) ∙ mod-eq_of_lt h in
    ap₂ bit_or low (div-one n) ∙ or_self n ∙ sym (ap₂ ◌+◌ low (div-eq_of_lt h) ∙ add-zero n)

rotated : (n k : ℕ) → 0 < k → k < 64 → n < 2 ^ 64 → bit_or (n * 2 ^ k % 2 ^ 64) (n / 2 ^ ((64 - k) % 64)) ≡ n * 2 ^ k % 2 ^ 64 + n / 2 ^ (64 - k)
rotated n k pos h l =
    let up : 64 ≡ 64 - k + k = omega arith in
    let down : 64 ≡ k + (64 - k) = omega arith in
    let back : (64 - k) % 64 ≡ 64 - k = omega arith in
    let high : n * 2 ^ k % 2 ^ 64 ≡ n % 2 ^ (64 - k) * 2 ^ k = ap (λ (w : ℕ). n * 2 ^ k % 2 ^ w) up ∙ shifted n k (64 - k) in
    let low : n / 2 ^ (64 - k) < 2 ^ k = shr_lt k (64 - k) (subst (λ (w : ℕ). n < 2 ^ w) down l) in
    ap₂ bit_or high (ap (λ (w : ℕ). n / 2 ^ w) back)
    ∙ or_shifted (n % 2 ^ (64 - k)) k (n / 2 ^ (64 - k)) low
    ∙ ap (λ (m : ℕ). m + n / 2 ^ (64 - k)) (sym high)

joined : (n k : ℕ) → k < 64 → n < 2 ^ 64 → bit_or (n * 2 ^ k % 2 ^ 64) (n / 2 ^ ((64 - k) % 64)) ≡ n * 2 ^ k % 2 ^ 64 + n / 2 ^ (64 - k)
joined n k h l =
    by_le k 0
    (λ z. let e : 0 ≡ k = omega arith in
    subst (λ (k : ℕ). bit_or (n * 2 ^ k % 2 ^ 64) (n / 2 ^ ((64 - k) % 64)) ≡ n * 2 ^ k % 2 ^ 64 + n / 2 ^ (64 - k)) e (unrotated n l))
    (λ pos. rotated n k pos h l)

pub returns : goal.returns
unfolding rot
returns c = joined c.args.lane c.args.k c.requires (omega arith)
