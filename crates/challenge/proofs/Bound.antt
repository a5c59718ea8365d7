-- Where what is sent and what is received of a tuple differ mod p, few pairs of challenges pass.
--     few-collide    (1) its fingerprint is that of another tuple for at most n·K of distinct α
--     few-z          (2) for every other α the check passes at no more than n of distinct z
--     few-pass       so of the pairs, α from A and z from Z, at most n·K·|Z| + |A|·n pass
--     quotients-pass a sum of quotients that is 0 passes
--     one_in         with q α and q z at most one pair in c, where n·(K + 1)·c is at most q
--     sums-agree     where more pass, the sums of every tuple agree mod p
-- n is the number of tuples of all rows of all tables, K the most values that a tuple has.
use mathlib.Core.Path.{◌≡◌, refl, sym, ap, ◌∙◌}
use mathlib.Core.Bool.{Bool, true, false}
use mathlib.Core.List.{List, [], ◌∷◌, ◌++◌, map, map-append}
use Prim.Native.Nat.{ℕ, zero, suc, ◌+◌, ◌*◌, ◌%◌, ◌≤◌, ◌<◌}
use native.Mathlib.Nat.{mul-le-mul_right}
use native.Mathlib.Decide.{ℕ_discrete}
use native.Mathlib.Omega.{arith}
use lib.ListN.{length}
use Rattle.lists.specs.Select.{cons_if, selected}
use Rattle.tuple.specs.declared.Side.TheVariants.{Sender, Receiver}
use Rattle.challenge.specs.Domain.{Domain}
use Rattle.challenge.specs.Check.{All, Distinct, Entry, AllFit, TotalsAgree, Sum, fraction, fingerprint, joined, denominator, numerator, passes, passing, total}
use Rattle.challenge.proofs.Kept.{all_map, kept-few, kept_less, decided-true, is-decided}
use Rattle.challenge.proofs.Ring.{no_difference, times_none}
use Rattle.challenge.proofs.Fractions.{sum-numerator, few-zeros}
use Rattle.challenge.proofs.Collisions.{collides_with_one, few-collisions, map-length}
use Rattle.challenge.proofs.Gathered.{gathered-is, present}

map-joined : {X Y : Type 0} (f : X → Y) (xss : List (List X)) → map f (joined xss) ≡ joined (map (map f) xss)
unfolding joined
map-joined f [] = refl
map-joined {Y} f (xs ∷ xss) = map-append f xs (joined xss) ∙ ap (λ (l : List Y). map f xs ++ l) (map-joined f xss)

module _ {p : ℕ} (D : Domain p) where
  open D use {F, none, same, number, number-once}

  pub quotients-pass : (gs : List (List Entry)) (α z : F) → Sum D z (map (map (fraction D α)) gs) none → passes D (joined gs) α z ≡ true
  unfolding passes
  quotients-pass gs α z h =
      is-decided (same (numerator D z (map (fraction D α) (joined gs))) none)
      (ap (numerator D z) (map-joined (fraction D α) gs)
      ∙ sum-numerator D z none (map (map (fraction D α)) gs) h
      ∙ times_none D (denominator D z (joined (map (map (fraction D α)) gs))))

  -- (2)
  pub few-z : (es : List Entry) (ws : List ℕ) → ¬ (total Sender ws es % p ≡ total Receiver ws es % p) →
      (α : F) → collides_with_one D ws es α ≡ false →
      (zs : List F) → Distinct zs → All (λ z. passes D es α z ≡ true) zs → length zs ≤ length es
  unfolding passes
  few-z es ws n α c zs d h =
      rw (← map-length (fraction D α) es)
      (few-zeros D (fingerprint D α ws) (map (fraction D α) es)
      (λ e. n (number-once _ _ (no_difference D (number (total Sender ws es)) (number (total Receiver ws es)) (sym (gathered-is D ws α es c) ∙ e))))
      zs d (all_map (λ z e. decided-true (same (numerator D z (map (fraction D α) es)) none) e) zs h))

  -- pairs, by the number of α that collide
  pairs : (es : List Entry) (ws : List ℕ) → ¬ (total Sender ws es % p ≡ total Receiver ws es % p) →
      (A Z : List F) → Distinct Z →
      passing D es A Z ≤ length (selected (collides_with_one D ws es) A) * length Z + length A * length es
  unfolding passing selected
  pairs es ws n [] Z d = omega arith
  pairs es ws n (α ∷ A) Z d = go (collides_with_one D ws es α) refl (pairs es ws n A Z d)
    where
      k : ℕ
      k = length (selected (collides_with_one D ws es) A)

      go : (c : Bool) → collides_with_one D ws es α ≡ c → passing D es A Z ≤ k * length Z + length A * length es →
          length (selected (passes D es α) Z) + passing D es A Z
          ≤ length (cons_if c α (selected (collides_with_one D ws es) A)) * length Z + suc (length A) * length es
      go true e l = omega (arith, kept_less (passes D es α) Z)
      go false e l = omega (arith, kept-few (passes D es α) (length es) (few-z es ws n α e) Z d)

  module _ (width : ℕ → ℕ) (K : ℕ) (es : List Entry) (fit : AllFit p width K es) where
    -- (1)
    pub few-collide : (ws : List ℕ) → ¬ (total Sender ws es % p ≡ total Receiver ws es % p) →
        (A : List F) → Distinct A → length (selected (collides_with_one D ws es) A) ≤ length es * K
    few-collide ws n A d = few-collisions D width K ws (present p width K ws es fit n) es fit A d

    pub few-pass : (ws : List ℕ) → ¬ (total Sender ws es % p ≡ total Receiver ws es % p) →
        (A Z : List F) → Distinct A → Distinct Z → passing D es A Z ≤ length es * K * length Z + length A * length es
    few-pass ws n A Z dA dZ =
        omega (arith, pairs es ws n A Z dZ, mul-le-mul_right (length Z) (few-collide ws n A dA))

    -- of q α and q z: at most one pair in c, where n·(K + 1)·c is at most q
    pub one_in : (ws : List ℕ) → ¬ (total Sender ws es % p ≡ total Receiver ws es % p) →
        (A Z : List F) → Distinct A → Distinct Z → (q c : ℕ) → length A ≡ q → length Z ≡ q → length es * suc K * c ≤ q →
        passing D es A Z * c ≤ q * q
    one_in ws n A Z dA dZ q c a b l = square (passing D es A Z) (length es) q c (counted (few-pass ws n A Z dA dZ)) l
      where
        counted : passing D es A Z ≤ length es * K * length Z + length A * length es → passing D es A Z ≤ length es * K * q + q * length es
        counted h = rw (a, b) at h

        square : (m n q c : ℕ) → m ≤ n * K * q + q * n → n * suc K * c ≤ q → m * c ≤ q * q
        square m n q c h l = omega (arith, mul-le-mul_right c h, mul-le-mul_right q l)

    pub sums-agree : (A Z : List F) → Distinct A → Distinct Z → length es * K * length Z + length A * length es < passing D es A Z →
        TotalsAgree p es
    sums-agree A Z dA dZ l ws = go (ℕ_discrete (total Sender ws es % p) (total Receiver ws es % p))
      where
        go : Dec (total Sender ws es % p ≡ total Receiver ws es % p) → total Sender ws es % p ≡ total Receiver ws es % p
        go (yes e) = e
        go (no n) = absurd (omega (arith, few-pass ws n A Z dA dZ, l))
