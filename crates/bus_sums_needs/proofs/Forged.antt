-- Why the bus IsB20 is among the buses whose sums must agree: with any MU below p, six rows of an IS_WH table receive the
-- pair (p - 5, 0) once and no other pair, and all that they send on IsHalfword with a number of 2^16 or more cancels. So
-- the sums of IsWh and IsHalfword alone let a pair pass that is no 32-bit word. A seventh row receives the pair (2^32 - 5, 0)
-- 24 times; ForgedSegment.antt has the core row that sends these 25 pairs.
use mathlib.Core.Bool.{Bool, true, false}
use mathlib.Core.List.{List, [], ◌∷◌}
use mathlib.Core.Path.{◌≡◌, refl, sym, ap, ap₂, ◌∙◌}
use Prim.Native.Nat.{ℕ, ◌+◌, ◌-◌, ◌%◌, ◌^◌, ◌≤◌, ◌<◌}
use native.Mathlib.Omega.{arith}
use Rattle.lists.specs.Tab.{word, pick, tab, tab_from, row_at}
use Rattle.lists.specs.Sum.{sum_below}
use Rattle.lists.specs.Select.{words_test}
use Rattle.lists.proofs.Sum.{sum-place}
use Rattle.lists.proofs.Tests.{not-true, T_of}
use Rattle.lists.proofs.Select.{words-sound}
use Rattle.field.specs.Field.{p}
use Rattle.tuple.specs.Tuple.{Tuple, sender, receiver, bus_number}
use Rattle.tuple.specs.declared.Bus.TheVariants.{IsHalfword, IsWh}
use Rattle.tuple.specs.declared.Side.TheVariants.{Sender, Receiver}
use Rattle.is_wh.specs.Found.{IsWhFound}
use Rattle.is_wh.specs.Tuples.{is_wh_tuple}
use Rattle.is_wh.proofs.Tuples.{mu-sent, half-sent, pair-received}
use Rattle.verdict.specs.Kind.{rows, row}
use Rattle.bus_sums.specs.Sums.{share, shares, is_wh_layout, is_wh_kind, tuple_at, table_share}
use Rattle.bus_sums.proofs.Shares.{share-none}
use Rattle.bus_sums.proofs.Rows.{sides-differ, pair-early}
use Rattle.bus_sums_needs.specs.Forged.{forged}

pub forged-rows : rows is_wh_layout forged ≡ 7
forged-rows = refl

-- it is no pair of a word and a half
pub not_found : IsWhFound ((p - 5) ∷ 0 ∷ []) → ⊥
unfolding IsWhFound
not_found f = omega (arith, f.1)

-- ---- a row receives its pair
row-received : (v x : List ℕ) (w h m : ℕ) → is_wh_tuple x 4 ≡ receiver IsWh m (w ∷ h ∷ []) → sum_below 5 (λ j. share Receiver IsWh v (is_wh_tuple x j)) ≡ pick (words_test v (w ∷ h ∷ [])) m 0
unfolding share
row-received v x w h m e =
    sum-place 5 4 (λ j. share Receiver IsWh v (is_wh_tuple x j)) (omega arith)
    (λ j g n. share-none Receiver IsWh v (is_wh_tuple x j) (λ o. sides-differ (o.side ∙ pair-early x j (omega arith))))
    ∙ ap (share Receiver IsWh v) e

pub forged-received : (v : List ℕ) → table_share Receiver IsWh v is_wh_kind forged % p ≡ (pick (words_test v ((p - 5) ∷ 0 ∷ [])) 1 0 + pick (words_test v ((2 ^ 32 - 5) ∷ 0 ∷ [])) 24 0) % p
unfolding shares tuple_at sum_below row_at tab tab_from
forged-received v =
    ap₂ (λ (a b : ℕ). (a + b) % p)
    (ap₂ ◌+◌ (ap₂ ◌+◌ (ap₂ ◌+◌ (ap₂ ◌+◌ (ap₂ ◌+◌ (ap (λ (n : ℕ). 0 + n)
    (row-received v (row is_wh_layout forged 0) (p - 5) 0 1 (pair-received (row is_wh_layout forged 0) 4 (omega arith))))
    (row-received v (row is_wh_layout forged 1) 0 0 (p - 1) (pair-received (row is_wh_layout forged 1) 4 (omega arith))))
    (row-received v (row is_wh_layout forged 2) 5 0 1 (pair-received (row is_wh_layout forged 2) 4 (omega arith))))
    (row-received v (row is_wh_layout forged 3) 0 0 (p - 1) (pair-received (row is_wh_layout forged 3) 4 (omega arith))))
    (row-received v (row is_wh_layout forged 4) 0 0 2 (pair-received (row is_wh_layout forged 4) 4 (omega arith))))
    (row-received v (row is_wh_layout forged 5) 5 0 (p - 1) (pair-received (row is_wh_layout forged 5) 4 (omega arith))))
    (row-received v (row is_wh_layout forged 6) (2 ^ 32 - 5) 0 24 (pair-received (row is_wh_layout forged 6) 4 (omega arith)))
    ∙ cases (words_test v ((p - 5) ∷ 0 ∷ [])) (words_test v (0 ∷ 0 ∷ [])) (words_test v (5 ∷ 0 ∷ [])) (words_test v ((2 ^ 32 - 5) ∷ 0 ∷ []))
  where
    cases : (a b c d : Bool) →
        (0 + pick a 1 0 + pick b (p - 1) 0 + pick c 1 0 + pick b (p - 1) 0 + pick b 2 0 + pick c (p - 1) 0 + pick d 24 0) % p ≡ (pick a 1 0 + pick d 24 0) % p
    cases true true true true = refl
    cases true true true false = refl
    cases true true false true = refl
    cases true true false false = refl
    cases true false true true = refl
    cases true false true false = refl
    cases true false false true = refl
    cases true false false false = refl
    cases false true true true = refl
    cases false true true false = refl
    cases false true false true = refl
    cases false true false false = refl
    cases false false true true = refl
    cases false false true false = refl
    cases false false false true = refl
    cases false false false false = refl

-- ---- a row sends its three numbers
sent-share : (n y m : ℕ) → share Sender IsHalfword (n ∷ []) (sender IsHalfword m (y ∷ [])) ≡ pick (words_test (n ∷ []) (y ∷ [])) m 0
unfolding share
sent-share n y m = refl

abbrev three : (ℕ → Bool) → ℕ → ℕ → ℕ → ℕ → ℕ
three t a b c m = pick (t a) m 0 + pick (t b) m 0 + pick (t c) m 0

unfoldable is : ℕ → ℕ → Bool
is n y = words_test (n ∷ []) (y ∷ [])

row-sent : (n a b c m : ℕ) → sum_below 5 (λ j. share Sender IsHalfword (n ∷ []) (is_wh_tuple (a ∷ b ∷ c ∷ m ∷ []) j)) ≡ three (is n) a b c m
unfolding sum_below is
row-sent n a b c m = omega (arith, s₀, s₁, s₂, s₃, s₄)
  where
    x : List ℕ
    x = a ∷ b ∷ c ∷ m ∷ []

    s₀ : share Sender IsHalfword (n ∷ []) (is_wh_tuple x 0) ≡ 0
    s₀ = share-none Sender IsHalfword (n ∷ []) (is_wh_tuple x 0) (λ o. let e : 2 ≡ 11 = ap bus_number (o.bus ∙ ap (λ (t : Tuple). t.bus) (mu-sent x 0 refl)) in omega arith)

    s₁ : share Sender IsHalfword (n ∷ []) (is_wh_tuple x 1) ≡ pick (words_test (n ∷ []) (a ∷ [])) m 0
    s₁ = ap (share Sender IsHalfword (n ∷ [])) (half-sent x 1 (omega arith) (omega arith)) ∙ sent-share n a m

    s₂ : share Sender IsHalfword (n ∷ []) (is_wh_tuple x 2) ≡ pick (words_test (n ∷ []) (b ∷ [])) m 0
    s₂ = ap (share Sender IsHalfword (n ∷ [])) (half-sent x 2 (omega arith) (omega arith)) ∙ sent-share n b m

    s₃ : share Sender IsHalfword (n ∷ []) (is_wh_tuple x 3) ≡ pick (words_test (n ∷ []) (c ∷ [])) m 0
    s₃ = ap (share Sender IsHalfword (n ∷ [])) (half-sent x 3 (omega arith) (omega arith)) ∙ sent-share n c m

    s₄ : share Sender IsHalfword (n ∷ []) (is_wh_tuple x 4) ≡ 0
    s₄ = share-none Sender IsHalfword (n ∷ []) (is_wh_tuple x 4) (λ o. sides-differ (sym (o.side ∙ ap (λ (t : Tuple). t.side) (pair-received x 4 (omega arith)))))

not-small : (n y : ℕ) → 65536 ≤ n → y < 65536 → is n y ≡ false
unfolding is
not-small n y l g = not-true (words_test (n ∷ []) (y ∷ [])) (λ e. let q : n ∷ [] ≡ y ∷ [] = words-sound (n ∷ []) (y ∷ []) (T_of _ e) in let r : n ≡ y = ap (λ (l : List ℕ). word l 0) q in omega arith)

pub forged-sent : (n : ℕ) → 65536 ≤ n → table_share Sender IsHalfword (n ∷ []) is_wh_kind forged % p ≡ 0
unfolding shares tuple_at sum_below row_at tab tab_from
forged-sent n l =
    ap₂ (λ (a b : ℕ). (a + b) % p)
    (ap₂ ◌+◌ (ap₂ ◌+◌ (ap₂ ◌+◌ (ap₂ ◌+◌ (ap₂ ◌+◌ (ap (λ (k : ℕ). 0 + k)
    (row-sent n 0 131072 1407374883225598 1))
    (row-sent n 0 131072 (p - 2) (p - 1)))
    (row-sent n 0 131077 (p - 2) 1))
    (row-sent n 0 131077 1407374883225598 (p - 1)))
    (row-sent n 0 0 0 2))
    (row-sent n 0 5 0 (p - 1)))
    (row-sent n 0 65531 65535 24)
    ∙ (λ t. sent (not-small n 0 l (omega arith) t) (not-small n 5 l (omega arith) t) (not-small n 65531 l (omega arith) t) (not-small n 65535 l (omega arith) t)
    (is n 131072) (is n 1407374883225598) (is n (p - 2)) (is n 131077))
    ∙ cases (is n 131072) (is n 1407374883225598) (is n (p - 2)) (is n 131077)
  where
    -- what the seven rows send, whether n is 0, 5, 65531, 65535, and a, b, c, d, the four numbers of 2^16 or more
    sent : (z f g h a b c d : Bool) → ℕ
    sent z f g h a b c d =
        (0 + (pick z 1 0 + pick a 1 0 + pick b 1 0) + (pick z (p - 1) 0 + pick a (p - 1) 0 + pick c (p - 1) 0) + (pick z 1 0 + pick d 1 0 + pick c 1 0)
        + (pick z (p - 1) 0 + pick d (p - 1) 0 + pick b (p - 1) 0) + (pick z 2 0 + pick z 2 0 + pick z 2 0) + (pick z (p - 1) 0 + pick f (p - 1) 0 + pick z (p - 1) 0)
        + (pick z 24 0 + pick g 24 0 + pick h 24 0)) % p

    cases : (a b c d : Bool) → sent false false false false a b c d ≡ 0
    cases true true true true = refl
    cases true true true false = refl
    cases true true false true = refl
    cases true true false false = refl
    cases true false true true = refl
    cases true false true false = refl
    cases true false false true = refl
    cases true false false false = refl
    cases false true true true = refl
    cases false true true false = refl
    cases false true false true = refl
    cases false true false false = refl
    cases false false true true = refl
    cases false false true false = refl
    cases false false false true = refl
    cases false false false false = refl
