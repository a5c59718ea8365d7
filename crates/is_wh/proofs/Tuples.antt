-- What each tuple of an IS_WH row and of IS_WHH is: bus, side, multiplicity and values, by column numbers. And that they meet: what IS_WHH sends for a
-- 64-bit value is what the row of its key receives.
use mathlib.Core.Path.{◌≡◌, refl, sym, ap, ◌∙◌}
use mathlib.Core.List.{List, [], ◌∷◌}
use Prim.Native.Nat.{ℕ, zero, suc, ◌+◌, ◌-◌, ◌≤◌, ◌<◌}
use native.Mathlib.Omega.{arith}
use lib.ListN.{length}
use Rattle.lists.specs.Tab.{word}
use Rattle.lists.proofs.Then.{then-lt, then-past}
use Rattle.field.specs.Field.{fadd, fmul}
use Rattle.tuple.specs.Tuple.{Tuple}
use Rattle.tuple.specs.declared.Bus.TheVariants.{IsWh, IsHalfword, IsB20}
use Rattle.tuple.specs.declared.Side.TheVariants.{Sender, Receiver}
use Rattle.is_wh.specs.Tuples.{is_wh_tuple, is-whh}

module _ (row : List ℕ) where
  -- 0: MU has 20 bits, once
  pub mu-sent : (i : ℕ) → i ≡ 0 → is_wh_tuple row i ≡ record { bus = IsB20; side = Sender; multiplicity = 1; values = word row 3 ∷ [] }
  unfolding is_wh_tuple
  mu-sent i e = ap (is_wh_tuple row) e ∙ then-lt 1 0 _ _ (omega arith)

  -- 1 to 3: columns 0 to 2 are halfwords, MU times
  pub half-sent : (i : ℕ) → 0 < i → i < 4 → is_wh_tuple row i ≡ record { bus = IsHalfword; side = Sender; multiplicity = word row 3; values = word row (i - 1) ∷ [] }
  unfolding is_wh_tuple
  half-sent i l h = then-past 1 i _ _ l ∙ then-lt 3 (i - 1) _ _ (omega arith)

  -- 4: the pair is received, MU times
  pub pair-received : (i : ℕ) → 4 ≤ i
      → is_wh_tuple row i ≡ record { bus = IsWh; side = Receiver; multiplicity = word row 3; values = fadd (word row 1) (fmul 65536 (word row 2)) ∷ word row 0 ∷ [] }
  unfolding is_wh_tuple
  pair-received i h = then-past 1 i _ _ (omega arith) ∙ then-past 3 (i - 1) _ _ (omega arith)

  module _ (k cond : ℕ) where
    -- IS_WHH, 0: the word and the middle half are sent as a pair
    pub pair-sent : (i : ℕ) → i ≡ 0 → is-whh row k cond i ≡ record { bus = IsWh; side = Sender; multiplicity = cond; values = word row (k + 2) ∷ word row (k + 1) ∷ [] }
    pair-sent i e = ap (is-whh row k cond) e

    -- 1: the low half is sent as a halfword
    pub low-sent : (i : ℕ) → (i ≡ 0 → ⊥) → is-whh row k cond i ≡ record { bus = IsHalfword; side = Sender; multiplicity = cond; values = word row k ∷ [] }
    low-sent zero n = absurd (n refl)
    low-sent (suc i) n = refl

  -- how many values
  pub one_value : (i : ℕ) → i < 4 → 1 ≡ length (is_wh_tuple row i).values
  one_value zero h = ap (λ (t : Tuple). length t.values) (sym (mu-sent zero refl))
  one_value (suc i) h = ap (λ (t : Tuple). length t.values) (sym (half-sent (suc i) (omega arith) h))

  pub two-values : (i : ℕ) → 4 ≤ i → 2 ≡ length (is_wh_tuple row i).values
  two-values i h = ap (λ (t : Tuple). length t.values) (sym (pair-received i h))
