-- THE THEOREM: from the one sum of a prover to the sums of every bus.
--     seldom-of         where the sums of a bus do not agree, at most one pair of challenges in c passes
--     seldom            that is one in 2^137 for a field of p^3 elements, within the bounds of SumsHold
--     seldom-segment    and one in 2^157 for a segment
--     alone             there may be no other tables
--     agrees            where the check passes at more pairs of challenges than the bound, the sums of a bus agree
--     challenge-sums    and with the constraints SumsHold
--     challenge-computed    so where timestamps differ every active core row is computed, at its addresses
-- n is the number of entries (`length-all`), K the most values that a tuple has: 203 in these tables.
use mathlib.Core.List.{List, [], ◌∷◌}
use mathlib.Core.Path.{◌≡◌, refl, sym, ap, ◌∙◌}
use Prim.Native.Nat.{ℕ, suc, ◌+◌, ◌*◌, ◌%◌, ◌^◌, ◌≤◌, ◌<◌, suc-le-suc}
use native.Mathlib.Bridge.{le_by_compare, IsLe}
use native.Mathlib.Nat.{add-zero, le_trans, mul-le-mul_left, mul-le-mul_right}
use native.Mathlib.Omega.{arith}
use lib.ListN.{length, get_or}
use Rattle.field.specs.Field.{p}
use Rattle.tuple.specs.Tuple.{bus_number}
use Rattle.tuple.specs.declared.Bus.{Bus}
use Rattle.tuple.specs.declared.Bus.TheVariants.{ByteAlu, AreBytes, IsHalfword, IsWh, KeccakRc, Keccak, Memw}
use Rattle.tuple.specs.declared.Bus.TheVariants.{Ecall, Msb8, Msb16, Zero, IsB20, Hwsl}
use Rattle.tuple.specs.declared.Side.TheVariants.{Sender, Receiver}
use Rattle.verdict.specs.Kind.{rows, Elements, DistinctTimestamps}
use Rattle.verdict.specs.Claims.{EachActive, Addressed, Computed}
use Rattle.verdict.specs.CoreAndRound.{core_kind, round_kind, core_layout, round_layout}
use Rattle.bus_sums.specs.Sums.{Fillings, Constrained, SumsHold, Agree, Ours, bus_total, is_wh_layout, MAX-PAIRS}
use Rattle.bus_sums.proofs.Receipt.{sums-computed}
use Rattle.challenge.specs.Domain.{Domain}
use Rattle.challenge.specs.Check.{Distinct, Entry, AllFit, passing, total}
use Rattle.challenge.proofs.Bound.{sums-agree, one_in}
use Rattle.challenge_sums.specs.Entries.{all_entries, bus_width, Others, sent_by, PassesOften}
use Rattle.challenge_sums.proofs.Totals.{total-all, length-all}
use Rattle.challenge_sums.proofs.Widths.{all_fit}

-- no other tables: what is supposed of them can be met
own_width : ℕ → ℕ
own_width n = get_or (4 ∷ 2 ∷ 1 ∷ 2 ∷ 9 ∷ 203 ∷ 24 ∷ 4 ∷ 2 ∷ 2 ∷ 2 ∷ 1 ∷ 4 ∷ []) n 0

own : (b : Bus) → own_width (bus_number b) ≡ bus_width b
unfolding own_width
own ByteAlu = refl
own AreBytes = refl
own IsHalfword = refl
own IsWh = refl
own KeccakRc = refl
own Keccak = refl
own Memw = refl
own Ecall = refl
own Msb8 = refl
own Msb16 = refl
own Zero = refl
own IsB20 = refl
own Hwsl = refl

pub alone : (width : ℕ → ℕ) × Others width 203 []
unfolding total
alone = (own_width, record { ours = own; long = omega arith; fit = tt; received = λ b o v. refl; few = λ b v. omega arith; not-keccak = λ v. refl })

module _ (D : Domain p) (nr : ℕ) (core round : List ℕ) (w : Fillings) (more : List Entry) (width : ℕ → ℕ) (K : ℕ)
    (core-constrained : Constrained (core_kind nr) core) (round-constrained : Constrained round_kind round)
    (few-pairs : rows is_wh_layout w.is-wh ≤ MAX-PAIRS) (is-wh-below : Elements w.is-wh) (others : Others width K more) where
  abbrev es : List Entry
  es = all_entries nr core round w more

  fit : AllFit p width K es
  fit = all_fit width K others.ours others.long nr core round w more core-constrained.below round-constrained.below is-wh-below others.fit

  agree : (b : Bus) → Ours b → (v : List ℕ) → total Sender (bus_number b ∷ v) es % p ≡ total Receiver (bus_number b ∷ v) es % p →
      Agree nr core round w (sent_by more) b v
  agree b o v e =
      ap (λ (m : ℕ). m % p) (sym (total-all Sender b v nr core round w more)) ∙ e
      ∙ ap (λ (m : ℕ). m % p)
      (total-all Receiver b v nr core round w more
      ∙ ap (λ (m : ℕ). bus_total nr core round w Receiver b v + m) (others.received b o v)
      ∙ add-zero (bus_total nr core round w Receiver b v))

  -- ---- where the sums do not agree
  -- of q α and q z at most one pair in c passes, where there are at most n entries and n·(K + 1)·c is at most q
  pub seldom-of : (n q c : ℕ) → length es ≤ n → n * suc K * c ≤ q → (A Z : List D.F) → Distinct A → Distinct Z → length A ≡ q → length Z ≡ q →
      (b : Bus) → Ours b → (v : List ℕ) → ¬ Agree nr core round w (sent_by more) b v → passing D es A Z * c ≤ q * q
  seldom-of n q c l k A Z dA dZ a z b o v h =
      one_in D width K es fit (bus_number b ∷ v) (λ e. h (agree b o v e)) A Z dA dZ q c a z
      (le_trans (mul-le-mul_right c (mul-le-mul_right (suc K) l)) k)

  -- of all challenges from a field of p^3 elements at most one pair in 2^137, if other tables have at most 2^44 tuples, of at most 255
  -- values
  few-entries : length more ≤ 2 ^ 44 → length es ≤ 2 ^ 46
  few-entries l = omega (arith, length-all nr core round w more, core-constrained.few, round-constrained.few, few-pairs)

  pub seldom : length more ≤ 2 ^ 44 → K ≤ 255 → (A Z : List D.F) → Distinct A → Distinct Z → length A ≡ p * p * p → length Z ≡ p * p * p →
      (b : Bus) → Ours b → (v : List ℕ) → ¬ Agree nr core round w (sent_by more) b v → passing D es A Z * 2 ^ 137 ≤ p * p * p * (p * p * p)
  unfolding IsLe
  seldom l k =
      seldom-of (2 ^ 46) (p * p * p) (2 ^ 137) (few-entries l)
      (le_trans (mul-le-mul_right (2 ^ 137) (mul-le-mul_left (2 ^ 46) (suc-le-suc k))) (le_by_compare (2 ^ 46 * 256 * 2 ^ 137) (p * p * p) tt))

  -- and for a segment of at most 131,072 round rows, 8,192 core rows and 262,144 IS_WH rows, alone: one pair in 2^157
  pub seldom-segment : rows core_layout core ≤ 8192 → rows round_layout round ≤ 131072 → rows is_wh_layout w.is-wh ≤ 262144 → length more ≡ 0 → K ≡ 203 →
      (A Z : List D.F) → Distinct A → Distinct Z → length A ≡ p * p * p → length Z ≡ p * p * p →
      (b : Bus) → Ours b → (v : List ℕ) → ¬ Agree nr core round w (sent_by more) b v → passing D es A Z * 2 ^ 157 ≤ p * p * p * (p * p * p)
  unfolding IsLe
  seldom-segment lc lr lw lm lk =
      seldom-of 147619872 (p * p * p) (2 ^ 157) (omega (arith, length-all nr core round w more))
      (rw lk (le_by_compare (147619872 * 204 * 2 ^ 157) (p * p * p) tt))

  -- ---- where the check passes often
  module _ (often : PassesOften D K es) where
    pub agrees : (b : Bus) → Ours b → (v : List ℕ) → Agree nr core round w (sent_by more) b v
    agrees b o v = agree b o v (sums-agree D width K es fit often.0 often.1 often.2 often.3 often.4 (bus_number b ∷ v))

    pub challenge-sums : SumsHold nr core round w (sent_by more)
    challenge-sums = record {
      core-constrained = core-constrained;
      round-constrained = round-constrained;
      few-pairs = few-pairs;
      few-others = others.few;
      no-others = others.not-keccak;
      agree = agrees;
    }

    pub challenge-computed : DistinctTimestamps core_layout core → 1 ≤ nr → nr ≤ 24 → EachActive (λ x. Computed nr x × Addressed x) core
    challenge-computed apart some most = sums-computed nr core round w (sent_by more) challenge-sums apart some most
