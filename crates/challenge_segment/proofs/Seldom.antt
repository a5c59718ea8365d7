-- A segment in the field of p^3 elements, all of them drawn from: where a tuple's sums do not agree, at most one pair in 2^157 passes; in that
-- of p^2 elements one in 2^93.
use mathlib.Core.List.{List, []}
use mathlib.Core.Path.{refl}
use Prim.Native.Nat.{ℕ, ◌*◌, ◌^◌, ◌≤◌}
use native.Mathlib.Bridge.{le_by_compare, IsLe}
use native.Mathlib.Omega.{arith}
use Rattle.field.specs.Field.{p}
use Rattle.tuple.specs.declared.Bus.{Bus}
use Rattle.verdict.specs.Kind.{rows, Elements}
use Rattle.verdict.specs.CoreAndRound.{core_kind, round_kind, core_layout, round_layout}
use Rattle.bus_sums.specs.Sums.{Fillings, Constrained, Agree, Ours, nobody, is_wh_layout}
use Rattle.challenge.specs.Check.{passing, total}
use Rattle.challenge_field.proofs.Field.{cubic-words, elements, elements-distinct, elements-length, quadratic-words, pairs, pairs-distinct, pairs-length}
use Rattle.challenge_sums.specs.Entries.{all_entries}
use Rattle.challenge_sums.proofs.Receipt.{alone, seldom-of, seldom-segment}
use Rattle.challenge_sums.proofs.Totals.{length-all}

module _ (nr : ℕ) (core round : List ℕ) (w : Fillings)
    (core-constrained : Constrained (core_kind nr) core) (round-constrained : Constrained round_kind round) (is-wh-below : Elements w.is-wh) where
  pub cubic-seldom : rows core_layout core ≤ 8192 → rows round_layout round ≤ 131072 → rows is_wh_layout w.is-wh ≤ 262144 →
      (b : Bus) → Ours b → (v : List ℕ) → ¬ Agree nr core round w nobody b v →
      passing cubic-words (all_entries nr core round w []) elements elements * 2 ^ 157 ≤ p * p * p * (p * p * p)
  unfolding total
  cubic-seldom lc lr lw b o v h =
      seldom-segment cubic-words nr core round w [] alone.0 203 core-constrained round-constrained (omega arith) is-wh-below alone.1
      lc lr lw refl refl elements elements elements-distinct elements-distinct elements-length elements-length b o v h

  pub quadratic-seldom : rows core_layout core ≤ 8192 → rows round_layout round ≤ 131072 → rows is_wh_layout w.is-wh ≤ 262144 →
      (b : Bus) → Ours b → (v : List ℕ) → ¬ Agree nr core round w nobody b v →
      passing quadratic-words (all_entries nr core round w []) pairs pairs * 2 ^ 93 ≤ p * p * (p * p)
  unfolding total IsLe
  quadratic-seldom lc lr lw b o v h =
      seldom-of quadratic-words nr core round w [] alone.0 203 core-constrained round-constrained (omega arith) is-wh-below alone.1
      147619872 (p * p) (2 ^ 93) (omega (arith, length-all nr core round w [])) (le_by_compare (147619872 * 204 * 2 ^ 93) (p * p) tt)
      pairs pairs pairs-distinct pairs-distinct pairs-length pairs-length b o v h
