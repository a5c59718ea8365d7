-- "From counters and ledgers all zero, with only charges through registers writing and fewer than p lookups in all, each kind's counters add
-- up to that kind's sums over the ledgers."
--     counters-grow, ledgers-grow   what a charge adds to a kind's counters and to its sums, where neither passes p
--     add-up                        counters and ledgers that add up still do, whatever calls follow
--     zero-adds-up                  from zero
use mathlib.Core.List.{List, [], ◌∷◌}
use mathlib.Core.Option.{Option, none, some}
use mathlib.Core.Path.{◌≡◌, refl, sym, ap, subst, ◌∙◌}
use Prim.Native.Nat.{ℕ, ◌+◌, ◌*◌, ◌<◌}
use native.Mathlib.Nat.{mod-eq_of_lt}
use native.Mathlib.Omega.{arith}
use lib.ListN.{length}
use Rattle.lists.specs.Tab.{word}
use Rattle.lists.specs.Sum.{sum_below}
use Rattle.lists.proofs.Sum.{sum_same, sum-hit, sum-zero, sum_both, sum-grown}
use Rattle.field.specs.Field.{p}
use Rattle.answer.specs.declared.Refusal.{Refusal}
use Rattle.bitwise.specs.Columns.{NUM-ROWS}
use Rattle.bitwise.specs.Charge.{charged_counters, charged_kind}
use Rattle.bitwise.proofs.Charged.{charged-at}
use Rattle.registers.specs.Registers.{in_use, charged_ledgers}
use Rattle.registers.specs.History.{Charge, Call, plain, through, State, refusal_of, step_after, history_after, lookups_of, unless_refused, lookups_in, counter_sum, ledger_sum, Zero, OnlyThrough}
use Rattle.registers.proofs.Ledgers.{in-use-is, ledgers-length, charged-own, charged-other}
use Rattle.registers.proofs.Steps.{added_by, step-refused, step-counters, through-ledgers, step-used}

-- what the counters of all kinds add up to
abbrev total : State → ℕ
total s = sum_below 10 (counter_sum s)

abbrev Even : State → Type 0
Even s = (k : ℕ) → k < 10 → counter_sum s k ≡ ledger_sum s k

-- ---- a charge by which no word passes p
module _ (s : State) (f : ℕ → ℕ) (few : total s + sum_below 10 (charged_kind f) < p) where
  -- what a kind has and gets
  kind-few : (k : ℕ) → k < 10 → counter_sum s k + charged_kind f k < p
  kind-few k l = omega (arith, few, sum-hit 10 (counter_sum s) k l, sum-hit 10 (charged_kind f) k l)

  pub counters-grow : (k : ℕ) → k < 10 → sum_below NUM-ROWS (λ r. word (charged_counters s.counters f) (r * 10 + k)) ≡ counter_sum s k + charged_kind f k
  unfolding counter_sum charged_kind
  counters-grow k l =
      sum_same NUM-ROWS (λ r. word (charged_counters s.counters f) (r * 10 + k)) (λ r. word s.counters (r * 10 + k) + f (r * 10 + k))
      (λ r b.
      charged-at s.counters f (r * 10 + k) (omega arith)
      ∙ mod-eq_of_lt (omega (arith, kind-few k l, sum-hit NUM-ROWS (λ r. word s.counters (r * 10 + k)) r b, sum-hit NUM-ROWS (λ r. f (r * 10 + k)) r b)))
      ∙ sum_both NUM-ROWS (λ r. word s.counters (r * 10 + k)) (λ r. f (r * 10 + k))

  pub ledgers-grow : Even s → (q : ℕ) → q < in_use (length s.ledgers) → (k : ℕ) → k < 10
      → sum_below (in_use (length (charged_ledgers q s.ledgers f))) (λ r. word (charged_ledgers q s.ledgers f) (r * 10 + k)) ≡ ledger_sum s k + charged_kind f k
  unfolding ledger_sum
  ledgers-grow even q used k l =
      ap (λ (n : ℕ). sum_below (in_use n) (λ r. word (charged_ledgers q s.ledgers f) (r * 10 + k))) (ledgers-length q s.ledgers f)
      ∙ sum-grown (in_use (length s.ledgers)) q (charged_kind f k) (λ r. word s.ledgers (r * 10 + k)) (λ r. word (charged_ledgers q s.ledgers f) (r * 10 + k)) used
      (charged-own q s.ledgers f ((in-use-is (length s.ledgers) q).0 used).0 k l
      ∙ mod-eq_of_lt (omega (arith, kind-few k l, even k l, sum-hit (in_use (length s.ledgers)) (λ r. word s.ledgers (r * 10 + k)) q used)))
      (λ r b d. charged-other q s.ledgers f (r * 10 + k) (λ e. d (omega (arith, l, e))))

-- ---- an accepted call
module _ (s : State) (q : ℕ) (x : Charge) (ok : refusal_of s (through q x) ≡ none) (few : total s + lookups_of x < p) where
  abbrev after : State
  after = step_after s (through q x)

  counter-sum : (k : ℕ) → k < 10 → counter_sum after k ≡ counter_sum s k + charged_kind (added_by x) k
  unfolding counter_sum lookups_of
  counter-sum k l =
      ap (λ (c : List ℕ). sum_below NUM-ROWS (λ r. word c (r * 10 + k))) (step-counters s (through q x) ok)
      ∙ counters-grow s (added_by x) few k l

  ledger-sum : Even s → (k : ℕ) → k < 10 → ledger_sum after k ≡ ledger_sum s k + charged_kind (added_by x) k
  unfolding ledger_sum lookups_of
  ledger-sum even k l =
      ap (λ (c : List ℕ). sum_below (in_use (length c)) (λ r. word c (r * 10 + k))) (through-ledgers s q x ok)
      ∙ ledgers-grow s (added_by x) few even q (step-used s q x ok) k l

  still-even : Even s → Even after
  still-even even k l = counter-sum k l ∙ ap (λ (n : ℕ). n + charged_kind (added_by x) k) (even k l) ∙ sym (ledger-sum even k l)

  total-after : total after ≡ total s + lookups_of x
  unfolding lookups_of
  total-after =
      sum_same 10 (counter_sum after) (λ k. counter_sum s k + charged_kind (added_by x) k) counter-sum
      ∙ sum_both 10 (counter_sum s) (charged_kind (added_by x))

-- ---- histories
pub add-up : (h : List Call) (s : State) → OnlyThrough h → Even s → total s + lookups_in s h < p → Even (history_after s h)
unfolding history_after lookups_in
add-up [] s only even few = even
add-up (plain x ∷ xs) s only even few = absurd only
add-up (through q x ∷ xs) s only even few = go (refusal_of s (through q x)) refl (add-up xs (step_after s (through q x)) only)
  where
    go : (o : Option Refusal) → refusal_of s (through q x) ≡ o
        → (Even (step_after s (through q x)) → total (step_after s (through q x)) + lookups_in (step_after s (through q x)) xs < p → Even (history_after (step_after s (through q x)) xs))
        → Even (history_after (step_after s (through q x)) xs)
    go none e rest =
        let n : lookups_of x + lookups_in (step_after s (through q x)) xs ≡ unless_refused (refusal_of s (through q x)) (lookups_of x) + lookups_in (step_after s (through q x)) xs
        = ap (λ (o : Option Refusal). unless_refused o (lookups_of x) + lookups_in (step_after s (through q x)) xs) (sym e) in
        let b : total s + lookups_of x < p = omega (arith, few, n) in
        rest (still-even s q x e b even) (omega (arith, few, n, total-after s q x e b))
    go (some r) e rest =
        let a = step-refused s (through q x) e in
        let n : 0 + lookups_in (step_after s (through q x)) xs ≡ unless_refused (refusal_of s (through q x)) (lookups_of x) + lookups_in (step_after s (through q x)) xs
        = ap (λ (o : Option Refusal). unless_refused o (lookups_of x) + lookups_in (step_after s (through q x)) xs) (sym e) in
        rest (subst Even (sym a) even) (omega (arith, few, n, ap total a))

-- ---- from zero
module _ (s : State) (zero-start : Zero s) where
  no-counts : (k : ℕ) → k < 10 → counter_sum s k ≡ 0
  unfolding counter_sum
  no-counts k l = sum-zero NUM-ROWS (λ r. word s.counters (r * 10 + k)) (λ r b. zero-start.no-counts (r * 10 + k) (omega arith))

  no-sums : (k : ℕ) → k < 10 → ledger_sum s k ≡ 0
  unfolding ledger_sum
  no-sums k l = sum-zero (in_use (length s.ledgers)) (λ r. word s.ledgers (r * 10 + k)) (λ r b. zero-start.no-sums (r * 10 + k) (omega arith))

  pub zero-adds-up : (h : List Call) → OnlyThrough h → lookups_in s h < p → (k : ℕ) → k < 10 → counter_sum (history_after s h) k ≡ ledger_sum (history_after s h) k
  zero-adds-up h only few =
      add-up h s only (λ k l. no-counts k l ∙ sym (no-sums k l)) (omega (arith, few, sum-zero 10 (counter_sum s) no-counts))
