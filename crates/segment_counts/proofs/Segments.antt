-- The counters after both tables: the operations' core rows, their round rows, and the padding rows at once.
use mathlib.Core.Bool.{Bool, true, false, not, ◌&&◌}
use mathlib.Core.List.{List, []}
use mathlib.Core.Logic.{◌⊎◌, inl, inr}
use mathlib.Core.Path.{◌≡◌, refl, sym, ap, ap₂, subst, ◌∙◌}
use Prim.Native.Nat.{ℕ, ◌+◌, ◌-◌, ◌*◌, ◌/◌, ◌%◌, ◌^◌, ◌≤◌}
use native.Mathlib.Nat.{add_assoc, zero-add, zero-mul}
use native.Mathlib.Omega.{arith}
use borrow.Author.Tests.{eq-eqb, ne_eqb}
use lib.Dec.{eqb}
use lib.ListN.{length}
use Rattle.lists.specs.Tab.{pick}
use Rattle.lists.specs.Sum.{sum_below}
use Rattle.answer.specs.Limits.{MAX-OPS}
use Rattle.answer.specs.Refusal.{PowerFloor}
use Rattle.bitwise.specs.Columns.{NUM-COUNTERS}
use Rattle.bitwise.specs.Counters.{charge}
use Rattle.bitwise.specs.Charge.{charged, charged_counters}
use Rattle.bitwise.proofs.Charge.{Added, added-same, added-one, added-all, charged-added}
use Rattle.bitwise.proofs.Charged.{added-again}
use Rattle.keccak.specs.Height.{height}
use Rattle.keccak.specs.Row.{op_at, core_row}
use Rattle.keccak.specs.Refusals.{op_count}
use Rattle.keccak.specs.Tuples.{core_tuple}
use Rattle.keccak.proofs.Height.{height-ge, height-le}
use Rattle.keccak_rnd.specs.Row.{op_row, round_height}
use Rattle.keccak_rnd.specs.Tuples.{round_tuple}
use Rattle.keccak_rnd.proofs.Rows.{few-rows}
use Rattle.segment_counts.specs.Segment.{sent_rows, segment_charged, list_charged}
use Rattle.segment_counts.proofs.Sums.{empty-sent, no_rows}
use Rattle.segment_counts.proofs.Orders.{sent-ge}
use Rattle.segment_counts.proofs.Padding.{core-rows, round-rows}

pub rounds-sent : (nr floor : ℕ) (shipped : Bool) (n : ℕ) → n * nr ≤ sent_rows shipped n (round_height nr floor n)
rounds-sent nr floor shipped n = sent-ge shipped n (n * nr) (round_height nr floor n) (λ e. ap (λ (k : ℕ). k * nr) e ∙ zero-mul nr) (height-ge floor (n * nr))

pub sent-le : (shipped : Bool) (n h : ℕ) → sent_rows shipped n h ≤ h
unfolding sent_rows
sent-le shipped n h = go (eqb n 0 && not shipped)
  where
    go : (t : Bool) → pick t 0 h ≤ h
    go true = omega arith
    go false = omega arith

-- how many they can be
pub sent-most : (nr floor : ℕ) (shipped : Bool) (n : ℕ) → nr ≤ 24 → floor ≤ 65536 → n ≤ MAX-OPS → sent_rows shipped n (round_height nr floor n) ≤ 65537 + 2 ^ 32
sent-most nr floor shipped n h low few = omega (arith, sent-le shipped n (round_height nr floor n), height-le floor (n * nr), low, few-rows nr n h few)

-- as code decides it
pub none-sent : (shipped : Bool) (n h : ℕ) → n ≡ 0 → shipped ≡ false → 0 ≡ sent_rows shipped n h
unfolding sent_rows
none-sent shipped n h e f = sym (ap₂ (λ (s t : Bool). pick (s && not t) 0 h) (eq-eqb n 0 e) f)

pub all-sent : (shipped : Bool) (n h : ℕ) → (n ≡ 0 → ⊥) ⊎ (shipped ≡ true) → h ≡ sent_rows shipped n h
unfolding sent_rows
all-sent shipped n h (inl d) = sym (ap (λ (s : Bool). pick (s && not shipped) 0 h) (ne_eqb n 0 d))
all-sent shipped n h (inr e) = sym (ap (λ (t : Bool). pick (eqb n 0 && not t) 0 h) e ∙ go (eqb n 0))
  where
    go : (s : Bool) → pick (s && false) 0 h ≡ h
    go true = refl
    go false = refl

module _ (nr floor : ℕ) (shipped : Bool) (ops : List ℕ) where
  abbrev n : ℕ
  n = op_count ops

  abbrev core_adds : ℕ → ℕ
  core_adds = charged n 84 (λ r. core_tuple nr 0 (core_row (op_at ops r)))

  abbrev round_adds : ℕ → ℕ
  round_adds = charged (n * nr) 1031 (λ q. round_tuple (op_row nr (op_at ops (q / nr)) (q % nr)))

  abbrev padding : ℕ
  padding = 220 * (sent_rows shipped n (round_height nr floor n) - n * nr)

  list-adds : (c : ℕ) → list_charged nr floor shipped ops c ≡ core_adds c + round_adds c + pick (eqb c 3) padding 0
  unfolding segment_charged
  list-adds c =
      ap₂ ◌+◌
      (core-rows nr 0 c n (sent_rows shipped n (height floor n)) (op_at ops) (sent-ge shipped n n (height floor n) (λ e. e) (height-ge floor n)))
      (round-rows c nr n (sent_rows shipped n (round_height nr floor n)) (op_at ops) (rounds-sent nr floor shipped n))
      ∙ sym (add_assoc (core_adds c) (round_adds c) (pick (eqb c 3) padding 0))

  pub segment-all : (C₀ : List ℕ) (C₁ C₂ C₃ : List ℕ) (s : ℕ) → NUM-COUNTERS ≤ length C₀ → C₁ ≡ charged_counters C₀ core_adds → C₂ ≡ charged_counters C₁ round_adds
      → s ≡ sent_rows shipped n (round_height nr floor n) → C₃ ≡ charge C₂ 3 (220 * (s - n * nr)) → C₃ ≡ charged_counters C₀ (list_charged nr floor shipped ops)
  unfolding charge
  segment-all C₀ C₁ C₂ C₃ s long e₁ e₂ es e₃ =
      let a₁ : Added C₀ core_adds C₁ = subst (Added C₀ core_adds) (sym e₁) (charged-added C₀ core_adds long) in
      let b₂ : Added C₁ round_adds C₂ = subst (Added C₁ round_adds) (sym e₂) (charged-added C₁ round_adds (subst (λ (k : ℕ). NUM-COUNTERS ≤ k) (sym a₁.long) long)) in
      let a₂ : Added C₀ (λ c. core_adds c + round_adds c) C₂ = added-again a₁ b₂ in
      let F : ℕ → ℕ → ℕ = λ m c. core_adds c + round_adds c + pick (eqb c 3) (220 * (m - n * nr)) 0 in
      let a₃ : Added C₀ (F s) C₃ = subst (Added C₀ (F s)) (sym e₃) (added-one a₂ 3 (220 * (s - n * nr)) long (omega arith)) in
      let a₄ : Added C₀ (F (sent_rows shipped n (round_height nr floor n))) C₃ = subst (λ (m : ℕ). Added C₀ (F m) C₃) es a₃ in
      added-all (added-same a₄ (λ c _. sym (list-adds c))) long

-- "An empty list charges none, in shipped mode 880 AreBytes": those of 0 and 0, so that one counter grows
pub empty-counter : (nr floor : ℕ) → PowerFloor floor → (c : ℕ) → list_charged nr floor true [] c ≡ pick (eqb c 3) (220 * floor) 0
unfolding charged sum_below
empty-counter nr floor power c =
    let rounds : ℕ → ℕ = λ m. charged m 1031 (λ q. round_tuple (op_row nr (op_at [] (q / nr)) (q % nr))) c in
    let e : sent_rows true 0 (height floor 0) - 0 ≡ floor = omega (arith, (empty-sent (height floor 0)).0, no_rows floor power) in
    list-adds nr floor true [] c
    ∙ ap (λ (m : ℕ). 0 + rounds m + pick (eqb c 3) (220 * (sent_rows true 0 (height floor m) - m)) 0) (zero-mul nr)
    ∙ ap (λ (h : ℕ). 0 + 0 + pick (eqb c 3) (220 * h) 0) e
    ∙ zero-add (pick (eqb c 3) (220 * floor) 0)
