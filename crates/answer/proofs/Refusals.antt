-- The checks that most calls share: each passes exactly where its condition does not hold, and else refuses with its
-- detail, whatever the later checks say.
use Prim.Native.Nat.{ℕ, ◌+◌, ◌-◌, ◌^◌, ◌≤◌, ◌<◌}
use mathlib.Core.Path.{◌≡◌, refl, sym, ap, ◌∙◌}
use mathlib.Core.Bool.{Bool, true, false, not}
use mathlib.Core.Logic.{◌↔◌}
use mathlib.Core.Option.{Option, some}
use native.Mathlib.Omega.{arith}
use borrow.Author.Tests.{leb-false, ltb-false, eqb-false, le-leb, lt-leb, lt-ltb, le-ltb, eq-eqb, ne_eqb}
use lib.Dec.{eqb}
use lib.Pow.{pow_mono}
use Rattle.lists.specs.Failure.{Separates}
use Rattle.lists.proofs.Decides.{decides_eq}
use Rattle.lists.proofs.Failure.{separates-any, separates-yes}
use Rattle.lists.proofs.Then.{by_le}
use Rattle.answer.specs.Limits.{MAX-OPS, MAX-ROUNDS}
use Rattle.answer.specs.Refusal.{accepted, answer_of, past_end, over_limit, too_short, not_rounds, is_floor, not_floor, PowerFloor, count_refusal}
use Rattle.answer.specs.declared.Refusal.{Refusal}
use Rattle.answer.specs.declared.Refusal.TheVariants.{PastEnd, TooShort, Rounds, Floor}
use Rattle.answer.proofs.Laws.{refuse-yes, refuse-no, passed-if, still-if, none_told_lem, is-refused, is-done}
use Rattle.std.specs.Prelude.{Result, Ok, Err, ⊤}

module _ (limit i : ℕ) where
  pub index-accepted : (past_end limit i accepted ≡ accepted) ↔ (i < limit)
  index-accepted = ((λ e. leb-false limit i (passed-if _ _ _ e).0), λ h. refuse-no _ (lt-leb limit i h) refl)

  pub index-refused : (later : Option Refusal) → limit ≤ i → past_end limit i later ≡ some (PastEnd limit)
  index-refused later h = refuse-yes _ later (le-leb limit i h)

module _ (room needed : ℕ) where
  pub room-accepted : (too_short room needed accepted ≡ accepted) ↔ (needed ≤ room)
  room-accepted = ((λ e. ltb-false room needed (passed-if _ _ _ e).0), λ h. refuse-no _ (le-ltb room needed h) refl)

  pub room-refused : (later : Option Refusal) → room < needed → too_short room needed later ≡ some (TooShort needed)
  room-refused later h = refuse-yes _ later (lt-ltb room needed h)

module _ (n : ℕ) where
  pub count-accepted : (count_refusal n ≡ accepted) ↔ (n ≤ MAX-OPS)
  unfolding count_refusal
  count-accepted = ((λ e. ltb-false MAX-OPS n (passed-if _ _ _ e).0), λ h. refuse-no _ (le-ltb MAX-OPS n h) refl)

  pub count-refused : (later : Option Refusal) → MAX-OPS < n → over_limit n later ≡ some (PastEnd 89478486)
  count-refused later h = refuse-yes _ later (lt-ltb MAX-OPS n h)

-- a number of rounds from 1 to 24 passes, and the later checks decide; 0 and those above 24 are refused
module _ (nr : ℕ) where
  pub rounds-passed : (later : Option Refusal) → not_rounds nr later ≡ accepted → (1 ≤ nr) × (nr ≤ MAX-ROUNDS) × (later ≡ accepted)
  rounds-passed later e =
      let a = passed-if _ _ _ e in
      let b = passed-if _ _ _ a.1 in
      let n : nr ≡ 0 → ⊥ = eqb-false nr 0 a.0 in
      (omega (arith, n), ltb-false MAX-ROUNDS nr b.0, b.1)

  pub rounds-later : (later : Option Refusal) → 1 ≤ nr → nr ≤ MAX-ROUNDS → not_rounds nr later ≡ later
  rounds-later later l h = refuse-no _ (ne_eqb nr 0 (λ e. omega (arith, e, l))) (refuse-no _ (le-ltb MAX-ROUNDS nr h) refl)

  pub rounds-accepted : (not_rounds nr accepted ≡ accepted) ↔ ((1 ≤ nr) × (nr ≤ MAX-ROUNDS))
  rounds-accepted = ((λ e. let h = rounds-passed accepted e in (h.0, h.1)), λ h. rounds-later accepted h.0 h.1)

  -- the check made by itself: where it refuses, the call does, whatever is checked later
  pub rounds-still : {r : Refusal} (later : Option Refusal) → not_rounds nr accepted ≡ some r → not_rounds nr later ≡ some r
  rounds-still later = still-if _ _ (still-if _ _ (λ e. absurd (none_told_lem e)))

  pub many-rounds-refused : (later : Option Refusal) → MAX-ROUNDS < nr → not_rounds nr later ≡ some (Rounds nr)
  many-rounds-refused later h = refuse-no _ (ne_eqb nr 0 (λ e. omega (arith, e, h))) (refuse-yes _ later (lt-ltb MAX-ROUNDS nr h))

pub no-rounds-refused : (later : Option Refusal) → not_rounds 0 later ≡ some (Rounds 0)
no-rounds-refused later = refuse-yes _ _ refl

-- one or the other: in range, or refused whatever the later checks say
pub by-rounds : {P : Type 0} (nr : ℕ) → (1 ≤ nr → nr ≤ MAX-ROUNDS → P) → (((later : Option Refusal) → not_rounds nr later ≡ some (Rounds nr)) → P) → P
by-rounds nr in-range out =
    by_le 1 nr
    (λ l. by_le nr MAX-ROUNDS (in-range l) (λ h. out (λ later. many-rounds-refused nr later h)))
    (λ l. out (λ later. refuse-yes _ _ (eq-eqb nr 0 (omega (arith, l)))))

-- a power of two from 4 to 65,536 passes, and the later checks decide; any other floor is refused
module _ (floor : ℕ) where
  -- the exponents from 2 on
  power-from : (e : ℕ) × (e < 15) × (floor ≡ 2 ^ (2 + e)) → PowerFloor floor
  power-from x = (2 + x.0, omega arith, omega (arith, x.1), x.2)

  power_at : PowerFloor floor → (e : ℕ) × (e < 15) × (floor ≡ 2 ^ (2 + e))
  power_at h =
      let k : h.0 ≡ 2 + (h.0 - 2) = omega (arith, h.1) in
      (h.0 - 2, omega (arith, h.2), h.3 ∙ ap (λ (n : ℕ). 2 ^ n) k)

  found : Separates (is_floor floor) ((e : ℕ) × (e < 15) × (floor ≡ 2 ^ (2 + e))) ((e : ℕ) → e < 15 → floor ≡ 2 ^ (2 + e) → ⊥)
  unfolding is_floor
  found = separates-any (λ e. eqb floor (2 ^ (2 + e))) 15 (λ e l. separates-yes (eqb floor (2 ^ (2 + e))) (decides_eq floor (2 ^ (2 + e))))

  pub floor-passed : (later : Option Refusal) → not_floor floor later ≡ accepted → PowerFloor floor × (later ≡ accepted)
  floor-passed later e =
      let a = passed-if _ _ _ e in
      (power-from (found.fails (not-false (is_floor floor) a.0)), a.1)
    where
      not-false : (b : Bool) → not b ≡ false → b ≡ true
      not-false true q = refl
      not-false false q = cc

  pub floor-later : (later : Option Refusal) → PowerFloor floor → not_floor floor later ≡ later
  floor-later later h = refuse-no _ (ap not (found.is_true (power_at h))) refl

  pub floor-accepted : (not_floor floor accepted ≡ accepted) ↔ PowerFloor floor
  floor-accepted = ((λ e. (floor-passed accepted e).0), floor-later accepted)

  pub floor-refused : (later : Option Refusal) → (PowerFloor floor → ⊥) → not_floor floor later ≡ some (Floor floor)
  floor-refused later h = refuse-yes _ later (ap not (found.is_false (λ e l q. h (power-from (e, l, q)))))

  -- what the function that makes this check says of the call that makes it before the others
  module _ {a : Result ⊤ Refusal} (told : a ≡ answer_of (not_floor floor accepted)) where
    pub floor-stops : {r : Refusal} (later : Option Refusal) → a ≡ Err r → not_floor floor later ≡ some r
    floor-stops later e = still-if _ _ (λ q. absurd (none_told_lem q)) (is-refused (not_floor floor accepted) (sym e ∙ told))

    pub floor-goes-on : a ≡ Ok tt → PowerFloor floor
    floor-goes-on e = floor-accepted.0 (is-done (not_floor floor accepted) (sym e ∙ told))

  pub floor-least : PowerFloor floor → 4 ≤ floor
  floor-least h = omega (arith, h.3, pow_mono {i = 2} {j = h.0} h.1)

  pub floor-most : PowerFloor floor → floor ≤ 65536
  floor-most h = omega (arith, h.3, pow_mono {i = h.0} {j = 16} h.2)

-- both: 8, then 9, then the later checks
module _ (nr floor : ℕ) where
  pub both_later : (later : Option Refusal) → (1 ≤ nr) × (nr ≤ MAX-ROUNDS) × PowerFloor floor → not_rounds nr (not_floor floor later) ≡ later
  both_later later h = rounds-later nr _ h.0 h.1 ∙ floor-later floor later h.2

  pub both-passed : (later : Option Refusal) → not_rounds nr (not_floor floor later) ≡ accepted → ((1 ≤ nr) × (nr ≤ MAX-ROUNDS) × PowerFloor floor) × (later ≡ accepted)
  both-passed later e =
      let a = rounds-passed nr _ e in
      let b = floor-passed floor later a.2 in
      ((a.0, a.1, b.0), b.1)

  module _ {a : Result ⊤ Refusal} (told : a ≡ answer_of (not_rounds nr (not_floor floor accepted))) where
    pub both-stop : {r : Refusal} (later : Option Refusal) → a ≡ Err r → not_rounds nr (not_floor floor later) ≡ some r
    both-stop later e =
        still-if _ _ (still-if _ _ (still-if _ _ (λ q. absurd (none_told_lem q)))) (is-refused (not_rounds nr (not_floor floor accepted)) (sym e ∙ told))

    pub both-go-on : a ≡ Ok tt → (1 ≤ nr) × (nr ≤ MAX-ROUNDS) × PowerFloor floor
    both-go-on e = (both-passed accepted (is-done (not_rounds nr (not_floor floor accepted)) (sym e ∙ told))).0
