-- When `charge` and `look` are accepted, and their refusals with their details.
--     charge-accepted, look-accepted     exactly where none of the conditions holds
--     charge-no-rounds, charge-many-rounds, look-no-rounds, look-many-rounds   8 first of all, with the number of rounds
--     charge-floor, look-floor           then 9, with the floor
--     charge-as-before, look-as-before   floor 4 refuses nothing more than there was
--     charge-list, charge-counter        then a charge is refused as every call that takes a list, and then by the first counter that is
--                                        p or more
--     look-long, look-rooms              a look that answers so many words is refused as a charge exactly where copy and out are long enough
--     look-refused                       so where they are, a look is refused exactly as a charge
--     copy-short, out-short              and else by 3, the copy before the answer
use mathlib.Core.Bool.{not}
use mathlib.Core.List.{List}
use mathlib.Core.Logic.{◌↔◌}
use mathlib.Core.Option.{Option, some}
use mathlib.Core.Path.{◌≡◌, refl, sym, ap, ◌∙◌}
use Prim.Native.Nat.{ℕ, ◌%◌, ◌≤◌, ◌<◌}
use borrow.Author.Tests.{ltb-false, lt-ltb, le-ltb, eqb-true, eq-eqb, not-false}
use lib.ListN.{length}
use Rattle.field.specs.Elements.{first_not_element, ElementRow}
use Rattle.field.proofs.NotElement.{all-elements, none_found}
use Rattle.answer.specs.Limits.{MAX-OPS, MAX-ROUNDS}
use Rattle.answer.specs.Refusal.{accepted, refuse_at, too_short, not_rounds, not_floor, PowerFloor}
use Rattle.answer.specs.declared.Refusal.{Refusal}
use Rattle.answer.specs.declared.Refusal.TheVariants.{TooShort, NotElement, Rounds, Floor}
use Rattle.answer.proofs.Laws.{refuse-yes, refuse-no, at-yes, at-no, passed-if, passed-at, still-if}
use Rattle.answer.proofs.Refusals.{rounds-later, many-rounds-refused, no-rounds-refused, floor-refused, both_later, both-passed}
use Rattle.bitwise.specs.Columns.{NUM-COUNTERS}
use Rattle.keccak.specs.Row.{OP-WORDS}
use Rattle.keccak.specs.Refusals.{op_count, too_many, not_whole, bad_operation, Acceptable, operations_refusal}
use Rattle.keccak.proofs.Refusals.{each-later, each-passed, each-still}
use Rattle.keccak.proofs.Room.{four-accepted}
use Rattle.segment_counts.specs.Segment.{LOOK-WORDS, segment_refusal, look_short, charge_refusal, look_refusal}

-- ---- a look that answers so many words
module _ (words : ℕ) (ops counters : List ℕ) (copy out : ℕ) where
  -- long enough slices are not told of
  pub look-long : NUM-COUNTERS ≤ copy → words ≤ out
      → segment_refusal (look_short words (length counters) copy out) ops counters ≡ segment_refusal (too_short (length counters) NUM-COUNTERS) ops counters
  look-long h g =
      ap (λ (later : Option Refusal). too_many ops (not_whole ops (too_short (length counters) NUM-COUNTERS later)))
      (refuse-no _ (le-ltb copy NUM-COUNTERS h) (refuse-no _ (le-ltb out words g) refl))

  pub look-rooms : segment_refusal (look_short words (length counters) copy out) ops counters ≡ accepted → (NUM-COUNTERS ≤ copy) × (words ≤ out)
  look-rooms e =
      let a = passed-if _ _ _ e in
      let b = passed-if _ _ _ a.1 in
      let c = passed-if _ _ _ b.1 in
      let d = passed-if _ _ _ c.1 in
      (ltb-false copy NUM-COUNTERS d.0, ltb-false out words (passed-if _ _ _ d.1).0)

module _ (nr floor : ℕ) (ops counters : List ℕ) where
  -- the checks of the list, and then those that follow
  list-passed : {later : Option Refusal} → Acceptable (length counters) NUM-COUNTERS ops
      → too_many ops (not_whole ops (too_short (length counters) NUM-COUNTERS (bad_operation ops later))) ≡ later
  list-passed h =
      refuse-no _ (le-ltb MAX-OPS (op_count ops) h.few)
      (refuse-no _ (ap not (eq-eqb (length ops % OP-WORDS) 0 h.whole))
      (refuse-no _ (le-ltb (length counters) NUM-COUNTERS h.long)
      (each-later ops h.low h.aligned h.segments refl)))

  pub charge-accepted : (charge_refusal nr floor ops counters ≡ accepted) ↔ ((1 ≤ nr) × (nr ≤ MAX-ROUNDS) × PowerFloor floor × Acceptable (length counters) NUM-COUNTERS ops × ElementRow NUM-COUNTERS counters)
  unfolding charge_refusal
  charge-accepted = (
    (λ e.
        let n = both-passed nr floor _ e in
        let a = passed-if _ _ _ n.1 in
        let b = passed-if _ _ _ a.1 in
        let c = passed-if _ _ _ b.1 in
        let d = each-passed ops _ c.1 in
        let f = passed-at _ _ _ d.3 in
        let long : NUM-COUNTERS ≤ length counters = ltb-false (length counters) NUM-COUNTERS c.0 in (
          n.0.0,
          n.0.1,
          n.0.2,
          record {
            few = ltb-false MAX-OPS (op_count ops) a.0;
            whole = eqb-true (length ops % OP-WORDS) 0 (not-false _ b.0);
            long = long;
            low = d.0;
            aligned = d.1;
            segments = d.2;
          },
          record { long = long; below = all-elements counters NUM-COUNTERS f.0 },
        )),
    λ h. both_later nr floor _ (h.0, h.1, h.2) ∙ list-passed h.3 ∙ at-no NotElement (none_found counters NUM-COUNTERS h.4.below) refl,
  )

  -- 8
  pub charge-many-rounds : MAX-ROUNDS < nr → charge_refusal nr floor ops counters ≡ some (Rounds nr)
  unfolding charge_refusal
  charge-many-rounds = many-rounds-refused nr _

  module _ (one : 1 ≤ nr) (most : nr ≤ MAX-ROUNDS) where
    -- 9
    pub charge-floor : (PowerFloor floor → ⊥) → charge_refusal nr floor ops counters ≡ some (Floor floor)
    unfolding charge_refusal
    charge-floor h = rounds-later nr _ one most ∙ floor-refused floor _ h

    module _ (power : PowerFloor floor) where
      -- 1, 2, 3, 4, 7 and 11
      pub charge-list : {r : Refusal} → operations_refusal (length counters) NUM-COUNTERS ops ≡ some r → charge_refusal nr floor ops counters ≡ some r
      unfolding charge_refusal operations_refusal
      charge-list e = both_later nr floor _ (one, most, power) ∙ still-if _ _ (still-if _ _ (still-if _ _ (each-still ops _))) e

      -- 5
      pub charge-counter : Acceptable (length counters) NUM-COUNTERS ops → (c : ℕ) → first_not_element counters NUM-COUNTERS ≡ some c → charge_refusal nr floor ops counters ≡ some (NotElement c)
      unfolding charge_refusal
      charge-counter h c e = both_later nr floor _ (one, most, power) ∙ list-passed h ∙ at-yes NotElement accepted e

  -- ---- the look
  module _ (copy out : ℕ) where
    pub look-refused : NUM-COUNTERS ≤ copy → LOOK-WORDS ≤ out → look_refusal nr floor ops counters copy out ≡ charge_refusal nr floor ops counters
    unfolding look_refusal charge_refusal
    look-refused h g = ap (λ (later : Option Refusal). not_rounds nr (not_floor floor later)) (look-long LOOK-WORDS ops counters copy out h g)

    pub look-accepted : (look_refusal nr floor ops counters copy out ≡ accepted) ↔ ((NUM-COUNTERS ≤ copy) × (LOOK-WORDS ≤ out) × (charge_refusal nr floor ops counters ≡ accepted))
    unfolding look_refusal
    look-accepted = (
      (λ e.
          let r = look-rooms LOOK-WORDS ops counters copy out (both-passed nr floor _ e).1 in
          (r.0, r.1, sym (look-refused r.0 r.1) ∙ e)),
      λ h. look-refused h.0 h.1 ∙ h.2,
    )

    pub look-many-rounds : MAX-ROUNDS < nr → look_refusal nr floor ops counters copy out ≡ some (Rounds nr)
    unfolding look_refusal
    look-many-rounds = many-rounds-refused nr _

    pub look-floor : 1 ≤ nr → nr ≤ MAX-ROUNDS → (PowerFloor floor → ⊥) → look_refusal nr floor ops counters copy out ≡ some (Floor floor)
    unfolding look_refusal
    look-floor one most h = rounds-later nr _ one most ∙ floor-refused floor _ h

    module _ (one : 1 ≤ nr) (most : nr ≤ MAX-ROUNDS) (power : PowerFloor floor) (few : op_count ops ≤ MAX-OPS) (whole : length ops % OP-WORDS ≡ 0) (long : NUM-COUNTERS ≤ length counters) where
      past-counters : {later o : Option Refusal} → later ≡ o → not_rounds nr (not_floor floor (too_many ops (not_whole ops (too_short (length counters) NUM-COUNTERS later)))) ≡ o
      past-counters e =
          both_later nr floor _ (one, most, power)
          ∙ refuse-no _ (le-ltb MAX-OPS (op_count ops) few)
          (refuse-no _ (ap not (eq-eqb (length ops % OP-WORDS) 0 whole))
          (refuse-no _ (le-ltb (length counters) NUM-COUNTERS long) e))

      pub copy-short : copy < NUM-COUNTERS → look_refusal nr floor ops counters copy out ≡ some (TooShort NUM-COUNTERS)
      unfolding look_refusal
      copy-short h = past-counters (refuse-yes _ _ (lt-ltb copy NUM-COUNTERS h))

      pub out-short : NUM-COUNTERS ≤ copy → out < LOOK-WORDS → look_refusal nr floor ops counters copy out ≡ some (TooShort LOOK-WORDS)
      unfolding look_refusal
      out-short h g = past-counters (refuse-no _ (le-ltb copy NUM-COUNTERS h) (refuse-yes _ _ (lt-ltb out LOOK-WORDS g)))

-- "With floor 4 all words are as before": no check but those of old
module _ (nr : ℕ) (ops counters : List ℕ) where
  pub charge-as-before : charge_refusal nr 4 ops counters
      ≡ not_rounds nr (too_many ops (not_whole ops (too_short (length counters) NUM-COUNTERS (bad_operation ops (refuse_at (first_not_element counters NUM-COUNTERS) NotElement accepted)))))
  unfolding charge_refusal
  charge-as-before = ap (not_rounds nr) (four-accepted _)

  pub look-as-before : (copy out : ℕ) → look_refusal nr 4 ops counters copy out
      ≡ not_rounds nr
      (too_many ops
      (not_whole ops
      (too_short (length counters) NUM-COUNTERS
      (too_short copy NUM-COUNTERS
      (too_short out LOOK-WORDS
      (bad_operation ops
      (refuse_at (first_not_element counters NUM-COUNTERS) NotElement
      accepted)))))))
  unfolding look_refusal
  look-as-before copy out = ap (not_rounds nr) (four-accepted _)

-- no rounds
module _ (floor : ℕ) (ops counters : List ℕ) where
  pub charge-no-rounds : charge_refusal 0 floor ops counters ≡ some (Rounds 0)
  unfolding charge_refusal
  charge-no-rounds = no-rounds-refused _

  pub look-no-rounds : (copy out : ℕ) → look_refusal 0 floor ops counters copy out ≡ some (Rounds 0)
  unfolding look_refusal
  look-no-rounds copy out = no-rounds-refused _
