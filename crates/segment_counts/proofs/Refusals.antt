-- The checks of both calls, as code makes them: what each finds, that each call's checks are these, and what an accepted call knows. A call
-- that has checked the number of rounds and the floor is left with `segment_refusal` (`counts-later`, `charge-later`).
use mathlib.Core.List.{List, []}
use mathlib.Core.Option.{Option, none, some}
use mathlib.Core.Path.{◌≡◌, refl, sym, ap, ◌∙◌}
use Prim.Native.Nat.{ℕ, ◌+◌, ◌≤◌, ◌<◌}
use borrow.Author.Tests.{lt-ltb, le-ltb, ltb-false}
use lib.ListN.{length}
use Rattle.field.specs.Elements.{first_not_element, ElementRow}
use Rattle.answer.specs.Limits.{MAX-OPS, MAX-ROUNDS}
use Rattle.lists.specs.First.{first}
use Rattle.answer.specs.Refusal.{refuse_if, refuse_at, accepted, too_short, not_rounds, not_floor, PowerFloor, answer_of}
use Rattle.answer.specs.declared.Refusal.{Refusal}
use Rattle.answer.specs.declared.Refusal.TheVariants.{PastEnd, NotElement}
use Rattle.answer.proofs.Laws.{refuse-yes, refuse-no, passed-if, still-if}
use Rattle.answer.proofs.Refusals.{both_later, both-stop, floor-most}
use Rattle.bitwise.specs.Columns.{NUM-COUNTERS}
use Rattle.keccak.specs.Row.{LAST-ADDRESS}
use Rattle.keccak.specs.Refusals.{op_count, address_at, too_many, not_whole, bad_operation}
use Rattle.keccak.proofs.Refusals.{each-later, each-passed, each-still}
use Rattle.segment_counts.specs.Segment.{LOOK-WORDS, segment_refusal, look_short, charge_refusal, look_refusal}
use Rattle.segment_counts.specs.Kinds.{counts_refusal}
use Rattle.segment_counts.proofs.Accepted.{charge-accepted, look-accepted}
use Rattle.std.specs.Prelude.{Result, Err, ⊤}

module _ (nr floor room needed : ℕ) (ops counters : List ℕ) where
  -- the checks that another function makes
  abbrev list_refusal : Option Refusal
  list_refusal = not_whole ops (too_short room needed (bad_operation ops accepted))

  -- the number of rounds and the floor
  abbrev Right : Type 0
  Right = (1 ≤ nr) × (nr ≤ MAX-ROUNDS) × PowerFloor floor

  pub parameters-refused : {a : Result ⊤ Refusal} {q : Refusal} → a ≡ answer_of (not_rounds nr (not_floor floor accepted)) → a ≡ Err q → counts_refusal nr floor room needed ops counters ≡ some q
  unfolding counts_refusal
  parameters-refused told e = both-stop nr floor told _ e

  pub many-refused : Right → MAX-OPS < op_count ops → counts_refusal nr floor room needed ops counters ≡ some (PastEnd (MAX-OPS + 1))
  unfolding counts_refusal
  many-refused n h = both_later nr floor _ n ∙ refuse-yes _ _ (lt-ltb MAX-OPS (op_count ops) h)

  pub list-fits : list_refusal ≡ none → needed ≤ room
  list-fits e = ltb-false room needed (passed-if _ _ _ (passed-if _ _ _ e).1).0

  module _ (n : Right) (few : op_count ops ≤ MAX-OPS) where
    pub list-refused : {q : Refusal} → list_refusal ≡ some q → counts_refusal nr floor room needed ops counters ≡ some q
    unfolding counts_refusal
    list-refused e = both_later nr floor _ n ∙ refuse-no _ (le-ltb MAX-OPS (op_count ops) few) (still-if _ _ (still-if _ _ (each-still ops _)) e)

    -- where the list passes, the counters decide
    pub counters-decide : {o : Option Refusal} → list_refusal ≡ none → refuse_at (first_not_element counters NUM-COUNTERS) NotElement accepted ≡ o
        → counts_refusal nr floor room needed ops counters ≡ o
    unfolding counts_refusal
    counters-decide e q =
        let a = passed-if _ _ _ e in
        let b = passed-if _ _ _ a.1 in
        let d = each-passed ops _ b.1 in
        both_later nr floor _ n ∙ refuse-no _ (le-ltb MAX-OPS (op_count ops) few) (refuse-no _ a.0 (refuse-no _ b.0 (each-later ops d.0 d.1 d.2 q)))

-- where the number of rounds and the floor have passed, the list, the slices and the counters are left
pub counts-later : (nr floor room needed : ℕ) (ops counters : List ℕ) → (1 ≤ nr) × (nr ≤ MAX-ROUNDS) × PowerFloor floor
    → counts_refusal nr floor room needed ops counters ≡ segment_refusal (too_short room needed) ops counters
unfolding counts_refusal
counts-later nr floor room needed ops counters right = both_later nr floor _ right

pub charge-later : (nr floor : ℕ) (ops counters : List ℕ) → (1 ≤ nr) × (nr ≤ MAX-ROUNDS) × PowerFloor floor
    → charge_refusal nr floor ops counters ≡ segment_refusal (too_short (length counters) NUM-COUNTERS) ops counters
unfolding charge_refusal
charge-later nr floor ops counters right = both_later nr floor _ right

-- a list without operations is refused for the slices and the counters alone
none-listed : (short : Option Refusal → Option Refusal) (o : Option ℕ) → too_many [] (not_whole [] (short (bad_operation [] (refuse_at o NotElement accepted)))) ≡ short (refuse_at o NotElement accepted)
unfolding refuse_if refuse_at first
none-listed short o = refl

pub empty-later : (short : Option Refusal → Option Refusal) (counters : List ℕ) → segment_refusal short [] counters ≡ short (refuse_at (first_not_element counters NUM-COUNTERS) NotElement accepted)
empty-later short counters = none-listed short (first_not_element counters NUM-COUNTERS)

-- what is refused for the counters goes by how many there are, and by the first that is p or more
pub counters-alike : (ops C D : List ℕ) → length C ≡ length D → first_not_element C NUM-COUNTERS ≡ first_not_element D NUM-COUNTERS
    → segment_refusal (too_short (length C) NUM-COUNTERS) ops C ≡ segment_refusal (too_short (length D) NUM-COUNTERS) ops D
counters-alike ops C D e f = λ t. too_many ops (not_whole ops (too_short (e t) NUM-COUNTERS (bad_operation ops (refuse_at (f t) NotElement accepted))))

-- ---- the two calls
pub charge-checks : (nr floor : ℕ) (ops counters : List ℕ) → charge_refusal nr floor ops counters ≡ counts_refusal nr floor (length counters) NUM-COUNTERS ops counters
unfolding charge_refusal counts_refusal
charge-checks nr floor ops counters = refl

-- 3 of the first slice that is too short is 3 of all
pub shorts-same : {s t : Option Refusal → Option Refusal} (ops counters : List ℕ) → ((later : Option Refusal) → s later ≡ t later)
    → segment_refusal t ops counters ≡ segment_refusal s ops counters
shorts-same ops counters h = ap (λ (o : Option Refusal). too_many ops (not_whole ops o)) (sym (h _))

pub look-checks : (nr floor : ℕ) (ops counters : List ℕ) (copy out room needed : ℕ)
    → ((later : Option Refusal) → too_short room needed later ≡ look_short LOOK-WORDS (length counters) copy out later)
    → look_refusal nr floor ops counters copy out ≡ counts_refusal nr floor room needed ops counters
unfolding look_refusal counts_refusal
look-checks nr floor ops counters copy out room needed h = ap (λ (o : Option Refusal). not_rounds nr (not_floor floor o)) (shorts-same ops counters h)

-- what an accepted call knows
pub charge-passed : (nr floor : ℕ) (ops counters : List ℕ) → charge_refusal nr floor ops counters ≡ none
    → (nr ≤ MAX-ROUNDS) × (floor ≤ 65536) × (op_count ops ≤ MAX-OPS) × ElementRow NUM-COUNTERS counters × ((i : ℕ) → i < op_count ops → address_at ops i ≤ LAST-ADDRESS)
charge-passed nr floor ops counters e = let a = (charge-accepted nr floor ops counters).0 e in (a.1, floor-most floor a.2, a.3.few, a.4, a.3.low)

pub look-passed : (nr floor : ℕ) (ops counters : List ℕ) (copy out : ℕ) → look_refusal nr floor ops counters copy out ≡ none
    → (nr ≤ MAX-ROUNDS) × (floor ≤ 65536) × (op_count ops ≤ MAX-OPS) × ElementRow NUM-COUNTERS counters × ((i : ℕ) → i < op_count ops → address_at ops i ≤ LAST-ADDRESS) × (NUM-COUNTERS ≤ copy) × (LOOK-WORDS ≤ out)
look-passed nr floor ops counters copy out e =
    let a = (look-accepted nr floor ops counters copy out).0 e in
    let b = charge-passed nr floor ops counters a.2 in
    (b.0, b.1, b.2, b.3, b.4, a.0, a.1)

-- where the first short slice is long enough, so are the counters
pub long-enough : (words counters copy out room needed : ℕ)
    → ((later : Option Refusal) → too_short room needed later ≡ look_short words counters copy out later)
    → needed ≤ room → NUM-COUNTERS ≤ counters
long-enough words counters copy out room needed h l =
    ltb-false counters NUM-COUNTERS (passed-if _ _ _ (sym (h accepted) ∙ refuse-no _ (le-ltb room needed l) refl)).0
