-- `keccak_rnd_row` is accepted exactly where none of its conditions holds; and its refusals with their details, in their
-- order. The same of the calls that take a number of rounds:
--     trace-rounds, rows-rounds, count-rounds, none-refused   8, before any other
--     trace-floor, count-floor                                9, after 8
--     trace-later, rows-later, count_past                     else the refusals of a list, or of a number of operations
--     trace-accepted, rows-accepted, round-count-accepted     accepted exactly where none of the conditions holds
--     as_before                                               a table of floor 4
use mathlib.Core.Path.{◌≡◌, refl, sym, ap, ◌∙◌}
use mathlib.Core.Logic.{◌↔◌}
use mathlib.Core.List.{List}
use mathlib.Core.Option.{Option, some}
use Prim.Native.Nat.{ℕ, ◌*◌, ◌≤◌, ◌<◌}
use borrow.Author.Tests.{leb-false, ltb-false, le-leb, lt-leb, lt-ltb, le-ltb}
use lib.ListN.{length}
use Rattle.answer.specs.Limits.{MAX-OPS, MAX-ROUNDS}
use Rattle.answer.specs.Refusal.{accepted, count_refusal, not_rounds, PowerFloor, afterwards, overwrite}
use Rattle.answer.specs.declared.Refusal.{Refusal}
use Rattle.answer.proofs.Laws.{refuse-yes, refuse-no, passed-if}
use Rattle.answer.proofs.Refusals.{count-accepted, count-refused, rounds-passed, rounds-later, many-rounds-refused, no-rounds-refused}
use Rattle.answer.proofs.Refusals.{floor-passed, floor-later, floor-refused}
use Rattle.answer.specs.declared.Refusal.TheVariants.{PastEnd, TooShort, Rounds, Floor}
use Rattle.keccak.specs.Row.{op_at}
use Rattle.keccak.specs.Refusals.{op_count, operations_refusal, Acceptable}
use Rattle.keccak.proofs.Refusals.{accepted-is}
use Rattle.keccak.proofs.Room.{four-accepted}
use Rattle.keccak_rnd.specs.Row.{round_rows, round_height, round_table}
use Rattle.keccak_rnd.specs.Refusals.{round_row_refusal, round_trace_refusal, round_rows_refusal, round_count_refusal}
use Rattle.keccak_rnd.specs.Calls.{round_trace_after}
use Rattle.keccak_rnd.proofs.Table.{length-round-table, length-round-rows}

module _ (round : ℕ) (start row : List ℕ) where
  pub row-accepted : (round_row_refusal round start row ≡ accepted) ↔ ((round < 24) × (25 ≤ length start) × (1480 ≤ length row))
  unfolding round_row_refusal
  row-accepted = (
    (λ e.
        let a = passed-if _ _ _ e in
        let b = passed-if _ _ _ a.1 in
        let c = passed-if _ _ _ b.1 in
        (leb-false 24 round a.0, ltb-false (length start) 25 b.0, ltb-false (length row) 1480 c.0)),
    λ h.
        refuse-no _ (lt-leb 24 round h.0)
        (refuse-no _ (le-ltb (length start) 25 h.1) (refuse-no _ (le-ltb (length row) 1480 h.2) refl)),
  )

  pub round-past : 24 ≤ round → round_row_refusal round start row ≡ some (PastEnd 24)
  unfolding round_row_refusal
  round-past h = refuse-yes _ _ (le-leb 24 round h)

  module _ (l : round < 24) where
    pub start-short : length start < 25 → round_row_refusal round start row ≡ some (TooShort 25)
    unfolding round_row_refusal
    start-short h = refuse-no _ (lt-leb 24 round l) (refuse-yes _ _ (lt-ltb (length start) 25 h))

    pub row-short : 25 ≤ length start → length row < 1480 → round_row_refusal round start row ≡ some (TooShort 1480)
    unfolding round_row_refusal
    row-short m h =
        refuse-no _ (lt-leb 24 round l) (refuse-no _ (le-ltb (length start) 25 m) (refuse-yes _ _ (lt-ltb (length row) 1480 h)))

-- ---- the calls that take a number of rounds: 8 comes first, whatever else is wrong, then 9, and then the list's refusals
-- (keccak/proofs/Refusals.antt)
module _ (nr floor room : ℕ) (ops : List ℕ) where
  pub trace-rounds : MAX-ROUNDS < nr → round_trace_refusal nr floor room ops ≡ some (Rounds nr)
  unfolding round_trace_refusal
  trace-rounds h = many-rounds-refused nr _ h

  pub trace-floor : 1 ≤ nr → nr ≤ MAX-ROUNDS → (PowerFloor floor → ⊥) → round_trace_refusal nr floor room ops ≡ some (Floor floor)
  unfolding round_trace_refusal
  trace-floor l h f = rounds-later nr _ l h ∙ floor-refused floor _ f

  pub trace-later : 1 ≤ nr → nr ≤ MAX-ROUNDS → PowerFloor floor → round_trace_refusal nr floor room ops ≡ operations_refusal room (length (round_table nr floor (op_count ops) (op_at ops))) ops
  unfolding round_trace_refusal
  trace-later l h f =
      rounds-later nr _ l h ∙ floor-later floor _ f
      ∙ ap (λ (n : ℕ). operations_refusal room n ops) (sym (length-round-table nr (op_count ops) (op_at ops) floor))

  -- what `generate_keccak_rnd_trace` needs is as long as what it writes, so a table of exactly that length is accepted
  pub trace-accepted : (round_trace_refusal nr floor room ops ≡ accepted) ↔ ((1 ≤ nr) × (nr ≤ MAX-ROUNDS) × PowerFloor floor × Acceptable room (length (round_table nr floor (op_count ops) (op_at ops))) ops)
  unfolding round_trace_refusal
  trace-accepted =
      let n = length (round_table nr floor (op_count ops) (op_at ops)) in (
        (λ e.
            let a = rounds-passed nr _ e in
            let f = (floor-passed floor _ a.2).0 in
            (a.0, a.1, f, (accepted-is room n ops).0 (sym (trace-later a.0 a.1 f) ∙ e))),
        λ h. trace-later h.0 h.1 h.2 ∙ (accepted-is room n ops).1 h.3,
      )

-- "With floor 4 all words are as before": no check but those of the rounds and of the list
pub as_before : (nr : ℕ) (ops table : List ℕ) →
    (round_trace_refusal nr 4 (length table) ops ≡ not_rounds nr (operations_refusal (length table) (round_height nr 4 (op_count ops) * 1480) ops))
    × (round_trace_after nr 4 ops table
    ≡ afterwards (not_rounds nr (operations_refusal (length table) (round_height nr 4 (op_count ops) * 1480) ops))
    (overwrite (round_table nr 4 (op_count ops) (op_at ops)) table) table)
unfolding round_trace_refusal
as_before nr ops table =
    let e = ap (not_rounds nr) (four-accepted (operations_refusal (length table) (round_height nr 4 (op_count ops) * 1480) ops)) in
    (e, ap (λ (o : Option Refusal). afterwards o (overwrite (round_table nr 4 (op_count ops) (op_at ops)) table) table) e)

module _ (nr room : ℕ) (ops : List ℕ) where
  -- and `keccak_rnd_rows`
  pub rows-rounds : MAX-ROUNDS < nr → round_rows_refusal nr room ops ≡ some (Rounds nr)
  unfolding round_rows_refusal
  rows-rounds h = many-rounds-refused nr _ h

  pub rows-later : 1 ≤ nr → nr ≤ MAX-ROUNDS → round_rows_refusal nr room ops ≡ operations_refusal room (length (round_rows nr (op_count ops) (op_at ops))) ops
  unfolding round_rows_refusal
  rows-later l h =
      rounds-later nr _ l h ∙ ap (λ (n : ℕ). operations_refusal room n ops) (sym (length-round-rows nr (op_count ops) (op_at ops)))

  pub rows-accepted : (round_rows_refusal nr room ops ≡ accepted) ↔ ((1 ≤ nr) × (nr ≤ MAX-ROUNDS) × Acceptable room (length (round_rows nr (op_count ops) (op_at ops))) ops)
  unfolding round_rows_refusal
  rows-accepted =
      let n = length (round_rows nr (op_count ops) (op_at ops)) in (
        (λ e.
            let a = rounds-passed nr _ e in
            (a.0, a.1, (accepted-is room n ops).0 (sym (rows-later a.0 a.1) ∙ e))),
        λ h. rows-later h.0 h.1 ∙ (accepted-is room n ops).1 h.2,
      )

-- and the two that take a number of operations alone
module _ (nr floor n : ℕ) where
  pub count-rounds : MAX-ROUNDS < nr → round_count_refusal nr floor n ≡ some (Rounds nr)
  unfolding round_count_refusal
  count-rounds h = many-rounds-refused nr _ h

  pub count-floor : 1 ≤ nr → nr ≤ MAX-ROUNDS → (PowerFloor floor → ⊥) → round_count_refusal nr floor n ≡ some (Floor floor)
  unfolding round_count_refusal
  count-floor l h f = rounds-later nr _ l h ∙ floor-refused floor _ f

  pub count_past : 1 ≤ nr → nr ≤ MAX-ROUNDS → PowerFloor floor → MAX-OPS < n → round_count_refusal nr floor n ≡ some (PastEnd 89478486)
  unfolding round_count_refusal count_refusal
  count_past l h f m = rounds-later nr _ l h ∙ floor-later floor _ f ∙ count-refused n _ m

  pub round-count-accepted : (round_count_refusal nr floor n ≡ accepted) ↔ ((1 ≤ nr) × (nr ≤ MAX-ROUNDS) × PowerFloor floor × (n ≤ MAX-OPS))
  unfolding round_count_refusal
  round-count-accepted = (
    (λ e.
        let a = rounds-passed nr _ e in
        let f = floor-passed floor _ a.2 in
        (a.0, a.1, f.0, (count-accepted n).0 f.1)),
    λ h. rounds-later nr _ h.0 h.1 ∙ floor-later floor _ h.2 ∙ (count-accepted n).1 h.3,
  )

-- no rounds at all
pub none-refused : (floor room n : ℕ) (ops : List ℕ) →
    (round_trace_refusal 0 floor room ops ≡ some (Rounds 0)) × (round_rows_refusal 0 room ops ≡ some (Rounds 0)) × (round_count_refusal 0 floor n ≡ some (Rounds 0))
unfolding round_trace_refusal round_rows_refusal round_count_refusal
none-refused floor room n ops = (no-rounds-refused _, no-rounds-refused _, no-rounds-refused _)
