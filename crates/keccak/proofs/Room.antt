-- What a call of the core table needs is as long as what it writes, so a slice of exactly that length is accepted.
--     trace-floor, count-floor   9, before any other refusal
--     trace-later, count_past    else the refusals of a list (Refusals.antt), or of a number of operations
--     trace-accepted, core-count-accepted, rows-accepted, keys-accepted   accepted exactly where no condition holds
--     four-accepted              the floor 4 refuses nothing: "With floor 4 all words are as before"
use mathlib.Core.Path.{◌≡◌, refl, sym, ap, subst, ◌∙◌}
use mathlib.Core.Logic.{◌↔◌}
use mathlib.Core.List.{List}
use mathlib.Core.Option.{Option, some}
use Prim.Native.Nat.{ℕ, ◌*◌, ◌≤◌, ◌<◌}
use native.Mathlib.Omega.{arith}
use lib.ListN.{length}
use Rattle.answer.specs.Limits.{MAX-OPS}
use Rattle.answer.specs.Refusal.{accepted, count_refusal, not_floor, PowerFloor, afterwards, overwrite}
use Rattle.answer.specs.declared.Refusal.{Refusal}
use Rattle.answer.specs.declared.Refusal.TheVariants.{PastEnd, Floor}
use Rattle.answer.proofs.Refusals.{floor-passed, floor-later, floor-refused, count-accepted, count-refused}
use Rattle.keccak.specs.Height.{height}
use Rattle.keccak.specs.Row.{op_at, core_rows, core_table, key_words}
use Rattle.keccak.specs.Refusals.{op_count, Acceptable, operations_refusal, core_trace_refusal, core_rows_refusal, core_count_refusal, keys_refusal}
use Rattle.keccak.specs.Calls.{core_trace_after}
use Rattle.keccak.proofs.Keys.{length-keys}
use Rattle.keccak.proofs.Refusals.{accepted-is}
use Rattle.keccak.proofs.Table.{length-core-table, length-core-rows}

-- ---- the calls that take a floor
module _ (floor room : ℕ) (ops : List ℕ) where
  pub trace-floor : (PowerFloor floor → ⊥) → core_trace_refusal floor room ops ≡ some (Floor floor)
  unfolding core_trace_refusal
  trace-floor h = floor-refused floor _ h

  pub trace-later : PowerFloor floor → core_trace_refusal floor room ops ≡ operations_refusal room (length (core_table floor (op_count ops) (op_at ops))) ops
  unfolding core_trace_refusal
  trace-later h =
      floor-later floor _ h ∙ ap (λ (n : ℕ). operations_refusal room n ops) (sym (length-core-table (op_count ops) (op_at ops) floor))

  pub trace-accepted : (core_trace_refusal floor room ops ≡ accepted) ↔ (PowerFloor floor × Acceptable room (length (core_table floor (op_count ops) (op_at ops))) ops)
  unfolding core_trace_refusal
  trace-accepted =
      let n = length (core_table floor (op_count ops) (op_at ops)) in (
        (λ e.
            let a = (floor-passed floor _ e).0 in
            (a, (accepted-is room n ops).0 (sym (trace-later a) ∙ e))),
        λ h. trace-later h.0 ∙ (accepted-is room n ops).1 h.1,
      )

module _ (floor n : ℕ) where
  pub count-floor : (PowerFloor floor → ⊥) → core_count_refusal floor n ≡ some (Floor floor)
  unfolding core_count_refusal
  count-floor h = floor-refused floor _ h

  pub count_past : PowerFloor floor → MAX-OPS < n → core_count_refusal floor n ≡ some (PastEnd 89478486)
  unfolding core_count_refusal count_refusal
  count_past h m = floor-later floor _ h ∙ count-refused n _ m

  pub core-count-accepted : (core_count_refusal floor n ≡ accepted) ↔ (PowerFloor floor × (n ≤ MAX-OPS))
  unfolding core_count_refusal
  core-count-accepted = (
    (λ e.
        let a = floor-passed floor _ e in
        (a.0, (count-accepted n).0 a.1)),
    λ h. floor-later floor _ h.0 ∙ (count-accepted n).1 h.1,
  )

-- "With floor 4 all words are as before": no check but those of the list, and the table of max(4, next power of two of n) rows
four : PowerFloor 4
four = (2, omega arith, omega arith, refl)

pub four-accepted : (later : Option Refusal) → not_floor 4 later ≡ later
four-accepted later = floor-later 4 later four

pub as_before : (ops table : List ℕ) →
    (core_trace_refusal 4 (length table) ops ≡ operations_refusal (length table) (height 4 (op_count ops) * 486) ops)
    × (core_trace_after 4 ops table
    ≡ afterwards (operations_refusal (length table) (height 4 (op_count ops) * 486) ops) (overwrite (core_table 4 (op_count ops) (op_at ops)) table) table)
unfolding core_trace_refusal
as_before ops table =
    let e = four-accepted (operations_refusal (length table) (height 4 (op_count ops) * 486) ops) in
    (e, ap (λ (o : Option Refusal). afterwards o (overwrite (core_table 4 (op_count ops) (op_at ops)) table) table) e)

-- ---- the calls that take none
module _ (room : ℕ) (ops : List ℕ) where
  pub rows-accepted : (core_rows_refusal room ops ≡ accepted) ↔ Acceptable room (length (core_rows (op_count ops) (op_at ops))) ops
  unfolding core_rows_refusal
  rows-accepted =
      subst (λ (n : ℕ). (core_rows_refusal room ops ≡ accepted) ↔ Acceptable room n ops) (sym (length-core-rows (op_count ops) (op_at ops)))
      (accepted-is room _ ops)

  pub keys-accepted : (keys_refusal room ops ≡ accepted) ↔ Acceptable room (length (key_words (op_count ops) (op_at ops))) ops
  unfolding keys_refusal
  keys-accepted =
      subst (λ (n : ℕ). (keys_refusal room ops ≡ accepted) ↔ Acceptable room n ops) (sym (length-keys (op_count ops) (op_at ops)))
      (accepted-is room _ ops)
