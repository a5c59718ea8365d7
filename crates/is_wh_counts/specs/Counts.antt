-- tables/is_wh.rs, collect_bitwise_from_is_wh: what the lookups of the IS_WH table of a list of rows add to the counters of the
-- bitwise table. "per row, `IS_HALFWORD` ×μ on each `value` limb and `IS_B20[μ]` ×1 — padding rows included": by the tuples that
-- the rows of the written table send.
use Rattle.std.specs.Prelude.{ℕ, ◌+◌, ◌%◌, List, eqb, length}
use Rattle.std.proofs.Math.Option.{Option}
use Rattle.lists.specs.Tab.{pick, tab, word, row_at}
use Rattle.lists.specs.First.{first_at}
use Rattle.field.specs.Field.{p}
use Rattle.answer.specs.Refusal.{refuse_at, accepted, overwrite, afterwards}
use Rattle.answer.specs.declared.Refusal.{Refusal}
use Rattle.answer.specs.declared.Refusal.TheVariants.{NotElement}
use Rattle.bitwise.specs.Columns.{NUM-COUNTERS}
use Rattle.bitwise.specs.Counters.{large_charged}
use Rattle.bitwise.specs.Charge.{charged}
use Rattle.is_wh.specs.Columns.{NUM-COLUMNS}
use Rattle.is_wh.specs.Tuples.{NUM-TUPLES, is_wh_tuple}
use Rattle.is_wh_rows.specs.Lists.{rows_refusal}
use Rattle.is_wh_trace.specs.Trace.{row_count, is_wh_height, is_wh_table}

-- the rows that send: "No sends, no table (`generate_optional`), so nothing to count."
unfoldable pub sending_rows : List ℕ → ℕ
sending_rows rows = pick (eqb (row_count rows) 0) 0 (is_wh_height rows)

-- what they add to counter c
unfoldable pub is_wh_charged : List ℕ → ℕ → ℕ
is_wh_charged rows = charged (sending_rows rows) NUM-TUPLES (λ r. is_wh_tuple (row_at NUM-COLUMNS (is_wh_table rows) r))

-- the counters afterwards, where `added c` is added to counter c, mod p: one to which nothing is added is as it was, and so are the
-- words past them
unfoldable pub grown_counters : List ℕ → (ℕ → ℕ) → List ℕ
grown_counters counters added =
    overwrite (tab NUM-COUNTERS (λ c. pick (eqb (added c) 0) (word counters c) ((word counters c + added c) % p))) counters

-- the checks: of the list of rows, with 3 the counters, and then 5 the first of the counters charged which is p or more
unfoldable pub collect_refusal : List ℕ → List ℕ → Option Refusal
collect_refusal rows counters =
    rows_refusal (length counters) NUM-COUNTERS rows
    (refuse_at (first_at (large_charged (is_wh_charged rows) (word counters)) NUM-COUNTERS) NotElement
    accepted)

unfoldable pub collect_after : List ℕ → List ℕ → List ℕ
collect_after rows counters =
    afterwards (collect_refusal rows counters) (grown_counters counters (is_wh_charged rows)) counters
