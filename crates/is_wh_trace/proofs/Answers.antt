-- What `generate_is_wh_trace` answers and leaves, from what its checks found with the height that was computed.
use mathlib.Core.Path.{◌≡◌, sym, ap, ◌∙◌}
use mathlib.Core.Option.{none, some}
use mathlib.Core.List.{List}
use Prim.Native.Nat.{ℕ, ◌*◌, ◌≤◌}
use native.Mathlib.Omega.{arith}
use lib.ListN.{length, take, drop}
use lib.Seq.{sets}
use Rattle.lists.specs.Tab.{table_of}
use Rattle.answer.specs.Refusal.{accepted, answer_of}
use Rattle.answer.specs.declared.Refusal.{Refusal}
use Rattle.answer.proofs.Laws.{refused, done, sets-overwrite, new-words, old-words}
use Rattle.is_wh_rows.specs.Lists.{rows_refusal}
use Rattle.is_wh_rows.proofs.Lists.{rows-passed}
use Rattle.is_wh_trace.specs.Trace.{table_row, row_count, is_wh_height, is_wh_table, is_wh_trace_refusal, is_wh_trace_after}
use Rattle.is_wh_trace.proofs.Rows.{length-is_wh_table}
use Rattle.std.specs.Prelude.{Ok, Err}

module _ (rows table : List ℕ) (h : ℕ) (eh : h ≡ is_wh_height rows) where
  same-checks : is_wh_trace_refusal (length table) rows ≡ rows_refusal (length table) (h * 4) rows accepted
  unfolding is_wh_trace_refusal
  same-checks = ap (λ (k : ℕ). rows_refusal (length table) (k * 4) rows accepted) (sym eh)

  pub trace-refused : {q : Refusal} → rows_refusal (length table) (h * 4) rows accepted ≡ some q
      → (Err q ≡ answer_of (is_wh_trace_refusal (length table) rows)) × (table ≡ is_wh_trace_after rows table)
  unfolding is_wh_trace_after
  trace-refused e = refused _ table (same-checks ∙ e)

  pub trace-done : {t : List ℕ} → rows_refusal (length table) (h * 4) rows accepted ≡ none → t ≡ sets table 0 (table_of h 4 (table_row rows (row_count rows)))
      → (Ok tt ≡ answer_of (is_wh_trace_refusal (length table) rows)) × (t ≡ is_wh_trace_after rows table)
  unfolding is_wh_trace_after is_wh_table
  trace-done e s =
      let fits : h * 4 ≤ length table = (rows-passed (length table) (h * 4) rows accepted e).1 in
      done table (same-checks ∙ e)
      (s
      ∙ ap (λ (k : ℕ). sets table 0 (table_of k 4 (table_row rows (row_count rows)))) eh
      ∙ sets-overwrite table (is_wh_table rows) (omega (arith, fits, length-is_wh_table rows)))

-- of what an accepted call leaves: the table first, and past it what was there
module _ (rows table : List ℕ) (ok : is_wh_trace_refusal (length table) rows ≡ accepted) where
  pub table-start : take (is_wh_height rows * 4) (is_wh_trace_after rows table) ≡ is_wh_table rows
  unfolding is_wh_trace_after
  table-start = ap (λ (n : ℕ). take n (is_wh_trace_after rows table)) (sym (length-is_wh_table rows)) ∙ new-words (is_wh_table rows) table ok

  pub table-past : drop (is_wh_height rows * 4) (is_wh_trace_after rows table) ≡ drop (is_wh_height rows * 4) table
  unfolding is_wh_trace_after
  table-past =
      ap (λ (n : ℕ). drop n (is_wh_trace_after rows table)) (sym (length-is_wh_table rows)) ∙ old-words (is_wh_table rows) table ok ∙ ap (λ (n : ℕ). drop n table) (length-is_wh_table rows)
