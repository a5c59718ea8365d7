-- What lists of lookups come to: counted into counters and then filled, they are counted into the table; counted into two
-- histograms that are then merged, they are counted into one.
use mathlib.Core.Path.{◌≡◌, refl, sym, ap, ap₂, ◌∙◌}
use mathlib.Core.List.{List}
use Prim.Native.Nat.{ℕ, zero, suc, ◌/◌, ◌%◌, ◌≤◌, ◌<◌}
use native.Mathlib.Omega.{arith}
use lib.ListN.{length}
use lib.Seq.{ext_get_or}
use Rattle.lists.specs.Tab.{word, cells_of, table_of}
use Rattle.lists.proofs.Then.{by_le}
use Rattle.field.specs.Elements.{ElementRow}
use Rattle.answer.specs.Refusal.{accepted, overwrite}
use Rattle.answer.proofs.Overwrite.{over-length, left}
use Rattle.bitwise.specs.Columns.{NUM-COUNTERS, NUM-COLUMNS, TABLE-WORDS}
use Rattle.bitwise.specs.Counters.{charge, merged, merge_refusal, merge_after}
use Rattle.bitwise.specs.Table.{trace_row, bitwise_table, trace_after, filled, fill_refusal, fill_after}
use Rattle.bitwise.specs.Lookups.{lookup_count, charge_each, lookup_counter, added_ops, add_ops_refusal, add_ops_after, mu_at, updated_mus, update_refusal, update_after}
use Rattle.bitwise.proofs.Counters.{charge-row}
use Rattle.bitwise.proofs.Refusals.{trace-accepted, merge-accepted, fill-accepted}
use Rattle.bitwise.proofs.Histogram.{charge-first, charge-last, merged-elements}
use Rattle.bitwise.proofs.Table.{filled-fixed, filled-past, filled-length, trace-mu}
use Rattle.bitwise.proofs.Lookups.{each-length, by-column, filled_at, filled-each, mu-is}
use Rattle.bitwise.proofs.LookupRefusals.{Lookups, ChargedBelow, counters-of, add-accepted, update-accepted}

each_row : (at : ℕ → ℕ) (n : ℕ) (words : List ℕ) → ElementRow NUM-COUNTERS words → ElementRow NUM-COUNTERS (charge_each at n words)
unfolding charge_each
each_row at zero words e = e
each_row at (suc i) words e = charge-row (charge_each at i words) (at i) 1 NUM-COUNTERS (each_row at i words e)

-- counters that are all below p take any list of lookups
adds-to : (ops words : List ℕ) → ElementRow NUM-COUNTERS words → Lookups ops → add_ops_refusal words ops ≡ accepted
adds-to ops words e h = (add-accepted words ops).1 (e.long, h, λ i l. e.below (lookup_counter ops i) (counters-of ops h i l))

-- ---- filled after counting is counted after filling
module _ (counters table ops : List ℕ) (fits : fill_refusal counters table ≡ accepted) (adds : add_ops_refusal counters ops ≡ accepted) where
  row : ElementRow NUM-COUNTERS counters
  row = ((fill-accepted counters table).0 fits).0

  whole : TABLE-WORDS ≤ length table
  whole = ((fill-accepted counters table).0 fits).1

  list : Lookups ops
  list = ((add-accepted counters ops).0 adds).1

  -- both are accepted
  pub fill-last : fill_refusal (add_ops_after counters ops) table ≡ accepted
  unfolding added_ops
  fill-last =
      ap (λ (l : List ℕ). fill_refusal l table) (left (added_ops counters ops) counters adds)
      ∙ (fill-accepted (added_ops counters ops) table).1 (each_row (lookup_counter ops) (lookup_count ops) counters row, whole)

  -- the multiplicities that the list charges are the counters'
  mus-below : ChargedBelow (λ c. word (filled counters table) (mu_at c)) ops
  mus-below i l =
      let b = counters-of ops list i l in
      let e = filled_at table whole counters (lookup_counter ops i) b in
      omega (arith, e, row.below (lookup_counter ops i) b)

  pub update-last : update_refusal (fill_after counters table) ops ≡ accepted
  update-last =
      ap (λ (l : List ℕ). update_refusal l ops) (left (filled counters table) table fits)
      ∙ (update-accepted (filled counters table) ops).1 (omega (arith, filled-length counters table whole, whole), list, mus-below)

  pub fill-updates : fill_after (add_ops_after counters ops) table ≡ update_after (fill_after counters table) ops
  unfolding added_ops updated_mus
  fill-updates =
      left (filled (add_ops_after counters ops) table) table fill-last
      ∙ ap (λ (l : List ℕ). filled l table) (left (added_ops counters ops) counters adds)
      ∙ filled-each table whole (lookup_counter ops) (lookup_count ops) counters row.long (counters-of ops list)
      ∙ ap (λ (l : List ℕ). updated_mus l ops) (sym (left (filled counters table) table fits))
      ∙ sym (left (updated_mus (fill_after counters table) ops) (fill_after counters table) update-last)

-- ---- from counters that are 0, into a table as it is generated
module _ (counters table : List ℕ) (long : NUM-COUNTERS ≤ length counters) (none_yet : (k : ℕ) → k < NUM-COUNTERS → word counters k ≡ 0) (room : TABLE-WORDS ≤ length table) where
  abbrev fresh : List ℕ
  fresh = overwrite bitwise_table table

  fresh-length : length fresh ≡ length table
  unfolding bitwise_table table_of
  fresh-length = over-length TABLE-WORDS (cells_of NUM-COLUMNS trace_row) table room

  generated : trace_after table ≡ fresh
  generated = left fresh table ((trace-accepted table).1 room)

  fills : fill_refusal counters fresh ≡ accepted
  fills =
      (fill-accepted counters fresh).1
      (record { long = long; below = λ k l. let e = none_yet k l in omega (arith, e) }, omega (arith, fresh-length, room))

  -- nothing is filled in
  filled_none : filled counters fresh ≡ fresh
  filled_none =
      let size : TABLE-WORDS ≤ length fresh = omega (arith, fresh-length, room) in
      ext_get_or 0 (filled counters fresh) fresh (filled-length counters fresh size)
      (λ k b. by_le TABLE-WORDS k (filled-past counters fresh k)
      (λ l. by-column k l
      (λ r c hr hc e. ap (word (filled counters fresh)) e ∙ filled-fixed counters fresh r c hr hc ∙ ap (word fresh) (sym e))
      (λ j hj e. ap (word (filled counters fresh)) e ∙ filled_at fresh size counters j hj ∙ none_yet j hj
      ∙ sym (zero-mu j hj) ∙ ap (word fresh) (sym e))))
    where
      zero-mu : (j : ℕ) → j < NUM-COUNTERS → word fresh (mu_at j) ≡ 0
      zero-mu j hj = ap (word fresh) (mu-is j) ∙ trace-mu table (j / 10) (j % 10) (omega (arith, hj)) (omega arith)

  -- "it produces exactly the same MU columns as calling `update_multiplicities` with the full op vector"
  pub fill-is-update : (ops : List ℕ) → add_ops_refusal counters ops ≡ accepted
      → fill_after (add_ops_after counters ops) (trace_after table) ≡ update_after (trace_after table) ops
  fill-is-update ops adds =
      ap (fill_after (add_ops_after counters ops)) generated
      ∙ fill-updates counters fresh ops fills adds
      ∙ ap (λ (l : List ℕ). update_after l ops) (left (filled counters fresh) fresh fills ∙ filled_none ∙ sym generated)

-- ---- counted into two histograms that are then merged
module _ (a b : List ℕ) (at : ℕ → ℕ) where
  each_first : (n : ℕ) → NUM-COUNTERS ≤ length a → NUM-COUNTERS ≤ length b → ((i : ℕ) → i < n → at i < NUM-COUNTERS) → merged (charge_each at n a) b ≡ charge_each at n (merged a b)
  unfolding charge_each
  each_first zero la lb h = refl
  each_first (suc i) la lb h =
      charge-first (charge_each at i a) b (omega (arith, each-length at i a, la)) lb (at i) 1 (h i (omega arith))
      ∙ ap (λ (l : List ℕ). charge l (at i) 1) (each_first i la lb (λ j l. h j (omega arith)))

  each_last : (n : ℕ) → NUM-COUNTERS ≤ length a → NUM-COUNTERS ≤ length b → ((i : ℕ) → i < n → at i < NUM-COUNTERS) → merged a (charge_each at n b) ≡ charge_each at n (merged a b)
  unfolding charge_each
  each_last zero la lb h = refl
  each_last (suc i) la lb h =
      charge-last a (charge_each at i b) la (omega (arith, each-length at i b, lb)) (at i) 1 (h i (omega arith))
      ∙ ap (λ (l : List ℕ). charge l (at i) 1) (each_last i la lb (λ j l. h j (omega arith)))

module _ (a b ops more : List ℕ) (merges : merge_refusal a b ≡ accepted) (adds : add_ops_refusal a ops ≡ accepted) (adds-more : add_ops_refusal b more ≡ accepted) where
  row-a : ElementRow NUM-COUNTERS a
  row-a = ((merge-accepted a b).0 merges).0

  row-b : ElementRow NUM-COUNTERS b
  row-b = ((merge-accepted a b).0 merges).1

  in-a : ElementRow NUM-COUNTERS (added_ops a ops)
  unfolding added_ops
  in-a = each_row (lookup_counter ops) (lookup_count ops) a row-a

  in_b : ElementRow NUM-COUNTERS (added_ops b more)
  unfolding added_ops
  in_b = each_row (lookup_counter more) (lookup_count more) b row-b

  -- "per-thread histograms can be tree-reduced": two lists counted into two histograms, which are then merged, are both
  -- counted into the merged one
  pub counted-merged : merge_after (add_ops_after a ops) (add_ops_after b more) ≡ add_ops_after (add_ops_after (merge_after a b) ops) more
  unfolding added_ops
  counted-merged =
      ap₂ merge_after (left (added_ops a ops) a adds) (left (added_ops b more) b adds-more)
      ∙ left (merged (added_ops a ops) (added_ops b more)) (added_ops a ops) ((merge-accepted (added_ops a ops) (added_ops b more)).1 (in-a, in_b))
      ∙ each_last (added_ops a ops) b (lookup_counter more) (lookup_count more) in-a.long row-b.long (counters-of more ((add-accepted b more).0 adds-more).1)
      ∙ ap (λ (l : List ℕ). added_ops l more) (each_first a b (lookup_counter ops) (lookup_count ops) row-a.long row-b.long (counters-of ops ((add-accepted a ops).0 adds).1))
      ∙ sym
      (ap (λ (l : List ℕ). add_ops_after l more)
      (ap (λ (l : List ℕ). add_ops_after l ops) (left (merged a b) a merges) ∙ left (added_ops (merged a b) ops) (merged a b) once)
      ∙ left (added_ops (added_ops (merged a b) ops) more) (added_ops (merged a b) ops) twice)
    where
      row : ElementRow NUM-COUNTERS (merged a b)
      row = merged-elements a b row-a.long

      once : add_ops_refusal (merged a b) ops ≡ accepted
      once = adds-to ops (merged a b) row ((add-accepted a ops).0 adds).1

      twice : add_ops_refusal (added_ops (merged a b) ops) more ≡ accepted
      twice = adds-to more (added_ops (merged a b) ops) (each_row (lookup_counter ops) (lookup_count ops) (merged a b) row) ((add-accepted b more).0 adds-more).1
