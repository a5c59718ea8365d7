-- A call for a tuple reads of the lent row its columns only: what it answers, and what it leaves in the lent slice, is the
-- same for any two rows that are long enough and alike in their columns.
use mathlib.Core.Path.{◌≡◌, sym, ap, ◌∙◌}
use mathlib.Core.List.{List}
use mathlib.Core.Option.{some}
use Prim.Native.Nat.{ℕ, ◌≤◌, ◌<◌}
use borrow.Author.Tests.{le-leb}
use lib.ListN.{length}
use Rattle.lists.proofs.Then.{by_le}
use Rattle.lists.proofs.Reading.{Alike, ReadsFirst, front_same}
use Rattle.answer.specs.Refusal.{past_end, overwrite, afterwards}
use Rattle.answer.specs.declared.Refusal.TheVariants.{PastEnd}
use Rattle.answer.proofs.Laws.{refuse-yes, kept}
use Rattle.tuple.specs.Tuple.{Tuple}
use Rattle.tuple.specs.Values.{values_refusal}
use Rattle.tuple.proofs.Values.{checks-read}
use Rattle.tuple.specs.Call.{RestNotRead, sized_refusal, tuple_refusal, tuple_answer, tuple_answer_of, tuple_after}

module _ (width count : ℕ) (tuple : List ℕ → ℕ → Tuple) (reads : ReadsFirst width count tuple) where
  module _ (row other : List ℕ) (h : width ≤ length row) (j : width ≤ length other) (same : Alike width row other) (i : ℕ) (out : List ℕ) where
    -- below `count` the checks and the tuple are the same
    checks : i < count → tuple_refusal width count tuple row i out ≡ tuple_refusal width count tuple other i out
    unfolding tuple_refusal sized_refusal
    checks l =
        let e : tuple row i ≡ tuple other i = reads row other same i l in
        ap (past_end count i)
        (checks-read width (length (tuple row i).values) row other h j same (length out)
        ∙ ap (λ (t : Tuple). values_refusal width (length t.values) other (length out)) e)

    -- from `count` on any row is refused before it is read
    past : (any : List ℕ) → count ≤ i → tuple_refusal width count tuple any i out ≡ some (PastEnd count)
    unfolding tuple_refusal sized_refusal
    past any l = refuse-yes _ _ (le-leb _ _ l)

    pub answer-reads : tuple_answer_of width count tuple row i out ≡ tuple_answer_of width count tuple other i out
    unfolding tuple_answer
    answer-reads =
        by_le count i
        (λ l. ap (tuple_answer (tuple row i)) (past row l) ∙ sym (ap (tuple_answer (tuple other i)) (past other l)))
        (λ l. let e = reads row other same i l in let c = checks l in λ t. tuple_answer (e t) (c t))

    pub after-reads : tuple_after width count tuple row i out ≡ tuple_after width count tuple other i out
    after-reads =
        by_le count i
        (λ l. sym (kept _ out (past row l)) ∙ kept _ out (past other l))
        (λ l. let e = reads row other same i l in let c = checks l in λ t. afterwards (c t) (overwrite (e t).values out) out)

  -- so a row lent longer than its columns is as good as its columns alone
  pub tuple-rest : RestNotRead width count tuple
  tuple-rest row i out = (
    front_same (λ (r : List ℕ). tuple_answer_of width count tuple r i out) width (λ r o h j same. answer-reads r o h j same i out) row,
    front_same (λ (r : List ℕ). tuple_after width count tuple r i out) width (λ r o h j same. after-reads r o h j same i out) row,
  )
