-- Records whose timestamps rise: none of them has a copy before it.
--     stamp-is     eight bytes of a record are the timestamp of its cells
--     ahead_none, ahead_more     one record after the other
--     risen-partnered     one equal row is enough for a timestamp above all before it
use mathlib.Core.Path.{◌≡◌, sym, ap, subst, ◌∙◌}
use mathlib.Core.Bool.{Bool, true, false, ◌&&◌}
use mathlib.Core.List.{List}
use mathlib.Core.Logic.{◌⊎◌, inl, inr}
use mathlib.Core.Option.{none, some}
use Prim.Native.Nat.{ℕ, suc, ◌+◌, ◌-◌, ◌*◌, ◌^◌, ◌≤◌, ◌<◌}
use native.Mathlib.Nat.{eq-or-lt_of_le}
use native.Mathlib.Omega.{arith}
use borrow.Author.Tests.{lt-leb, le-leb, leb-true}
use lib.Dec.{leb}
use lib.ListN.{length, drop}
use Rattle.lists.specs.Tab.{tab, word}
use Rattle.lists.proofs.Count.{count-find, count-hit}
use Rattle.lists.proofs.First.{at-nothing, at-found}
use Rattle.lists.specs.First.{first, at_index, first_at, count_below}
use Rattle.lists.proofs.Laws.{get_d-tab}
use Rattle.lists.proofs.Select.{words-sound}
use Rattle.lists.proofs.Tests.{T_of, and-true}
use Rattle.lists.proofs.Then.{by_le}
use Rattle.bits.specs.Bits.{pack}
use Rattle.verdict.specs.Kind.{rows}
use Rattle.verdict.specs.CoreAndRound.{core_layout}
use Rattle.op_file.specs.File.{records_of}
use Rattle.partners.specs.Partners.{Run, holds_at, count_between, alone}
use Rattle.partners.proofs.Partners.{alone-from}
use Rattle.same_operations.specs.Same.{record_cell, record_cells, file_run, core_run}
use Rattle.same_operations.specs.Passed.{Stands, Agreed, Ahead, stamp_of, from_on}
use Rattle.same_operations.specs.declared.Passed.{Passed}
use Rattle.same_operations.proofs.Equal.{half_at}
use Rattle.same_operations.proofs.Scans.{stands-cells}

-- ---- a scan from index h on
module _ (h : ℕ) (t : ℕ → Bool) where
  pub from_start : first (at_index (from_on h t)) h ≡ none
  unfolding from_on
  from_start = at-nothing (from_on h t) h (λ k l. ap (λ (b : Bool). b && t k) (lt-leb h k l))

  pub from_is : (k : ℕ) {b : Bool} → h ≤ k → b ≡ t k → b ≡ from_on h t k
  unfolding from_on
  from_is k l e = e ∙ sym (ap (λ (b : Bool). b && t k) (le-leb h k l))

  pub from_found : (n k : ℕ) → first_at (from_on h t) n ≡ some k → (h ≤ k) × (k < n) × (t k ≡ true)
  unfolding from_on
  from_found n k e =
      let f = at-found (from_on h t) n k e in
      let q = and-true (leb h k) (t k) f.1 in
      (leb-true h k q.0, f.0, q.1)

-- ---- timestamps
halves : (k : ℕ) (f : ℕ → ℕ) → pack 8 k f ≡ pack 4 k f + 2 ^ 32 * pack 4 (k + 4) f
unfolding pack
halves k f = let e : suc (suc (suc (suc k))) ≡ k + 4 = omega arith in rw (sym e) (omega arith)

pub stamp-is : (file : List ℕ) (from : ℕ) → pack 8 (from + 2) (word file) ≡ stamp_of (record_cells (drop from file))
unfolding stamp_of record_cells
stamp-is file from =
    let z : from + 2 ≡ from + 2 + 4 * 0 = omega arith in
    let w : from + 2 + 4 ≡ from + 2 + 4 * 1 = omega arith in
    let cell : (k : ℕ) → k < 410 → word (tab 410 (record_cell (drop from file))) k ≡ record_cell (drop from file) k = λ k l. get_d-tab 410 (record_cell (drop from file)) k 0 l in
    let low : pack 4 (from + 2) (word file) ≡ word (tab 410 (record_cell (drop from file))) 0 =
    ap (λ (k : ℕ). pack 4 k (word file)) z ∙ sym (half_at file from 0 (omega arith)) ∙ sym (cell 0 (omega arith))
    in
    let high : pack 4 (from + 2 + 4) (word file) ≡ word (tab 410 (record_cell (drop from file))) 1 =
    ap (λ (k : ℕ). pack 4 k (word file)) w ∙ sym (half_at file from 1 (omega arith)) ∙ sym (cell 1 (omega arith))
    in
    halves (from + 2) (word file) ∙ (λ i. low i + 2 ^ 32 * high i)

-- ---- counts
none_between : (t : ℕ → Bool) (a i : ℕ) → ((k : ℕ) → a ≤ k → k < i → t k ≡ true → ⊥) → count_between t a i ≡ 0
unfolding count_between
none_between t a i h =
    by_le 1 (count_below (λ k. t (a + k)) (i - a))
    (λ l. let f = count-find (λ k. t (a + k)) (i - a) l in absurd (h (a + f.0) (omega arith) (omega (arith, f.1)) f.2))
    (λ l. omega arith)

one-between : (t : ℕ → Bool) (b n r : ℕ) → b ≤ r → r < n → t r ≡ true → 1 ≤ count_between t b n
unfolding count_between
one-between t b n r l g e = let z : b + (r - b) ≡ r = omega arith in count-hit (λ k. t (b + k)) (n - b) (r - b) (omega arith) (ap t z ∙ e)

holds-element : (A : Run) (x : List ℕ) (k : ℕ) → holds_at A x k ≡ true → x ≡ A.element k
unfolding holds_at
holds-element A x k e = words-sound x (A.element k) (T_of _ (and-true (A.chosen k) _ e).1)

module _ (core file : List ℕ) (p : Passed) where
  pub ahead_none : p.rows ≤ rows core_layout core → Ahead core file p p.records 0 p.rows
  ahead_none l = record { under = λ k g h. absurd (omega arith); behind = omega arith; within = l }

  module _ {i from top next stamp : ℕ} (a : Ahead core file p i top next) (s : Stands file i from) (l : i < length (records_of file))
      (es : stamp ≡ pack 8 (from + 2) (word file)) where
    own-stamp : stamp_of ((file_run file).element i) ≡ stamp
    unfolding file_run
    own-stamp = ap stamp_of (sym (stands-cells file s l)) ∙ sym (es ∙ stamp-is file from)

    pub ahead_more : {high after : ℕ} → top ≤ high → stamp ≤ high → p.rows ≤ after → after ≤ rows core_layout core → Ahead core file p (i + 1) high after
    ahead_more {high} m n g w =
        record {
          under = λ k d h. go k d (eq-or-lt_of_le (below k h));
          behind = g;
          within = w;
        }
      where
        below : (k : ℕ) → k < i + 1 → k ≤ i
        below k h = omega arith

        go : (k : ℕ) → p.records ≤ k → (k ≡ i) ⊎ (k < i) → stamp_of ((file_run file).element k) ≤ high
        go k d (inl e) = subst (λ (j : ℕ). stamp_of ((file_run file).element j) ≤ high) (sym e) (omega (arith, own-stamp))
        go k d (inr h) = omega (arith, a.under k d h)

    pub risen-partnered : Agreed core file p → p.records ≤ i → top < stamp → {r : ℕ} → next ≤ r → r < rows core_layout core →
        holds_at (core_run core) (record_cells (drop from file)) r ≡ true → false ≡ alone (file_run file) (core_run core) i
    unfolding file_run core_run
    risen-partnered h g above {r} m n e =
        let x = record_cells (drop from file) in
        let y = (file_run file).element i in
        let q : x ≡ y = stands-cells file s l in
        let many = one-between (holds_at (core_run core) y) p.rows (rows core_layout core) r (omega (arith, a.behind, m)) n (ap (λ (z : List ℕ). holds_at (core_run core) z r) (sym q) ∙ e) in
        let few = none_between (holds_at (file_run file) y) p.records i
        (λ k d c t. let z = ap stamp_of (holds-element (file_run file) y k t) in omega (arith, z, own-stamp, a.under k d c, above))
        in
        sym
        (alone-from (file_run file) (core_run core) p.records p.rows h.equally h.within i g
        ∙ lt-leb (count_between (holds_at (core_run core) y) p.rows (rows core_layout core)) (count_between (holds_at (file_run file) y) p.records i) (omega (arith, many, few)))
