-- What the words of a row say of the scan of its table.
--     tells-values, tells-marked    word i is 0 exactly where value or tuple i of the row is good
--     Told                          so it is of row r of a table, whatever the number of rounds
--     good, bad, next-row           what a test of such a word says, and their OR where it is 0
--     Clear, ClearTo                nothing is found in the rows before one, and before an index in it
use mathlib.Core.Path.{◌≡◌, refl, sym, ap, subst, ◌∙◌}
use mathlib.Core.Bool.{Bool, not}
use mathlib.Core.List.{List}
use mathlib.Core.Option.{none, some}
use Prim.Native.Nat.{ℕ, ◌+◌, ◌≤◌, ◌<◌}
use native.Mathlib.Omega.{arith}
use borrow.Author.Tests.{eq-eqb, ne_eqb}
use lib.Dec.{eqb}
use lib.ListN.{length}
use lib.Seq.{sets, length-sets}
use Rattle.lists.specs.Tab.{word, tab, row_at}
use Rattle.lists.specs.First.{first, first_in, at_place, in_row}
use Rattle.lists.proofs.First.{first-start, first_more, row-nothing, row_more, in-more, in-hit, in-none}
use Rattle.lists.proofs.Laws.{stored_at}
use Rattle.field.specs.Elements.{ElementRow}
use Rattle.residue.specs.Residue.{or_all, Marked}
use Rattle.residue.proofs.Or.{or-each}
use Rattle.verdict.specs.Kind.{Kind, rows, row}
use Rattle.verdict.specs.Verdict.{bad_value, bad_lookup}
use Rattle.verdict.specs.declared.Table.{Table}
use Rattle.verdict.specs.declared.Table.TheVariants.{Core, Round}
use Rattle.judge_scan.specs.Tables.{kind_of, layout_of}
use Rattle.judge_scan.proofs.Scan.{layout_is}
use Rattle.judge_rows.specs.Checks.{size_of, fails, first_failure, Tells}
use Rattle.judge_rows.specs.declared.Check.{Check}
use Rattle.judge_rows.specs.declared.Check.TheVariants.{Values, Lookups}

-- ---- the words of a row
module _ (K : Kind) (x old new : List ℕ) where
  pub tells-values : K.values ≤ length old → new ≡ sets old 0 (tab K.values (K.value x)) → Tells K Values x old new
  unfolding size_of fails
  tells-values l e =
      record {
        kept = ap length e ∙ length-sets old 0 (tab K.values (K.value x));
        is = λ i g. ap (λ (v : ℕ). not (eqb v 0)) (sym (stored_at old new (K.value x) K.values i l e g));
      }

  pub tells-marked : Marked K.tuples (K.tuple x) old new → Tells K Lookups x old new
  unfolding size_of fails
  tells-marked m = record { kept = m.long; is = λ i g. sym (ap not (m.zero i g)) }

-- what a match has found
module _ {t u : Table} {c d : Check} (et : t ≡ u) (ec : c ≡ d) where
  pub told-size : (n : ℕ) → ((nr : ℕ) → n ≡ size_of (kind_of nr u) d) → (nr : ℕ) → n ≡ size_of (kind_of nr t) c
  told-size n h nr = h nr ∙ sym (λ i. size_of (kind_of nr (et i)) (ec i))

  pub told-words : (x old new : List ℕ) → ((nr : ℕ) → Tells (kind_of nr u) d x old new) → (nr : ℕ) → Tells (kind_of nr t) c x old new
  told-words x old new h nr =
      subst (λ (s : Table). Tells (kind_of nr s) c x old new) (sym et) (subst (λ (b : Check). Tells (kind_of nr u) b x old new) (sym ec) (h nr))

-- a row of the table that it has found
pub row_of : {t u : Table} → t ≡ u → (x : List ℕ) → ElementRow (layout_of t).width x → ElementRow (layout_of u).width x
row_of e x h = subst (λ (s : Table). ElementRow (layout_of s).width x) e h

pub size_small : (t : Table) (c : Check) → size_of (kind_of 0 t) c ≤ 1031
unfolding size_of kind_of
size_small Core Values = omega arith
size_small Core Lookups = omega arith
size_small Round Values = omega arith
size_small Round Lookups = omega arith

-- ---- the scan of a table
abbrev bad : Kind → Check → List ℕ → ℕ → ℕ → Bool
bad K c ws r i = fails K c (row K.layout ws r) i

failure-is : (K : Kind) (c : Check) (ws : List ℕ) → first_failure K c ws ≡ first_in (bad K c ws) (size_of K c) (rows K.layout ws)
unfolding first_failure size_of fails bad_value bad_lookup
failure-is K Values ws = refl
failure-is K Lookups ws = refl

module _ (t : Table) (c : Check) (ws : List ℕ) where
  abbrev kind : ℕ → Kind
  kind nr = kind_of nr t

  -- nothing is found in the rows before r
  unfoldable pub Clear : ℕ → Type 0
  Clear r = (nr : ℕ) → first (in_row (bad (kind nr) c ws) (size_of (kind nr) c)) r ≡ none

  -- nor in row r before an index
  unfoldable pub ClearTo : ℕ → ℕ → Type 0
  ClearTo r i = (nr : ℕ) → first (at_place (bad (kind nr) c ws) r) i ≡ none

  pub clear-start : Clear 0
  unfolding Clear
  clear-start nr = first-start _

  pub clear-from : (r : ℕ) → ClearTo r 0
  unfolding ClearTo
  clear-from r nr = first-start _

  pub clear-end : (r n : ℕ) → n ≡ rows (layout_of t) ws → r ≤ n → n ≤ r → Clear r → (nr : ℕ) → first_failure (kind nr) c ws ≡ none
  unfolding Clear
  clear-end r n e l g h nr =
      let z : rows (kind nr).layout ws ≡ n = ap (λ (A : _). rows A ws) (layout_is nr t) ∙ sym e in
      failure-is (kind nr) c ws ∙ in-none _ _ r (rows (kind nr).layout ws) (omega arith) (omega arith) (h nr)

  -- what the words of row r say
  pub record Told (r size : ℕ) (words : List ℕ) : Type 0 where
    pub sized : (nr : ℕ) → size ≡ size_of (kind nr) c
    pub is : (nr i : ℕ) → i < size → bad (kind nr) c ws r i ≡ not (eqb (word words i) 0)

  pub told : (r size : ℕ) (x old new : List ℕ) → ((nr : ℕ) → size ≡ size_of (kind nr) c) → x ≡ row_at (layout_of t).width ws r →
      ((nr : ℕ) → Tells (kind nr) c x old new) → Told r size new
  told r size x old new e ex h =
      record {
        sized = e;
        is = λ nr i g.
            let z : row (kind nr).layout ws r ≡ x = ap (λ (A : _). row A ws r) (layout_is nr t) ∙ sym ex in
            ap (λ (y : List ℕ). fails (kind nr) c y i) z ∙ (h nr).is i (omega (arith, e nr));
      }

  module _ (r size : ℕ) (words : List ℕ) (h : Told r size words) where
    pub next-index : (i : ℕ) → i < size → word words i ≡ 0 → ClearTo r i → ClearTo r (i + 1)
    unfolding ClearTo
    next-index i l z f nr = in-more _ 0 _ _ (f nr) (h.is nr i l ∙ ap not (eq-eqb _ 0 z))

    pub row-end : (i : ℕ) → i ≤ size → size ≤ i → Clear r → ClearTo r i → Clear (r + 1)
    unfolding Clear ClearTo
    row-end i l g f k nr = row_more _ _ _ _ (f nr) (omega (arith, h.sized nr)) (omega (arith, h.sized nr)) (k nr)

    pub row-good : (x : ℕ) → x ≡ or_all size (word words) → x ≡ 0 → Clear r → Clear (r + 1)
    unfolding Clear in_row
    row-good x e z f nr =
        first_more (in_row (bad (kind nr) c ws) (size_of (kind nr) c)) r (f nr)
        (row-nothing (bad (kind nr) c ws) (size_of (kind nr) c) r (size_of (kind nr) c) (λ i l.
        h.is nr i (omega (arith, h.sized nr)) ∙ ap not (eq-eqb _ 0 (or-each size (word words) (sym e ∙ z) i (omega (arith, h.sized nr))))))

    pub found-bad : (i : ℕ) → i < size → (word words i ≡ 0 → ⊥) → (n : ℕ) → n ≡ rows (layout_of t) ws → r < n → Clear r → ClearTo r i →
        (nr : ℕ) → first_failure (kind nr) c ws ≡ some (r, i)
    unfolding Clear ClearTo
    found-bad i l z n e g f k nr =
        let q : rows (kind nr).layout ws ≡ n = ap (λ (A : _). rows A ws) (layout_is nr t) ∙ sym e in
        failure-is (kind nr) c ws ∙ in-hit _ _ _ _ _ (omega arith) (omega (arith, h.sized nr)) (f nr) (k nr) (h.is nr i l ∙ ap not (ne_eqb _ 0 z))
