-- What the code finds of both runs.
--     agreed-none, agreed-more, agreed-skip     the pass along both
--     record-alone-is, row-alone-is, row-off     who is without a partner, by the counts of what is not passed
--     records-passed, rows-passed     nobody who is passed
--     told-record, told-row, told_same, told-all     the answer
--     table-refused, file-refused, not-refused     the call
use mathlib.Core.Path.{◌≡◌, refl, sym, ap, ap₂, subst, ◌∙◌}
use mathlib.Core.Bool.{Bool, true, false, not, ◌&&◌}
use mathlib.Core.List.{List}
use mathlib.Core.Option.{Option, none, some}
use Prim.Native.Nat.{ℕ, zero, suc, ◌+◌, ◌≤◌, ◌<◌}
use native.Mathlib.Omega.{arith}
use borrow.Author.Tests.{ltb-true, lt-ltb, le-ltb}
use lib.Dec.{leb, ltb}
use lib.ListN.{length, drop}
use Rattle.lists.specs.First.{first, at_index, count_below}
use Rattle.lists.specs.Select.{words_test}
use Rattle.lists.proofs.First.{at-nothing, count-start}
use Rattle.lists.proofs.Select.{words-sound}
use Rattle.lists.proofs.Tests.{T_of, and-true, false-and, true-not-false}
use Rattle.answer.specs.Refusal.{refuse_if, refuse_at, accepted}
use Rattle.answer.specs.declared.Refusal.{Refusal}
use Rattle.answer.specs.declared.Refusal.TheVariants.{NotWhole, NotElement}
use Rattle.answer.proofs.Laws.{refuse-no, at-no, passed-if, passed-at, still-if, still-at, none_told_lem}
use Rattle.field.specs.Elements.{first_not_element}
use Rattle.verdict.specs.Kind.{rows, row, active, actives}
use Rattle.verdict.specs.CoreAndRound.{core_layout}
use Rattle.verdict.specs.Verdict.{ragged}
use Rattle.op_file.specs.File.{size_of, records_of, start_at, first_fault}
use Rattle.partners.specs.Partners.{holds_at, count_between, alone, first_alone}
use Rattle.partners.proofs.Counts.{leb-not}
use Rattle.partners.proofs.Partners.{passed-not-alone, alone-from, agree-more, agree-skip, all-partnered}
use Rattle.same_operations.specs.Same.{record_cells, row_cells, file_run, core_run, agreement_of, same_refusal, same_for}
use Rattle.same_operations.specs.Passed.{Stands, Agreed}
use Rattle.same_operations.specs.declared.Passed.{Passed}
use Rattle.std.specs.Prelude.{Ok, Err}
use Rattle.same_operations.specs.declared.Agreement.{Agreement}
use Rattle.same_operations.specs.declared.Agreement.TheVariants.{Same, Record, Row}
use Rattle.same_operations.proofs.Scans.{stands-next, stands-cells}

abbrev pub passed : ℕ → ℕ → ℕ → Passed
passed i from r = record { records = i; bytes = from; rows = r }

count-all : (n : ℕ) → count_below (λ i. true) n ≡ n
unfolding count_below
count-all zero = refl
count-all (suc n) = omega (arith, count-all n)

-- ---- the next record
pub next-none : (i n : ℕ) (b : Bool) → n ≤ i → false ≡ (ltb i n && b)
next-none i n b l = sym (ap (λ (t : Bool). t && b) (le-ltb i n l))

pub next-is : (i n : ℕ) (b : Bool) {t : Bool} → i < n → t ≡ b → t ≡ (ltb i n && b)
next-is i n b l e = e ∙ sym (ap (λ (t : Bool). t && b) (lt-ltb i n l))

pub next-there : (i n : ℕ) (b : Bool) {t : Bool} → t ≡ (ltb i n && b) → t ≡ true → (i < n) × (b ≡ true)
next-there i n b e f = let q = and-true (ltb i n) b (sym e ∙ f) in (ltb-true i n q.0, q.1)

module _ (core file : List ℕ) where
  -- ---- the pass
  pub agreed-none : first_fault 0 0 (records_of file) ≡ none → Agreed core file (passed 0 0 0)
  unfolding start_at
  agreed-none e =
      record {
        stands = record { right = e; there = omega arith; starts = refl };
        within = omega arith;
        equally = λ x. count-start (holds_at (file_run file) x) ∙ sym (count-start (holds_at (core_run core) x));
      }

  module _ {p : Passed} (h : Agreed core file p) (l : p.rows < rows core_layout core) where
    pub agreed-more : {n m to : ℕ} {b : Bool} → active core_layout core p.rows ≡ true → n ≡ length (records_of file) →
        b ≡ (ltb p.records n && words_test (record_cells (drop p.bytes file)) (row_cells (row core_layout core p.rows))) → b ≡ true →
        m ≡ p.records + 1 → to ≡ p.bytes + size_of (drop p.bytes file) → Agreed core file (passed m to (p.rows + 1))
    unfolding file_run core_run
    agreed-more {n = n} {to = to} a en e f em z =
        let q = next-there p.records n (words_test (record_cells (drop p.bytes file)) (row_cells (row core_layout core p.rows))) e f in
        let g : p.records < length (records_of file) = omega (arith, en, q.0) in
        subst (λ (k : ℕ). Agreed core file (passed k to (p.rows + 1))) (sym em)
        (record {
          stands = stands-next file h.stands g z;
          within = omega (arith, l);
          equally =
              agree-more (file_run file) (core_run core) p.records p.rows h.equally refl a
              (sym (stands-cells file h.stands g) ∙ words-sound _ _ (T_of _ q.1));
        })

    pub agreed-skip : {m to : ℕ} → active core_layout core p.rows ≡ false → m ≡ p.records → to ≡ p.bytes → Agreed core file (passed m to (p.rows + 1))
    unfolding file_run core_run
    agreed-skip a em z =
        subst (λ (q : Passed). Agreed core file q) (λ i. passed (sym em i) (sym z i) (p.rows + 1))
        (record {
          stands = h.stands;
          within = omega (arith, l);
          equally = agree-skip (file_run file) (core_run core) p.records p.rows h.equally a;
        })

  module _ {p : Passed} (h : Agreed core file p) where
    -- ---- a record
    pub records-passed : first (at_index (alone (file_run file) (core_run core))) p.records ≡ none
    unfolding core_run
    records-passed =
        at-nothing (alone (file_run file) (core_run core)) p.records
        (λ k l. passed-not-alone (file_run file) (core_run core) p.records p.rows h.equally h.within k l)

    pub record-alone-is : {i from c : ℕ} {t : Bool} → Stands file i from → i < length (records_of file) → p.records ≤ i →
        c ≡ count_between (holds_at (file_run file) (record_cells (drop from file))) p.records i →
        t ≡ ltb c (count_between (holds_at (core_run core) (record_cells (drop from file))) p.rows (rows core_layout core)) →
        not t ≡ alone (file_run file) (core_run core) i
    unfolding file_run core_run
    record-alone-is {i} {from} {c} {t} s l g ec et =
        let x = record_cells (drop from file) in
        ap not (et ∙ ap (λ (n : ℕ). ltb n (count_between (holds_at (core_run core) x) p.rows (rows core_layout core))) ec)
        ∙ sym (leb-not (count_between (holds_at (core_run core) x) p.rows (rows core_layout core)) (count_between (holds_at (file_run file) x) p.records i))
        ∙ ap (λ (y : List ℕ). leb (count_between (holds_at (core_run core) y) p.rows (rows core_layout core)) (count_between (holds_at (file_run file) y) p.records i)) (stands-cells file s l)
        ∙ sym (alone-from (file_run file) (core_run core) p.records p.rows h.equally h.within i g)

    -- ---- a row
    pub rows-passed : first (at_index (alone (core_run core) (file_run file))) p.rows ≡ none
    unfolding file_run
    rows-passed =
        at-nothing (alone (core_run core) (file_run file)) p.rows
        (λ k l. passed-not-alone (core_run core) (file_run file) p.rows p.records (λ x. sym (h.equally x)) h.stands.there k l)

    pub row-alone-is : {r c n : ℕ} {t : Bool} → active core_layout core r ≡ true → p.rows ≤ r → n ≡ length (records_of file) →
        c ≡ count_between (holds_at (core_run core) (row_cells (row core_layout core r))) p.rows r →
        t ≡ ltb c (count_between (holds_at (file_run file) (row_cells (row core_layout core r))) p.records n) →
        not t ≡ alone (core_run core) (file_run file) r
    unfolding file_run core_run
    row-alone-is {r} {c} {n} {t} a g en ec et =
        let x = row_cells (row core_layout core r) in
        ap not (et ∙ ap₂ (λ (m k : ℕ). ltb m (count_between (holds_at (file_run file) x) p.records k)) ec en)
        ∙ sym (leb-not (count_between (holds_at (file_run file) x) p.records (length (records_of file))) (count_between (holds_at (core_run core) x) p.rows r))
        ∙ sym
        (alone-from (core_run core) (file_run file) p.rows p.records (λ x. sym (h.equally x)) h.stands.there r g
        ∙ ap (λ (b : Bool). b && leb (count_between (holds_at (file_run file) x) p.records (length (records_of file))) (count_between (holds_at (core_run core) x) p.rows r)) a)

  pub row-off : (r : ℕ) → active core_layout core r ≡ false → false ≡ alone (core_run core) (file_run file) r
  unfolding alone core_run
  row-off r a = sym (false-and (active core_layout core r) _ (λ z. absurd (true-not-false (sym z ∙ a))))

  -- ---- the answer
  pub told-record : {i : ℕ} → first_alone (file_run file) (core_run core) ≡ some i → Record i ≡ agreement_of core file
  unfolding agreement_of
  told-record e = sym (rw e)

  module _ (e : first_alone (file_run file) (core_run core) ≡ none) where
    pub told-row : {r : ℕ} → first_alone (core_run core) (file_run file) ≡ some r → Row r ≡ agreement_of core file
    unfolding agreement_of
    told-row f = sym (rw (e, f))

    pub told_same : first_alone (core_run core) (file_run file) ≡ none → Same ≡ agreement_of core file
    unfolding agreement_of
    told_same f = sym (rw (e, f))

    -- as many records as active rows
    pub told-all : {m n : ℕ} → m ≡ actives core_layout core → n ≡ length (records_of file) → m ≡ n → Same ≡ agreement_of core file
    unfolding file_run core_run
    told-all em en z = told_same (all-partnered (file_run file) (core_run core) e (count-all (length (records_of file)) ∙ sym en ∙ sym z ∙ em))

  -- ---- the call
  module _ (later : Option Refusal) where
    abbrev checked : Option Refusal
    checked = refuse_if (ragged core_layout core) (NotWhole 0) (refuse_at (first_not_element core (length core)) NotElement later)

  pub table-refused : {r : Refusal} → checked accepted ≡ some r → Err r ≡ same_for core file
  unfolding same_for same_refusal
  table-refused {r} e =
      let z : checked (first_fault 0 0 (records_of file)) ≡ some r = still-if _ _ (still-at _ _ (λ q. absurd (none_told_lem q))) e in sym (rw z)

  module _ (e : checked accepted ≡ none) where
    passes : (later : Option Refusal) → checked later ≡ later
    passes later =
        let a = passed-if _ _ _ e in
        let b = passed-at _ _ _ a.1 in
        refuse-no _ a.0 (at-no _ b.0 refl)

    pub file-refused : {r : Refusal} → first_fault 0 0 (records_of file) ≡ some r → Err r ≡ same_for core file
    unfolding same_for same_refusal
    file-refused f = sym (rw (passes (first_fault 0 0 (records_of file)) ∙ f))

    pub not-refused : {a : Agreement} → first_fault 0 0 (records_of file) ≡ none → a ≡ agreement_of core file → Ok a ≡ same_for core file
    unfolding same_for same_refusal
    not-refused f z = ap Ok z ∙ sym (rw (passes (first_fault 0 0 (records_of file)) ∙ f))
