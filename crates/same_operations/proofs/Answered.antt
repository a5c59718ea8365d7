-- What the call answers, for each of its answers.
--     answers-same      'same': nothing is refused, and records and active rows can be matched one to one
--     answers-record    a record: nothing is refused, and it is the first one that finds no partner when its turn comes
--     answers-row       a row: nothing is refused, every record finds a partner, and it is the first active row left
--     answers-refused   a refusal: that of its checks
use mathlib.Core.Path.{◌≡◌, ap, refl, sym, ◌∙◌}
use mathlib.Core.Bool.{Bool, true, false}
use mathlib.Core.List.{List}
use mathlib.Core.Logic.{◌↔◌}
use mathlib.Core.Option.{Option, none, some}
use Prim.Native.Nat.{ℕ, ◌<◌}
use lib.ListN.{length}
use Rattle.lists.specs.Tab.{word}
use Rattle.lists.specs.First.{first_at}
use Rattle.lists.specs.Failure.{Separates, FirstAt}
use Rattle.lists.specs.OneToOne.{OneToOne}
use Rattle.lists.proofs.Failure.{at-none-iff, at-some-iff}
use Rattle.answer.specs.Refusal.{accepted}
use Rattle.answer.specs.declared.Refusal.{Refusal}
use Rattle.verdict.specs.Kind.{rows, row, Active}
use Rattle.verdict.specs.CoreAndRound.{core_layout}
use Rattle.op_file.specs.File.{records_of}
use Rattle.partners.specs.Partners.{unpartnered, left}
use Rattle.same_operations.specs.Same.{Matches, file_run, core_run, row_left, record_left, agreement_of, same_refusal, unless_refused, same_for}
use Rattle.std.specs.Prelude.{Ok, Err}
use Rattle.same_operations.specs.declared.Agreement.{Agreement}
use Rattle.same_operations.specs.declared.Agreement.TheVariants.{Same, Record, Row}
use Rattle.same_operations.proofs.Same.{record_at, InFile, same-matches, one_by_one}

-- ---- the answer by its parts
said : (o : Option Refusal) (a b : Agreement) → (unless_refused o a ≡ Ok b) ↔ ((o ≡ none) × (a ≡ b))
said none a b = (λ e. (refl, cc), λ h. ap Ok h.1)
said (some r) a b = (λ e. (cc, cc), λ h. cc h.0)

record-told : (a b : Option ℕ) (i : ℕ) → (record_left a (row_left b) ≡ Record i) ↔ (a ≡ some i)
record-told none none i = (λ e. cc, λ e. cc)
record-told none (some r) i = (λ e. cc, λ e. cc)
record-told (some j) b i = (λ e. cc, λ e. cc)

row_told : (a b : Option ℕ) (k : ℕ) → (record_left a (row_left b) ≡ Row k) ↔ ((a ≡ none) × (b ≡ some k))
row_told none none k = (λ e. (cc, cc), λ h. cc h.1)
row_told none (some r) k = (λ e. (cc, cc), λ h. cc h.1)
row_told (some j) b k = (λ e. (cc, cc), λ h. cc h.0)

-- a test separates where it passes from where it does not
by-test : (b : Bool) → Separates b (b ≡ true) (b ≡ false)
by-test b = record { fails = λ e. e; holds = λ e. e; is_true = λ e. e; is_false = λ e. e }

module _ (core file : List ℕ) where
  -- whether record i finds no partner when its turn comes, and whether row r is left when all records have had theirs
  abbrev none-for : ℕ → Bool
  none-for = unpartnered (file_run file) (core_run core)

  abbrev row-left : ℕ → Bool
  row-left = left (file_run file) (core_run core)

  pub answers-same : ((k : ℕ) → word file k < 256) → (same_for core file ≡ Ok Same)
      ↔ ((same_refusal core file ≡ accepted) × OneToOne (InFile file) (Active core_layout core) (λ i r. Matches (record_at file i) (row core_layout core r)))
  unfolding same_for
  answers-same small =
      let s = said (same_refusal core file) (agreement_of core file) Same in
      let m = same-matches file small core in
      ((λ e. let h = s.0 e in (h.0, m.0 h.1)), λ h. s.1 (h.0, m.1 h.1))

  pub answers-record : (i : ℕ) → (same_for core file ≡ Ok (Record i))
      ↔ ((same_refusal core file ≡ accepted) × FirstAt (λ k. none-for k ≡ true) (λ k. none-for k ≡ false) (length (records_of file)) i)
  unfolding same_for
  answers-record i =
      let s = said (same_refusal core file) (agreement_of core file) (Record i) in
      let t = record-told (first_at none-for (length (records_of file))) (first_at row-left (rows core_layout core)) i in
      let f = at-some-iff none-for (length (records_of file)) (λ k l. by-test (none-for k)) i in
      ((λ e. let h = s.0 e in (h.0, f.0 (t.0 (sym (one_by_one core file) ∙ h.1)))), λ h. s.1 (h.0, one_by_one core file ∙ t.1 (f.1 h.1)))

  pub answers-row : (r : ℕ) → (same_for core file ≡ Ok (Row r))
      ↔ ((same_refusal core file ≡ accepted) × ((i : ℕ) → InFile file i → none-for i ≡ false)
      × FirstAt (λ k. row-left k ≡ true) (λ k. row-left k ≡ false) (rows core_layout core) r)
  unfolding same_for
  answers-row r =
      let s = said (same_refusal core file) (agreement_of core file) (Row r) in
      let t = row_told (first_at none-for (length (records_of file))) (first_at row-left (rows core_layout core)) r in
      let n = at-none-iff none-for (length (records_of file)) (λ k l. by-test (none-for k)) in
      let f = at-some-iff row-left (rows core_layout core) (λ k l. by-test (row-left k)) r in (
        (λ e. let h = s.0 e in let g = t.0 (sym (one_by_one core file) ∙ h.1) in (h.0, n.0 g.0, f.0 g.1)),
        λ h. s.1 (h.0, one_by_one core file ∙ t.1 (n.1 h.1, f.1 h.2)),
      )

-- a refusal is that of the checks
said-refused : (o : Option Refusal) (a : Agreement) (r : Refusal) → (unless_refused o a ≡ Err r) ↔ (o ≡ some r)
said-refused none a r = (λ e. cc, λ e. cc)
said-refused (some x) a r = (λ e. cc, λ e. cc)

pub answers-refused : (core file : List ℕ) (r : Refusal) → (same_for core file ≡ Err r) ↔ (same_refusal core file ≡ some r)
unfolding same_for
answers-refused core file r = said-refused (same_refusal core file) (agreement_of core file) r
