-- More statements of Items 4 and 12 (Statements.antt has the others): 7 before 5 in every call that can tell both, and what the comparison of an
-- operation file with a core table answers and refuses (same_operations/specs/Same.antt).
use mathlib.Core.Path.{◌≡◌, ◌∙◌}
use mathlib.Core.Bool.{Bool, true, false}
use mathlib.Core.List.{List}
use mathlib.Core.Logic.{◌↔◌}
use mathlib.Core.Option.{some}
use Prim.Native.Nat.{ℕ, ◌≤◌, ◌<◌}
use lib.ListN.{length}
use Rattle.lists.specs.Tab.{word}
use Rattle.lists.specs.Failure.{FirstAt}
use Rattle.lists.specs.OneToOne.{OneToOne}
use Rattle.answer.specs.Refusal.{accepted, PowerFloor}
use Rattle.answer.specs.declared.Refusal.{Refusal}
use Rattle.answer.specs.declared.Refusal.TheVariants.{NotWhole, NotElement, Unaligned}
use Rattle.bitwise.specs.Columns.{NUM-COUNTERS}
use Rattle.keccak.specs.Refusals.{operations_refusal}
use Rattle.segment_counts.specs.Segment.{charge_refusal, look_refusal, LOOK-WORDS}
use Rattle.segment_counts.proofs.Accepted.{charge-list, look-refused}
use Rattle.registers.specs.Registers.{in_use, register_refusal, register_look_refusal, REGISTER-LOOK-WORDS}
use Rattle.registers.proofs.Accepted.{register-look-refused}
use Rattle.registers.proofs.Left.{register-as-charge}
use Rattle.verdict.specs.Kind.{Whole, Elements, rows, row, Active}
use Rattle.verdict.specs.CoreAndRound.{core_layout}
use Rattle.verdict.specs.Failures.{FirstNotElement}
use Rattle.op_file.specs.File.{records_of, first_fault, tally_of}
use Rattle.partners.specs.Partners.{unpartnered, left}
use Rattle.same_operations.specs.Same.{Matches, file_run, core_run, same_refusal, same_for}
use Rattle.same_operations.specs.declared.Agreement.TheVariants.{Same, Record, Row}
use Rattle.same_operations.proofs.Same.{record_at, InFile}
use Rattle.same_operations.proofs.Refusals as refusals
use Rattle.same_operations.proofs.Answered.{answers-same, answers-record, answers-row, answers-refused}
use Rattle.std.specs.Prelude.{Err, Ok}

-- Item 4: "Refused: 7 .. after 4 and before 5": the calls that can tell both charge a list to counters. Where the list is refused by 7 (when
-- that is: `first-unaligned`, `after-4`) they are, whatever the counters and the ledgers hold
module _ (nr floor : ℕ) (ops counters : List ℕ) (right : (1 ≤ nr) × (nr ≤ 24) × PowerFloor floor) {a : ℕ}
    (told : operations_refusal (length counters) NUM-COUNTERS ops ≡ some (Unaligned a)) where
  pub charge-7-before-5 : charge_refusal nr floor ops counters ≡ some (Unaligned a)
  charge-7-before-5 = charge-list nr floor ops counters right.0 right.1 right.2 told

  pub look-7-before-5 : (copy out : ℕ) → NUM-COUNTERS ≤ copy → LOOK-WORDS ≤ out → look_refusal nr floor ops counters copy out ≡ some (Unaligned a)
  look-7-before-5 copy out room twenty = look-refused nr floor ops counters copy out room twenty ∙ charge-7-before-5

  module _ (register : ℕ) (ledgers : List ℕ) (used : register < in_use (length ledgers)) where
    pub register-7-before-5 : register_refusal nr floor register ops counters ledgers ≡ some (Unaligned a)
    register-7-before-5 = register-as-charge nr floor register ops counters ledgers right used charge-7-before-5

    pub register-look-7-before-5 : (copy out : ℕ) → NUM-COUNTERS ≤ copy → REGISTER-LOOK-WORDS ≤ out →
        register_look_refusal nr floor register ops counters ledgers copy out ≡ some (Unaligned a)
    register-look-7-before-5 copy out room thirty = register-look-refused nr floor register ops counters ledgers copy out room thirty ∙ register-7-before-5

-- Item 12, of what the call `same_operations` answers, `same_for`: a refusal exactly where its checks refuse, and else one of three answers.
-- "Say 'same' exactly when the active core rows, as timestamp, address, INPUT and OUTPUT, are the file's operations in some order, repeats
-- counted."
module _ (core file : List ℕ) where
  pub same_answer : ((k : ℕ) → word file k < 256) → (same_for core file ≡ Ok Same)
      ↔ ((same_refusal core file ≡ accepted) × OneToOne (InFile file) (Active core_layout core) (λ i r. Matches (record_at file i) (row core_layout core r)))
  same_answer = answers-same core file

  -- "Else give the first file record with no partner of its own": the first that finds none when its turn comes, "Equal copies are partnered
  -- earliest first."
  abbrev alone : ℕ → Bool
  alone = unpartnered (file_run file) (core_run core)

  pub record-answer : (i : ℕ) → (same_for core file ≡ Ok (Record i))
      ↔ ((same_refusal core file ≡ accepted) × FirstAt (λ k. alone k ≡ true) (λ k. alone k ≡ false) (length (records_of file)) i)
  record-answer = answers-record core file

  -- "or failing that the first active row left, by its number in the file or table, from 0"
  abbrev unused : ℕ → Bool
  unused = left (file_run file) (core_run core)

  pub row-answer : (r : ℕ) → (same_for core file ≡ Ok (Row r))
      ↔ ((same_refusal core file ≡ accepted) × ((i : ℕ) → InFile file i → alone i ≡ false)
      × FirstAt (λ k. unused k ≡ true) (λ k. unused k ≡ false) (rows core_layout core) r)
  row-answer = answers-row core file

  pub refused-answer : (r : Refusal) → (same_for core file ≡ Err r) ↔ (same_refusal core file ≡ some r)
  refused-answer = answers-refused core file

  -- "The table is refused first, by 2 or 5, then the file as `tally` refuses it, never by 7." (`same-not-7`): accepted exactly where none of it
  -- is so ..
  pub same_taken : (same_refusal core file ≡ accepted) ↔ (Whole core_layout core × Elements core × (first_fault 0 0 (records_of file) ≡ accepted))
  same_taken = refusals.same-accepted core file

  -- .. by 2 and then by 5, whatever the file is ..
  pub same-by-2 : (Whole core_layout core → ⊥) → same_refusal core file ≡ some (NotWhole 0)
  same-by-2 = refusals.table-ragged core file

  module _ (whole : Whole core_layout core) where
    pub same-by-5 : (k : ℕ) → FirstNotElement core k → same_refusal core file ≡ some (NotElement k)
    same-by-5 = refusals.table-word core file whole

    -- .. and where the table passes by what `tally` refuses the file by, in either mode and for every floor that it accepts
    pub same-as-tally : Elements core → (floor : ℕ) → PowerFloor floor → (shipped : Bool) (syscall : ℕ) (r : Refusal) →
        (same_refusal core file ≡ some r) ↔ (tally_of floor shipped syscall file ≡ Err r)
    same-as-tally = refusals.as-tally core file whole
