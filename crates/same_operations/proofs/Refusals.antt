-- "The table is refused first, by 2 or 5, then the file as `tally` refuses it, never by 7."
--     table-ragged, table-word   2 and then 5 of the table, with its detail, whatever the file is
--     table-passed       a table that passes: the file's first fault
--     as-tally           so the call refuses exactly what `tally` refuses, for every floor that it accepts
--     same-accepted      when nothing is refused
--     same-never-7
use mathlib.Core.Path.{◌≡◌, refl, sym, ap, ◌∙◌}
use mathlib.Core.Bool.{Bool, false, not}
use mathlib.Core.List.{List}
use mathlib.Core.Logic.{◌↔◌}
use mathlib.Core.Option.{Option, none, some}
use Prim.Native.Nat.{ℕ, ◌%◌}
use native.Mathlib.Omega.{arith}
use borrow.Author.Tests.{eq-eqb, ne_eqb, eqb-true, not-false}
use lib.ListN.{length}
use Rattle.field.proofs.NotElement.{all-elements, none_found, first_found}
use Rattle.answer.specs.Refusal.{accepted, PowerFloor}
use Rattle.answer.specs.declared.Refusal.{Refusal}
use Rattle.answer.specs.declared.Refusal.TheVariants.{NotWhole, NotElement, Unaligned}
use Rattle.answer.proofs.Laws.{refuse-yes, refuse-no, at-yes, at-no, passed-if, passed-at, unlike, later-if, later-at}
use Rattle.verdict.specs.Kind.{Whole, Elements}
use Rattle.verdict.specs.CoreAndRound.{core_layout}
use Rattle.verdict.specs.Failures.{FirstNotElement}
use Rattle.verdict.specs.Verdict.{ragged}
use Rattle.op_file.specs.File.{records_of, first_fault, file_sums, unless, tally_of}
use Rattle.op_file.specs.declared.Sums.{Sums}
use Rattle.op_file.proofs.Cases.{never-7, four, floor-counts}
use Rattle.same_operations.specs.Same.{same_refusal}
use Rattle.std.specs.Prelude.{Err}

module _ (core file : List ℕ) where
  pub table-ragged : (Whole core_layout core → ⊥) → same_refusal core file ≡ some (NotWhole 0)
  unfolding same_refusal ragged
  table-ragged h = refuse-yes _ _ (ap not (ne_eqb (length core % 486) 0 h))

  module _ (whole : Whole core_layout core) where
    pub table-word : (k : ℕ) → FirstNotElement core k → same_refusal core file ≡ some (NotElement k)
    unfolding same_refusal ragged
    table-word k f =
        refuse-no _ (ap not (eq-eqb (length core % 486) 0 whole)) (at-yes NotElement _ (first_found core (length core) k f.there f.fails f.lower))

    pub table-passed : Elements core → same_refusal core file ≡ first_fault 0 0 (records_of file)
    unfolding same_refusal ragged
    table-passed below = refuse-no _ (ap not (eq-eqb (length core % 486) 0 whole)) (at-no NotElement (none_found core (length core) below) refl)

  pub same-accepted : (same_refusal core file ≡ accepted) ↔ (Whole core_layout core × Elements core × (first_fault 0 0 (records_of file) ≡ accepted))
  unfolding same_refusal ragged
  same-accepted = (
    (λ e.
        let a = passed-if _ _ _ e in
        let b = passed-at _ _ _ a.1 in
        (eqb-true (length core % 486) 0 (not-false _ a.0), all-elements core (length core) b.0, b.1)),
    λ h. table-passed h.0 h.1 ∙ h.2,
  )

-- `tally`'s answer for what it found
told-refusal : (o : Option Refusal) (s : Sums) (r : Refusal) → (o ≡ some r) ↔ (unless o s ≡ Err r)
told-refusal none s r = (λ e. cc, λ e. cc)
told-refusal (some x) s r = (λ e. cc, λ e. cc)

pub as-tally : (core file : List ℕ) → Whole core_layout core → Elements core → (floor : ℕ) → PowerFloor floor → (shipped : Bool) (syscall : ℕ) (r : Refusal) →
    (same_refusal core file ≡ some r) ↔ (tally_of floor shipped syscall file ≡ Err r)
as-tally core file whole below floor power shipped syscall r =
    let f = table-passed core file whole below in
    let g = floor-counts floor shipped power syscall file in
    let t = told-refusal (first_fault 0 0 (records_of file)) (file_sums floor shipped syscall file) r in
    ((λ e. g ∙ t.0 (sym f ∙ e)), λ e. f ∙ t.1 (sym g ∙ e))

pub same-never-7 : (core file : List ℕ) (a : ℕ) → same_refusal core file ≡ some (Unaligned a) → ⊥
unfolding same_refusal
same-never-7 core file a e =
    let f = later-at _ _ (λ k. unlike (NotElement k) (Unaligned a) (λ z. omega arith)) (later-if _ _ (unlike (NotWhole 0) (Unaligned a) (λ z. omega arith)) e) in
    never-7 4 false 0 file a (floor-counts 4 false four 0 file ∙ ap (λ (o : Option Refusal). unless o (file_sums 4 false 0 file)) f.1)
