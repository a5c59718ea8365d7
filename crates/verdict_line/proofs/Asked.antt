-- What the evaluators of a tuple ask of a row, and whose tuple they give.
use Prim.Native.Nat.{ℕ, ◌≤◌, ◌<◌}
use mathlib.Core.Path.{◌≡◌, sym, ap, subst, ◌∙◌}
use mathlib.Core.List.{List}
use native.Mathlib.Nat.{le_trans}
use lib.ListN.{length}
use Rattle.field.specs.Elements.{ElementRow}
use Rattle.keccak.specs.Columns.{NUM-COLUMNS as CORE-COLUMNS}
use Rattle.keccak.specs.Tuples.{NUM-TUPLES as CORE-TUPLES, core_tuple}
use Rattle.keccak_rnd.specs.Columns.{NUM-COLUMNS as ROUND-COLUMNS}
use Rattle.keccak_rnd.specs.Tuples.{NUM-TUPLES as ROUND-TUPLES, round_tuple}
use Rattle.verdict.specs.Kind.{Layout, rows, row, Elements}
use Rattle.verdict.specs.CoreAndRound.{core_layout, round_layout}
use Rattle.verdict.specs.declared.Table.{Table}
use Rattle.verdict.specs.declared.Table.TheVariants.{Core, Round}
use Rattle.judge_scan.proofs.Scan.{part-is, part-row}
use Rattle.verdict_line.specs.Line.{tuple_at}
use Rattle.verdict_line.specs.Named.{Named}
use Rattle.verdict_line.proofs.Most.{named-fits}

row-element : (A : Layout) (ws : List ℕ) (r : ℕ) → Elements ws → r < rows A ws → ElementRow A.width (row A ws r)
row-element A ws r h l = subst (ElementRow A.width) (part-is A.width ws r l) (part-row A.width ws r l h)

module _ (nr : ℕ) (core round x : List ℕ) (t : Table) (r i room : ℕ) (enough : 203 ≤ room) (named : Named core round t r i) where
  -- of a core row
  module _ (told : t ≡ Core) (is : x ≡ row core_layout core r) where
    here : Named core round Core r i
    here = subst (λ (u : Table). Named core round u r i) told named

    pub core_is : core_tuple nr 0 x i ≡ tuple_at nr core round t r i
    unfolding tuple_at
    core_is = ap (λ (y : List ℕ). core_tuple nr 0 y i) is ∙ sym (ap (λ (u : Table). tuple_at nr core round u r i) told)

    pub core-asked : ElementRow CORE-COLUMNS x × (i < CORE-TUPLES) × (length (core_tuple nr 0 x i).values ≤ room)
    core-asked = (
      subst (ElementRow CORE-COLUMNS) (sym is) (row-element core_layout core r here.core-below here.there.0),
      here.there.1,
      subst (λ (y : List ℕ). length y ≤ room) (sym (ap (λ u. u.values) core_is))
          (le_trans (named-fits nr core round t r i named).few enough),
    )

  -- of a round row
  module _ (told : t ≡ Round) (is : x ≡ row round_layout round r) where
    there : Named core round Round r i
    there = subst (λ (u : Table). Named core round u r i) told named

    pub round_is : round_tuple x i ≡ tuple_at nr core round t r i
    unfolding tuple_at
    round_is = ap (λ (y : List ℕ). round_tuple y i) is ∙ sym (ap (λ (u : Table). tuple_at nr core round u r i) told)

    pub round-asked : ElementRow ROUND-COLUMNS x × (i < ROUND-TUPLES) × (length (round_tuple x i).values ≤ room)
    round-asked = (
      subst (ElementRow ROUND-COLUMNS) (sym is) (row-element round_layout round r there.round-below there.there.0),
      there.there.1,
      subst (λ (y : List ℕ). length y ≤ room) (sym (ap (λ u. u.values) round_is))
          (le_trans (named-fits nr core round t r i named).few enough),
    )
