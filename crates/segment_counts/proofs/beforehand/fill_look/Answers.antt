-- `segment_counts::beforehand::fill_look` meets its contract: the copy, its charge, the sums, the largest of it (Looking.antt).
use mathlib.Core.List.{List}
use mathlib.Core.Path.{sym, ap, subst, ◌∙◌}
use Prim.Native.Nat.{ℕ}
use Rattle.field.specs.Elements.{ElementRow}
use Rattle.bitwise.specs.Columns.{NUM-COUNTERS}
use Rattle.bitwise.specs.Charge.{charged_counters}
use Rattle.segment_counts.specs.Segment.{list_charged}
use Rattle.segment_counts.proofs.Looking.{copy-all, copy-elements, copy-charged, look-words}
use Rattle.segment_counts.proofs.beforehand.fill_look.Goals as goal

pub charge_segment-requires : goal.charge_segment-requires
charge_segment-requires c =
    let C = c.args.counters.now in
    let D = c.args.copy.now in (
      c.requires.0,
      c.requires.1,
      c.requires.2,
      subst (ElementRow NUM-COUNTERS) (sym (copy-all C D c.requires.5 _ c.put_words.ensures)) (copy-elements C D c.requires.5 c.requires.3),
      c.requires.4,
    )

pub returns : goal.returns
returns c =
    let ops = c.args.ops.now in
    let C = c.args.counters.now in
    let D = c.args.copy.now in
    let nr = c.args.nr in
    let floor = c.args.floor in
    let F = list_charged nr floor c.args.shipped ops in
    let copied = c.charge_segment.ensures ∙ ap (λ (A : List ℕ). charged_counters A F) (copy-all C D c.requires.5 _ c.put_words.ensures) ∙ copy-charged C D c.requires.5 F in
    record {
      copied = copied;
      words = look-words nr floor c.requires.0 c.args.shipped ops C D c.requires.5 (λ n. (c.type_inv.ops n).fits) _ _ _ c.args.out.now _
          c.kind_sums-sums.ensures copied c.largest_counters-most.ensures c.requires.6 c.put_look.ensures;
    }
