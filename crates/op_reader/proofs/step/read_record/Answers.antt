-- `step::read_record` meets its contract: the checks of a record in their order.
use Rattle.op_file.specs.File.{is_mark, record_size, segment_of, record_word}
use Rattle.op_file.proofs.Steps.{size-least, first-not, second-not, both_right, bad-ends, good-ends}
use Rattle.lists.specs.Tab.{pick, word}
use Rattle.bits.specs.Bits.{pack}
use borrow.Author.Tests.{eq-eqb, ne_eqb}
use lib.ListN.{get_or}
use mathlib.Core.Bool.{Bool, true}
use mathlib.Core.Path.{◌≡◌, ap, sym, ◌∙◌}
use native.Mathlib.Omega.{arith}
use Rattle.op_reader.proofs.step.read_record.Goals as goal

pub bounds-r-0 : goal.bounds-r-0
bounds-r-0 c = omega (arith, c.requires.1, size-least c.args.marked)

pub returns-then-r-ne-FIRST_MARK : goal.returns-then-r-ne-FIRST_MARK
returns-then-r-ne-FIRST_MARK c = bad-ends c.args.w c.requires.0 c.args.r.now (first-not c.args.r.now (ne_eqb _ _ c.if-r-ne-FIRST_MARK.true))

pub bounds-r-1 : goal.bounds-r-1
bounds-r-1 c = omega (arith, c.requires.1, size-least c.args.marked)

pub returns-then-not-is_mark : goal.returns-then-not-is_mark
returns-then-not-is_mark c =
    bad-ends c.args.w c.requires.0 c.args.r.now (second-not c.args.r.now (sym c.is_mark.ensures ∙ c.if-not-is_mark.true))

pub word_at-addr-requires : goal.word_at-addr-requires
word_at-addr-requires c = omega (arith, c.requires.1, size-least c.args.marked)

pub returns : goal.returns
unfolding record_word segment_of
returns c =
    let r = c.args.r.now in
    let marked = sym c.requires.2 in
    let first = eq-eqb _ _ c.if-r-ne-FIRST_MARK.false in
    let second : is_mark (get_or r 1 0) ≡ true = sym c.is_mark.ensures ∙ c.if-not-is_mark.false in
    c.end_record.ensures
    ∙ good-ends c.args.w c.requires.0 r (both_right r (c.requires.1 ∙ ap record_size marked) first second) c.word_at-addr.ensures marked (c.segment_at-segment.ensures ∙ ap (λ (b : Bool). pick b (pack 4 418 (word r)) 0) marked)
