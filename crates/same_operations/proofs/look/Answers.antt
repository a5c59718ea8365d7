-- `same_operations::look` meets its contract: one equal row for a timestamp above all before it, else by counts.
use mathlib.Core.Path.{sym, ◌∙◌}
use native.Mathlib.Omega.{arith}
use Rattle.lists.proofs.First.{place_at}
use Rattle.same_operations.proofs.Scans.{stands-enough}
use Rattle.same_operations.proofs.Rising.{from_found, ahead_more, risen-partnered}
use Rattle.same_operations.proofs.look.Goals as goal

pub overflow_add-from : goal.overflow_add-from
overflow_add-from c = let enough = stands-enough _ c.requires.1 c.requires.3 in omega arith

pub word_at-stamp-requires : goal.word_at-stamp-requires
word_at-stamp-requires c = let enough = stands-enough _ c.requires.1 c.requires.3 in omega arith

pub record_alone-requires : goal.record_alone-requires
record_alone-requires c = (c.requires.0, c.requires.1, c.requires.2, c.requires.3)

pub returns-then-stamp-top : goal.returns-then-stamp-top
returns-then-stamp-top c = (c.record_alone.ensures, ahead_more _ _ _ c.requires.4 c.requires.1 c.requires.3 c.word_at-stamp.ensures (omega arith) (omega (arith, c.if-stamp-top.true)) c.requires.4.behind c.requires.4.within)

pub find_row-requires : goal.find_row-requires
find_row-requires c = (c.requires.4.within, stands-enough _ c.requires.1 c.requires.3)

pub overflow_add-result : goal.overflow_add-result
overflow_add-result c = let f = from_found _ _ _ _ (place_at _ (sym c.in-Some.is ∙ c.find_row.ensures)) in omega (arith, f.1)

pub returns-in-Some : goal.returns-in-Some
returns-in-Some c =
    let f = from_found _ _ _ _ (place_at _ (sym c.in-Some.is ∙ c.find_row.ensures)) in
    let above = c.if-stamp-top.false in (
      risen-partnered _ _ _ c.requires.4 c.requires.1 c.requires.3 c.word_at-stamp.ensures c.requires.0 c.requires.2 above f.0 f.1 f.2,
      ahead_more _ _ _ c.requires.4 c.requires.1 c.requires.3 c.word_at-stamp.ensures (omega (arith, above)) (omega arith) (omega (arith, f.0, c.requires.4.behind)) (omega (arith, f.1)),
    )

pub record_alone-requires-2 : goal.record_alone-requires-2
record_alone-requires-2 c = (c.requires.0, c.requires.1, c.requires.2, c.requires.3)

pub returns : goal.returns
returns c = (c.record_alone-2.ensures, ahead_more _ _ _ c.requires.4 c.requires.1 c.requires.3 c.word_at-stamp.ensures (omega (arith, c.if-stamp-top.false)) (omega arith) c.requires.4.behind c.requires.4.within)
