-- `job::verdict_by` meets its contract: both ways give the verdict from the core values on.
use mathlib.Core.Path.{sym, ◌∙◌}
use native.Mathlib.Omega.{arith}
use Rattle.judge.proofs.Passed.{verdict-passed}
use Rattle.job.proofs.verdict_by.Goals as goal

pub from_core_value-requires : goal.from_core_value-requires
from_core_value-requires c = let h = c.requires.1 in (h.core-below, h.round-below)

pub returns-then-scratch-n : goal.returns-then-scratch-n
returns-then-scratch-n c =
    let h = c.requires.1 in
    c.from_core_value.ensures ∙ sym (verdict-passed _ _ _ h.core-whole h.round_whole h.core-below h.round-below)

pub from_core_value-requires-then-spare-n : goal.from_core_value-requires-then-spare-n
from_core_value-requires-then-spare-n c = let h = c.requires.1 in (h.core-below, h.round-below)

pub returns-then-spare-n : goal.returns-then-spare-n
returns-then-spare-n c =
    let h = c.requires.1 in
    c.from_core_value-then-spare-n.ensures ∙ sym (verdict-passed _ _ _ h.core-whole h.round_whole h.core-below h.round-below)

pub from_core_value-requires-2 : goal.from_core_value-requires-2
from_core_value-requires-2 c =
    let h = c.requires.1 in
    let e = c.place_count-n.ensures in
    (h.core-below, h.round-below, omega (arith, e), omega (arith, e))

pub returns : goal.returns
returns c =
    let h = c.requires.1 in
    c.from_core_value-2.ensures ∙ sym (verdict-passed _ _ _ h.core-whole h.round_whole h.core-below h.round-below)
