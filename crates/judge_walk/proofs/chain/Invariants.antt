-- `judge_walk::chain` meets its contract: what is left of the chain from row q on is what was from row b on.
use mathlib.Core.Path.{◌≡◌}
use Prim.Native.Nat.{◌-◌}
use Rattle.judge_links.specs.Even.{Started}
use Rattle.judge_walk.specs.Walk.{chain_to, chain_from}
use Rattle.judge_walk.proofs.chain.Given as goal

abbrev pub invariant-loop-q : goal.invariant-loop-q
invariant-loop-q l =
    Started l.round l.last × (chain_to l.nr l.core l.a l.round l.last l.q (l.rows - l.q) ≡ chain_from l.nr l.core l.a l.round l.b)
