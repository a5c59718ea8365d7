-- `put_list` meets its contract: after i turns the first i operations are stored, and the state has absorbed i blocks.
use mathlib.Core.Path.{◌≡◌}
use Prim.Native.Nat.{◌*◌, ◌≤◌}
use Rattle.lists.specs.Tab.{cells_of}
use Rattle.lists.proofs.Laws.{Filled}
use Rattle.sha3.specs.Sha3.{blocks, absorbed}
use Rattle.keccak.specs.Row.{list_words}
use Rattle.message.specs.Message.{message_op}
use Rattle.message.proofs.blocks.put_list.Given as goal

abbrev pub invariant-loop-i : goal.invariant-loop-i
invariant-loop-i l =
    (l.n ≡ blocks l.message) × (l.i ≤ l.n) × (l.state.lanes ≡ absorbed l.message l.i)
    × Filled l.initial.ops 0 (blocks l.message * 53) (cells_of 53 (λ i. list_words (message_op l.message l.address l.timestamp i))) l.ops (l.i * 53)
