-- `is_list` meets its contract: the first i operations are the message's, and the state has absorbed i blocks.
use mathlib.Core.Path.{◌≡◌}
use Prim.Native.Nat.{◌-◌, ◌*◌, ◌≤◌}
use Rattle.lists.proofs.Reading.{Alike}
use Rattle.sha3.specs.Sha3.{blocks, absorbed}
use Rattle.message.specs.Message.{message_list}
use Rattle.message.proofs.blocks.is_list.Given as goal

abbrev pub invariant-loop-i : goal.invariant-loop-i
invariant-loop-i l = (l.n ≡ blocks l.message) × (l.i ≤ l.n) × (l.state.lanes ≡ absorbed l.message l.i) × Alike (l.i * 53) l.ops (message_list l.message l.address l.timestamp)

abbrev pub decreases-loop-i : goal.decreases-loop-i
decreases-loop-i l = l.n - l.i
