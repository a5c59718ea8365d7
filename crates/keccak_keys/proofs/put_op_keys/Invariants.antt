-- `keccak_keys::put_op_keys` meets its contract: after i turns the keys of the first i operations are stored.
use Prim.Native.Nat.{◌*◌, ◌≤◌, ◌/◌, ◌%◌}
use Rattle.lists.proofs.Laws.{Filled}
use Rattle.keccak.specs.Row.{op_at, is-wh-keys, key_word}
use Rattle.keccak_keys.proofs.put_op_keys.Given as goal

abbrev pub invariant-loop-i : goal.invariant-loop-i
invariant-loop-i l = (l.i ≤ l.n) × Filled l.initial.out 0 (l.n * 50) (λ k. key_word (is-wh-keys (op_at l.ops) (k / 2)) (k % 2)) l.out (l.i * 50)
