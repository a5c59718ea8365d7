-- `keccak_state_tuples::put_sheet` meets its contract: after y turns the first y lanes are stored.
use Prim.Native.Nat.{◌*◌}
use Rattle.lists.proofs.Laws.{Filled}
use Rattle.keccak_state_tuples.specs.Parts.{sheet_word}
use Rattle.keccak_state_tuples.proofs.put_sheet.Given as goal

abbrev pub invariant-loop-y : goal.invariant-loop-y
invariant-loop-y l = Filled l.initial.out l.at 40 (sheet_word l.row l.base l.x) l.out (8 * l.y)
