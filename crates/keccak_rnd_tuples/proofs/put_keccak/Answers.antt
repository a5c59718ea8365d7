-- `keccak_rnd_tuples::put_keccak` meets its contract: three words, then the state.
use mathlib.Core.Path.{◌∙◌}
use Rattle.lists.specs.Tab.{word}
use Rattle.keccak_rnd_tuples.specs.States.{state_word}
use Rattle.keccak_rnd_tuples.proofs.States.{keccak-words}
use Rattle.keccak_rnd_tuples.proofs.put_keccak.Goals as goal

pub returns : goal.returns
returns c =
    let a = c.args in
    let row = a.row.now in
    let f = state_word row a.first a.base in
    c.put_state.ensures ∙ keccak-words a.out.now (word row 0) (word row 1) a.round f c.requires.3
