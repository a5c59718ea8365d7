-- `keccak_state_tuples::memw::put_register` meets its contract: eight words are stored.
use Rattle.lists.specs.Tab.{tab, tab_from}
use Rattle.keccak_state_tuples.proofs.memw.put_register.Goals as goal

pub returns : goal.returns
unfolding tab tab_from
returns c = c.put_words.ensures
