-- `is_wh_rows::put_key_rows` meets its contract: after j turns the first j rows of the key are stored.
use Rattle.is_wh_rows.proofs.Flat.{KeyStored}
use Rattle.is_wh_rows.proofs.put_key_rows.Given as goal

abbrev pub invariant-loop-j : goal.invariant-loop-j
invariant-loop-j l = KeyStored l.initial.rows l.at l.code l.n l.rows l.j
