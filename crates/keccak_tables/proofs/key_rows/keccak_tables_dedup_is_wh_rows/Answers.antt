-- `keccak_tables_dedup_is_wh_rows` meets its contract: the answer of the call that it wraps, flat.
use mathlib.Core.Path.{ap, ◌∙◌}
use Rattle.flat.specs.Flat.{flat_number}
use Rattle.keccak_tables.proofs.key_rows.keccak_tables_dedup_is_wh_rows.Goals as goal

pub returns : goal.returns
returns c = record { answer = c.flat_number.ensures ∙ ap flat_number c.dedup_is_wh_rows.ensures.answer; codes = c.dedup_is_wh_rows.ensures.codes; spare = c.dedup_is_wh_rows.ensures.spare; rows = c.dedup_is_wh_rows.ensures.rows }
