-- `keccak_rnd_operands::operand_lane` meets its contract: of the row, or of its terms.
use native.Mathlib.Omega.{arith}
use Rattle.keccak_rnd_operands.proofs.Sources.{term-within, column-lane, term-lane, column-within}
use Rattle.keccak_rnd_operands.proofs.operand_lane.Goals as goal

pub lane_from-requires : goal.lane_from-requires
lane_from-requires c = let b = column-within c.in-Column.is c.requires.2 in omega arith

pub lane_from-requires-in-Term : goal.lane_from-requires-in-Term
lane_from-requires-in-Term c = let b = term-within c.in-Term.is c.requires.2 in omega (arith, c.requires.1.long)

pub returns-in-Column : goal.returns-in-Column
returns-in-Column c = column-lane _ c.in-Column.is c.lane_from.ensures

pub returns-in-Term : goal.returns-in-Term
returns-in-Term c = term-lane _ _ c.requires.1 c.in-Term.is (term-within c.in-Term.is c.requires.2) c.lane_from-in-Term.ensures
