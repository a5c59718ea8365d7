-- `keccak_rnd_operands::operand_byte` meets its contract: of the row, or of its terms.
use mathlib.Core.Path.{refl}
use native.Mathlib.Omega.{arith}
use Rattle.keccak_rnd_operands.proofs.Sources.{term-within, column-within, byte_of}
use Rattle.keccak_rnd_operands.specs.Lanes.{operand_byte}
use Rattle.keccak_rnd_operands.proofs.operand_byte.Goals as goal

pub overflow_add-result : goal.overflow_add-result
overflow_add-result c = let b = column-within c.in-Column.is c.requires.1 in omega arith

pub offset_bounds-row-k : goal.offset_bounds-row-k
offset_bounds-row-k c = let b = column-within c.in-Column.is c.requires.1 in omega arith

pub bounds-row-k : goal.bounds-row-k
bounds-row-k c = let b = column-within c.in-Column.is c.requires.1 in omega arith

pub overflow_add-k : goal.overflow_add-k
overflow_add-k c = let b = term-within c.in-Term.is c.requires.1 in omega arith

pub term_at-requires : goal.term_at-requires
term_at-requires c = let b = term-within c.in-Term.is c.requires.1 in (c.requires.0, omega arith)

pub returns-in-Column : goal.returns-in-Column
unfolding operand_byte
returns-in-Column c = byte_of _ _ c.in-Column.is refl

pub returns-in-Term : goal.returns-in-Term
unfolding operand_byte
returns-in-Term c = byte_of _ _ c.in-Term.is c.term_at.ensures
