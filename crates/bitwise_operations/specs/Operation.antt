-- tables/bitwise.rs, `BitwiseOperation`: a lookup, and what its constructors answer.
use Rattle.std.specs.Prelude.{ℕ, ◌/◌, ◌%◌, List, [], ◌∷◌}
use Rattle.std.proofs.Math.Option.{Option, none, some}
use Rattle.answer.specs.Refusal.{accepted, past_end}
use Rattle.answer.specs.declared.Refusal.{Refusal}
use Rattle.bitwise.specs.declared.BitwiseOperationType.{BitwiseOperationType}
use Rattle.bitwise.specs.Columns.{NUM-ROWS}
use Rattle.bitwise.specs.Tuples.{lookup-type-index}
use Rattle.bitwise_operations.specs.declared.BitwiseOperation.{BitwiseOperation}
use Rattle.std.specs.Prelude.{Result, Ok, Err}

abbrev pub operation : BitwiseOperationType → ℕ → ℕ → ℕ → BitwiseOperation
operation kind x y z = record { lookup_type = kind; x = x; y = y; z = z }

-- "Value is decomposed as: x + 256*y + 65536*z."
abbrev pub twenty_bits : BitwiseOperationType → ℕ → BitwiseOperation
twenty_bits kind value = operation kind (value % 256) (value / 256 % 256) (value / 65536)

-- The answer of a constructor, from what its check found.
unfoldable pub operation_of : BitwiseOperation → Option Refusal → Result BitwiseOperation Refusal
operation_of op none = Ok op
operation_of op (some r) = Err r

-- What `zero` refuses: 1 "ZERO value must fit in 20 bits".
unfoldable pub zero_refusal : ℕ → Option Refusal
zero_refusal value = past_end NUM-ROWS value accepted

-- The four words by which a lookup is lent.
abbrev pub lookup_words : BitwiseOperation → List ℕ
lookup_words op = lookup-type-index op.lookup_type ∷ op.x ∷ op.y ∷ op.z ∷ []
