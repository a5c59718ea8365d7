-- What the constructors of a lookup answer, once their check is known; when they refuse; and that what they make, lent by
-- its four words, is a lookup, which is counted where its kind, X, Y and Z say.
use mathlib.Core.Path.{◌≡◌, refl}
use mathlib.Core.Logic.{◌↔◌}
use mathlib.Core.Option.{Option, none, some}
use Prim.Native.Nat.{ℕ, ◌/◌, ◌%◌, ◌≤◌, ◌<◌}
use native.Mathlib.Omega.{arith}
use Rattle.answer.specs.Refusal.{accepted}
use Rattle.answer.specs.declared.Refusal.{Refusal}
use Rattle.answer.specs.declared.Refusal.TheVariants.{PastEnd}
use Rattle.answer.proofs.Refusals.{index-accepted, index-refused}
use Rattle.bitwise.specs.declared.BitwiseOperationType.{BitwiseOperationType}
use Rattle.bitwise.specs.Row.{row-index}
use Rattle.bitwise.specs.Counters.{counter_at}
use Rattle.bitwise.specs.Tuples.{lookup-type-index}
use Rattle.bitwise.specs.Lookups.{Lookup, lookup_counter}
use Rattle.bitwise.proofs.Numbers.{by_kind}
use Rattle.bitwise_operations.specs.declared.BitwiseOperation.{BitwiseOperation}
use Rattle.bitwise_operations.specs.Operation.{operation, operation_of, zero_refusal, lookup_words}
use Rattle.std.specs.Prelude.{Ok, Err}

pub operation-refused : {o : Option Refusal} {r : Refusal} (op : BitwiseOperation) → o ≡ some r → Err r ≡ operation_of op o
unfolding operation_of
operation-refused op e = rw e

pub operation-is : {o : Option Refusal} (op : BitwiseOperation) → o ≡ none → Ok op ≡ operation_of op o
unfolding operation_of
operation-is op e = rw e

-- `zero` (the others refuse as `row_index` does)
pub zero-accepted : (value : ℕ) → (zero_refusal value ≡ accepted) ↔ (value < 1048576)
unfolding zero_refusal
zero-accepted value = index-accepted 1048576 value

pub zero-past : (value : ℕ) → 1048576 ≤ value → zero_refusal value ≡ some (PastEnd 1048576)
unfolding zero_refusal
zero-past value h = index-refused 1048576 value accepted h

-- its X, Y and Z make the value
pub zero-again : (value : ℕ) → row-index (value % 256) (value / 256 % 256) (value / 65536) ≡ value
zero-again value = omega arith

kind-lt : (k : BitwiseOperationType) → lookup-type-index k < 10
kind-lt = by_kind (λ k. lookup-type-index k < 10) (omega arith) (omega arith) (omega arith) (omega arith) (omega arith) (omega arith) (omega arith) (omega arith) (omega arith) (omega arith)

module _ (kind : BitwiseOperationType) (x y z : ℕ) where
  pub made-lookup : x < 256 → y < 256 → z < 16 → Lookup (lookup_words (operation kind x y z)) 0
  made-lookup hx hy hz = record { kind-below = kind-lt kind; x_below = hx; y-below = hy; z-below = hz }

  pub made-counter : lookup_counter (lookup_words (operation kind x y z)) 0 ≡ counter_at (lookup-type-index kind) x y z
  made-counter = refl
