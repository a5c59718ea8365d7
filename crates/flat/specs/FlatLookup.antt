-- A lookup as a host sees it, who gives its kind by its number.
use Rattle.std.specs.Prelude.{ℕ, leb}
use Rattle.lists.specs.Tab.{pick}
use Rattle.answer.specs.Refusal.{refusal_number, refusal_detail}
use Rattle.answer.specs.declared.Refusal.TheVariants.{PastEnd}
use Rattle.bitwise.specs.Columns.{NUM-LOOKUP-TYPES}
use Rattle.bitwise.specs.Tuples.{lookup-type-index}
use Rattle.flat.specs.declared.FlatLookup.{FlatLookup}
use Rattle.std.specs.Prelude.{Result, Ok, Err}
use Rattle.answer.specs.declared.Refusal.{Refusal}
use Rattle.bitwise_operations.specs.declared.BitwiseOperation.{BitwiseOperation}

-- 1: "kind (≥ 10) .. past its end, detail the least number refused"; else what the constructor answers
unfoldable pub of_kind : ℕ → Result BitwiseOperation Refusal → Result BitwiseOperation Refusal
of_kind kind answer = pick (leb NUM-LOOKUP-TYPES kind) (Err (PastEnd NUM-LOOKUP-TYPES)) answer

-- the four words of a lookup in a list
unfoldable pub flat_lookup : Result BitwiseOperation Refusal → FlatLookup
flat_lookup (Ok op) =
    record {
      refusal = 0;
      detail = 0;
      done = 1;
      kind = lookup-type-index op.lookup_type;
      x = op.x;
      y = op.y;
      z = op.z;
    }
flat_lookup (Err r) = record { refusal = refusal_number r; detail = refusal_detail r; done = 0; kind = 0; x = 0; y = 0; z = 0 }
