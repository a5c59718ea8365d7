-- The answers as a host sees them: an enum can't pass by C linkage, so each is a flat struct of words. `refusal` and
-- `detail` are number and detail of the refusal, and both 0 where the call did its work; the other words are 0 where it was
-- refused. `done` is 1 exactly where it did its work (proofs/Told.antt).
use Rattle.answer.specs.Refusal.{refusal_number, refusal_detail}
use Rattle.tuple.specs.Tuple.{bus_number, side_number}
use Rattle.is_wh.specs.declared.IsWhKey.{IsWhKey}
use Rattle.flat.specs.declared.FlatAnswer.{FlatAnswer}
use Rattle.flat.specs.declared.FlatNumber.{FlatNumber}
use Rattle.flat.specs.declared.FlatTuple.{FlatTuple}
use Rattle.flat.specs.declared.FlatKey.{FlatKey}
use Rattle.std.specs.Prelude.{Result, Ok, Err, ⊤}
use Rattle.answer.specs.declared.Refusal.{Refusal}
use Rattle.tuple.specs.declared.BusInteraction.{BusInteraction}
use Rattle.std.specs.Prelude.{ℕ}

-- a call that only writes
unfoldable pub flat_answer : Result ⊤ Refusal → FlatAnswer
flat_answer (Ok tt) = record { refusal = 0; detail = 0; done = 1 }
flat_answer (Err r) = record { refusal = refusal_number r; detail = refusal_detail r; done = 0 }

-- a call that gives a number
unfoldable pub flat_number : Result ℕ Refusal → FlatNumber
flat_number (Ok n) = record { refusal = 0; detail = 0; done = 1; value = n }
flat_number (Err r) = record { refusal = refusal_number r; detail = refusal_detail r; done = 0; value = 0 }

-- a call that gives a tuple, whose values are in the lent slice
unfoldable pub flat_tuple : Result BusInteraction Refusal → FlatTuple
flat_tuple (Ok t) =
    record {
      refusal = 0;
      detail = 0;
      done = 1;
      bus = bus_number t.bus;
      side = side_number t.side;
      length = t.length;
      multiplicity = t.multiplicity;
    }
flat_tuple (Err r) =
    record {
      refusal = refusal_number r;
      detail = refusal_detail r;
      done = 0;
      bus = 0;
      side = 0;
      length = 0;
      multiplicity = 0;
    }

-- a key, which is never refused
unfoldable pub flat_key : IsWhKey → FlatKey
flat_key k = record { refusal = 0; detail = 0; done = 1; word = k.word; half = k.half }
