-- The flat structs of written-out answers. Words that may be mistaken for one another are different numbers, so two that are
-- exchanged, in definition and code alike, are noticed here.
use mathlib.Core.Path.{◌≡◌, refl}
use Rattle.answer.specs.declared.Refusal.TheVariants.{NotWhole, TooShort, NotElement, BadRecord, Rounds, Floor, LongMessage}
use Rattle.tuple.specs.declared.Bus.TheVariants.{IsHalfword}
use Rattle.tuple.specs.declared.Side.TheVariants.{Receiver}
use Rattle.is_wh.specs.Key.{of-dword}
use Rattle.bitwise.specs.declared.BitwiseOperationType.TheVariants.{IsB20}
use Rattle.bitwise_operations.specs.Operation.{operation}
use Rattle.same_operations.specs.declared.Agreement.TheVariants as agreement
use Rattle.op_file.specs.Reader.{reading}
use Rattle.verdict.specs.declared.Table.TheVariants.{Round}
use Rattle.verdict.specs.declared.Verdict.TheVariants as verdict
use mathlib.Core.Bool.{true, false}
use Rattle.flat.specs.Flat.{flat_answer, flat_number, flat_tuple, flat_key}
use Rattle.flat.specs.FlatJudged.{failure, failed_in, flat_verdict, flat_agreement, flat_reply}
use Rattle.flat.specs.FlatLookup.{of_kind, flat_lookup}
use Rattle.flat.specs.FlatReader.{flat_cursor, flat_tally}
use Rattle.std.specs.Prelude.{Ok, Err}

pub record FlatCases : Type 0 where
  -- a call that only writes
  pub done : flat_answer (Ok tt) ≡ record { refusal = 0; detail = 0; done = 1 }
  pub refused : flat_answer (Err (NotWhole 1)) ≡ record { refusal = 2; detail = 1; done = 0 }
  -- a number; none where the call is refused
  pub a-number : flat_number (Ok 7) ≡ record { refusal = 0; detail = 0; done = 1; value = 7 }
  pub no_number : flat_number (Err (Rounds 25)) ≡ record { refusal = 8; detail = 25; done = 0; value = 0 }
  -- a tuple of 4 values, received 9 times
  pub a-tuple : flat_tuple (Ok (record { bus = IsHalfword; side = Receiver; length = 4; multiplicity = 9 }))
      ≡ record { refusal = 0; detail = 0; done = 1; bus = 2; side = 1; length = 4; multiplicity = 9 }
  pub no-tuple : flat_tuple (Err (TooShort 203)) ≡ record { refusal = 3; detail = 203; done = 0; bus = 0; side = 0; length = 0; multiplicity = 0 }
  -- the key of 5 · 2^32 + 6 · 2^16 + 7
  pub a_key : flat_key (of-dword 21475229703) ≡ record { refusal = 0; detail = 0; done = 1; word = 5; half = 6 }
  -- a lookup of three bytes; none where its kind is past the last
  pub a-lookup : flat_lookup (of_kind 5 (Ok (operation IsB20 1 2 3))) ≡ record { refusal = 0; detail = 0; done = 1; kind = 5; x = 1; y = 2; z = 3 }
  pub no-lookup : flat_lookup (of_kind 10 (Ok (operation IsB20 1 2 3))) ≡ record { refusal = 1; detail = 10; done = 0; kind = 0; x = 0; y = 0; z = 0 }
  -- two tables that hold with 3 active core rows; a failure in round row 8 at index 9, one in core row 4; none where the call is refused
  pub holds : flat_verdict (verdict.Holds 3) ≡ record { refusal = 0; detail = 0; holds = 1; active = 3; kind = 7; table = 0; row = 0; index = 0 }
  pub a-failure : flat_verdict (verdict.Lookup Round 8 9) ≡ record { refusal = 0; detail = 0; holds = 0; active = 0; kind = 5; table = 1; row = 8; index = 9 }
  pub a-repeat : flat_verdict (verdict.Repeated 4) ≡ record { refusal = 0; detail = 0; holds = 0; active = 0; kind = 3; table = 0; row = 4; index = 0 }
  pub not-judged : flat_verdict (verdict.Refused (NotElement 12)) ≡ record { refusal = 5; detail = 12; holds = 0; active = 0; kind = 0; table = 0; row = 0; index = 0 }
  -- a file and a core table: the same calls, record 8 without a partner, row 9 left
  pub same : flat_agreement (Ok agreement.Same) ≡ record { refusal = 0; detail = 0; same = 1; kind = 3; place = 0 }
  pub record-alone : flat_agreement (Ok (agreement.Record 8)) ≡ record { refusal = 0; detail = 0; same = 0; kind = 1; place = 8 }
  pub row-left : flat_agreement (Ok (agreement.Row 9)) ≡ record { refusal = 0; detail = 0; same = 0; kind = 2; place = 9 }
  pub not-compared : flat_agreement (Err (NotElement 11)) ≡ record { refusal = 5; detail = 11; same = 0; kind = 0; place = 0 }
  -- a list and a message
  pub yes : flat_reply (Ok true) ≡ record { refusal = 0; detail = 0; yes = 1 }
  pub no : flat_reply (Ok false) ≡ record { refusal = 0; detail = 0; yes = 0 }
  pub no-reply : flat_reply (Err (LongMessage 65537)) ≡ record { refusal = 12; detail = 65537; yes = 0 }
  -- where a reader stands: 21 whole records and 22 at addresses that are no multiples of 8, byte 27 of the next, which starts at 23
  pub a-cursor : flat_cursor (Ok (reading (record { n = 21; unaligned = 22; start = 23; segments = record { shown = 1; least = 25; greatest = 26 } }) (record { at = 27; mark = 28; addr = 29; tail = 30 })))
      ≡ record { refusal = 0; detail = 0; reading = 1; records = 21; at = 27; address = 29; unaligned = 22; start = 23; mark = 28; tail = 30; segments = 1; least_segment = 25; greatest_segment = 26 }
  pub no-cursor : flat_cursor (Err (BadRecord 418))
      ≡ record { refusal = 6; detail = 418; reading = 0; records = 0; at = 0; address = 0; unaligned = 0; start = 0; mark = 0; tail = 0; segments = 0; least_segment = 0; greatest_segment = 0 }
  -- what it says at the end
  pub a-tally : flat_tally (Ok (record { ops = 31; core_rows = 32; round_rows = 33; byte_alu = 34; are_bytes = 35; keccak_rc = 36; is_halfword = 37; is_wh = 38; memw = 39; ecall = 40; segments = record { shown = 1; least = 42; greatest = 43 }; unaligned = 44 }))
      ≡ record { refusal = 0; detail = 0; done = 1; ops = 31; core_rows = 32; round_rows = 33; byte_alu = 34; are_bytes = 35; keccak_rc = 36; is_halfword = 37; is_wh = 38; memw = 39; ecall = 40; unaligned = 44; segments = 1; least_segment = 42; greatest_segment = 43 }
  pub no-tally : flat_tally (Err (Floor 5))
      ≡ record { refusal = 9; detail = 5; done = 0; ops = 0; core_rows = 0; round_rows = 0; byte_alu = 0; are_bytes = 0; keccak_rc = 0; is_halfword = 0; is_wh = 0; memw = 0; ecall = 0; unaligned = 0; segments = 0; least_segment = 0; greatest_segment = 0 }

pub flat-cases : FlatCases
unfolding flat_answer flat_number flat_tuple flat_key of_kind flat_lookup failure failed_in flat_verdict flat_agreement flat_reply flat_cursor flat_tally
flat-cases =
    record {
      done = refl;
      refused = refl;
      a-number = refl;
      no_number = refl;
      a-tuple = refl;
      no-tuple = refl;
      a_key = refl;
      a-lookup = refl;
      no-lookup = refl;
      holds = refl;
      a-failure = refl;
      a-repeat = refl;
      not-judged = refl;
      same = refl;
      record-alone = refl;
      row-left = refl;
      not-compared = refl;
      yes = refl;
      no = refl;
      no-reply = refl;
      a-cursor = refl;
      no-cursor = refl;
      a-tally = refl;
      no-tally = refl;
    }
