-- The calls as a host links them, each by its contract, and the words of their answers. A record here has a field for each export of
-- one file of crates/keccak_tables/src, by its name. Of a call nothing is known but its contract; from that it is derived that the
-- call wants nothing of who calls it, and what its answer is and each slice that it is lent to write in, when it ends
-- (keccak_tables/proofs/Kept.antt has how a field is read).
use mathlib.Core.Path.{◌≡◌, refl}
use mathlib.Core.Bool.{true}
use mathlib.Core.List.{List, [], ◌∷◌}
use Rattle.tuple.specs.declared.Bus.TheVariants.{Msb8, Msb16, Zero, IsB20, Hwsl}
use Rattle.text.specs.Names.{bus_name}
use Rattle.tally_arguments.specs.Arguments.{arguments_of}
use Rattle.tally_arguments.proofs.Cases.{shipped-anywhere}
use Rattle.flat.proofs.Cases.{FlatCases, flat-cases}
use Rattle.keccak_tables.proofs.CoreCalls.{CoreCalls, core-calls}
use Rattle.keccak_tables.proofs.RoundCalls.{RoundCalls, round-calls}
use Rattle.keccak_tables.proofs.EvaluatorCalls.{EvaluatorCalls, evaluator-calls}
use Rattle.keccak_tables.proofs.LookedUpCalls.{LookedUpCalls, looked-up-calls}
use Rattle.keccak_tables.proofs.LookupCalls.{LookupCalls, lookup-calls}
use Rattle.keccak_tables.proofs.CounterCalls.{CounterCalls, counter-calls}
use Rattle.keccak_tables.proofs.KeyRowCalls.{KeyRowCalls, key-row-calls}
use Rattle.keccak_tables.proofs.SegmentCalls.{SegmentCalls, segment-calls}
use Rattle.keccak_tables.proofs.RegisterCalls.{RegisterCalls, register-calls}
use Rattle.keccak_tables.proofs.JudgeCalls.{JudgeCalls, judge-calls}
use Rattle.keccak_tables.proofs.JobCalls.{JobCalls, job-calls}
use Rattle.keccak_tables.proofs.SameCalls.{SameCalls, same-calls}
use Rattle.keccak_tables.proofs.TallyCalls.{TallyCalls, tally-calls}
use Rattle.keccak_tables.proofs.MessageCalls.{MessageCalls, message-calls}
use Rattle.keccak_tables.proofs.MonthCalls.{MonthCalls, month-calls}
use Rattle.keccak_tables.proofs.StateCalls.{StateCalls, state-calls}

-- "Memory lent to a call (row, tuple, counters, table) holds afterwards exactly what an accepted call writes, with words past that
-- untouched; after a refusal it holds its old words. This covers every input": what each export tells of its answer and of
-- that memory
pub record Exports : Type 0 where
  pub core : CoreCalls
  pub round : RoundCalls
  pub evaluators : EvaluatorCalls
  pub looked-up : LookedUpCalls
  pub lookups : LookupCalls
  pub counters : CounterCalls
  pub key-rows : KeyRowCalls
  pub segment : SegmentCalls
  pub registers : RegisterCalls
  pub judge : JudgeCalls
  pub job : JobCalls
  pub same : SameCalls
  pub tally : TallyCalls
  pub messages : MessageCalls
  pub month : MonthCalls
  pub state : StateCalls

pub exports : Exports
exports =
    record {
      core = core-calls;
      round = round-calls;
      evaluators = evaluator-calls;
      looked-up = looked-up-calls;
      lookups = lookup-calls;
      counters = counter-calls;
      key-rows = key-row-calls;
      segment = segment-calls;
      registers = register-calls;
      judge = judge-calls;
      job = job-calls;
      same = same-calls;
      tally = tally-calls;
      messages = message-calls;
      month = month-calls;
      state = state-calls;
    }

-- which word of a flat struct says what, on written-out answers
pub words-flat : FlatCases
words-flat = flat-cases

-- "`tally` gains a shipped mode, chosen by the argument `shipped`": by these seven bytes
pub shipped-bytes : (arguments_of ((115 ∷ 104 ∷ 105 ∷ 112 ∷ 112 ∷ 101 ∷ 100 ∷ []) ∷ [])).shipped ≡ true
shipped-bytes = shipped-anywhere [] []

-- the names of the buses that the bitwise table alone has, byte by byte: Msb8, Msb16, Zero, IsB20, Hwsl
pub record BitwiseNames : Type 0 where
  pub msb8 : bus_name Msb8 ≡ 77 ∷ 115 ∷ 98 ∷ 56 ∷ []
  pub msb16 : bus_name Msb16 ≡ 77 ∷ 115 ∷ 98 ∷ 49 ∷ 54 ∷ []
  pub zero : bus_name Zero ≡ 90 ∷ 101 ∷ 114 ∷ 111 ∷ []
  pub is-b20 : bus_name IsB20 ≡ 73 ∷ 115 ∷ 66 ∷ 50 ∷ 48 ∷ []
  pub hwsl : bus_name Hwsl ≡ 72 ∷ 119 ∷ 115 ∷ 108 ∷ []

pub bitwise-names : BitwiseNames
bitwise-names = record { msb8 = refl; msb16 = refl; zero = refl; is-b20 = refl; hwsl = refl }
