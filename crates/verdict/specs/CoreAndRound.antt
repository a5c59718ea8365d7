-- The core table and the round table as kinds, for nr rounds, and the verdict on them.
--     verdict_at     the verdict for nr rounds
--     verdict_of     the same for the 24 rounds of Keccak-f[1600]
--     verdict_for    what the call answers: refusal 8 first of all, else the verdict
use Rattle.std.specs.Prelude.{List, ℕ}
use Rattle.keccak.specs.Columns as core
use Rattle.keccak.specs.Values.{NUM-VALUES as CORE-VALUES, core_value}
use Rattle.keccak.specs.Tuples.{NUM-TUPLES as CORE-TUPLES, core_tuple}
use Rattle.keccak_rnd.specs.Columns as round
use Rattle.keccak_rnd.specs.Values.{NUM-VALUES as ROUND-VALUES, round_value}
use Rattle.keccak_rnd.specs.Tuples.{NUM-TUPLES as ROUND-TUPLES, round_tuple}
use Rattle.answer.specs.Refusal.{accepted, not_rounds}
use Rattle.verdict.specs.Kind.{Layout, Kind}
use Rattle.verdict.specs.Verdict.{stage, judged}
use Rattle.verdict.specs.declared.Verdict.{Verdict}
use Rattle.verdict.specs.declared.Verdict.TheVariants.{Refused}

-- 486 words to a core row, the last of them MU
abbrev pub core_layout : Layout
core_layout = record { width = core.NUM-COLUMNS; mu = core.MU }

-- 1,480 words to a round row, the last of them MU
abbrev pub round_layout : Layout
round_layout = record { width = round.NUM-COLUMNS; mu = round.MU }

-- "52 values per core row", "84 per core row". The syscall number, here 0, stands in the Ecall tuple only, which is
-- not looked up; nr stands in the Keccak tuple that a core row sends: "the core row sends at round 24 − nr and receives
-- at 24".
abbrev pub core_kind : ℕ → Kind
core_kind nr =
    record {
      layout = core_layout;
      values = CORE-VALUES;
      value = core_value;
      tuples = CORE-TUPLES;
      tuple = core_tuple nr 0;
    }

-- "141 per round row", "1,031 per round row"
abbrev pub round_kind : Kind
round_kind =
    record {
      layout = round_layout;
      values = ROUND-VALUES;
      value = round_value;
      tuples = ROUND-TUPLES;
      tuple = round_tuple;
    }

-- the verdict on a core table and a round table for nr rounds: "One nr holds for a whole segment."
abbrev pub verdict_at : ℕ → List ℕ → List ℕ → Verdict
verdict_at nr core round = judged (core_kind nr) round_kind core round

-- for 24 rounds
abbrev pub verdict_of : List ℕ → List ℕ → Verdict
verdict_of core round = verdict_at 24 core round

-- "Refused: 8, nr is 0 or above 24, detail nr, before 1", so before 2 and 5 of the verdict
unfoldable pub verdict_for : ℕ → List ℕ → List ℕ → Verdict
verdict_for nr core round = stage (not_rounds nr accepted) Refused (verdict_at nr core round)
