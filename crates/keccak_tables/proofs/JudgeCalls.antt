-- What the calls that judge two tables promise (src/judge_calls.rt), as Kept.antt says.
use mathlib.Core.Path.{◌≡◌}
use lib.ListN.{length}
use Rattle.verdict.specs.CoreAndRound.{verdict_for}
use Rattle.judge_within.specs.Within.{within_for, within_after}
use Rattle.flat.specs.Flat.{flat_number}
use Rattle.flat.specs.FlatJudged.{flat_verdict}
use Rattle.verdict_line.specs.Line.{line_answer, line_after, within_line_answer, within_line_after, within_line_left}
use Rattle.keccak_tables.proofs.Kept.{Kept}
use Rattle.keccak_tables.proofs.judge_calls.keccak_tables_verdict.Kinds as verdict-kinds
use Rattle.keccak_tables.proofs.judge_calls.keccak_tables_verdict.Reads as verdict-reads
use Rattle.keccak_tables.proofs.judge_calls.keccak_tables_verdict_within.Kinds as verdict-within-kinds
use Rattle.keccak_tables.proofs.judge_calls.keccak_tables_verdict_within.Reads as verdict-within-reads
use Rattle.keccak_tables.proofs.judge_calls.keccak_tables_verdict_line.Kinds as verdict-line-kinds
use Rattle.keccak_tables.proofs.judge_calls.keccak_tables_verdict_line.Reads as verdict-line-reads
use Rattle.keccak_tables.proofs.judge_calls.keccak_tables_verdict_line_within.Kinds as verdict-line-within-kinds
use Rattle.keccak_tables.proofs.judge_calls.keccak_tables_verdict_line_within.Reads as verdict-line-within-reads

pub record JudgeCalls : Type 0 where
  -- verdict(nr, core, round) → FlatVerdict
  pub verdict : Kept _ verdict-kinds.ps verdict-kinds.r verdict-reads.Asked verdict-reads.Learnt (λ _ lent answer ended.
      let nr = lent.0 in
      let core = lent.1.0.now in
      let round = lent.1.1.0.now in
      answer ≡ flat_verdict (verdict_for nr core round))
  -- verdict_within(nr, core, round, scratch, spare) → FlatVerdict
  pub verdict-within : Kept _ verdict-within-kinds.ps verdict-within-kinds.r verdict-within-reads.Asked verdict-within-reads.Learnt (λ _ lent answer ended.
      let nr = lent.0 in
      let core = lent.1.0.now in
      let round = lent.1.1.0.now in
      let scratch = lent.1.1.1.0.now in
      let spare = lent.1.1.1.1.0.now in
      let scratch' = ended.1.1.1.0.now in
      let spare' = ended.1.1.1.1.0.now in
      (answer ≡ flat_verdict (within_for nr core round (length scratch) (length spare)))
      × ((scratch' ≡ within_after nr core round (length scratch) (length spare) scratch)
      × (spare' ≡ within_after nr core round (length scratch) (length spare) spare)))
  -- verdict_line(nr, core, round, line) → FlatNumber
  pub verdict-line : Kept _ verdict-line-kinds.ps verdict-line-kinds.r verdict-line-reads.Asked verdict-line-reads.Learnt (λ _ lent answer ended.
      let nr = lent.0 in
      let core = lent.1.0.now in
      let round = lent.1.1.0.now in
      let line = lent.1.1.1.0.now in
      let line' = ended.1.1.1.0.now in
      (answer ≡ flat_number (line_answer nr core round line))
      × (line' ≡ line_after nr core round line))
  -- verdict_line_within(nr, core, round, line, scratch, spare) → FlatNumber
  pub verdict-line-within : Kept _ verdict-line-within-kinds.ps verdict-line-within-kinds.r verdict-line-within-reads.Asked verdict-line-within-reads.Learnt (λ _ lent answer ended.
      let nr = lent.0 in
      let core = lent.1.0.now in
      let round = lent.1.1.0.now in
      let line = lent.1.1.1.0.now in
      let scratch = lent.1.1.1.1.0.now in
      let spare = lent.1.1.1.1.1.0.now in
      let line' = ended.1.1.1.0.now in
      let scratch' = ended.1.1.1.1.0.now in
      let spare' = ended.1.1.1.1.1.0.now in
      (answer ≡ flat_number (within_line_answer nr core round (length line) (length scratch) (length spare)))
      × ((line' ≡ within_line_after nr core round (length scratch) (length spare) line)
      × ((scratch' ≡ within_line_left nr core round (length line) (length scratch) (length spare) scratch)
      × (spare' ≡ within_line_left nr core round (length line) (length scratch) (length spare) spare))))

pub judge-calls : JudgeCalls
judge-calls =
    record {
      verdict = record { wants-nothing = λ _ _. tt; tells = λ _ _ _ _ e. e };
      verdict-within = record { wants-nothing = λ _ _. tt; tells = λ _ _ _ _ e. e };
      verdict-line = record { wants-nothing = λ _ _. tt; tells = λ _ _ _ _ e. e };
      verdict-line-within = record { wants-nothing = λ _ _. tt; tells = λ _ _ _ _ e. e };
    }
