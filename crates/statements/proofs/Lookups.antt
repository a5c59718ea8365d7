-- Why the 1,031 lookups under each row are enough, how many of them are, and that no fewer are.
--     kept            911 of the 1,031 tuples of a round row: all but 120 AreBytes tuples (keccak_rnd_lean/specs/Lean.antt)
--     LeanPasses      all 141 values of a row are 0, and its kept lookups are matched
--     LeanAnswers     a round table whose rows pass these, active or not, and which balances the Keccak bus with a core table
--     LeanSumsHold    what a prover checks of both tables, as `SumsHold` (bus_sums/specs/Sums.antt), where the rows of the round table send the kept
--                     tuples alone, 100 AreBytes tuples instead of 220 (lean_sums/specs/LeanSums.antt)
--     LeanFilled      there are words to write into the looked-up tables for which it holds
--     rule j          tuple j of a round row, or value j - 1,031: 1,172 in all (keccak_rnd_needed/specs/Needed.antt)
--     needed          929 of them: KeccakRc, the 808 ByteAlu tuples and the 120 shift identities
--     PassesBut j     an active row of words below p, all whose rules hold but rule j, of which nothing is said
--     Wrong           the state that a row sends is not FIPS 202's round of its START
--     core_needed j    of a core row likewise (84 tuples, 52 values): rules 4 to 58, 84 to 132 and 134 (keccak_needed/specs/CoreNeeded.antt)
--     CoreBut j       an active core row of words below p, all whose rules hold but rule j, of which nothing is said
--     Deceives j      two tables that meet all but rule j, the core table as demand 3 supposes it, with an OUTPUT that is false
use mathlib.Core.Path.{◌≡◌}
use mathlib.Core.Bool.{Bool, true, false}
use mathlib.Core.Logic.{◌⊎◌, ◌↔◌}
use mathlib.Core.List.{List}
use Prim.Native.Nat.{ℕ, ◌≤◌, ◌<◌}
use lib.ListN.{length}
use Rattle.lists.specs.Tab.{word}
use Rattle.lists.specs.First.{count_below}
use Rattle.field.specs.Field.{p}
use Rattle.answer.specs.Limits.{MAX-OPS}
use Rattle.tuple.specs.declared.Bus.{Bus}
use Rattle.fips202.specs.Lanes.{rnd_l}
use Rattle.keccak.specs.Row.{state_lanes}
use Rattle.keccak.specs.Passes.{CorePasses}
use Rattle.keccak_needed.specs.CoreNeeded.{core_needed, CoreBut}
use Rattle.keccak_needed.proofs.CoreNeeded as core
use Rattle.keccak_needed.proofs.CoreFollows as core-others
use Rattle.keccak_rnd.specs.Columns.{ROUND, START, MU}
use Rattle.keccak_rnd.specs.Row.{round_row}
use Rattle.keccak_rnd.specs.Tuples.{out_lanes}
use Rattle.keccak_rnd.specs.Passes.{RoundPasses, Worked}
use Rattle.keccak_rnd_lean.specs.Lean.{kept, LeanPasses, LeanIdle}
use Rattle.keccak_rnd_lean.specs.Forged.{forged_row}
use Rattle.keccak_rnd_lean.proofs.Enough as enough
use Rattle.keccak_rnd_lean.proofs.Passing as passing
use Rattle.keccak_rnd_lean.proofs.Forged as forged
use Rattle.keccak_rnd_needed.specs.Needed.{needed, PassesBut, Wrong}
use Rattle.keccak_rnd_needed.proofs.Needed as each
use Rattle.keccak_rnd_exactly.specs.Exactly.{Needed}
use Rattle.keccak_rnd_exactly.specs.Minimal.{LeanBut}
use Rattle.keccak_rnd_exactly.proofs.Exactly as exactly
use Rattle.keccak_rnd_exactly.proofs.Minimal as minimal
use Rattle.verdict.specs.Kind.{rows, actives, Passes, DistinctTimestamps}
use Rattle.verdict.specs.CoreAndRound.{core_layout, round_layout, core_kind}
use Rattle.verdict.specs.Claims.{EachActive, ShortTimestamp, Addressed, Computed, SupposedAt, Answers, our_rounds}
use Rattle.verdict.specs.Unique.{EquallyOften}
use Rattle.bus_sums.specs.Sums.{Fillings, MAX-ROWS}
use Rattle.lean_sums.specs.LeanSums.{LeanSumsHold, LeanFilled}
use Rattle.lean_sums.proofs.LeanSums as sums
use Rattle.lean_sums.proofs.LeanComplete as complete
use Rattle.lean_verdict.specs.LeanTables.{LeanAnswers}
use Rattle.lean_verdict.proofs.LeanTables as lean
use Rattle.needed_verdict.specs.NeededTables.{Deceives}
use Rattle.needed_verdict.proofs.NeededTables as deceived

-- ---- enough: 911, and these
pub kept-count : count_below kept 1031 ≡ 911
kept-count = enough.kept-count

-- left out are AreBytes tuples alone: 163 to 182, of C's shifted halfwords, and of 423 to 622, of ρ's parts, those of bytes 0, 1, 4 and 5
pub kept-exactly : (i : ℕ) → (kept i ≡ false) ↔ passing.Dropped i
kept-exactly = passing.kept-exactly

module _ (row : List ℕ) (below : (k : ℕ) → word row k < p) where
  -- an active row that passes these passes all 1,031 ..
  pub lean-enough : LeanPasses row → word row MU ≡ 1 → RoundPasses row
  lean-enough = enough.lean-enough row below

  -- .. so it is, in all its 1,480 words, the row that we would write for its timestamp, ROUND and START
  pub lean-unique : LeanPasses row → word row MU ≡ 1 → length row ≡ 1480 → row ≡ round_row (word row) (word row ROUND) (state_lanes START row)
  lean-unique = enough.lean-unique row below

  -- exactly which rows pass these
  pub lean-exactly : length row ≡ 1480 → LeanPasses row ↔ (Worked row ⊎ LeanIdle row)
  lean-exactly size = passing.lean-exactly row size below

-- which are left out matters: without the tuples of bytes 0, 4 and 6 of one lane of ρ, 1,028 let a row through that sends a false state
pub forged-passes : forged.ForgedPasses forged_row
forged-passes = forged.forged-passes

pub forged-false : out_lanes forged_row ≡ rnd_l (state_lanes START forged_row) (word forged_row ROUND) → ⊥
forged-false = forged.forged-false

-- ---- demand 3 with 911 tuples to a round row, for every number of rounds: a round table that passes them and balances exists exactly where in
-- each active core row OUTPUT is Keccak-p[1600, nr] of INPUT, and its active rows are the ones that we write, in some order
module _ (nr : ℕ) (some : 1 ≤ nr) (most : nr ≤ 24) (core : List ℕ) (supposed : SupposedAt nr core) where
  pub lean-demand3 : ((round : List ℕ) × LeanAnswers nr core round) ↔ EachActive (Computed nr) core
  lean-demand3 = lean.lean-demand3 nr some most core supposed

  pub lean-one-way : (floor : ℕ) (round : List ℕ) → LeanAnswers nr core round → EquallyOften round_layout round (our_rounds nr floor core)
  lean-one-way = lean.lean-one-way nr some most core supposed

-- ---- what a prover checks, with the kept tuples alone sent: a prover could drop the others. Nothing is supposed of any lookup; the looked-up tables hold
-- whatever was written there, and other tables may send too (`others`), but on the Keccak bus
module _ (nr : ℕ) (core round : List ℕ) (w : Fillings) (others : Bus → List ℕ → ℕ) (h : LeanSumsHold nr core round w others) where
  -- both tables pass, of the round table the kept lookups, and the Keccak bus balances
  pub lean-sums-pass : Passes (core_kind nr) core × LeanAnswers nr core round
  lean-sums-pass = (sums.lean-sums-core nr core round w others h, sums.lean-sums-answer nr core round w others h)

  module _ (some : 1 ≤ nr) (most : nr ≤ 24) (apart : DistinctTimestamps core_layout core) where
    -- so in each active core row OUTPUT is Keccak-p[1600, nr] of INPUT, and its lanes sit where they should ..
    pub lean-sums-computed : EachActive (λ x. Computed nr x × Addressed x) core
    lean-sums-computed = sums.lean-sums-computed nr core round w others h apart some most

    -- .. and the active round rows are the ones that we write, in some order
    pub lean-sums-one-way : actives core_layout core ≤ MAX-OPS → EachActive ShortTimestamp core → (floor : ℕ) → EquallyOften round_layout round (our_rounds nr floor core)
    lean-sums-one-way = sums.lean-sums-one-way nr core round w others h apart some most

-- the other way: where both tables pass there are words to write, so it is exactly there
pub lean-sums-exactly : (nr : ℕ) (core round : List ℕ) → rows core_layout core ≤ MAX-ROWS → rows round_layout round ≤ MAX-ROWS
    → LeanFilled nr core round ↔ (Passes (core_kind nr) core × LeanAnswers nr core round)
lean-sums-exactly = complete.lean-sums-exactly

-- ---- not fewer: 929 of the 1,172 rules are needed, each by itself, and no other is
pub needed-count : count_below needed 1172 ≡ 929
needed-count = each.needed-count

-- without any one of them a row passes that sends a false state ..
pub each_needed : (j : ℕ) → needed j ≡ true → (row : List ℕ) × PassesBut j row × Wrong row
each_needed = each.each_needed

pub needed-exactly : (j : ℕ) → j < 1172 → (needed j ≡ true) ↔ Needed j
needed-exactly = exactly.needed-exactly

-- .. and each of the other 243 follows, in an active row, from the remaining 1,171
pub follows : (j : ℕ) → j < 1172 → needed j ≡ false → (row : List ℕ) → PassesBut j row → RoundPasses row
follows = exactly.follows

-- without such a rule demand 3 is false, for every number of rounds ..
pub rule-needed : (j : ℕ) → needed j ≡ true → (nr : ℕ) → 1 ≤ nr → nr ≤ 24 → (core : List ℕ) × (round : List ℕ) × Deceives j nr core round
rule-needed = deceived.rule-needed

-- .. of tables that the rules as they are do not let through
pub none-deceives : (nr : ℕ) → 1 ≤ nr → nr ≤ 24 → (core round : List ℕ) (j : ℕ) → Deceives j nr core round → Answers nr core round → ⊥
none-deceives = deceived.none-deceives

-- of the 911 none can be dropped (tuples 0 and 1 are the bus itself)
pub lean-minimal : (j : ℕ) → 2 ≤ j → j < 1031 → kept j ≡ true → (row : List ℕ) × LeanBut j row × Wrong row
lean-minimal = minimal.lean-minimal

-- ---- the core row: 105 of its 136 rules are needed, each by itself, and no other, for "lane i sits at address + 8i, below 2^64, the address a multiple
-- of 8". The address is the number its 8 bytes make, so AreBytes of its high bytes, 57 and 58, are needed for that conclusion
pub core-needed-count : count_below core_needed 136 ≡ 105
core-needed-count = core.core-needed-count

pub core-needed-exactly : (j : ℕ) → j < 136 → (nr syscall : ℕ) → (core_needed j ≡ true) ↔ ((row : List ℕ) × CoreBut j nr syscall row × (Addressed row → ⊥))
core-needed-exactly = core-others.core-needed-exactly

-- each of the other 31 follows, in an active row, from the remaining 135: value 49 (rule 133) from value 50; that MU is a bit; and Ecall, Memw and Keccak,
-- which are not looked up
pub core-follows : (j : ℕ) → j < 136 → core_needed j ≡ false → (nr syscall : ℕ) (row : List ℕ) → CoreBut j nr syscall row → CorePasses nr syscall row
core-follows = core-others.core-follows
