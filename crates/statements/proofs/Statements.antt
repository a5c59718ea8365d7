-- The statements of the project, each beside the sentence that asks for it; those on lines, segments, calls, jobs, files and messages stand in the
-- files beside this one. Each is proved in the crate
-- that it is about and only cited here, so what a reader reads is what the gate has checked.
-- Demand 1, and "tables, values, tuples, counts and verdict match definitions", are the contracts of the calls: those that a host
-- links are in Exports.antt, all in docs/PROOFS.md.
--     Lanes s            the 25 words of s are below 2^64
--     bits s, Agree      their 1,600 bits as FIPS 202's state array; two such arrays have the same bits
--     round_row t r s     the row that is written for timestamp words t 0 and t 1, round r and the lanes s of START
--     round_table nr floor n op   the table of nr rounds, of `floor` rows or more, that is written for the operations op 0 .. op (n - 1)
--     state_lanes START   the 25 lanes of a row's START columns
--     out_lanes row       the 25 lanes that a round row sends on
--     RoundPasses row    its 141 values are 0 and its lookups are matched
use mathlib.Core.Path.{◌≡◌, refl, sym, ap, subst, ◌∙◌}
use mathlib.Core.Bool.{Bool, true, false}
use mathlib.Core.Option.{Option, some}
use mathlib.Core.Logic.{◌⊎◌, inl, inr, ◌↔◌}
use mathlib.Core.List.{List, [], ◌∷◌, ◌++◌}
use Prim.Native.Nat.{ℕ, suc, ◌+◌, ◌-◌, ◌*◌, ◌/◌, ◌%◌, ◌^◌, ◌≤◌, ◌<◌}
use native.Mathlib.Nat.{zero-div}
use native.Mathlib.Omega.{arith}
use lib.Dec.{eqb, ltb}
use lib.ListN.{length, take, drop, get_or, replicate}
use Rattle.lists.specs.Tab.{pick, word, tab, row_at, followed_by}
use Rattle.lists.specs.First.{count_below}
use Rattle.lists.proofs.Reading.{Alike}
use Rattle.field.specs.Field.{p, INV-SHIFT-32}
use Rattle.field.proofs.Field.{inv-shift-32}
use Rattle.answer.specs.Limits.{MAX-OPS}
use Rattle.answer.specs.Refusal.{accepted, refusal_number, not_rounds, not_floor, PowerFloor, afterwards}
use Rattle.answer.specs.declared.Refusal.{Refusal}
use Rattle.answer.specs.declared.Refusal.TheVariants.{TooShort, HighAddress, PastEnd, Unaligned, Rounds, Floor, Register, NotElement, BadRecord}
use Rattle.answer.proofs.Refusals.{rounds-later, no-rounds-refused, many-rounds-refused, floor-refused, floor-most, both_later}
use Rattle.fips202.specs.Fips.{Agree, offset, walk, MetOnce, RHO, rnd, keccak_f, keccak_p}
use Rattle.tuple.specs.Tuple.{bus_sum}
use Rattle.tuple.specs.declared.Bus.{Bus}
use Rattle.tuple.specs.declared.Bus.TheVariants.{AreBytes, IsWh}
use Rattle.tuple.specs.declared.Side.{Side}
use Rattle.tuple.specs.declared.Side.TheVariants.{Sender, Receiver}
use Rattle.templates.specs.Templates.{is_bit}
use Rattle.templates.proofs.Bit.{bit_is}
use Rattle.bits.specs.Bits.{byte_at}
use Rattle.fips202.specs.Lanes.{Lanes, bits, rounds_l, keccak_pl}
use Rattle.fips202.specs.Tables.{round_constant}
use Rattle.fips202.proofs.Tables.{constant-past}
use Rattle.fips202.proofs.Walk.{each-lane-once, never-0-0, offset-met, offset-0-0}
use Rattle.bitwise.specs.Columns.{SLL, SLLC}
use Rattle.bitwise.specs.Row.{bitwise_row}
use Rattle.bitwise.specs.Counters.{bump_n_after, merge_refusal, merge_after}
use Rattle.bitwise.specs.Table.{trace_after, fill_after}
use Rattle.bitwise.specs.Lookups.{add_ops_refusal, add_ops_after, update_after}
use Rattle.bitwise.specs.Charge.{found, place_counter, Placed, PlacedAt, Looked, charged}
use Rattle.bitwise.proofs.Cases.{row-0, row-266804, row-1048575}
use Rattle.bitwise.proofs.Histogram.{merge-commutes, merge-associates, bump-first, bump-last}
use Rattle.bitwise.proofs.Counting.{counted-merged, fill-is-update}
use Rattle.bitwise.proofs.Charge.{found-placed}
use Rattle.is_wh.specs.Tuples.{is_wh_tuple}
use Rattle.keccak.specs.Row.{state_lanes, core_pointer, op_at, core_row, core_table, LAST-ADDRESS}
use Rattle.keccak.specs.Tuples.{core_tuple, core_table_sum}
use Rattle.keccak.specs.TupleCalls.{core_tuple_refusal, core_tuple_answer, core_tuple_after}
use Rattle.keccak.proofs.TupleCalls as tuple-calls
use Rattle.tuple.specs.Call.{tuple_refusal, tuple_answer, tuple_answer_of, tuple_after}
use Rattle.keccak.specs.Height.{height, Least}
use Rattle.keccak.specs.Refusals.{Acceptable, operations_refusal, op_count, address_at, keys_refusal, core_trace_refusal}
use Rattle.keccak.specs.Calls.{core_trace_after}
use Rattle.keccak.specs.declared.KeccakOperation.{KeccakOperation}
use Rattle.keccak.proofs.Refusals.{accepted-is, unaligned-refused, told-unaligned, highest-accepted, next-refused, last-unaligned}
use Rattle.keccak.proofs.Aligned.{unaligned-unmatched}
use Rattle.keccak.proofs.Height.{height-least, least-unique}
use Rattle.keccak.proofs.Room as core-as-before
use Rattle.keccak.proofs.Room.{four-accepted}
use Rattle.keccak_rnd.proofs.Refusals as round-as-before
use Rattle.keccak_rnd.proofs.Refusals.{trace-later}
use Rattle.keccak_rnd.specs.Columns.{MU, ROUND, START, THETA, rc}
use Rattle.keccak_rnd.specs.Row.{round_row, round_table, round_height, padding-are-bytes}
use Rattle.keccak_rnd.specs.Tuples.{out_lanes, round_tuple, round_table_sum}
use Rattle.keccak_rnd.specs.Passes.{RoundPasses}
use Rattle.keccak_rnd.specs.Carries.{Carries, RhoCarries}
use Rattle.keccak_rnd.proofs.Carries.{carries, rho-carries}
use Rattle.keccak_rnd.proofs.Cases.{heights, paddings, no-padding, row-zero-0, row-zero-23, row-ones-0, row-one-theta}
use Rattle.keccak_rnd.proofs.Cells.{written-cells}
use Rattle.keccak_rnd.proofs.Completeness.{round-written}
use Rattle.keccak_rnd.proofs.Soundness.{round-unique}
use Rattle.keccak_rnd.proofs.Step.{start-state, round-fips}
use Rattle.keccak_rnd.proofs.Written.{table-round, table-start, table_step, table-fips}
use Rattle.verdict.specs.Kind.{Active, SameTimestamp, row, rows, actives, ZeroAt, Values, Lookups, Passes}
use Rattle.verdict.specs.Kind.{DistinctTimestamps}
use Rattle.verdict.specs.CoreAndRound.{core_layout, round_layout, core_kind, round_kind, verdict_at, verdict_of, verdict_for}
use Rattle.verdict.specs.Claims.{SupposedAt, Supposed, ClaimsAt, Claims, Answers, EachActive, ShortTimestamp, Computed, Addressed}
use Rattle.verdict.specs.Claims.{operations, our_rounds}
use Rattle.verdict.specs.Failures.{ToRepeat, ToCoreBalance, RepeatsAt, Says, NoRounds, SaysFor}
use Rattle.verdict.specs.Honest.{witness, last_witness, one_core, one_round, exchanged_core, exchanged_round, late_round}
use Rattle.verdict.specs.declared.Table.TheVariants.{Core, Round}
use Rattle.verdict.specs.declared.Verdict.{Verdict}
use Rattle.verdict.specs.declared.Verdict.TheVariants as judge
use Rattle.verdict.specs.declared.Verdict.TheVariants.{Holds, Repeated, Unbalanced}
use Rattle.verdict.proofs.Demand3.{demand3, demand3-at, lane_below}
use Rattle.verdict.proofs.AnyRounds.{verdict-24, any-rounds}
use Rattle.verdict.proofs.Failures.{timestamp-twice, verdict-says}
use Rattle.verdict.proofs.Honest.{witness-right, last-right, one-supposed, one_holds}
use Rattle.verdict.proofs.Honest.{written-passes, written-supposed, written-holds, left-passes, left-holds, unaligned-fails}
use Rattle.verdict.proofs.Instances.{exchanged-named, late-unbalanced}
use Rattle.verdict.proofs.Late.{late-row}
use Rattle.bus_sums.specs.Buses.{core_line, round_line, is_wh_line, bitwise_line, constant_line}
use Rattle.bus_sums.specs.Sums.{Fillings, bitwise_at, constant_at, Constrained, SumsHold, Filled}
use Rattle.bus_sums.specs.Sums.{table_share, is_wh_kind}
use Rattle.bus_sums.proofs.Buses.{core-line, round-line, is-wh-line, bitwise-line, constant-line}
use Rattle.bus_sums.proofs.Receipt.{sums-core, sums-answer, sums-verdict, sums-computed, sums-claims, sums-exactly}
use Rattle.bus_sums.proofs.Receipt.{sums-holds, sums-demand, ours-filled, witness-sums}
use Rattle.matching.specs.Matching.{Matched}
use Rattle.is_wh_rows.specs.Lists.{GoodList}
use Rattle.is_wh_rows.specs.Calls.{dedup_refusal}
use Rattle.is_wh_trace.specs.Trace.{row_count, is_wh_height, is_wh_table, is_wh_trace_refusal, is_wh_trace_after}
use Rattle.is_wh_counts.specs.Counts.{is_wh_charged}
use Rattle.is_wh_sums.proofs.Sent.{rows-matched, rows-sent}
use Rattle.is_wh_sums.proofs.Written.{keys_of, rows_written, written-balanced, collected-is-sent}
use Rattle.bus_sums_needs.specs.Cancel.{Slips, two_rows, many_rows}
use Rattle.bus_sums_needs.specs.Forged.{Forgery, bent_core, bent_round}
use Rattle.bus_sums_needs.proofs.Cancel.{mu-needed, few-needed}
use Rattle.bus_sums_needs.proofs.ForgedSegment.{twenty-needed}
use Rattle.op_file.specs.File.{is_mark, is_marked, size_of, is_whole, segment_of, record_word, address_of, fault_of, start_at, first_fault, records_of, file_words}
use Rattle.op_file.specs.File.{is_aligned, is_unaligned, aligned_of, unaligned_of, records_words}
use Rattle.op_file.specs.File.{none_told, segments_of, bus_total, sums_of, unless, tally_of}
use Rattle.op_file.specs.Reader.{record_count, reading, step_of, file_start, feed_of, counts_of, finish_of}
use Rattle.op_file.specs.declared.Segments.{Segments}
use Rattle.op_file.specs.declared.Whole.{Whole as WholeRecords}
use Rattle.op_file.specs.declared.Sums.{Sums}
use Rattle.op_file.proofs.Cases as file
use Rattle.op_file.proofs.Counted.{counted-accepted, file-word}
use Rattle.op_file.proofs.SegmentNumbers.{SomeMarked, Told, segments-told, segments-none}
use Rattle.op_file.proofs.Starts.{record-there, bad-start}
use Rattle.op_file.proofs.Steps.{begun}
use Rattle.op_list.specs.Files.{read_refusal, read_after, file_bytes, bytes_for, write_refusal, write_after}
use Rattle.op_list.proofs.RoundTrip.{list_left, file-left}
use Rattle.op_file.proofs.Laws.{reads-pieces}
use Rattle.text.specs.Text.{decimal_of}
use Rattle.tally_arguments.specs.Arguments.{shipped-word, is_shipped, digits_only, floor_in, arguments_of}
use Rattle.tally_arguments.proofs.Cases.{floor-back, floor-over, digits_are, floor-other, floor-none}
use Rattle.tally_arguments.proofs.Cases.{AllShipped, NoneShipped, absent-floor, last-floor, shipped-anywhere, never-shipped}
use Rattle.sort.specs.Compared.{most_compared}
use Rattle.sort.proofs.Compared.{most-compared, halved-enough}
use Rattle.sort_places.specs.Places.{place_count}
use Rattle.judge_within.specs.Within.{within_refusal, within_for, within_after}
use Rattle.judge_within.proofs.Within.{Passed, within_same, after-refused}
use Rattle.verdict_line.specs.Lent.{SaysLent}
use Rattle.verdict_line.proofs.Lent.{lent-passed, lent_says, lent-left, judged-same}
use Rattle.verdict_line.specs.Line.{Judged}
use Rattle.judge.proofs.Tied.{Answered, Wrote, answered-at, answered-computed, holds-answered, ours-written, written-answers}
use Rattle.answer.specs.Refusal.{overwrite}
use Rattle.tuple.specs.declared.Bus.TheVariants.{ByteAlu, IsHalfword}
use Rattle.bitwise.specs.Columns.{NUM-ROWS, NUM-COUNTERS}
use Rattle.bitwise.specs.Found.{BitwiseFound}
use Rattle.bitwise.specs.Charge.{falls_on, charged_counters, charged_kind}
use Rattle.keccak.specs.Row.{op_at, core_row_at}
use Rattle.keccak_rnd.specs.Row.{round_row_at}
use Rattle.segment_counts.specs.Segment.{segment_charged, list_charged, charge_refusal, charge_after, largest, LOOK-WORDS}
use Rattle.segment_counts.specs.Segment.{look_refusal, look_copy_after, look_out_after}
use Rattle.segment_counts.specs.Sums.{kind_sum}
use Rattle.segment_counts.specs.Orders.{padding_charged, charged_each}
use Rattle.segment_counts.proofs.Accepted.{charge-accepted, look-refused}
use Rattle.segment_counts.proofs.Look.{copied-taken, look-copy, look-start, look-sum, look-largest, largest-most, largest-one}
use Rattle.segment_counts.proofs.Sums.{kind-sums-at, empty-none, empty-shipped}
use Rattle.segment_counts.proofs.Orders.{charge-each, charge-next, merge-next, charge-merged}
use Rattle.segment_counts.proofs.Stays.{charge-stays}
use Rattle.segment_counts.proofs.Rows.{syscall-free, round-placed, table-placed, unaligned}
use Rattle.bitwise.specs.Table.{fill_refusal}
use Rattle.bus_sums.specs.Sums.{nobody}
use Rattle.is_wh_counts.specs.Counts.{collect_refusal, collect_after}
use Rattle.keccak_rc.specs.Table as constants
use Rattle.keccak_rc.proofs.Table.{update-sets, update-clears}
use Rattle.keccak_rnd.specs.Refusals.{round_trace_refusal}
use Rattle.keccak_rnd.specs.Calls.{round_trace_after}
use Rattle.verdict.specs.Honest.{RightOperation}
use Rattle.keccak_rnd.specs.Passes.{Worked, Idle, Held}
use Rattle.keccak_rnd.proofs.Completeness.{idle-passes}
use Rattle.keccak_rnd.proofs.Passing.{mu-is, passes-idle, passes-exactly, free-words}
use Rattle.verdict.specs.Kind.{Layout}
use Rattle.verdict.specs.Unique.{EquallyOften, Rearranged, Refilled, repadded}
use Rattle.verdict.specs.Honest.{full_round}
use Rattle.verdict.proofs.Unique.{some-order, ours-equally, ours-matched, ours-exactly, refilled-exactly, repadded-holds}
use Rattle.verdict.proofs.Instances.{full-holds, full-differs}
use Rattle.judge.proofs.Tied.{answered-equally, answered-exactly, answered-refilled}
use Rattle.segment_sums.proofs.Calls.{calls-hold}
use Rattle.segment_sums.proofs.Tally.{charged-are-bytes, charged-halfwords, charged-byte-alu}
use Rattle.field.specs.Elements.{ElementRow, first_not_element}
use Rattle.answer.specs.Refusal.{too_short}
use Rattle.registers.specs.Registers.{in_use, through_refusal, register_refusal, register_counters_after, register_ledgers_after}
use Rattle.registers.specs.Registers.{REGISTER-LOOK-WORDS, register_look_refusal, register_look_copy_after, register_look_out_after}
use Rattle.registers.specs.History.{Call, State, history_after, calls_of, answers_to, lookups_in, counter_sum, ledger_sum, Zero, OnlyThrough}
use Rattle.registers.proofs.Ledgers.{in-use-is}
use Rattle.registers.proofs.Refusals.{through-floor}
use Rattle.registers.proofs.Accepted.{register-look-refused}
use Rattle.registers.proofs.Left as registers
use Rattle.registers.proofs.Left.{register-accepted, register-unused, register-as-charge, register-ledger, register-counters, own-grows, ledgers-long}
use Rattle.registers.proofs.Shown.{copies-taken, register-look-copy, register-look-sum, register-look-largest, register-look-ledger}
use Rattle.registers.proofs.AddUp.{zero-adds-up}
use Rattle.registers.proofs.Needed.{too_much, too-much-through, fewer-needed, zero_state, zero_is}
use Rattle.registers.proofs.Alone.{alike_same, alone, same-ledger, same-answers}
use Rattle.answer.specs.declared.Refusal.TheVariants.{Segment}
use Rattle.keccak.specs.Row.{OP-WORDS, LAST-SEGMENT, key_words}
use Rattle.keccak.specs.Values.{core_value}
use Rattle.keccak.specs.Refusals.{segment_at}
use Rattle.keccak.specs.Calls.{core_row_after, core_rows_after, keys_after}
use Rattle.keccak.specs.SegmentNumbers.{ButSegments, ShortSegments}
use Rattle.keccak.proofs.SegmentNumbers as core-free
use Rattle.keccak.proofs.Refusals.{op-words, segment-refused, told-segment, last-segment, next-segment}
use Rattle.keccak_rnd.specs.Row.{op_row}
use Rattle.keccak_rnd.specs.Values.{round_value}
use Rattle.keccak_rnd.specs.Calls.{round_rows_after}
use Rattle.keccak_rnd.proofs.SegmentNumbers as round-free
use Rattle.segment_counts.proofs.SegmentNumbers as charge-free
use Rattle.segment_counts.proofs.Accepted.{charge-list}
use Rattle.lists.specs.Sum.{sum_below}
use Rattle.verdict.specs.Job.{job_core, job_round}
use Rattle.job.specs.Report.{segment_count, core_rows, job_segment, segments, verdict_on, Split, AcceptableJob, not_job, job_refusal, Apart}
use Rattle.lists.specs.Tab.{tab}
use Rattle.answer.specs.declared.Refusal.TheVariants.{TooShort}
use Rattle.judge.specs.Checks.{not_words}
use Rattle.sort_places.specs.Places.{place_count}
use Rattle.job.specs.Within.{job_within_refusal, job_within_after, job_scratch_after}
use Rattle.job.proofs.Refusals.{job-accepted}
use Rattle.job.proofs.Within.{within-accepted, first-refused, scratch-refused, spare-refused, words_last, report-kept, scratch-kept}
use Rattle.job.proofs.TiedWithin.{ReportedWithin, as-reported, reported-same, scratch-left, spare-left}
use Rattle.job.proofs.Whole.{core-joined, round-joined}
use Rattle.job.proofs.Tied.{Reported, segment-words, job-words, words-past, reported-together, reported-shared}
use Rattle.job.proofs.Tied.{reported-apart, reported-computed, reported-balance, reported-refiled, reported-places}
use Rattle.verdict.specs.Kind.{Whole}
use Rattle.verdict.specs.Verdict.{verdict_words}
use Rattle.answer.specs.declared.Refusal.TheVariants.{Files}
use Rattle.keccak_rnd.specs.Refusals.{round_count_refusal}
use Rattle.month.specs.Month.{fuller, fullest, emptiest, month_words, month_refusal, Planned, Best, Permuted, SameCounts}
use Rattle.month.proofs.Refusals.{month-accepted, month-files, month-past}
use Rattle.month.proofs.Order.{permuted-exactly, refusal-order, sums-order, heights-order, full-order, empty-order}
use Rattle.month.proofs.Fullness.{fullest-is, emptiest-is, shown-one}
use Rattle.month.proofs.Writing.{row-words-sum, height-words-sum}
use Rattle.month.proofs.Cases.{ties, no-files, one-refused, one-file, one-padding, one-shipped, words-most, products-most}
use Rattle.lists.specs.First.{first_at}
use Rattle.lists.specs.OneToOne.{OneToOne}
use Rattle.partners.specs.Partners as partners
use Rattle.partners.specs.Partners.{Run, copies_in, unpartnered, left}
use Rattle.partners.proofs.Partners.{alone-is, left_is}
use Rattle.same_operations.specs.Same.{record_cells, row_cells, Matches, file_run, core_run, row_left, record_left, agreement_of, same_refusal}
use Rattle.same_operations.specs.declared.Agreement.TheVariants.{Same}
use Rattle.same_operations.proofs.Cells.{matches-exactly, wide-unmatched, large-unmatched}
use Rattle.same_operations.proofs.Same.{record_at, InFile, same-matches, same-equally, one_by_one, segments-ignored, pointers-ignored, written_same, left-same}
use Rattle.same_operations.proofs.Refusals.{same-never-7}
use Rattle.answer.specs.declared.Refusal.TheVariants.{LongMessage, LateTimestamp}
use Rattle.sha3.specs.Sha3.{blocks, sha3-256}
use Rattle.sha3.specs.Sponge.{sha3-256-bits, bits_of, OnlyBytes}
use Rattle.sha3.proofs.Sponge.{sha3-bits, bits-known}
use Rattle.message.specs.Message.{message_list, Chained, last_digest, Hashable, message_refusal, message_after, judged_refusal, IsMessage, is_message, judged_of}
use Rattle.message.proofs.Refusals as message-refusals
use Rattle.message.proofs.Judging.{judge-yes, judge-no, judge-says, empty-no}
use Rattle.message.proofs.Digest as message-list
use Rattle.message_verdict.proofs.Chain.{left-digest, message-holds}
use Rattle.std.specs.Prelude.{Ok, Err}

-- ---- demand 3: "Suppose a core table, whoever filled it, passes its constraints and lookups .."
-- (verdict/specs/Claims.antt)
pub the-demand : (core : List ℕ) → Supposed core → Claims core
the-demand = demand3

-- what it supposes is met by a core table with an active row, and the verdict on written tables does hold
pub some-supposed : Supposed (one_core witness)
some-supposed = one-supposed witness witness-right

pub some-hold : verdict_of (one_core witness) (one_round witness) ≡ Holds 1
some-hold = one_holds witness witness-right

-- also at the last timestamp and at the highest address that is accepted
pub last-hold : verdict_of (one_core last_witness) (one_round last_witness) ≡ Holds 1
last-hold = one_holds last_witness last-right

-- "below 2^64"
pub lanes-below : (core : List ℕ) → Supposed core → (r i : ℕ) → Active core_layout core r → i < 25 →
    core_pointer (row core_layout core r) i < 18446744073709551616
lanes-below = lane_below

-- "the first failure in this order .. lowest row, then lowest index": the verdict is an answer exactly where `Says`
-- (verdict/specs/Failures.antt) has it
pub each-answer : (core round : List ℕ) (v : Verdict) →
    (verdict_of core round ≡ v) ↔ Says (core_kind 24) round_kind core round v
each-answer = verdict-says 24

-- ---- the verdict in lent memory (judge_within/specs/Within.antt; its line: Lines.antt)
-- Beside `verdict` stands a call that is lent a scratch and answers the same: slices of `scratch` and of `spare` words, each of a
-- small fixed number of words for each row of both tables
pub lent-words : (core round : List ℕ) → place_count core round ≡ 2 * (rows core_layout core + rows round_layout round)
unfolding place_count
lent-words core round = refl

module _ (nr : ℕ) (core round : List ℕ) (scratch spare : ℕ) where
  -- the same on every input, refused or not, where both slices have room
  pub lent_same : place_count core round ≤ scratch → place_count core round ≤ spare →
      within_for nr core round scratch spare ≡ verdict_for nr core round
  lent_same = within_same nr core round scratch spare

  -- so where it is no refusal it is the verdict of `verdict`, whatever was lent
  pub lent-judged-same : Judged (within_for nr core round scratch spare) → within_for nr core round scratch spare ≡ verdict_for nr core round
  lent-judged-same = judged-same nr core round scratch spare

  -- the refusals are 8, 2, 3 and 5, in this order: accepted exactly where nr is from 1 to 24, both tables are whole rows of words
  -- below p, and both slices have room (`Passed`, judge_within/proofs/Within.antt)
  pub lent-taken : (within_refusal nr core round scratch spare ≡ accepted) ↔ Passed nr core round scratch spare
  lent-taken = lent-passed nr core round scratch spare

  -- every answer, and each refusal with its detail (`SaysLent`, verdict_line/specs/Lent.antt): after 8 and 2 and before 5, 3 with the length
  -- needed where a slice is shorter; else as `each-answer-for` has it
  pub lent-answers : (v : Verdict) → (within_for nr core round scratch spare ≡ v) ↔ SaysLent nr core round scratch spare v
  lent-answers = lent_says nr core round scratch spare

  -- what the scratch holds at exit: zeros where it was used, its old words where the verdict is refused; the words past them stay
  pub lent-zeros : Passed nr core round scratch spare → (old : List ℕ) →
      (take (place_count core round) (within_after nr core round scratch spare old) ≡ tab (place_count core round) (λ k. 0))
      × (drop (place_count core round) (within_after nr core round scratch spare old) ≡ drop (place_count core round) old)
  lent-zeros = lent-left nr core round scratch spare

  pub lent-untouched : {r : Refusal} → within_refusal nr core round scratch spare ≡ some r → (old : List ℕ) →
      within_after nr core round scratch spare old ≡ old
  lent-untouched e old = sym (after-refused nr core round old scratch spare e)

-- How the verdict's time grows in lent memory is measured, not proved. What is proved is of a definition in the shape of the sort of places:
-- `most_compared` (sort/specs/Compared.antt), whose shape is that of `merge_sort` in sort_places/src/lib.rt as in sort/src/lib.rt, is at most 2 k n
-- for n places, n at most 2^k, whatever they are; no contract ties the code to it. Where n is at most 2^k more halvings compare none
pub sort-compares : (k n : ℕ) → n ≤ 2 ^ k → most_compared k n ≤ 2 * k * n
sort-compares = most-compared

pub sort-halves : (k n : ℕ) → n ≤ 2 ^ k → most_compared (suc k) n ≡ most_compared k n
sort-halves = halved-enough

-- ---- demand 2
-- "a written round row takes START through that round of FIPS 202": the lanes that it was written for are its START,
-- and what it sends on is the round of them
pub written_start : (stamp : ℕ → ℕ) (r : ℕ) (s : List ℕ) → Lanes s → length s ≡ 25 →
    state_lanes START (round_row stamp r s) ≡ s
written_start stamp r s h = start-state (round_row stamp r s) r s h (written-cells stamp r s)

pub written-round : (stamp : ℕ → ℕ) (r : ℕ) (s : List ℕ) → Lanes s → r < 24 →
    Agree (bits (out_lanes (round_row stamp r s))) (rnd (bits s) r)
written-round stamp r s h l = round-fips (round_row stamp r s) r s h (written-cells stamp r s) l

-- "24 make Keccak-f[1600]", and nr of them Keccak-p[1600, nr]: of the rows nr i .. nr i + nr - 1 of the written table, which
-- are those of operation i
module _ (nr : ℕ) (most : nr ≤ 24) (floor n : ℕ) (op : ℕ → KeccakOperation) (i : ℕ) (below : i < n)
    (lanes : Lanes (op i).input) (size : length (op i).input ≡ 25) where
  abbrev row_of : ℕ → List ℕ
  row_of j = row_at 1480 (round_table nr floor n op) (i * nr + j)

  -- START of the first is the operation's input, START of each other is what the one before it sends on
  pub table-first : 1 ≤ nr → state_lanes START (row_of 0) ≡ (op i).input
  unfolding rounds_l
  table-first one = table-start nr most n op floor i below lanes size 0 (omega arith)

  pub table-next : (j : ℕ) → suc j < nr → state_lanes START (row_of (suc j)) ≡ out_lanes (row_of j)
  table-next j l =
      table-start nr most n op floor i below lanes size (suc j) l ∙ sym (table_step nr most n op floor i below lanes j (omega arith))

  -- "Rounds run from 24 − nr to 23"
  pub table-rounds : (j : ℕ) → j < nr → word (row_of j) ROUND ≡ 24 - nr + j
  table-rounds = table-round nr most n op floor i below lanes

  -- and the last sends on Keccak-p[1600, nr] of the input
  pub table-last : (j : ℕ) → suc j ≡ nr → Agree (bits (out_lanes (row_of j))) (keccak_p nr (bits (op i).input))
  table-last = table-fips nr most n op floor i below lanes

-- which for 24 rounds is Keccak-f[1600] after row 23
pub table-last-of-24 : (n : ℕ) (op : ℕ → KeccakOperation) (i : ℕ) → i < n → Lanes (op i).input →
    Agree (bits (out_lanes (row_at 1480 (round_table 24 4 n op) (i * 24 + 23)))) (keccak_f (bits (op i).input))
table-last-of-24 n op i below lanes = table-fips 24 (omega arith) n op 4 i below lanes 23 refl

-- "the sum of multiplicities that both tables send (Ecall: receive)": what `tally` answers when a file is fed to it in
-- two pieces, cut anywhere, and finished (more pieces: `feed-append`, op_file/proofs/Steps.antt) is the first fault, or these sums over the tables as written (`tally_of`, op_file/specs/File.antt)
pub tally-sums : (floor : ℕ) (shipped : Bool) (syscall : ℕ) (a b : List ℕ) →
    finish_of floor shipped (feed_of (feed_of file_start a) b) ≡ tally_of floor shipped syscall (a ++ b)
tally-sums = reads-pieces

-- "Each refusal comes on its listed condition only": a call that takes a list and needs so many words is refused by none
-- of its checks exactly where none of the six conditions is met
pub none-refused : (room needed : ℕ) (ops : List ℕ) →
    (operations_refusal room needed ops ≡ accepted) ↔ Acceptable room needed ops
none-refused = accepted-is

-- only one way to fill it: an active round row that passes is the written one, in all its words
pub one-row : (row : List ℕ) → length row ≡ 1480 → ((k : ℕ) → word row k < p) → RoundPasses row → word row MU ≡ 1 →
    row ≡ round_row (word row) (word row ROUND) (state_lanes START row)
one-row row e small ok on = round-unique row small ok on e

-- "Byte 0 takes the carry of halfword 3, byte 2 of 0, byte 4 of 1, byte 6 of 2, odd bytes none."
pub carry-places : (row : List ℕ) → ((k : ℕ) → word row k < p) → RoundPasses row → word row MU ≡ 1 →
    (x : ℕ) → x < 5 → Carries row (state_lanes START row) x
carry-places = carries

-- of a lane that ρ rotates by 16 q + r: halfword h takes the low part of halfword h - q and the carry of halfword
-- h - q - 1, mod 4, and so do its bytes, odd ones too
pub rho-carry-places : (row : List ℕ) → ((k : ℕ) → word row k < p) → RoundPasses row → word row MU ≡ 1 →
    (x y : ℕ) → x < 5 → y < 5 → RhoCarries row (state_lanes START row) x y
rho-carry-places = rho-carries

-- q is 0, so that byte 0 takes the carry of halfword 3, in 9 of the 25 lanes; in the other 16 it takes another's
pub carry-of-halfword-3 : count_below (λ l. ltb (RHO (l % 5) (l / 5)) 16) 25 ≡ 9
unfolding count_below offset
carry-of-halfword-3 = refl

-- ---- offsets by rule
-- "by walking from (1, 0) to (y, (2x + 3y) mod 5) for t = 0 to 23 with (t + 1)(t + 2)/2 mod 64, and (0, 0) has 0": RHO, which
-- `rho_offset` answers, is this of the lane where the walk is at t (`walk`, fips202/specs/Fips.antt), and 0 of (0, 0)
pub offset-walked : (t : ℕ) → t < 24 → RHO (walk t).0 (walk t).1 ≡ (t + 1) * (t + 2) / 2 % 64
offset-walked t l = ap (λ (n : ℕ). n % 64) (offset-met t l)

pub offset-of-0-0 : RHO 0 0 ≡ 0
offset-of-0-0 = ap (λ (n : ℕ). n % 64) offset-0-0

-- "the walk meets each other lane at exactly one t": from 0 to 23
pub walk-meets-once : (x y : ℕ) → x < 5 → y < 5 → (x ≡ 0 → y ≡ 0 → ⊥) → MetOnce x y
walk-meets-once = each-lane-once

-- and (0, 0) at none, however far it goes
pub walk-avoids-0-0 : (t : ℕ) → walk t ≡ (0, 0) → ⊥
walk-avoids-0-0 = never-0-0

-- ---- the cases
-- "START zero, round 0: lane 0 is 1, others 0."
pub case-zero-0 : (stamp : ℕ → ℕ) → out_lanes (round_row stamp 0 (replicate 25 0)) ≡ 1 ∷ replicate 24 0
case-zero-0 = row-zero-0

-- "Round 23: lane 0 is 8000000080008008 (hexadecimal)."
pub case-zero-23 : (stamp : ℕ → ℕ) → out_lanes (round_row stamp 23 (replicate 25 0)) ≡ 0x8000000080008008 ∷ replicate 24 0
case-zero-23 = row-zero-23

-- "START all ones, round 0: lane 0 FFFFFFFFFFFFFFFE, others all ones."
pub case-ones-0 : (stamp : ℕ → ℕ) →
    out_lanes (round_row stamp 0 (replicate 25 0xFFFFFFFFFFFFFFFF)) ≡ 0xFFFFFFFFFFFFFFFE ∷ replicate 24 0xFFFFFFFFFFFFFFFF
case-ones-0 = row-ones-0

-- "Only lane (0,0) is 1: after theta it is 1, column x = 1 all 1, column x = 4 all 2, others 0."
pub case-theta : (stamp : ℕ → ℕ) (r : ℕ) →
    state_lanes THETA (round_row stamp r (1 ∷ replicate 24 0))
    ≡ 1 ∷ 1 ∷ 0 ∷ 0 ∷ 2 ∷ 0 ∷ 1 ∷ 0 ∷ 0 ∷ 2 ∷ 0 ∷ 1 ∷ 0 ∷ 0 ∷ 2 ∷ 0 ∷ 1 ∷ 0 ∷ 0 ∷ 2 ∷ 0 ∷ 1 ∷ 0 ∷ 0 ∷ 2 ∷ []
case-theta = row-one-theta

-- "Bitwise 0: ZERO 1, others 0."
pub case-bitwise-0 : bitwise_row 0 ≡ 0 ∷ 0 ∷ 0 ∷ 0 ∷ 0 ∷ 0 ∷ 0 ∷ 0 ∷ 1 ∷ 0 ∷ 0 ∷ []
case-bitwise-0 = row-0

-- "266,804: 52, 18, 4, 16, 54, 38, 0, 0, 0, 9024, 1."
pub case-bitwise-266804 : bitwise_row 266804 ≡ 52 ∷ 18 ∷ 4 ∷ 16 ∷ 54 ∷ 38 ∷ 0 ∷ 0 ∷ 0 ∷ 9024 ∷ 1 ∷ []
case-bitwise-266804 = row-266804

-- "1,048,575: SLL 32,768, SLLC 32,767."
pub case-bitwise-last : (word (bitwise_row 1048575) SLL ≡ 32768) × (word (bitwise_row 1048575) SLLC ≡ 32767)
case-bitwise-last = row-1048575

-- "Round heights for n = 0, 1, 2,730, 2,731: 4, 32, 65,536, 131,072."
pub case-heights :
    (round_height 24 4 0 ≡ 4)
    × (round_height 24 4 1 ≡ 32)
    × (round_height 24 4 2730 ≡ 65536)
    × (round_height 24 4 2731 ≡ 131072)
case-heights = heights

-- "`padding_are_bytes` 0, 1, 2: 0, 1,760, 3,520."
pub case-padding :
    (padding-are-bytes 24 4 0 ≡ 0) × (padding-are-bytes 24 4 1 ≡ 1760) × (padding-are-bytes 24 4 2 ≡ 3520)
case-padding = paddings

-- "2^32 × `INV_SHIFT_32` mod p is 1."
pub case-inverse : 2 ^ 32 * INV-SHIFT-32 % p ≡ 1
case-inverse = inv-shift-32

-- "the highest accepted address in the cases becomes 18446744073709551416, the next multiple of eight being refused by 4.":
-- of a list of one operation, with any other words
module _ (timestamp : ℕ) (input output : List ℕ) (segment : ℕ) (in_size : length input ≡ 25) (out-size : length output ≡ 25)
    (room needed : ℕ) (fits : needed ≤ room) where
  pub case-highest : segment ≤ LAST-SEGMENT →
      operations_refusal room needed (timestamp ∷ 18446744073709551416 ∷ (input ++ (output ++ (segment ∷ [])))) ≡ accepted
  case-highest = highest-accepted timestamp input output segment in_size out-size room needed fits

  pub case-next :
      operations_refusal room needed (timestamp ∷ 18446744073709551424 ∷ (input ++ (output ++ (segment ∷ []))))
      ≡ some (HighAddress 18446744073709551424)
  case-next = next-refused timestamp input output segment in_size out-size room needed fits

  -- the highest that 4 does not refuse is no multiple of 8, and refused by 7
  pub case-unaligned :
      operations_refusal room needed (timestamp ∷ 18446744073709551423 ∷ (input ++ (output ++ (segment ∷ []))))
      ≡ some (Unaligned 18446744073709551423)
  case-unaligned = last-unaligned timestamp input output segment in_size out-size room needed fits

-- the same of a record of an operation file, which is counted, refused, or left out and not refused
module _ (i at : ℕ) (r : List ℕ) (few : i < MAX-OPS) (whole : is_whole r ≡ true) where
  pub case-highest-record : address_of r ≡ 18446744073709551416 → (fault_of i at r ≡ accepted) × (is_aligned r ≡ true)
  case-highest-record = file.highest-accepted i at r few whole

  pub case-next-record : address_of r ≡ 18446744073709551424 → fault_of i at r ≡ some (HighAddress 18446744073709551424)
  case-next-record = file.next-refused i at r few whole

  pub case-unaligned-record : address_of r ≡ 18446744073709551423 → (fault_of i at r ≡ accepted) × (is_unaligned r ≡ true)
  case-unaligned-record = file.last-left-out i at r few whole

-- ".. refused by 4", "Refused: 7"
pub case-by-4 : refusal_number (HighAddress 18446744073709551424) ≡ 4
case-by-4 = refl

pub case-by-7 : refusal_number (Unaligned 18446744073709551423) ≡ 7
case-by-7 = refl

-- "For one record with address 4096 it prints all of": its ten numbers, whatever the record's other words are
pub case-one-record : (shipped : Bool) (syscall : ℕ) (op : ℕ → KeccakOperation) (segments : Segments) →
    record {
      ops = 1;
      core_rows = 4;
      round_rows = 32;
      byte_alu = 19393;
      are_bytes = 7044;
      keccak_rc = 24;
      is_halfword = 25;
      is_wh = 25;
      memw = 26;
      ecall = 1;
      segments = segments;
      unaligned = 0;
    }
    ≡ sums_of 4 shipped syscall 1 op segments 0
case-one-record = file.one-record

-- "`tally` gives 1 as soon as any byte follows record 89,478,485"
pub case-too-many : (at : ℕ) (r : List ℕ) → fault_of 89478485 at r ≡ some (PastEnd 89478486)
case-too-many = file.one-too-many

-- "An empty file counts as one whose tables are not shipped: it gives 0, 4, 4, then zeros.": AreBytes is 0
abbrev empty-sums : ℕ → ℕ → Sums
empty-sums rows bytes =
    record {
      ops = 0;
      core_rows = rows;
      round_rows = rows;
      byte_alu = 0;
      are_bytes = bytes;
      keccak_rc = 0;
      is_halfword = 0;
      is_wh = 0;
      memw = 0;
      ecall = 0;
      segments = none_told;
      unaligned = 0;
    }

pub case-empty : (syscall : ℕ) → tally_of 4 false syscall [] ≡ Ok (empty-sums 4 0)
case-empty = file.empty-file 4 file.four

-- "Two core rows share a timestamp, outputs exchanged, otherwise honest: the verdict names the timestamp.": a row that
-- repeats one
pub case-timestamp : (core round : List ℕ) → ToRepeat (core_kind 24) round_kind core round → (q r : ℕ) → q < r →
    Active core_layout core q → Active core_layout core r →
    SameTimestamp (row core_layout core q) (row core_layout core r) →
    (s : ℕ) × (s ≤ r) × RepeatsAt core_layout core s × (verdict_of core round ≡ Repeated s)
case-timestamp = timestamp-twice (core_kind 24) round_kind

-- and two such rows, of the zero state and of 25 lanes of 1
pub case-exchanged : verdict_of exchanged_core exchanged_round ≡ Repeated 1
case-exchanged = exchanged-named

-- "A row with ROUND 24, zero constant and MU 1 passes its values and lookups, ..": that of any START
pub case-late-passes : (stamp : ℕ → ℕ) (s : List ℕ) → Lanes s →
    RoundPasses (round_row stamp 24 s)
    × (word (round_row stamp 24 s) ROUND ≡ 24)
    × ((b : ℕ) → b < 8 → word (round_row stamp 24 s) (rc b) ≡ 0)
    × (word (round_row stamp 24 s) MU ≡ 1)
case-late-passes stamp s h =
    let w = written-cells stamp 24 s in
    let none : (b : ℕ) → byte_at (round_constant 24) b ≡ 0 =
    λ b.
    ap (λ (c : ℕ). byte_at c b) (constant-past 24 (omega arith))
    ∙ ap (λ (n : ℕ). n % 256) (zero-div (2 ^ (8 * b))) in
    (round-written stamp 24 s h (omega arith), w.round_is, (λ b l. w.rc-is b l ∙ none b), w.mu-is)

-- ".. and the bus is unbalanced.": in tables whose earlier checks find nothing
pub case-late : (core round : List ℕ) → ToCoreBalance (core_kind 24) round_kind core round →
    (q : ℕ) → Active round_layout round q →
    24 ≤ word (row round_layout round q) ROUND →
    (r i : ℕ) × ((verdict_of core round ≡ Unbalanced Core r i) ⊎ (verdict_of core round ≡ Unbalanced Round r i))
case-late = late-row 24

-- and such a row after an honest round table
pub case-late-row :
    (r i : ℕ)
    × ((verdict_of (one_core witness) late_round ≡ Unbalanced Core r i)
    ⊎ (verdict_of (one_core witness) late_round ≡ Unbalanced Round r i))
case-late-row = late-unbalanced

-- ---- the change requests
-- Item 1: "In shipped mode AreBytes equals the sum over the rows as written, for every n.": of what `finish` computes, and
-- of the definition, which says it of every bus
module _ (floor syscall n : ℕ) (op : ℕ → KeccakOperation) (segments : Segments) (left : ℕ) where
  pub shipped-are-bytes :
      (counts_of floor true n segments left).are_bytes
      ≡ core_table_sum Sender AreBytes 24 syscall floor n op + round_table_sum Sender AreBytes 24 floor n op
  shipped-are-bytes = file.shipped-are-bytes floor syscall n op segments left

  pub shipped-buses : (s : Side) (b : Bus) →
      bus_total floor true syscall s b n op ≡ core_table_sum s b 24 syscall floor n op + round_table_sum s b 24 floor n op
  shipped-buses = file.shipped-buses floor syscall n op segments left

  -- both modes agree where there is an operation ..
  pub modes-agree : 1 ≤ n → sums_of floor true syscall n op segments left ≡ sums_of floor false syscall n op segments left
  modes-agree = file.modes-agree floor syscall n op segments left

-- .. and on every file that has a record to count, refused or not
pub modes-agree-on : (floor syscall : ℕ) (file : List ℕ) → 1 ≤ length (aligned_of file) → tally_of floor true syscall file ≡ tally_of floor false syscall file
modes-agree-on = file.modes-agree-on

-- "an empty file's AreBytes is 880 in place of 0": its ten numbers are 0, 4, 4, 0, 880, 0, 0, 0, 0, 0
pub case-empty-shipped : (syscall : ℕ) → tally_of 4 true syscall [] ≡ Ok (empty-sums 4 880)
case-empty-shipped = file.empty-shipped 4 file.four

-- "`padding_are_bytes` keeps the Rust's 0"
pub padding-kept : (nr floor : ℕ) → padding-are-bytes nr floor 0 ≡ 0
padding-kept = no-padding

-- Item 3, the charge and its look (segment_counts/specs/Segment.antt; nr rounds and tables of at least `floor` rows where they are said).
-- "This look must equal charging a copy and reading it, refusals included": where the copy and the twenty words are long
-- enough, it is refused exactly as charging is ..
module _ (nr floor : ℕ) (shipped : Bool) (ops counters copy out : List ℕ) (room : NUM-COUNTERS ≤ length copy) (twenty : LOOK-WORDS ≤ length out) where
  pub look-refuses : look_refusal nr floor ops counters (length copy) (length out) ≡ charge_refusal nr floor ops counters
  look-refuses = look-refused nr floor ops counters (length copy) (length out) room twenty

  -- .. and else the copy holds what a charge makes of the counters, copied to its first words ..
  module _ (ok : charge_refusal nr floor ops counters ≡ accepted) where
    pub look-charges :
        (charge_refusal nr floor ops (overwrite (take NUM-COUNTERS counters) copy) ≡ accepted)
        × (look_copy_after nr floor shipped ops counters copy (length out) ≡ charge_after nr floor shipped ops (overwrite (take NUM-COUNTERS counters) copy))
    look-charges = (copied-taken nr floor shipped ops counters copy out room twenty ok, look-copy nr floor shipped ops counters copy out room twenty ok)

    pub look-begins :
        take NUM-COUNTERS (look_copy_after nr floor shipped ops counters copy (length out)) ≡ take NUM-COUNTERS (charge_after nr floor shipped ops counters)
    look-begins = look-start nr floor shipped ops counters copy out room twenty ok

    -- .. and the answer "for each of the ten kinds, the sum charged and the largest counter afterwards"
    pub look-shows : (k : ℕ) → k < 10 →
        (word (look_out_after nr floor shipped ops counters (length copy) out) (2 * k) ≡ charged_kind (list_charged nr floor shipped ops) k)
        × (word (look_out_after nr floor shipped ops counters (length copy) out) (2 * k + 1) ≡ largest (charge_after nr floor shipped ops counters) k)
    look-shows k l = (look-sum nr floor shipped ops counters copy out room twenty ok k l, look-largest nr floor shipped ops counters copy out room twenty ok k l)

-- "the largest counter": no counter of the kind is above it, and one of them is it
pub largest-counter : (counters : List ℕ) (k : ℕ) →
    ((r : ℕ) → r < NUM-ROWS → word counters (r * 10 + k) ≤ largest counters k)
    × ((r : ℕ) × (r < NUM-ROWS) × (largest counters k ≡ word counters (r * 10 + k)))
largest-counter counters k = (largest-most counters k, largest-one counters k)

-- the sums charged are those of `tally` by bus, ByteAlu split into AND, OR and XOR, for every n, in both modes
module _ (shipped : Bool) (syscall n : ℕ) (op : ℕ → KeccakOperation) (lanes : (i : ℕ) → i < n → Lanes (op i).input) where
  pub sums-are-tally : (floor : ℕ) →
      (charged_kind (segment_charged 24 floor shipped n op) 3 ≡ bus_total floor shipped syscall Sender AreBytes n op)
      × (charged_kind (segment_charged 24 floor shipped n op) 4 ≡ bus_total floor shipped syscall Sender IsHalfword n op)
      × (charged_kind (segment_charged 24 floor shipped n op) 7 + charged_kind (segment_charged 24 floor shipped n op) 8 + charged_kind (segment_charged 24 floor shipped n op) 9
      ≡ bus_total floor shipped syscall Sender ByteAlu n op)
  sums-are-tally floor = (charged-are-bytes floor shipped syscall n op lanes, charged-halfwords floor shipped syscall n op lanes, charged-byte-alu floor shipped syscall n op lanes)

  -- each of the ten by a formula
  pub sums-by-kind : (nr floor : ℕ) → nr ≤ 24 → (k : ℕ) → k < 10 →
      charged_kind (segment_charged nr floor shipped n op) k ≡ kind_sum nr floor shipped n k
  sums-by-kind = kind-sums-at shipped n op lanes

-- "An empty list charges none, in shipped mode 880 AreBytes.": "The 880 of shipped mode becomes 220 times the floor."
pub empty-charges : (nr floor : ℕ) → nr ≤ 24 → PowerFloor floor → (op : ℕ → KeccakOperation) (c k : ℕ) → k < 10 →
    (segment_charged nr floor false 0 op c ≡ 0) × (charged_kind (segment_charged nr floor true 0 op) k ≡ pick (eqb k 3) (220 * floor) 0)
empty-charges nr floor most power op c k l = (empty-none nr floor op c, empty-shipped nr floor most power op k l)

-- and nothing that is charged depends on the syscall number, which a core row's tuples are made with
pub charge-without-syscall : (nr syscall h : ℕ) (row : ℕ → List ℕ) (c : ℕ) →
    charged h 84 (λ r. core_tuple nr syscall (row r)) c ≡ charged h 84 (λ r. core_tuple nr 0 (row r)) c
charge-without-syscall nr syscall h row c = syscall-free nr syscall c h row

-- charging a list is charging its operations one after the other and then the padding of the whole
pub charge-in-turn : (nr floor : ℕ) (shipped : Bool) (ops counters : List ℕ) → charge_refusal nr floor ops counters ≡ accepted →
    charge_after nr floor shipped ops counters
    ≡ charged_counters (charged_each nr (op_at ops) (op_count ops) counters) (padding_charged nr floor shipped (op_count ops))
charge-in-turn = charge-each

-- charging a list and then another is merging, the second having been charged to zeros of its own: so of two tables that
-- were charged with one each from zero
module _ (nr nr' floor floor' : ℕ) (shipped shipped' : Bool) (ops ops' counters zeros : List ℕ) (first : charge_refusal nr floor ops counters ≡ accepted)
    (all-zero : (c : ℕ) → c < NUM-COUNTERS → word zeros c ≡ 0) (second : charge_refusal nr' floor' ops' zeros ≡ accepted) where
  pub charge-then-merge :
      (charge_refusal nr' floor' ops' (charge_after nr floor shipped ops counters) ≡ accepted)
      × (merge_refusal (charge_after nr floor shipped ops counters) (charge_after nr' floor' shipped' ops' zeros) ≡ accepted)
      × (charge_after nr' floor' shipped' ops' (charge_after nr floor shipped ops counters) ≡ merge_after (charge_after nr floor shipped ops counters) (charge_after nr' floor' shipped' ops' zeros))
  charge-then-merge = (
    charge-next nr nr' floor floor' shipped shipped' ops ops' counters first zeros second,
    merge-next nr nr' floor floor' shipped shipped' ops ops' counters first zeros all-zero second,
    charge-merged nr nr' floor floor' shipped shipped' ops ops' counters first zeros all-zero second,
  )

-- "each on the bitwise row of its operands .. with Z 0": the counter of every row with Z above 0 stays, and so does that of
-- every kind but AreBytes, IsHalfword, AND and XOR (`Looked`: 3, 4, 7, 9); and every word past the counters
pub others-stay : (nr floor : ℕ) (shipped : Bool) (ops counters : List ℕ) (c : ℕ) → (65536 ≤ c / 10) ⊎ (Looked (c % 10) → ⊥) →
    word (charge_after nr floor shipped ops counters) c ≡ word counters c
others-stay = charge-stays

-- a tuple that is charged is found in the row that it is charged to: of round rows ..
pub round-stands : (nr n : ℕ) (op : ℕ → KeccakOperation) → nr ≤ 24 → ((i : ℕ) → i < n → Lanes (op i).input) →
    (q i c : ℕ) → i < 1031 → ((round_tuple (round_row_at nr n op q) i).multiplicity ≡ 0 → ⊥) →
    falls_on (round_tuple (round_row_at nr n op q) i) c ≡ true → PlacedAt (round_tuple (round_row_at nr n op q) i) c
round-stands = round-placed

-- .. and of core rows, with nothing supposed of addresses, since a list that is charged was accepted
pub core-stands : (nr floor : ℕ) (ops counters : List ℕ) → charge_refusal nr floor ops counters ≡ accepted → (r i c : ℕ) →
    falls_on (core_tuple nr 0 (core_row_at (op_count ops) (op_at ops) r) i) c ≡ true → PlacedAt (core_tuple nr 0 (core_row_at (op_count ops) (op_at ops) r) i) c
core-stands nr floor ops counters taken = table-placed nr (op_count ops) (op_at ops) ((charge-accepted nr floor ops counters).0 taken).3.aligned

-- An address that is no multiple of 8 is refused. Its row's tuple 54, the alignment, would be charged and be found in no row.
pub unaligned-lost : (nr n : ℕ) (op : ℕ → KeccakOperation) (r : ℕ) → r < n → ((op r).state_addr % 8 ≡ 0 → ⊥) →
    (falls_on (core_tuple nr 0 (core_row_at n op r) 54) (place_counter ByteAlu (core_tuple nr 0 (core_row_at n op r) 54).values) ≡ true)
    × ((core_tuple nr 0 (core_row_at n op r) 54).multiplicity ≡ 1)
    × (BitwiseFound ByteAlu (core_tuple nr 0 (core_row_at n op r) 54).values → ⊥)
unaligned-lost = unaligned

-- Item 4: "From now on every call that takes operations turns them down.": of a list that is accepted, of words as they are
-- lent, the core table that is written passes its constraints and lookups, with nothing supposed of its addresses ..
module _ (room needed : ℕ) (ops : List ℕ) (taken : operations_refusal room needed ops ≡ accepted) (lent : (k : ℕ) → word ops k < 2 ^ 64) where
  pub accepted-passes : (nr floor : ℕ) → Passes (core_kind nr) (core_table floor (op_count ops) (op_at ops))
  accepted-passes = written-passes room needed ops taken lent

  -- .. so where timestamps differ it is as demand 3 supposes, and where every output is right both tables hold: every
  -- operation that is accepted can be proved
  module _ (differ : (i j : ℕ) → i < j → j < op_count ops → (op_at ops i).timestamp ≡ (op_at ops j).timestamp → ⊥) where
    pub accepted-supposed : (nr floor : ℕ) → SupposedAt nr (core_table floor (op_count ops) (op_at ops))
    accepted-supposed = written-supposed room needed ops taken lent differ

    pub accepted-holds : (nr floor : ℕ) → 1 ≤ nr → nr ≤ 24 → ((i : ℕ) → i < op_count ops → (op_at ops i).output ≡ keccak_pl nr (op_at ops i).input) →
        verdict_at nr (core_table floor (op_count ops) (op_at ops)) (round_table nr floor (op_count ops) (op_at ops)) ≡ Holds (op_count ops)
    accepted-holds = written-holds room needed ops taken lent differ

-- the table is what `generate_keccak_trace` leaves, for every floor that it accepts
pub accepted-written : (floor : ℕ) (ops table : List ℕ) → core_trace_refusal floor (length table) ops ≡ accepted → ((k : ℕ) → word ops k < 2 ^ 64) →
    (nr : ℕ) → Passes (core_kind nr) (take (height floor (op_count ops) * 486) (core_trace_after floor ops table))
accepted-written floor ops table taken lent nr = left-passes floor ops table taken lent nr

-- "addresses that the alignment lookup can never match": of a list that is refused by 7 the lookups of its core table fail,
-- because tuple 54 of the row of the operation at that address has no match
pub refused-unmatched : (room needed : ℕ) (ops : List ℕ) {a : ℕ} → operations_refusal room needed ops ≡ some (Unaligned a) →
    ((nr floor : ℕ) → Lookups (core_kind nr) (core_table floor (op_count ops) (op_at ops)) → ⊥)
    × ((i : ℕ) × (i < op_count ops) × (address_at ops i ≡ a) × ((nr syscall : ℕ) → Matched (core_tuple nr syscall (core_row (op_at ops i)) 54) → ⊥))
refused-unmatched room needed ops e = (unaligned-fails room needed ops e, unaligned-unmatched room needed ops e)

-- "after 4 and before 5": 7 is told only where no address of the list is too high
pub after-4 : (room needed : ℕ) (ops : List ℕ) {a : ℕ} → operations_refusal room needed ops ≡ some (Unaligned a) →
    (i : ℕ) → i < op_count ops → address_at ops i ≤ LAST-ADDRESS
after-4 room needed ops e = (told-unaligned room needed ops e).4

-- "detail the first such address": where nothing earlier refuses and operation i is the first at such an address
pub first-unaligned : (room needed : ℕ) (ops : List ℕ) → op_count ops ≤ MAX-OPS → length ops % OP-WORDS ≡ 0 → needed ≤ room →
    ((j : ℕ) → j < op_count ops → address_at ops j ≤ LAST-ADDRESS) →
    (i : ℕ) → i < op_count ops → (address_at ops i % 8 ≡ 0 → ⊥) → ((j : ℕ) → j < i → address_at ops j % 8 ≡ 0) →
    operations_refusal room needed ops ≡ some (Unaligned (address_at ops i))
first-unaligned = unaligned-refused

-- "`tally` counts such records in a last line .. and leaves them out of the record count": each record is one or the other
-- (`tally_of`, op_file/specs/File.antt, which `tally-sums` above ties to what is read in pieces)
pub each-record : (file : List ℕ) → length (aligned_of file) + length (unaligned_of file) ≡ length (records_of file)
each-record = file.each-counted

-- and those that are counted are a list that every call accepts
pub counted-taken : (file : List ℕ) → ((k : ℕ) → word file k < 256) → first_fault 0 0 (records_of file) ≡ accepted → (room needed : ℕ) → needed ≤ room →
    operations_refusal room needed (records_words (aligned_of file)) ≡ accepted
counted-taken = counted-accepted

-- "`tally` never gives it." A high address is refused by 4 all the same
pub tally-never-7 : (floor : ℕ) (shipped : Bool) (syscall : ℕ) (file : List ℕ) (a : ℕ) → tally_of floor shipped syscall file ≡ Err (Unaligned a) → ⊥
tally-never-7 = file.never-7

pub tally-high : (i at : ℕ) (r : List ℕ) → i < MAX-OPS → is_whole r ≡ true → LAST-ADDRESS < address_of r →
    fault_of i at r ≡ some (HighAddress (address_of r))
tally-high = file.high-refused

-- Item 6: "The existence statement then counts nr active rows per active core row and names Keccak-p." (`Computed nr`, and
-- `each` of `ClaimsAt`, verdict/specs/Claims.antt); of the code `code_holds` .. `code-computed` below, for the rows `table-rounds` above
pub the-demand-for : (nr floor : ℕ) → 1 ≤ nr → nr ≤ 24 → (core : List ℕ) → SupposedAt nr core → ClaimsAt nr floor core
the-demand-for = demand3-at

-- "nr = 24 gives today's bytes": the demand, the verdict, and Keccak-p[1600, 24]
pub the-demand-of-24 : (core : List ℕ) → (SupposedAt 24 core ≡ Supposed core) × (ClaimsAt 24 4 core ≡ Claims core)
the-demand-of-24 core = (refl, refl)

pub verdict-of-24 : (core round : List ℕ) → verdict_for 24 core round ≡ verdict_of core round
verdict-of-24 = verdict-24

-- the table that is written is refused as any list of operations, and is that of 24 rounds
pub table-of-24 : (ops table : List ℕ) →
    (round_trace_refusal 24 4 (length table) ops ≡ operations_refusal (length table) (length (round_table 24 4 (op_count ops) (op_at ops))) ops)
    × (round_trace_after 24 4 ops table ≡ afterwards (round_trace_refusal 24 4 (length table) ops) (overwrite (round_table 24 4 (op_count ops) (op_at ops)) table) table)
table-of-24 ops table = (trace-later 24 4 (length table) ops (omega arith) (omega arith) file.four, refl)

-- a core row's tuple is asked for, answered and written as one of any table, its rounds being 24
module _ (syscall : ℕ) (row : List ℕ) (i : ℕ) (out : List ℕ) where
  pub tuple-of-24 : core_tuple_refusal 24 syscall row i out ≡ tuple_refusal 486 84 (core_tuple 24 syscall) row i out
  tuple-of-24 = tuple-calls.tuple-later 24 syscall row i out (omega arith) (omega arith)

  pub answer-of-24 : core_tuple_answer 24 syscall row i out ≡ tuple_answer_of 486 84 (core_tuple 24 syscall) row i out
  answer-of-24 = ap (tuple_answer (core_tuple 24 syscall row i)) tuple-of-24

  pub values-of-24 : core_tuple_after 24 syscall row i out ≡ tuple_after 486 84 (core_tuple 24 syscall) row i out
  values-of-24 = ap (λ (o : Option Refusal). afterwards o (overwrite (core_tuple 24 syscall row i).values out) out) tuple-of-24

-- "Refused: 8, nr is 0 or above 24, detail nr, before 1.": what the verdict answers, for every nr and every answer
-- (`SaysFor`, verdict/specs/Failures.antt) ..
pub each-answer-for : (nr : ℕ) (core round : List ℕ) (v : Verdict) → (verdict_for nr core round ≡ v) ↔ SaysFor nr core round v
each-answer-for = any-rounds

-- .. and every other call that takes nr is refused by 8 first, whatever else it would refuse, and else as without it
module _ (nr : ℕ) (later : Option Refusal) where
  pub rounds-first : NoRounds nr → not_rounds nr later ≡ some (Rounds nr)
  rounds-first (inl e) = subst (λ (m : ℕ). not_rounds m later ≡ some (Rounds m)) (sym e) (no-rounds-refused later)
  rounds-first (inr l) = many-rounds-refused nr later l

  pub rounds-then : 1 ≤ nr → nr ≤ 24 → not_rounds nr later ≡ later
  rounds-then = rounds-later nr later

pub case-by-8 : refusal_number (Rounds 25) ≡ 8
case-by-8 = refl

-- "the core row sends at round 24 − nr and receives at 24"
module _ (nr syscall : ℕ) (row : List ℕ) where
  pub sent-round : word (core_tuple nr syscall row 2).values 2 ≡ 24 - nr
  unfolding core_tuple followed_by
  sent-round = tuple-calls.sent-round row nr

  pub received-round : word (core_tuple nr syscall row 3).values 2 ≡ 24
  unfolding core_tuple followed_by
  received-round = tuple-calls.received-round row

-- "`update_multiplicities` sets MU of rounds 24 − nr to 23 to the count, of lower ones to 0": of what it leaves
module _ (nr : ℕ) (table : List ℕ) (n : ℕ) (passed : constants.update_refusal nr table n ≡ accepted) where
  pub constants-used : (r : ℕ) → 24 - nr ≤ r → r < 24 → word (constants.update_after nr table n) (10 * r + 9) ≡ n
  constants-used = update-sets nr table n passed

  pub constants-unused : (r : ℕ) → r < 24 - nr → word (constants.update_after nr table n) (10 * r + 9) ≡ 0
  constants-unused = update-clears nr table n passed

-- Item 7: "the height rule takes it in place of 4": the height is a power of two, at least the floor, at least the rows, and the
-- least such (`Least`, keccak/specs/Height.antt), and no other number is
pub least-height : (floor n : ℕ) → PowerFloor floor → Least floor n (height floor n)
least-height = height-least

pub least-height-one : (floor n a b : ℕ) → Least floor n a → Least floor n b → a ≡ b
least-height-one = least-unique

-- "Refused: 9, any other floor, detail the floor, after 8 and before 1.": a call that takes both is refused by 8 first, then by 9,
-- and else as without them
module _ (nr floor : ℕ) (later : Option Refusal) where
  pub floor-first : (PowerFloor floor → ⊥) → not_floor floor later ≡ some (Floor floor)
  floor-first = floor-refused floor later

  pub rounds-before-floor : NoRounds nr → not_rounds nr (not_floor floor later) ≡ some (Rounds nr)
  rounds-before-floor = rounds-first nr (not_floor floor later)

  pub floor-then : 1 ≤ nr → nr ≤ 24 → PowerFloor floor → not_rounds nr (not_floor floor later) ≡ later
  floor-then one most power = both_later nr floor later (one, most, power)

pub case-by-9 : refusal_number (Floor 6) ≡ 9
case-by-9 = refl

-- what the two writers leave holds together, for every number of rounds and every floor that they accept
pub written-hold : (floor : ℕ) (ops T : List ℕ) → core_trace_refusal floor (length T) ops ≡ accepted → ((k : ℕ) → word ops k < 2 ^ 64) →
    ((i j : ℕ) → i < j → j < op_count ops → (op_at ops i).timestamp ≡ (op_at ops j).timestamp → ⊥) →
    (nr : ℕ) (U : List ℕ) → round_trace_refusal nr floor (length U) ops ≡ accepted →
    ((i : ℕ) → i < op_count ops → (op_at ops i).output ≡ keccak_pl nr (op_at ops i).input) →
    verdict_at nr (take (height floor (op_count ops) * 486) (core_trace_after floor ops T)) (take (round_height nr floor (op_count ops) * 1480) (round_trace_after nr floor ops U))
    ≡ Holds (op_count ops)
written-hold = left-holds

-- "With floor 4 all words are as before": no call is refused for it, so heights, padding and the charge, whose words go by the
-- floor alone, are those of 4 ..
pub floor-of-4 : (later : Option Refusal) → not_floor 4 later ≡ later
floor-of-4 = four-accepted

-- .. and both writers refuse and leave what they did without it
pub core-of-4 : (ops table : List ℕ) →
    (core_trace_refusal 4 (length table) ops ≡ operations_refusal (length table) (height 4 (op_count ops) * 486) ops)
    × (core_trace_after 4 ops table
    ≡ afterwards (operations_refusal (length table) (height 4 (op_count ops) * 486) ops) (overwrite (core_table 4 (op_count ops) (op_at ops)) table) table)
core-of-4 = core-as-before.as_before

pub round-of-4 : (nr : ℕ) (ops table : List ℕ) →
    (round_trace_refusal nr 4 (length table) ops ≡ not_rounds nr (operations_refusal (length table) (round_height nr 4 (op_count ops) * 1480) ops))
    × (round_trace_after nr 4 ops table
    ≡ afterwards (not_rounds nr (operations_refusal (length table) (round_height nr 4 (op_count ops) * 1480) ops))
    (overwrite (round_table nr 4 (op_count ops) (op_at ops)) table) table)
round-of-4 = round-as-before.as_before

-- Item 7, `tally`: "The floor is a power of two from 4 to 65,536 .. any other floor": a file is counted with that floor of both
-- tables, and any other is refused by 9, "detail the floor", whatever the file holds
pub tally-floor : (floor : ℕ) (shipped : Bool) → PowerFloor floor → (syscall : ℕ) (file : List ℕ) →
    tally_of floor shipped syscall file
    ≡ unless (first_fault 0 0 (records_of file))
    (sums_of floor shipped syscall (length (aligned_of file)) (op_at (records_words (aligned_of file))) (segments_of (aligned_of file)) (length (unaligned_of file)))
tally-floor = file.floor-counts

pub tally-other-floor : (floor : ℕ) (shipped : Bool) → (PowerFloor floor → ⊥) → (syscall : ℕ) (file : List ℕ) →
    tally_of floor shipped syscall file ≡ Err (Floor floor)
tally-other-floor = file.other-floor

-- "The 880 of shipped mode becomes 220 times the floor."
pub empty-of-floor : (floor : ℕ) → PowerFloor floor → (syscall : ℕ) →
    (tally_of floor true syscall [] ≡ Ok (empty-sums floor (220 * floor))) × (tally_of floor false syscall [] ≡ Ok (empty-sums floor 0))
empty-of-floor floor h syscall = (file.empty-shipped floor h syscall, file.empty-file floor h syscall)

-- "With floor 4 all words are as before": the floor is accepted, and the tables are those of the cases above
pub tally-of-4 : (shipped : Bool) (syscall : ℕ) (file : List ℕ) →
    tally_of 4 shipped syscall file
    ≡ unless (first_fault 0 0 (records_of file))
    (sums_of 4 shipped syscall (length (aligned_of file)) (op_at (records_words (aligned_of file))) (segments_of (aligned_of file)) (length (unaligned_of file)))
tally-of-4 shipped = file.floor-counts 4 shipped file.four

-- "(digits only, zeros may lead)": the floor that a word tells is its number, whatever zeros stand before it, "or a decimal
-- above 2^64 − 1, is floor 0"
pub floor-told : (zeros n : ℕ) → (n ≤ 18446744073709551615 → floor_in (replicate zeros 48 ++ decimal_of n) ≡ n) × (18446744073709551615 < n → floor_in (replicate zeros 48 ++ decimal_of n) ≡ 0)
floor-told zeros n = (floor-back zeros n, floor-over zeros n)

-- "an argument that is neither .. is floor 0": a byte of it is no digit, or it has none
pub floor-of-others : (w : List ℕ) →
    ((digits_only w ≡ true) ↔ ((i : ℕ) → i < length w → (48 ≤ word w i) × (word w i ≤ 57))) × (digits_only w ≡ false → floor_in w ≡ 0) × (floor_in [] ≡ 0)
floor-of-others w = (digits_are w, floor-other w, floor-none)

-- "4 when absent; it may stand before or after `shipped`, the last floor counts": where only `shipped` follows it
pub floor-absent : (ws : List (List ℕ)) → AllShipped ws → (arguments_of ws).floor ≡ 4
floor-absent = absent-floor

pub floor-last : (us : List (List ℕ)) (w : List ℕ) (vs : List (List ℕ)) → is_shipped w ≡ false → AllShipped vs → (arguments_of (us ++ w ∷ vs)).floor ≡ floor_in w
floor-last = last-floor

pub mode-told : ((us vs : List (List ℕ)) → (arguments_of (us ++ shipped-word ∷ vs)).shipped ≡ true) × ((ws : List (List ℕ)) → NoneShipped ws → (arguments_of ws).shipped ≡ false)
mode-told = (shipped-anywhere, never-shipped)

-- Item 8, registers on one counter table (registers/specs/Registers.antt). "in use are as many as whole ledgers stand in the lent words, 16 at
-- most": a register is in use exactly where its ten words stand in the lent words and it is one of the first 16
pub registers-used : (words r : ℕ) → (r < in_use words) ↔ ((r * 10 + 10 ≤ words) × (r < 16))
registers-used = in-use-is

-- "Refused: 10, a register number not below the number in use, detail the register number, after 9 and before 1.": by 8, then by 9, whatever
-- register it is ..
module _ (nr floor register : ℕ) (ops counters ledgers : List ℕ) where
  pub register-after-8 : NoRounds nr → register_refusal nr floor register ops counters ledgers ≡ some (Rounds nr)
  unfolding through_refusal
  register-after-8 = rounds-before-floor nr floor _

  pub register-after-9 : 1 ≤ nr → nr ≤ 24 → (PowerFloor floor → ⊥) → register_refusal nr floor register ops counters ledgers ≡ some (Floor floor)
  register-after-9 = through-floor (too_short (length counters) NUM-COUNTERS) nr floor register ops counters ledgers

  -- .. then by 10, whatever else would be refused, and a register in use as a charge without it, so by 1, 2, 3, 4, 7 and 5 of the counters;
  -- "and 5 covers the register's own ledger after the counters", by its place in all ledger words
  module _ (right : (1 ≤ nr) × (nr ≤ 24) × PowerFloor floor) where
    pub register-refused : in_use (length ledgers) ≤ register → register_refusal nr floor register ops counters ledgers ≡ some (Register register)
    register-refused = register-unused nr floor register ops counters ledgers right

    module _ (used : register < in_use (length ledgers)) where
      pub register-then : {r : Refusal} → charge_refusal nr floor ops counters ≡ some r → register_refusal nr floor register ops counters ledgers ≡ some r
      register-then = register-as-charge nr floor register ops counters ledgers right used

      pub register-own-ledger : charge_refusal nr floor ops counters ≡ accepted → (k : ℕ) → first_not_element (row_at 10 ledgers register) 10 ≡ some k →
          register_refusal nr floor register ops counters ledgers ≡ some (NotElement (register * 10 + k))
      register-own-ledger = register-ledger nr floor register ops counters ledgers right used

  -- and for nothing else, so for no word of another ledger
  pub register-taken : (register_refusal nr floor register ops counters ledgers ≡ accepted)
      ↔ ((register < in_use (length ledgers)) × (charge_refusal nr floor ops counters ≡ accepted) × ElementRow 10 (row_at 10 ledgers register))
  register-taken = register-accepted nr floor register ops counters ledgers

pub case-by-10 : refusal_number (Register 16) ≡ 10
case-by-10 = refl

-- "A charge adds its sums mod p to its own ledger only": an accepted one to each of its ten words all that it adds to the counters of that
-- kind, which it charges as a charge without a register does ..
module _ (nr floor : ℕ) (shipped : Bool) (register : ℕ) (ops counters ledgers : List ℕ) where
  pub register-charges : register_refusal nr floor register ops counters ledgers ≡ accepted →
      (register_counters_after nr floor shipped register ops counters ledgers ≡ charge_after nr floor shipped ops counters)
      × ((k : ℕ) → k < 10 →
      word (register_ledgers_after nr floor shipped register ops counters ledgers) (register * 10 + k)
      ≡ (word ledgers (register * 10 + k) + charged_kind (list_charged nr floor shipped ops) k) % p)
  register-charges ok = (register-counters nr floor shipped register ops counters ledgers ok, own-grows nr floor shipped register ops counters ledgers ok)

  -- .. and every other ledger word stays, those past the sixteenth ledger too, whether it is refused or not
  pub register-keeps :
      ((j : ℕ) → (j / 10 ≡ register → ⊥) → word (register_ledgers_after nr floor shipped register ops counters ledgers) j ≡ word ledgers j)
      × (length (register_ledgers_after nr floor shipped register ops counters ledgers) ≡ length ledgers)
  register-keeps = (registers.others-stay nr floor shipped register ops counters ledgers, ledgers-long nr floor shipped register ops counters ledgers)

-- Histories (registers/specs/History.antt): calls one after the other, each by what the call above refuses and leaves. "From counters and
-- ledgers all zero, with only charges through registers writing and fewer than p lookups in all, each kind's counters add up to that kind's
-- sums over the ledgers.": as whole numbers, over all 1,048,576 rows, refused calls included
pub ledgers-add-up : (s : State) → Zero s → (h : List Call) → OnlyThrough h → lookups_in s h < p → (k : ℕ) → k < 10 →
    counter_sum (history_after s h) k ≡ ledger_sum (history_after s h) k
ledgers-add-up = zero-adds-up

-- why fewer than p: two registers whose calls charge p + 559 lookups on one pair of bytes, whose counter returns to zero at p while neither
-- ledger does. Register 0 makes as many of these calls as charge fewer than p, and register 1 one
module _ (s : State) (zero-start : Zero s) (counters : NUM-COUNTERS ≤ length s.counters) (ledgers : length s.ledgers ≡ 20) where
  pub fewer-than-p : OnlyThrough (too_much 20962209169789300)
      × (lookups_in s (too_much 20962209169789300) ≡ p + 559)
      × (counter_sum (history_after s (too_much 20962209169789300)) 3 ≡ 559)
      × (ledger_sum (history_after s (too_much 20962209169789300)) 3 ≡ p + 559)
  fewer-than-p = let a = fewer-needed s zero-start counters ledgers in (too-much-through 20962209169789300, a.0, a.1, a.2)

pub some-zero : Zero zero_state × (NUM-COUNTERS ≤ length zero_state.counters) × (length zero_state.ledgers ≡ 20)
some-zero = zero_is

-- "From the same start, with only charges writing, a register that makes the same calls in the same order has the same ledger and gets the
-- same answers when charging, whatever the others charge meanwhile.": from any start, with charges through no register among them ..
module _ (r : ℕ) (s : State) where
  pub same-ledger-and-answers : (h g : List Call) → calls_of r h ≡ calls_of r g →
      (row_at 10 (history_after s h).ledgers r ≡ row_at 10 (history_after s g).ledgers r) × (answers_to r s h ≡ answers_to r s g)
  same-ledger-and-answers h g same = (same-ledger r s h g same, same-answers r s h g same)

  -- .. and so as if it were alone
  pub register-alone : (h : List Call) →
      (row_at 10 (history_after s h).ledgers r ≡ row_at 10 (history_after s (calls_of r h)).ledgers r) × (answers_to r s h ≡ answers_to r s (calls_of r h))
  register-alone h = let a = alone r s s (alike_same r s) h in (a.0.own, a.1)

-- "The look of Item 3 shows a register its own ledger as it would then stand.": it is refused exactly as charging is, where copy and the thirty
-- words are long enough; neither counters nor ledgers are lent to be changed ..
module _ (nr floor : ℕ) (shipped : Bool) (register : ℕ) (ops counters ledgers copy out : List ℕ) (room : NUM-COUNTERS ≤ length copy) (thirty : REGISTER-LOOK-WORDS ≤ length out) where
  pub register-look-refuses : register_look_refusal nr floor register ops counters ledgers (length copy) (length out) ≡ register_refusal nr floor register ops counters ledgers
  register-look-refuses = register-look-refused nr floor register ops counters ledgers (length copy) (length out) room thirty

  module _ (ok : register_refusal nr floor register ops counters ledgers ≡ accepted) where
    -- .. and else the copy holds what a charge through the register makes of the counters, copied to its first words ..
    pub register-look-charges :
        (register_refusal nr floor register ops (overwrite (take NUM-COUNTERS counters) copy) ledgers ≡ accepted)
        × (register_look_copy_after nr floor shipped register ops counters ledgers copy (length out)
        ≡ register_counters_after nr floor shipped register ops (overwrite (take NUM-COUNTERS counters) copy) ledgers)
    register-look-charges = (
      copies-taken nr floor shipped register ops counters ledgers copy out room thirty ok,
      register-look-copy nr floor shipped register ops counters ledgers copy out room thirty ok,
    )

    -- .. and the answer of each kind the sum charged, the largest counter afterwards, and the word of the register's ledger afterwards
    pub register-look-shows : (k : ℕ) → k < 10 →
        (word (register_look_out_after nr floor shipped register ops counters ledgers (length copy) out) (2 * k) ≡ charged_kind (list_charged nr floor shipped ops) k)
        × (word (register_look_out_after nr floor shipped register ops counters ledgers (length copy) out) (2 * k + 1) ≡ largest (register_counters_after nr floor shipped register ops counters ledgers) k)
        × (word (register_look_out_after nr floor shipped register ops counters ledgers (length copy) out) (20 + k) ≡ word (register_ledgers_after nr floor shipped register ops counters ledgers) (register * 10 + k))
    register-look-shows k l = (
      register-look-sum nr floor shipped register ops counters ledgers copy out room thirty ok k l,
      register-look-largest nr floor shipped register ops counters ledgers copy out room thirty ok k l,
      register-look-ledger nr floor shipped register ops counters ledgers copy out room thirty ok k l,
    )

-- Item 9: "An operation gains a 32-bit segment number, in the flat list as a 53rd word": operation i of a list is what its words say,
-- whatever stands before and after them, "n is then the length div 53"
pub list-operation : (timestamp address : ℕ) (input output : List ℕ) (segment : ℕ) → length input ≡ 25 → length output ≡ 25 →
    (before after : List ℕ) (i : ℕ) → length before ≡ 53 * i →
    op_at (before ++ ((timestamp ∷ address ∷ (input ++ (output ++ (segment ∷ [])))) ++ after)) i
    ≡ record { timestamp = timestamp; state_addr = address; input = input; output = output; segment = segment }
list-operation timestamp address input output segment in_size out-size = op-words timestamp address input output segment in_size out-size

pub list_count : (ops : List ℕ) → op_count ops ≡ length ops / 53
list_count ops = refl

-- "The tables' columns don't hold it": of two lists that differ in segment numbers only (`ButSegments`,
-- keccak/specs/SegmentNumbers.antt), rows, tables and keys are the same, so values and tuples, and so is what is charged ..
module _ (a b : List ℕ) (but : ButSegments a b) where
  pub rows-free : (i : ℕ) → (core_row (op_at a i) ≡ core_row (op_at b i)) × ((nr j : ℕ) → op_row nr (op_at a i) j ≡ op_row nr (op_at b i) j)
  rows-free i = (core-free.row-free a b but i, λ nr. round-free.row-free a b but nr i)

  pub tables-free : (floor : ℕ) →
      (core_table floor (op_count a) (op_at a) ≡ core_table floor (op_count b) (op_at b))
      × ((nr : ℕ) → round_table nr floor (op_count a) (op_at a) ≡ round_table nr floor (op_count b) (op_at b))
  tables-free floor = (core-free.table-free a b but floor, λ nr. round-free.table-free a b but nr floor)

  pub keys-free : key_words (op_count a) (op_at a) ≡ key_words (op_count b) (op_at b)
  keys-free = core-free.keys-free a b but

  pub values-free : (i k : ℕ) →
      (core_value (core_row (op_at a i)) k ≡ core_value (core_row (op_at b i)) k)
      × ((nr j : ℕ) → round_value (op_row nr (op_at a i) j) k ≡ round_value (op_row nr (op_at b i) j) k)
  values-free i k =
      (ap (λ (x : List ℕ). core_value x k) (rows-free i).0, λ nr j. ap (λ (x : List ℕ). round_value x k) ((rows-free i).1 nr j))

  pub tuples-free : (i k nr : ℕ) →
      ((syscall : ℕ) → core_tuple nr syscall (core_row (op_at a i)) k ≡ core_tuple nr syscall (core_row (op_at b i)) k)
      × ((j : ℕ) → round_tuple (op_row nr (op_at a i) j) k ≡ round_tuple (op_row nr (op_at b i) j) k)
  tuples-free i k nr =
      ((λ syscall. ap (λ (x : List ℕ). core_tuple nr syscall x k) (rows-free i).0), λ j. ap (λ (x : List ℕ). round_tuple x k) ((rows-free i).1 nr j))

  pub charges-free : (nr floor : ℕ) (shipped : Bool) → list_charged nr floor shipped a ≡ list_charged nr floor shipped b
  charges-free nr floor = charge-free.charged-free a b but nr floor

  -- .. and where no segment word is refused, the calls that write rows, tables and keys, and the charge and its look, leave the same of both. That
  -- they refuse both alike, the same of the charge and the look through a register, and which two calls do depend on segment numbers: Segments.antt
  module _ (short-a : ShortSegments a) (short-b : ShortSegments b) where
    pub core-calls-free : (floor index : ℕ) (out : List ℕ) →
        (core_row_after a index out ≡ core_row_after b index out) × (core_rows_after a out ≡ core_rows_after b out)
        × (core_trace_after floor a out ≡ core_trace_after floor b out) × (keys_after a out ≡ keys_after b out)
    core-calls-free floor index out = (
      (core-free.row-call-free a b but short-a short-b index out).1,
      (core-free.rows-call-free a b but short-a short-b out).1,
      (core-free.trace-call-free a b but short-a short-b floor out).1,
      (core-free.keys-call-free a b but short-a short-b out).1,
    )

    pub round-calls-free : (nr floor : ℕ) (out : List ℕ) →
        (round_rows_after nr a out ≡ round_rows_after nr b out) × (round_trace_after nr floor a out ≡ round_trace_after nr floor b out)
    round-calls-free nr floor out =
        ((round-free.rows-call-free a b but nr short-a short-b out).1, (round-free.trace-call-free a b but nr short-a short-b floor out).1)

    pub charge-calls-free : (nr floor : ℕ) (shipped : Bool) (counters copy out : List ℕ) →
        (charge_after nr floor shipped a counters ≡ charge_after nr floor shipped b counters)
        × (look_copy_after nr floor shipped a counters copy (length out) ≡ look_copy_after nr floor shipped b counters copy (length out))
        × (look_out_after nr floor shipped a counters (length copy) out ≡ look_out_after nr floor shipped b counters (length copy) out)
    charge-calls-free nr floor shipped counters copy out =
        let look = charge-free.look-call-free a b but nr floor short-a short-b shipped counters copy out in
        ((charge-free.charge-call-free a b but nr floor short-a short-b shipped counters).1, look.1, look.2)

-- "Refused: 11, a segment word of 2^32 or more in a list, detail the first such word": where nothing earlier refuses and operation i is the
-- first with such a word; accepted exactly where there is none, `none-refused` above
pub first-segment : (room needed : ℕ) (ops : List ℕ) → op_count ops ≤ MAX-OPS → length ops % OP-WORDS ≡ 0 → needed ≤ room →
    ((j : ℕ) → j < op_count ops → address_at ops j ≤ LAST-ADDRESS) → ((j : ℕ) → j < op_count ops → address_at ops j % 8 ≡ 0) →
    (i : ℕ) → i < op_count ops → LAST-SEGMENT < segment_at ops i → ((j : ℕ) → j < i → segment_at ops j ≤ LAST-SEGMENT) →
    operations_refusal room needed ops ≡ some (Segment (segment_at ops i))
first-segment = segment-refused

-- "after 7 and before 5": it is told only where no address is refused, and then whatever the counters hold
pub after-7 : (room needed : ℕ) (ops : List ℕ) {w : ℕ} → operations_refusal room needed ops ≡ some (Segment w) →
    ((i : ℕ) → i < op_count ops → address_at ops i ≤ LAST-ADDRESS) × ((i : ℕ) → i < op_count ops → address_at ops i % 8 ≡ 0)
after-7 room needed ops e = let t = told-segment room needed ops e in (t.4, t.5)

pub before-5 : (nr floor : ℕ) (ops counters : List ℕ) {w : ℕ} → 1 ≤ nr → nr ≤ 24 → PowerFloor floor →
    operations_refusal (length counters) NUM-COUNTERS ops ≡ some (Segment w) → charge_refusal nr floor ops counters ≡ some (Segment w)
before-5 nr floor ops counters one most power e = charge-list nr floor ops counters one most power e

-- 2^32 - 1 is accepted, and 2^32 refused, of a list of one operation at an address that is accepted
module _ (timestamp address : ℕ) (input output : List ℕ) (in_size : length input ≡ 25) (out-size : length output ≡ 25)
    (room needed : ℕ) (fits : needed ≤ room) (low : address ≤ LAST-ADDRESS) (even : address % 8 ≡ 0) where
  pub case-last-segment : operations_refusal room needed (timestamp ∷ address ∷ (input ++ (output ++ (4294967295 ∷ [])))) ≡ accepted
  case-last-segment = last-segment timestamp address input output in_size out-size room needed fits low even

  pub case-next-segment :
      operations_refusal room needed (timestamp ∷ address ∷ (input ++ (output ++ (4294967296 ∷ [])))) ≡ some (Segment 4294967296)
  case-next-segment = next-segment timestamp address input output in_size out-size room needed fits low even

pub case-by-11 : refusal_number (Segment 4294967296) ≡ 11
case-by-11 = refl

-- Item 11, only one way to fill it (verdict/specs/Unique.antt). "in some order" is said in two ways, which are one for any two tables:
-- every list of words is an active row of both equally often, and the numbers of their active rows are matched one to one, by a
-- function with its inverse (`OneToOne`, lists/specs/OneToOne.antt), "all 1,480 words equal"
pub either_order : (A : Layout) (t u : List ℕ) → EquallyOften A t u ↔ Rearranged A t u
either_order = some-order

-- "For a core table as in the mission's supposition, the active rows of any round table that holds with it are exactly the active
-- rows we would write .. With Item 6 the same is said for each nr.": and for every floor
module _ (nr : ℕ) (some : 1 ≤ nr) (most : nr ≤ 24) (floor : ℕ) (core : List ℕ) (supposed : SupposedAt nr core) where
  pub one_way : (round : List ℕ) → Answers nr core round → EquallyOften round_layout round (our_rounds nr floor core)
  one_way = ours-equally nr some most floor core supposed

  pub one-way-matched : (round : List ℕ) → Answers nr core round → Rearranged round_layout round (our_rounds nr floor core)
  one-way-matched = ours-matched nr some most floor core supposed

  -- and the other way round: where every active core row is computed, exactly the tables that have our active rows in some order, and
  -- any number of idle rows between them (`Refilled`), pass and balance
  pub one-way-exactly : EachActive (Computed nr) core → (round : List ℕ) → Answers nr core round ↔ Refilled (our_rounds nr floor core) round
  one-way-exactly = ours-exactly nr some most floor core supposed

-- with nothing supposed: where the verdict on a core table and a round table is 'holds', it is so with another round table exactly
-- where that has the same active rows in some order, and any idle rows
pub one-way-of-any : (nr : ℕ) (core round other : List ℕ) → 1 ≤ nr → nr ≤ 24 → (n : ℕ) → verdict_at nr core round ≡ Holds n →
    (verdict_at nr core other ≡ Holds n) ↔ Refilled round other
one-way-of-any = refilled-exactly

-- which words of a round row are bound, and by what. MU is a bit; an active row that passes is the written one (`Worked`) ..
pub row-mu : (row : List ℕ) → ((k : ℕ) → word row k < p) → RoundPasses row → (word row MU ≡ 0) ⊎ (word row MU ≡ 1)
row-mu = mu-is

pub rows-that-pass : (row : List ℕ) → length row ≡ 1480 → ((k : ℕ) → word row k < p) → RoundPasses row ↔ (Worked row ⊎ Idle row)
rows-that-pass = passes-exactly

-- .. and a row whose MU is 0 passes exactly where CXZ_LEFT, ROT_LEFT and ROT_RIGHT are bytes and CXZ_RIGHT are bits (`Idle`): nothing
-- binds its other 1,019 words
pub padding-row : (row : List ℕ) → ((k : ℕ) → word row k < p) → word row MU ≡ 0 → RoundPasses row ↔ Idle row
padding-row row small off = ((λ ok. passes-idle row small ok off), idle-passes row)

pub padding-free : (row other : List ℕ) → ((k : ℕ) → word row k < p) → word row MU ≡ 0 →
    ((k : ℕ) → Held k → word other k ≡ word row k) → RoundPasses row → RoundPasses other
padding-free = free-words

-- "Padding rows may differ.": any idle rows in place of those that are not active leave a verdict of 'holds' as it is ..
pub padding-exchanged : (pad : ℕ → List ℕ) → ((r : ℕ) → length (pad r) ≡ 1480) → ((r k : ℕ) → word (pad r) k < p) → ((r : ℕ) → Idle (pad r)) →
    (round : List ℕ) (nr : ℕ) (core : List ℕ) (n : ℕ) → verdict_at nr core round ≡ Holds n → verdict_at nr core (repadded pad round) ≡ Holds n
padding-exchanged = repadded-holds

-- .. and here are two round tables that hold with one core table, and whose eight padding rows have no word in common but MU
pub padding-differs :
    (verdict_of (one_core witness) (one_round witness) ≡ Holds 1)
    × (verdict_of (one_core witness) (full_round witness) ≡ Holds 1)
    × ((q k : ℕ) → 24 ≤ q → q < 32 → k < 1479 → word (row round_layout (one_round witness) q) k ≡ word (row round_layout (full_round witness) q) k → ⊥)
padding-differs = (one_holds witness witness-right, full-holds witness witness-right, λ q k past there. full-differs witness q past there k)

-- Item 14, the month (month/specs/Month.antt; nr and floor "are those of the month").
-- "Refused: 14, more than 4,096 files, detail their number, after 9 and before 1.": 8 and 9 first, as in every call (`rounds-first`, `floor-first`
-- above), then 14, then 1 of any count, then 3; accepted exactly where none is met (`Planned`)
module _ (nr floor : ℕ) (counts : List ℕ) (room : ℕ) where
  pub month-taken : (month_refusal nr floor counts room ≡ accepted) ↔ (Planned nr floor counts × (39 ≤ room))
  month-taken = month-accepted nr floor counts room

  module _ (h : (1 ≤ nr) × (nr ≤ 24) × PowerFloor floor) where
    pub month-by-14 : 4096 < length counts → month_refusal nr floor counts room ≡ some (Files (length counts))
    month-by-14 = month-files nr floor counts room h

    pub month-by-1 : length counts ≤ 4096 → (i : ℕ) → i < length counts → MAX-OPS < word counts i → month_refusal nr floor counts room ≡ some (PastEnd 89478486)
    month-by-1 = month-past nr floor counts room h

pub case-by-14 : refusal_number (Files 4097) ≡ 14
case-by-14 = refl

-- "The order of the counts changes nothing but which of the tied files is shown.": of a list and any permutation of it, given as a function with its
-- inverse (`Permuted`), what is refused, the first four words and those from the ninth on are the same, and the fullest and the emptiest are equally
-- full. Two lists are so exactly where they have every count equally often (`SameCounts`)
pub month-permuted : (xs ys : List ℕ) → Permuted xs ys ↔ SameCounts xs ys
month-permuted = permuted-exactly

module _ (nr floor : ℕ) (xs ys : List ℕ) (order : Permuted xs ys) where
  same : SameCounts xs ys
  same = (permuted-exactly xs ys).0 order

  pub month-refused-same : (room : ℕ) → month_refusal nr floor xs room ≡ month_refusal nr floor ys room
  month-refused-same = refusal-order nr floor xs ys same

  pub month-sums-same : take 4 (month_words nr floor xs) ≡ take 4 (month_words nr floor ys)
  month-sums-same = sums-order nr floor xs ys same

  pub month-heights-same : drop 8 (month_words nr floor xs) ≡ drop 8 (month_words nr floor ys)
  month-heights-same = heights-order nr floor xs ys same

  pub month-equally-full :
      (word (month_words nr floor xs) 4 * word (month_words nr floor ys) 5 ≡ word (month_words nr floor ys) 4 * word (month_words nr floor xs) 5)
      × (word (month_words nr floor xs) 6 * word (month_words nr floor ys) 7 ≡ word (month_words nr floor ys) 6 * word (month_words nr floor xs) 7)
  month-equally-full = (full-order nr floor xs ys same, empty-order nr floor xs ys same)

-- "(an earlier file wins a tie, fullness compared by whole-number products)": none is fuller than the fullest, and each earlier file is less full;
-- none is emptier than the emptiest, and each earlier file is fuller (`Best`); and there is one of both where there is a file
module _ (nr floor : ℕ) (counts : List ℕ) where
  pub month-fullest : (k : ℕ) → (fullest nr floor counts ≡ some k) ↔ Best (λ j i. fuller nr floor (word counts j) (word counts i)) (length counts) k
  month-fullest = fullest-is nr floor counts

  pub month-emptiest : (k : ℕ) → (emptiest nr floor counts ≡ some k) ↔ Best (λ j i. fuller nr floor (word counts i) (word counts j)) (length counts) k
  month-emptiest = emptiest-is nr floor counts

  pub month-shows : 0 < length counts → ((k : ℕ) × (fullest nr floor counts ≡ some k)) × ((k : ℕ) × (emptiest nr floor counts ≡ some k))
  month-shows h = (shown-one true nr floor counts h, shown-one false nr floor counts h)

  -- used and padding rows are all rows of all tables, and the files at all heights are the files
  pub month-rows : word (month_words nr floor counts) 2 + word (month_words nr floor counts) 3 ≡ sum_below (length counts) (λ i. round_height nr floor (word counts i))
  month-rows = row-words-sum nr floor counts

  module _ (p : Planned nr floor counts) where
    pub month-files-at-heights : sum_below 30 (λ e. word (month_words nr floor counts) (8 + e)) ≡ length counts
    month-files-at-heights = height-words-sum nr floor counts p

    -- no word, and no product that fullness is compared by, comes near 2^64
    pub month-fits : ((k : ℕ) → word (month_words nr floor counts) k ≤ 2 ^ 43)
        × ((i j : ℕ) → i < length counts → j < length counts → word counts i * nr * round_height nr floor (word counts j) ≤ 2 ^ 62)
    month-fits = (words-most nr floor counts p, products-most nr floor counts p)

-- a month of one file is that file's `keccak_rnd_height` and `padding_are_bytes`, 220 to a row, and is refused as they are; "(a count of 0 is a
-- shipped table)": of no operations the padding is the whole table, whose lookups are those of an empty segment that is shipped
module _ (nr floor n : ℕ) where
  pub month-of-one-refused : (room : ℕ) → 39 ≤ room → month_refusal nr floor (n ∷ []) room ≡ round_count_refusal nr floor n
  month-of-one-refused = one-refused nr floor n

  pub month-of-one : (word (month_words nr floor (n ∷ [])) 4 ≡ n * nr) × (word (month_words nr floor (n ∷ [])) 5 ≡ round_height nr floor n)
      × (word (month_words nr floor (n ∷ [])) 6 ≡ n * nr) × (word (month_words nr floor (n ∷ [])) 7 ≡ round_height nr floor n)
  month-of-one = one-file nr floor n

  pub month-padding-of-one : 1 ≤ n → word (month_words nr floor (n ∷ [])) 3 * 220 ≡ padding-are-bytes nr floor n
  month-padding-of-one = one-padding nr floor n

pub month-of-shipped : (nr floor : ℕ) → PowerFloor floor → word (month_words nr floor (0 ∷ [])) 3 ≡ floor
month-of-shipped = one-shipped

-- "An empty list has all sums 0 and no fullest or emptiest."
pub month-of-none : (nr floor : ℕ) → month_words nr floor [] ≡ replicate 39 0
month-of-none = no-files

-- of counts 0, 1, 2 and 4: 24 of 32 rows, 48 of 64 and 96 of 128 are equally full, and the first is shown
pub case-month : month_words 24 4 (0 ∷ 1 ∷ 2 ∷ 4 ∷ []) ≡ 4 ∷ 7 ∷ 168 ∷ 60 ∷ 24 ∷ 32 ∷ 0 ∷ 4 ∷ 1 ∷ 0 ∷ 0 ∷ 1 ∷ 1 ∷ 1 ∷ (replicate 24 0 ++ (1 ∷ []))
case-month = ties

-- Item 9, the operation file: "in the file under mark 4B 50 with 4 more bytes at the end, lowest first. Records marked 4B 4F still read, as
-- segment 0.": record i is what stands in the file where it starts, as long as its mark says
module _ (file : List ℕ) (i : ℕ) (l : i < length (records_of file)) where
  abbrev there : List ℕ
  there = drop (start_at (records_of file) i) file

  pub record-stands : get_or (records_of file) i [] ≡ take (size_of there) there
  record-stands = record-there file i l

  pub record-words : (j : ℕ) → j < OP-WORDS → word (file_words file) (i * OP-WORDS + j) ≡ record_word (get_or (records_of file) i []) j
  record-words j = file-word file i j l

module _ (r : List ℕ) where
  pub record-sizes : (is_marked r ≡ false → size_of r ≡ 418) × (is_marked r ≡ true → size_of r ≡ 422)
  record-sizes = file.sizes r

  pub record-of-old : is_marked r ≡ false → segment_of r ≡ 0
  record-of-old = file.old-segment r

  pub case-segment : length r ≡ 418 → is_marked (r ++ (1 ∷ 2 ∷ 3 ∷ 4 ∷ [])) ≡ true → segment_of (r ++ (1 ∷ 2 ∷ 3 ∷ 4 ∷ [])) ≡ 0x04030201
  case-segment = file.segment-bytes r

-- "6 wrong mark or cut record, detail the byte, from 0, where that record starts": behind the bytes of all records before it, which are
-- whole; a reader refuses a mark that is neither by its second byte
pub bad-record-starts : (file : List ℕ) (d : ℕ) → first_fault 0 0 (records_of file) ≡ some (BadRecord d) →
    ((j : ℕ) × (j < length (records_of file)) × (d ≡ start_at (records_of file) j) × (is_whole (get_or (records_of file) j []) ≡ false)
    × ((m : ℕ) → m < j → is_whole (get_or (records_of file) m []) ≡ true))
bad-record-starts = bad-start

pub mark-at-once : (w : WholeRecords) → record_count w < MAX-OPS → (m a t b : ℕ) → is_mark b ≡ false →
    step_of (Ok (reading w (begun 1 m a t))) b ≡ Err (BadRecord w.start)
mark-at-once = file.mark-refused

-- "Where a counted record is marked 4B 50, `tally` prints `segments A B`, least and greatest of all counted records": both are segment numbers
-- of counted records, no counted record has a lower or a higher one; else the line is left out (`segments_line`, tally_text/specs/Output.antt)
pub segments-line : (file : List ℕ) → ((k : ℕ) → word file k < 256) → SomeMarked (aligned_of file) →
    (((segments_of (aligned_of file)).shown ≡ 1) × Told (aligned_of file) (segments_of (aligned_of file)))
segments-line = segments-told

pub no-segments-line : (rs : List (List ℕ)) → (SomeMarked rs → ⊥) → segments_of rs ≡ none_told
no-segments-line = segments-none

-- a list that `write_operations` accepts is read back from the file that it leaves; a file without a fault is written again from the list that
-- `read_operations` leaves, where its records under 4B 50 have segment numbers above 0: an operation of segment 0 is written under 4B 4F
pub list-to-file : (ops out : List ℕ) → ((k : ℕ) → word ops k < 2 ^ 64) → write_refusal (length out) ops ≡ accepted →
    file_words (take (bytes_for ops (op_count ops)) (write_after ops out)) ≡ ops
list-to-file = list_left

pub file-to-list : (file : List ℕ) → first_fault 0 0 (records_of file) ≡ accepted → ((k : ℕ) → word file k < 256) →
    ((i : ℕ) → i < length (records_of file) → is_marked (get_or (records_of file) i []) ≡ true → 0 < segment_of (get_or (records_of file) i [])) →
    (out : List ℕ) → read_refusal file (length out) ≡ accepted →
    file_bytes (take (length (records_of file) * OP-WORDS) (read_after file out)) ≡ file
file-to-list = file-left

-- Item 12, an operation file against a core table (same_operations/specs/Same.antt). "Say 'same' exactly when the active core rows, as
-- timestamp, address, INPUT and OUTPUT, are the file's operations in some order, repeats counted.": the records and the active rows can be
-- matched one to one, each with one that it matches (`Matches`). "unaligned records are compared like any other": nothing is supposed of
-- the file but that it is of bytes, and nothing of the table
pub same-calls : (file : List ℕ) → ((k : ℕ) → word file k < 256) → (core : List ℕ) →
    (agreement_of core file ≡ Same) ↔ OneToOne (InFile file) (Active core_layout core) (λ i r. Matches (record_at file i) (row core_layout core r))
same-calls = same-matches

-- the same by counts: every list of columns stands equally often among the records and among the active rows
pub same-counts : (core file : List ℕ) → (agreement_of core file ≡ Same) ↔ ((x : List ℕ) → copies_in (file_run file) x ≡ copies_in (core_run core) x)
same-counts = same-equally

-- what is compared of a record and a row, and what that says: the timestamp words make the record's timestamp, the bytes its address and lanes
pub matching-row : (r x : List ℕ) → ((k : ℕ) → word r k < 256) → (record_cells r ≡ row_cells x) ↔ Matches r x
matching-row = matches-exactly

-- "Bytes not below 256 or timestamp words not below 2^32 make a row that no record matches": the timestamp's words are the first two of a row,
-- the bytes are those from the address on and before the pointers
module _ (r x : List ℕ) (small : (k : ℕ) → word r k < 256) where
  pub long-timestamp : (2 ^ 32 ≤ word x 0) ⊎ (2 ^ 32 ≤ word x 1) → record_cells r ≡ row_cells x → ⊥
  long-timestamp = wide-unmatched r x small

  pub no_byte : (k : ℕ) → 2 ≤ k → k < 410 → 256 ≤ word x k → record_cells r ≡ row_cells x → ⊥
  no_byte = large-unmatched r x small

-- "Else give the first file record with no partner of its own, or failing that the first active row left .. Equal copies are partnered earliest
-- first.": the answer, defined by counts, is what giving out partners one by one gives; for any two runs both ways agree at every index
pub partners-given : (core file : List ℕ) →
    agreement_of core file
    ≡ record_left (first_at (unpartnered (file_run file) (core_run core)) (length (records_of file)))
    (row_left (first_at (left (file_run file) (core_run core)) (rows core_layout core)))
partners-given = one_by_one

module _ (A B : Run) where
  pub none-given : (i : ℕ) → partners.alone A B i ≡ unpartnered A B i
  none-given = alone-is A B

  pub none-taken : (k : ℕ) → k < B.size → partners.alone B A k ≡ left A B k
  none-taken = left_is A B

-- "Segment numbers are ignored": records with the same 416 bytes behind their marks, whatever their marks and segment numbers, give one answer ..
pub segments-not-compared : (file other : List ℕ) → length (records_of file) ≡ length (records_of other) →
    ((i k : ℕ) → InFile file i → k < 416 → word (record_at file i) (2 + k) ≡ word (record_at other i) (2 + k)) →
    (core : List ℕ) → agreement_of core file ≡ agreement_of core other
segments-not-compared = segments-ignored

-- .. and "pointers are not compared": so do rows that differ in their pointers alone
pub pointers-not-compared : (core other : List ℕ) → rows core_layout core ≡ rows core_layout other →
    ((r k : ℕ) → r < rows core_layout core → k < 410 → word (row core_layout core r) k ≡ word (row core_layout other r) k) →
    ((r : ℕ) → r < rows core_layout core → word (row core_layout core r) 485 ≡ word (row core_layout other r) 485) →
    (file : List ℕ) → agreement_of core file ≡ agreement_of other file
pointers-not-compared = pointers-ignored

-- "both claim to record the same calls": a file of bytes and the core table of its operations are the same, for every floor; and so are the
-- table and the file that the calls leave of one list
pub same-of-file : (file : List ℕ) → ((k : ℕ) → word file k < 256) → (floor : ℕ) →
    agreement_of (core_table floor (length (records_of file)) (op_at (file_words file))) file ≡ Same
same-of-file = written_same

pub same-of-list : (ops : List ℕ) → ((k : ℕ) → word ops k < 2 ^ 64) → (floor : ℕ) (table file : List ℕ) →
    core_trace_refusal floor (length table) ops ≡ accepted → write_refusal (length file) ops ≡ accepted →
    agreement_of (take (height floor (op_count ops) * 486) (core_trace_after floor ops table)) (take (bytes_for ops (op_count ops)) (write_after ops file)) ≡ Same
same-of-list = left-same

-- "then the file as `tally` refuses it, never by 7"
pub same-not-7 : (core file : List ℕ) (a : ℕ) → same_refusal core file ≡ some (Unaligned a) → ⊥
same-not-7 = same-never-7

-- Item 13: "The last output's first 32 bytes are the digest of FIPS 202.": by FIPS 202 on bits (Algorithm 8 with pad10*1 and the
-- suffix 01, sha3/specs/Sponge.antt), of what is written for any message of bytes
pub message-digest : (m : List ℕ) (address timestamp : ℕ) → OnlyBytes m →
    bits_of (last_digest (message_list m address timestamp)) ≡ sha3-256-bits (bits_of m)
message-digest = message-list.list-digest

-- which SHA3-256 in bytes gives too, and bytes are known by their bits
pub digest-in-bytes : (m : List ℕ) → OnlyBytes m → bits_of (sha3-256 m) ≡ sha3-256-bits (bits_of m)
digest-in-bytes = sha3-bits

pub bytes-by-bits : (a b : List ℕ) → OnlyBytes a → OnlyBytes b → bits_of a ≡ bits_of b → a ≡ b
bytes-by-bits = bits-known

-- "write the operations in order, all at that address, and answer their number": a block each of 136 bytes, the padding being of 1
-- to 136; "timestamps rise by 1 and the segment is 0"; "each output is Keccak-f[1600] of its input", by FIPS 202 on bits
module _ (m : List ℕ) (address timestamp : ℕ) where
  pub message-count : op_count (message_list m address timestamp) ≡ length m / 136 + 1
  message-count = message-list.list_count m address timestamp

  module _ (i : ℕ) (l : i < length m / 136 + 1) where
    pub message-operation :
        ((op_at (message_list m address timestamp) i).timestamp ≡ timestamp + i) × (address_at (message_list m address timestamp) i ≡ address)
        × (segment_at (message_list m address timestamp) i ≡ 0)
    message-operation =
        (message-list.list-stamp m address timestamp i l, message-list.list-address m address timestamp i l, message-list.list-segment m address timestamp i l)

    pub message-output : OnlyBytes m →
        Agree (bits (op_at (message_list m address timestamp) i).output) (keccak_f (bits (op_at (message_list m address timestamp) i).input))
    message-output = message-list.list-fips m address timestamp i l

  -- "each input is the previous output with the next padded 136-byte block added by exclusive or, the first starting from zero"
  pub message-inputs : Chained m (message_list m address timestamp)
  message-inputs = message-list.list-chained m address timestamp

  -- of what the call leaves, where it is accepted: that list, which the judge says yes to, and of which the verdict holds
  module _ (ops : List ℕ) (passed : message_refusal (length ops) m address timestamp ≡ accepted) where
    pub message-left : take ((length m / 136 + 1) * OP-WORDS) (message_after m address timestamp ops) ≡ message_list m address timestamp
    message-left = message-list.left-list m address timestamp ops passed

    pub message-left-yes :
        judged_of (judged_refusal m (message_list m address timestamp)) (is_message m (message_list m address timestamp)) ≡ Ok true
    message-left-yes = message-list.left-judged m address timestamp ops passed

    pub message-left-holds : OnlyBytes m → (floor : ℕ) →
        verdict_at 24 (core_table floor (op_count (message_list m address timestamp)) (op_at (message_list m address timestamp)))
        (round_table 24 floor (op_count (message_list m address timestamp)) (op_at (message_list m address timestamp)))
        ≡ Holds (length m / 136 + 1)
    message-left-holds small = message-holds m small address timestamp ops passed

-- "Refused: the address by 4 or 7; 12, message too long, detail its length, and 13, timestamps that pass 2^64 − 1, detail the first
-- given, both after 1 and before 2, in this order": accepted exactly where none of it is so (`Hashable`), and 12 before 13 before 3
module _ (room : ℕ) (m : List ℕ) (address timestamp : ℕ) where
  pub message-accepted : (message_refusal room m address timestamp ≡ accepted) ↔ Hashable room m address timestamp
  message-accepted = message-refusals.message-accepted room m address timestamp

  pub message-by-12 : 65536 < length m → message_refusal room m address timestamp ≡ some (LongMessage (length m))
  message-by-12 = message-refusals.long-refused room m address timestamp

  pub message-by-13 : length m ≤ 65536 → 2 ^ 64 ≤ timestamp + length m / 136 → message_refusal room m address timestamp ≡ some (LateTimestamp timestamp)
  message-by-13 few late = message-refusals.late-refused room m address timestamp few (omega arith)

pub cases-by-12-13 : (refusal_number (LongMessage 65537) ≡ 12) × (refusal_number (LateTimestamp 18446744073709551615) ≡ 13)
cases-by-12-13 = (refl, refl)

-- "judge a list of operations against a message: yes exactly when it is that list for its own first address and timestamp"
module _ (m ops : List ℕ) where
  pub judged-yes : (judged_of (judged_refusal m ops) (is_message m ops) ≡ Ok true) ↔ ((judged_refusal m ops ≡ accepted) × IsMessage m ops)
  judged-yes = judge-yes m ops

  pub judged-no : (judged_of (judged_refusal m ops) (is_message m ops) ≡ Ok false) ↔ ((judged_refusal m ops ≡ accepted) × (IsMessage m ops → ⊥))
  judged-no = judge-no m ops

  -- so a list that gets yes ends with the digest
  pub judged-digest : OnlyBytes m → judged_of (judged_refusal m ops) (is_message m ops) ≡ Ok true → bits_of (last_digest ops) ≡ sha3-256-bits (bits_of m)
  judged-digest small told = message-list.judged-digest m ops small ((judge-yes m ops).0 told).1

  -- it is refused by 1 and 12, and then as every call that takes a list; "the judge says no in the second case", that of 13
  pub judged-as-lists : op_count ops ≤ MAX-OPS → length m ≤ 65536 → judged_refusal m ops ≡ operations_refusal 0 0 ops
  judged-as-lists = message-refusals.judged-rest m ops

  pub judged-late : judged_refusal m ops ≡ accepted → 2 ^ 64 ≤ (op_at ops 0).timestamp + length m / 136 →
      judged_of (judged_refusal m ops) (is_message m ops) ≡ Ok false
  judged-late passed late = (judge-no m ops).1 (passed, λ h. omega (arith, h.stamps))

-- "an empty list gets no"
pub judged-empty : (m : List ℕ) → length m ≤ 65536 → judged_of (judged_refusal m []) (is_message m []) ≡ Ok false
judged-empty m few =
    let passed : judged_refusal m [] ≡ accepted = message-refusals.judged-rest m [] (omega arith) few ∙ (none-refused 0 0 []).1
    (record { few = omega arith; whole = refl; long = omega arith; low = λ i l. absurd (omega arith); aligned = λ i l. absurd (omega arith); segments = λ i l. absurd (omega arith) }) in
    sym (judge-says false passed (empty-no m))

-- the chain from a page to its receipt: any list whose inputs are chained by the message's blocks, whatever its outputs claim; where
-- the verdict holds on what `generate_keccak_trace` leaves of it and on any round table, its last output begins with the digest
pub page-to-receipt : (m ops : List ℕ) → OnlyBytes m → Chained m ops → ((k : ℕ) → word ops k < 2 ^ 64) →
    (floor : ℕ) (table round : List ℕ) (n : ℕ) → core_trace_refusal floor (length table) ops ≡ accepted →
    verdict_at 24 (take (height floor (op_count ops) * 486) (core_trace_after floor ops table)) round ≡ Holds n →
    bits_of (last_digest ops) ≡ sha3-256-bits (bits_of m)
page-to-receipt = left-digest

-- ---- beyond the demands: the buses as a prover checks them, by sums of multiplicities mod p (bus_sums/specs/Sums.antt).
-- The sentences are those of docs/WHY.md, 'As a prover checks it'; nr is any number of rounds from 1 to 24.
module _ (nr : ℕ) (some : 1 ≤ nr) (most : nr ≤ 24) where
  module _ (core round : List ℕ) (w : Fillings) (others : Bus → List ℕ → ℕ) (h : SumsHold nr core round w others) where
    -- Then both tables pass their lookups, and the Keccak bus balances by counting.
    pub sums-pass : Passes (core_kind nr) core × Answers nr core round
    sums-pass = (sums-core nr core round w others h, sums-answer nr core round w others h)

    module _ (apart : DistinctTimestamps core_layout core) where
      -- Where timestamps differ the verdict is 'holds', and every active core row is computed, at its addresses.
      pub sums-right : (verdict_at nr core round ≡ Holds (actives core_layout core)) × EachActive (λ x. Computed nr x × Addressed x) core
      sums-right = (sums-verdict nr core round w others h apart, sums-computed nr core round w others h apart some most)

      -- With demand 3's two bounds all is so that demand 3 claims.
      pub sums-all : actives core_layout core ≤ MAX-OPS → EachActive ShortTimestamp core → (floor : ℕ) → ClaimsAt nr floor core
      sums-all = sums-claims nr core round w others h apart some most

  -- Where both tables pass and balance there are fillings, all words below p, for which every sum agrees.
  pub sums-made : (core round : List ℕ) → rows core_layout core ≤ 2 ^ 35 → rows round_layout round ≤ 2 ^ 35 →
      Filled nr core round ↔ (Passes (core_kind nr) core × Answers nr core round)
  sums-made = sums-exactly nr

  -- For a core table of which its constraints alone are known, a round table and fillings exist exactly when its
  -- lookups pass and every active row is computed.
  pub sums-exist : (core : List ℕ) → Constrained (core_kind nr) core → actives core_layout core ≤ MAX-OPS →
      DistinctTimestamps core_layout core → EachActive ShortTimestamp core →
      ((round : List ℕ) × Filled nr core round) ↔ (Lookups (core_kind nr) core × EachActive (Computed nr) core)
  sums-exist = sums-demand nr some most

-- who sends and who receives on each bus: the lines of bus_sums/specs/Buses.antt are the sums over the tuples of a row
module _ (s : Side) (b : Bus) where
  pub core-row-line : (nr : ℕ) (x : List ℕ) → bus_sum s b 84 (core_tuple nr 0 x) ≡ core_line s b (word x 485)
  core-row-line = core-line s b

  pub round-row-line : (x : List ℕ) → bus_sum s b 1031 (round_tuple x) ≡ round_line s b (word x 1479)
  round-row-line = round-line s b

  pub is-wh-row-line : (x : List ℕ) → bus_sum s b 5 (is_wh_tuple x) ≡ is_wh_line s b (word x 3)
  is-wh-row-line = is-wh-line s b

  pub bitwise-row-line : (mu : ℕ → ℕ → ℕ) (i : ℕ) → bus_sum s b 10 (bitwise_at mu i) ≡ bitwise_line s b (mu i)
  bitwise-row-line = bitwise-line s b

  pub constant-row-line : (mu : ℕ → ℕ) (r : ℕ) → bus_sum s b 1 (constant_at mu r) ≡ constant_line s b (mu r)
  constant-row-line = constant-line s b

-- ---- the IS_WH table: what the calls leave, for a list of operations that `is_wh_keys` accepts
module _ (ops out : List ℕ) (wrote-keys : keys_refusal (length out) ops ≡ accepted) where
  -- 'One row per distinct `(word, half)` pair, with `μ` counting its sends.' (the Rust's is_wh.rs): of the keys that are left in `out`, the rows
  -- that `dedup_is_wh_rows` leaves, and their table, each list of values is received on IsWh exactly as often as the
  -- core table that `generate_keccak_trace` leaves sends it (which rows there are, in which order: `pairs-counted` .., Segments.antt)
  pub pairs-received : (C S R : List ℕ) (wrote-rows : dedup_refusal (length C) (length S) (length R) (keys_of ops out wrote-keys) ≡ accepted) →
      (T core : List ℕ) → is_wh_trace_refusal (length T) (rows_written ops out wrote-keys C S R wrote-rows) ≡ accepted →
      (floor : ℕ) → core_trace_refusal floor (length core) ops ≡ accepted →
      (nr : ℕ) (v : List ℕ) →
      table_share Receiver IsWh v is_wh_kind (take (is_wh_height (rows_written ops out wrote-keys C S R wrote-rows) * 4) (is_wh_trace_after (rows_written ops out wrote-keys C S R wrote-rows) T))
      ≡ table_share Sender IsWh v (core_kind nr) (take (height floor (op_count ops) * 486) (core_trace_after floor ops core))
  pairs-received C S R wrote-rows T core wrote-table floor wrote-core = written-balanced ops out wrote-keys C S R wrote-rows floor T core wrote-table wrote-core

module _ (list : List ℕ) (good : GoodList 3 list) where
  -- every lookup of its rows is found, for any list of rows that is accepted ..
  pub pair-rows-found : (r i : ℕ) → r < is_wh_height list → i < 5 → Matched (is_wh_tuple (row_at 4 (is_wh_table list) r) i)
  pair-rows-found = rows-matched list good

  -- .. and the bitwise row that is charged for it has what is sent, IS_B20 of μ included, of which `Matched` does not speak
  pub pair-rows-placed : (r i : ℕ) → r < is_wh_height list → i < 5 → (is_wh_tuple (row_at 4 (is_wh_table list) r) i).side ≡ Sender →
      Placed (is_wh_tuple (row_at 4 (is_wh_table list) r) i).bus (is_wh_tuple (row_at 4 (is_wh_table list) r) i).values
  pair-rows-placed r i below index sent = found-placed _ _ (rows-sent list good r i below index sent)

-- what `collect_bitwise_from_is_wh` adds to the counter of the values v on a bus is how often the table sends them there
pub pair-rows-charged : (list : List ℕ) → (row_count list ≡ 0 → ⊥) → (b : Bus) (v : List ℕ) → found b v ≡ true →
    is_wh_charged list (place_counter b v) ≡ table_share Sender b v is_wh_kind (is_wh_table list)
pair-rows-charged = collected-is-sent

-- ---- an honest segment: of a list of right operations (`RightOperation`, verdict/specs/Honest.antt) whose timestamps differ, the
-- five tables as the calls leave them pass on every bus, with no word left to choose: core and round table, the IS_WH table of the
-- list's keys, the constants after `update_multiplicities`, and the bitwise table filled from counters that were zero, charged by
-- `charge` and then by `collect_bitwise_from_is_wh`. Of an empty list: `empty-segment-passes` (Segments.antt).
pub segment-passes : (nr floor : ℕ) (ops : List ℕ) → 1 ≤ op_count ops → ((i : ℕ) → i < op_count ops → RightOperation nr (op_at ops i)) →
    ((i j : ℕ) → i < j → j < op_count ops → (op_at ops i).timestamp ≡ (op_at ops j).timestamp → ⊥) →
    (T U : List ℕ) → core_trace_refusal floor (length T) ops ≡ accepted → round_trace_refusal nr floor (length U) ops ≡ accepted →
    (out : List ℕ) (wrote-keys : keys_refusal (length out) ops ≡ accepted) (C S R : List ℕ)
    (wrote-rows : dedup_refusal (length C) (length S) (length R) (keys_of ops out wrote-keys) ≡ accepted)
    (W : List ℕ) → is_wh_trace_refusal (length W) (rows_written ops out wrote-keys C S R wrote-rows) ≡ accepted →
    (K : List ℕ) → constants.rc_trace_refusal K ≡ accepted → constants.update_refusal nr (constants.rc_trace_after K) (op_count ops) ≡ accepted →
    (shipped : Bool) (Z B : List ℕ) → ((c : ℕ) → c < NUM-COUNTERS → word Z c ≡ 0) → charge_refusal nr floor ops Z ≡ accepted →
    collect_refusal (rows_written ops out wrote-keys C S R wrote-rows) (charge_after nr floor shipped ops Z) ≡ accepted →
    fill_refusal (collect_after (rows_written ops out wrote-keys C S R wrote-rows) (charge_after nr floor shipped ops Z)) B ≡ accepted →
    SumsHold nr (take (height floor (op_count ops) * 486) (core_trace_after floor ops T)) (take (round_height nr floor (op_count ops) * 1480) (round_trace_after nr floor ops U))
    (record {
      bitwise = λ i k. word (fill_after (collect_after (rows_written ops out wrote-keys C S R wrote-rows) (charge_after nr floor shipped ops Z)) B) (i * 21 + (11 + k));
      constants = λ r. word (constants.update_after nr (constants.rc_trace_after K) (op_count ops)) (r * 10 + 9);
      is-wh = take (is_wh_height (rows_written ops out wrote-keys C S R wrote-rows) * 4) (is_wh_trace_after (rows_written ops out wrote-keys C S R wrote-rows) W);
    }) nobody
segment-passes = calls-hold

-- The written tables of an operation have such fillings.
pub sums-met : Filled 24 (one_core witness) (one_round witness)
sums-met = witness-sums

-- MU is 0 or 1 where its value, 51 of a core row and 140 of a round row, is 0, because p is prime (`no-divisors`)
pub mu-bit : (r : ℕ) → r < p → is_bit r ≡ 0 → r < 2
mu-bit = bit_is

-- Without IsB20: a segment that meets all the rest, and whose active core row has a lane elsewhere
pub without-twenty : (w : Fillings) × Forgery bent_core bent_round w
without-twenty = twenty-needed

-- Without a bit for MU: two core rows that cancel on every bus, all values 0 but the second row's 51
pub without-bit : Slips two_rows ×
    ((r i : ℕ) → r < 2 → i < 52 → (r ≡ 1 → i ≡ 51 → ⊥) → ZeroAt (core_kind 24) two_rows r i)
without-bit = mu-needed

-- With p rows or more: p core rows that cancel on every bus, all values 0
pub without-few : Slips many_rows × Values (core_kind 24) many_rows
without-few = few-needed

-- ---- beyond the demands: the counters of the bitwise lookups
-- 'The histogram is a commutative monoid: increments and [`merge`](Self::merge) are order-independent' (the Rust's bitwise.rs):
-- of counters that `merge` accepts; the words past the 10,485,760 counters are those of the first slice (its neutral element,
-- and lists in any order: `merging-zeros`, `lookups-in-any-order`, Segments.antt)
module _ (a b : List ℕ) (passed : merge_refusal a b ≡ accepted) where
  pub merging-commutes : Alike 10485760 (merge_after a b) (merge_after b a)
  merging-commutes = merge-commutes a b passed

  pub merging-associates : (c : List ℕ) → merge_refusal b c ≡ accepted →
      merge_after (merge_after a b) c ≡ merge_after a (merge_after b c)
  merging-associates c = merge-associates a b c passed

  -- a bump into either is a bump into what they are merged into
  module _ (kind x y z n : ℕ) (hk : kind < 10) (hx : x < 256) (hy : y < 256) (hz : z < 16) where
    pub bump-then-merge :
        (merge_after (bump_n_after a kind x y z n) b ≡ bump_n_after (merge_after a b) kind x y z n)
        × (merge_after a (bump_n_after b kind x y z n) ≡ bump_n_after (merge_after a b) kind x y z n)
    bump-then-merge = (bump-first a b passed kind x y z n hk hx hy hz, bump-last a b passed kind x y z n hk hx hy hz)

-- '.. so per-thread histograms can be tree-reduced' (the same): two lists of lookups counted into two histograms that are then merged
-- are counted into one
pub lists-then-merge : (a b ops more : List ℕ) → merge_refusal a b ≡ accepted → add_ops_refusal a ops ≡ accepted → add_ops_refusal b more ≡ accepted →
    merge_after (add_ops_after a ops) (add_ops_after b more) ≡ add_ops_after (add_ops_after (merge_after a b) ops) more
lists-then-merge = counted-merged

-- '.. where it produces exactly the same MU columns as calling [`update_multiplicities`] with the full op vector' (the same): from
-- counters that are 0, into a table as `generate_bitwise_trace` leaves it
pub filling-updates : (counters table : List ℕ) → 10485760 ≤ length counters →
    ((k : ℕ) → k < 10485760 → word counters k ≡ 0) → 22020096 ≤ length table →
    (ops : List ℕ) → add_ops_refusal counters ops ≡ accepted →
    fill_after (add_ops_after counters ops) (trace_after table) ≡ update_after (trace_after table) ops
filling-updates = fill-is-update

-- ---- the code's tie to demand 3 (judge/proofs/Tied.antt): `Answered` and `Wrote` are calls, known by their contracts, for each
-- number of rounds from 1 to 24. "Exactly for such a round table the verdict on both tables is 'holds' with the number of active core
-- rows": of what `verdict` answers
module _ (nr : ℕ) (some : 1 ≤ nr) (most : nr ≤ 24) (core : List ℕ) (supposed : SupposedAt nr core) where
  pub code_holds : (round : List ℕ) (v : Verdict) → Answered nr core round v →
      (v ≡ Holds (actives core_layout core)) ↔ Answers nr core round
  code_holds = holds-answered nr some most core supposed

  -- "the table our writer makes from the active core rows is one of them": of what `generate_keccak_rnd_trace` writes at
  -- the front of a slice that may be longer, for every floor that it accepts; "words past that untouched"
  module _ (floor : ℕ) (power : PowerFloor floor) where
    abbrev size : ℕ
    size = length (our_rounds nr floor core)

    pub code-writes : (before after : List ℕ) → size ≤ length before → Wrote nr floor (operations core) before after →
        (take size after ≡ our_rounds nr floor core) × (drop size after ≡ drop size before)
    code-writes = ours-written nr some most core supposed floor power

    pub code-answers : EachActive (Computed nr) core →
        (before after : List ℕ) → size ≤ length before → Wrote nr floor (operations core) before after →
        (v : Verdict) → Answered nr core (take size after) v →
        Answers nr core (take size after) × (v ≡ Holds (actives core_layout core))
    code-answers = written-answers nr some most core supposed floor power

    -- The round table that the writer makes has fillings too.
    pub code-filled : rows core_layout core ≤ 2 ^ 35 → EachActive (Computed nr) core →
        (before after : List ℕ) → size ≤ length before → Wrote nr floor (operations core) before after →
        Filled nr core (take size after)
    code-filled few right before after e w =
        let c = supposed.passes in
        subst (Filled nr core) (sym (ours-written nr some most core supposed floor power before after e w).0)
        (ours-filled nr some most core
        (record { whole = c.whole; below = c.below; values = c.values; few = omega (arith, few) })
        supposed.few supposed.apart supposed.stamps floor (floor-most floor power) c.lookups right)

-- The call `verdict` answers 'holds' exactly where there are such fillings and timestamps differ: of what it answers, on
-- tables of at most 2^35 rows each
module _ (nr : ℕ) (some : 1 ≤ nr) (most : nr ≤ 24) where
  pub code-sums : (core round : List ℕ) → rows core_layout core ≤ 2 ^ 35 → rows round_layout round ≤ 2 ^ 35 →
      (v : Verdict) → Answered nr core round v →
      (v ≡ Holds (actives core_layout core)) ↔ (Filled nr core round × DistinctTimestamps core_layout core)
  code-sums core round few-core few-round v a =
      let e = sums-holds nr core round few-core few-round in
      ((λ h. e.1 (sym (answered-at a some most) ∙ h)), λ f. answered-at a some most ∙ e.0 f)

  -- and it answers 'holds' where the sums agree and timestamps differ, whatever else is sent by other tables
  pub code-sums-hold : (core round : List ℕ) (w : Fillings) (others : Bus → List ℕ → ℕ) → SumsHold nr core round w others →
      DistinctTimestamps core_layout core → (v : Verdict) → Answered nr core round v → v ≡ Holds (actives core_layout core)
  code-sums-hold core round w others h apart v a = answered-at a some most ∙ sums-verdict nr core round w others h apart

-- with nothing supposed: where the call answers 'holds', every active core row is computed by Keccak-p[1600, nr] at its addresses,
-- and nr is from 1 to 24
pub code-computed : {nr : ℕ} {core round : List ℕ} {v : Verdict} → Answered nr core round v → (n : ℕ) → v ≡ Holds n →
    (1 ≤ nr) × (nr ≤ 24) × EachActive (λ x. Computed nr x × Addressed x) core
code-computed = answered-computed

-- Item 10, segments, then the job (job/specs/Report.antt). `Reported` (job/proofs/Tied.antt) is a call of `job` on two tables, a list of
-- counts and a slice that was not refused, and what the slice holds when it ends.
-- "the job, which is all core rows and all round rows one after the other": counts that are accepted split both tables into segments
pub job-whole : (core round counts : List ℕ) → Whole core_layout core → Whole round_layout round → Split core round counts →
    (job_core (segments core round counts) ≡ core) × (job_round (segments core round counts) ≡ round)
job-whole core round counts c r s = (core-joined core round counts c s, round-joined core round counts r s)

-- "a list not of pairs, or whose whole sums are not the tables' rows, is refused by 2 with detail 2": the call is accepted exactly where nr
-- is from 1 to 24, both tables are whole rows of words below p, the counts split them, and the report fits
pub job-taken : (nr : ℕ) (core round counts : List ℕ) (room : ℕ) →
    (job_refusal nr core round counts room ≡ accepted) ↔ AcceptableJob nr core round counts room
job-taken = job-accepted

module _ {nr : ℕ} {core round counts before after : List ℕ} (call : Reported nr core round counts before after) where
  -- the core table of segment i
  abbrev segment_core : ℕ → List ℕ
  segment_core i = (job_segment core round counts i).core-table

  -- "the report gives the segment verdicts in order and then the job's, four lent words each .. in what was judged"; words past them stay
  pub job-reports :
      ((i : ℕ) → i < segment_count counts → row_at 4 after i ≡ verdict_words (verdict_on nr core round counts i))
      × (row_at 4 after (segment_count counts) ≡ verdict_words (verdict_at nr core round))
      × (drop ((segment_count counts + 1) * 4) after ≡ drop ((segment_count counts + 1) * 4) before)
  job-reports = (segment-words call, job-words call, words-past call)

  -- "0, count, 0, 0, or the failure's place (1 to 6)": no verdict of a report is a refusal
  pub job-places : (i : ℕ) → i ≤ segment_count counts → word after (i * 4) ≤ 6
  job-places = reported-places call

  -- "If every segment holds with the same nr and no timestamp is active in two segments, the job holds, and its active core count is the
  -- sum."
  pub job-adds-up : ((i : ℕ) → i < segment_count counts → word after (i * 4) ≡ 0) → Apart core round counts →
      row_at 4 after (segment_count counts) ≡ 0 ∷ sum_below (segment_count counts) (λ i. word after (i * 4 + 1)) ∷ 0 ∷ 0 ∷ []
  job-adds-up = reported-together call

  -- and where a timestamp is active in two of them, the job's verdict names a row of its core table that repeats one, at the latest the
  -- later of the two
  pub job-names : ((i : ℕ) → i < segment_count counts → word after (i * 4) ≡ 0) →
      (i j : ℕ) → i < j → j < segment_count counts → (q r : ℕ) → Active core_layout (segment_core i) q → Active core_layout (segment_core j) r →
      SameTimestamp (row core_layout (segment_core i) q) (row core_layout (segment_core j) r) →
      (s : ℕ) × (s ≤ sum_below j (core_rows counts) + r) × RepeatsAt core_layout core s
      × (row_at 4 after (segment_count counts) ≡ 3 ∷ 0 ∷ s ∷ 0 ∷ [])
  job-names = reported-shared call

  -- where the job holds, every active core row of every segment is computed by Keccak-p[1600, nr], at its addresses, wherever its round
  -- rows were filed, and no timestamp is active in two segments
  pub job-computed : word after (segment_count counts * 4) ≡ 0 →
      (i : ℕ) → i < segment_count counts → EachActive (λ x. Computed nr x × Addressed x) (segment_core i)
  job-computed = reported-computed call

  pub job-apart : word after (segment_count counts * 4) ≡ 0 → Apart core round counts
  job-apart = reported-apart call

  -- "A job can hold while a segment fails, because a round row was filed with the wrong segment": where the job holds, a segment can fail
  -- by an unbalanced tuple alone
  pub job-misfiled : word after (segment_count counts * 4) ≡ 0 →
      (i : ℕ) → i < segment_count counts → (word after (i * 4) ≡ 0) ⊎ (word after (i * 4) ≡ 6)
  job-misfiled = reported-balance call

-- for however the rows of two tables are filed, the job's words are the same
pub job-refiled : {nr : ℕ} {core round counts before after counts' before' after' : List ℕ} → Reported nr core round counts before after →
    Reported nr core round counts' before' after' → row_at 4 after (segment_count counts) ≡ row_at 4 after' (segment_count counts')
job-refiled = reported-refiled

-- The same report in lent memory (job/specs/Within.antt), so that a host never needs the slow one.
-- What is checked of `job` before the tables' words is checked first, then 3 on scratch and 3 on spare, whose detail is 2 words a row of both
-- tables (`place_count`), then 5; accepted exactly where `job` is and both slices have room
module _ (nr : ℕ) (core round counts : List ℕ) (room scratch spare : ℕ) where
  pub job-within-taken : (job_within_refusal nr core round counts room scratch spare ≡ accepted)
      ↔ (AcceptableJob nr core round counts room × (place_count core round ≤ scratch) × (place_count core round ≤ spare))
  job-within-taken =
      let e = within-accepted nr core round counts room scratch spare in
      ((λ r. let h = e.0 r in (h.job, h.scratch-long, h.spare-long)), λ h. e.1 record { job = h.0; scratch-long = h.1; spare-long = h.2 })

  pub job-within-first : {r : Refusal} → not_job nr core round counts room accepted ≡ some r → job_within_refusal nr core round counts room scratch spare ≡ some r
  job-within-first = first-refused nr core round counts room scratch spare

  module _ (first : not_job nr core round counts room accepted ≡ accepted) where
    pub job-within-scratch : scratch < place_count core round → job_within_refusal nr core round counts room scratch spare ≡ some (TooShort (place_count core round))
    job-within-scratch = scratch-refused nr core round counts room scratch spare first

    pub job-within-spare : place_count core round ≤ scratch → spare < place_count core round →
        job_within_refusal nr core round counts room scratch spare ≡ some (TooShort (place_count core round))
    job-within-spare = spare-refused nr core round counts room scratch spare first

    pub job-within-words : place_count core round ≤ scratch → place_count core round ≤ spare →
        job_within_refusal nr core round counts room scratch spare ≡ not_words core round accepted
    job-within-words l g = sym (words_last nr core round counts room scratch spare first l g)

-- a refused call leaves the three slices as they were
module _ (nr : ℕ) (core round counts report scratch spare : List ℕ) where
  pub job-within-kept : {r : Refusal} → job_within_refusal nr core round counts (length report) (length scratch) (length spare) ≡ some r →
      (job_within_after nr core round counts (length scratch) (length spare) report ≡ report)
      × (job_scratch_after nr core round counts (length report) (length scratch) (length spare) scratch ≡ scratch)
      × (job_scratch_after nr core round counts (length report) (length scratch) (length spare) spare ≡ spare)
  job-within-kept e = (
    sym (report-kept nr core round counts (length scratch) (length spare) report e),
    sym (scratch-kept nr core round counts (length report) (length scratch) (length spare) scratch e),
    sym (scratch-kept nr core round counts (length report) (length scratch) (length spare) spare e),
  )

-- `ReportedWithin` (job/proofs/TiedWithin.antt) is a call that was not refused, and what the slices hold when it ends: where neither call is
-- refused both leave the same report, so that all that is said of the report of `job` is said of this one; of scratch and spare the words that
-- were used are zeros, and the words behind them stay
module _ {nr : ℕ} {core round counts before after scratch scratch' spare spare' : List ℕ}
    (call : ReportedWithin nr core round counts before after scratch scratch' spare spare') where
  pub job-within-same : {other : List ℕ} → Reported nr core round counts before other → after ≡ other
  job-within-same = reported-same call

  pub job-within-reports : Reported nr core round counts before after
  job-within-reports = as-reported call

  pub job-within-left :
      (scratch' ≡ overwrite (tab (place_count core round) (λ k. 0)) scratch) × (spare' ≡ overwrite (tab (place_count core round) (λ k. 0)) spare)
  job-within-left = (scratch-left call, spare-left call)

-- Item 11 of what the two calls answer and write: where `verdict` answers 'holds', the active rows of the round table that it was
-- lent are those that `generate_keccak_rnd_trace` writes for the active core rows, in some order, for every floor that it accepts
module _ (nr : ℕ) (some : 1 ≤ nr) (most : nr ≤ 24) (core : List ℕ) (supposed : SupposedAt nr core) (floor : ℕ) (power : PowerFloor floor)
    (before after : List ℕ) (room : length (our_rounds nr floor core) ≤ length before) (wrote : Wrote nr floor (operations core) before after) where
  abbrev written : List ℕ
  written = take (length (our_rounds nr floor core)) after

  pub code-one-way : (round : List ℕ) (v : Verdict) (n : ℕ) → Answered nr core round v → v ≡ Holds n → EquallyOften round_layout round written
  code-one-way round v n a e = answered-equally nr some most core supposed floor power round v n a e before after room wrote

  pub code-one-way-matched : (round : List ℕ) (v : Verdict) (n : ℕ) → Answered nr core round v → v ≡ Holds n → Rearranged round_layout round written
  code-one-way-matched round v n a e = (some-order round_layout round written).0 (code-one-way round v n a e)

  -- and it answers so exactly for these rows in some order, with any idle rows
  pub code-one-way-exactly : EachActive (Computed nr) core → (round : List ℕ) (v : Verdict) → Answered nr core round v →
      (v ≡ Holds (actives core_layout core)) ↔ Refilled written round
  code-one-way-exactly right round v a = answered-exactly nr some most core supposed floor power right round v a before after room wrote

-- with nothing supposed, of two calls of `verdict` with one core table
pub code-one-way-of-any : {nr : ℕ} {core round other : List ℕ} {v w : Verdict} → Answered nr core round v → Answered nr core other w →
    (n : ℕ) → v ≡ Holds n → (w ≡ Holds n) ↔ Refilled round other
code-one-way-of-any = answered-refilled
