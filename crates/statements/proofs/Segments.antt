-- Statements of the page on segments: the empty segment that is shipped (Items 1 and 3), what a charge adds and refuses (Item 3), the tables that
-- are looked up, segment numbers (Item 9), and the bounds of the sums. Statements.antt has the others; each is proved in the crate that it is about.
--     SumsHold nr core round w others   the sums of every bus agree (bus_sums/specs/Sums.antt)
--     table_share s b v K ws             how often the rows of a table send, or receive, the values v on the bus b
--     found b v                         the bitwise table has the values v on the bus b; `place_counter b v` is their counter
use mathlib.Core.Path.{◌≡◌, refl, sym, ap, ap₂, ◌∙◌}
use mathlib.Core.Bool.{Bool, true}
use mathlib.Core.Option.{some}
use mathlib.Core.List.{List, [], ◌∷◌}
use Prim.Native.Nat.{ℕ, ◌+◌, ◌*◌, ◌%◌, ◌^◌, ◌≤◌, ◌<◌}
use native.Mathlib.Omega.{arith}
use lib.ListN.{length, take}
use Rattle.lists.specs.Tab.{word}
use Rattle.lists.proofs.Reading.{Alike}
use Rattle.field.specs.Field.{p}
use Rattle.field.proofs.NotElement.{first_found}
use Rattle.answer.specs.Limits.{MAX-OPS}
use Rattle.answer.specs.Refusal.{accepted, PowerFloor}
use Rattle.answer.specs.declared.Refusal.TheVariants.{TooShort, NotElement}
use Rattle.tuple.specs.declared.Bus.{Bus}
use Rattle.tuple.specs.declared.Bus.TheVariants.{ByteAlu, AreBytes, IsHalfword, Keccak}
use Rattle.tuple.specs.declared.Side.TheVariants.{Sender}
use Rattle.fips202.specs.Lanes.{Lanes}
use Rattle.bitwise.specs.Columns.{NUM-COUNTERS}
use Rattle.bitwise.specs.Charge.{found, place_counter, Placed, charged_kind}
use Rattle.bitwise.specs.Counters.{merge_refusal, merge_after}
use Rattle.bitwise.specs.Lookups.{add_ops_refusal, add_ops_after}
use Rattle.bitwise.specs.Table.{fill_refusal, fill_after}
use Rattle.keccak_rc.specs.Table as constants
use Rattle.is_wh_rows.specs.Rows.{MU-MAX, codes, rows_of, flat}
use Rattle.is_wh_rows.specs.Calls.{dedup_refusal, rows_after}
use Rattle.is_wh_rows.specs.Meaning.{times_sent, times_counted, nth, InOrder, InRange}
use Rattle.is_wh_rows.proofs.Answers.{rows_start}
use Rattle.is_wh_rows.proofs.Counts.{all-counted}
use Rattle.is_wh_rows.proofs.Lists.{none-bad}
use Rattle.is_wh_rows.proofs.Order.{rows-in-order, rows-in-range}
use Rattle.is_wh_rows.proofs.Refusals.{dedup-accepted}
use Rattle.keccak.specs.Height.{height}
use Rattle.keccak.specs.Row.{OP-WORDS, op_at, core_table}
use Rattle.keccak.specs.Refusals.{Acceptable, op_count, core_row_refusal, core_rows_refusal, core_trace_refusal, keys_refusal}
use Rattle.keccak.specs.Calls.{core_trace_after}
use Rattle.keccak.specs.SegmentNumbers.{ButSegments, ShortSegments}
use Rattle.keccak.specs.Tuples.{core_table_sum}
use Rattle.keccak.specs.declared.KeccakOperation.{KeccakOperation}
use Rattle.keccak.proofs.SegmentNumbers as core-free
use Rattle.keccak_rnd.specs.Row.{round_table, round_height}
use Rattle.keccak_rnd.specs.Refusals.{round_trace_refusal, round_rows_refusal}
use Rattle.keccak_rnd.specs.Calls.{round_trace_after}
use Rattle.keccak_rnd.specs.Tuples.{round_table_sum}
use Rattle.keccak_rnd.proofs.SegmentNumbers as round-free
use Rattle.segment_counts.specs.Segment.{segment_charged, list_charged, charge_refusal, charge_after, look_refusal}
use Rattle.segment_counts.proofs.Accepted.{charge-counter, look-refused, copy-short, out-short}
use Rattle.segment_counts.proofs.SegmentNumbers as charge-free
use Rattle.registers.specs.Registers.{register_refusal, register_counters_after, register_ledgers_after, register_look_refusal, register_look_copy_after, register_look_out_after}
use Rattle.registers.proofs.SegmentNumbers.{register-call-free, register-look-free}
use Rattle.op_list.specs.Files.{bytes_for, write_refusal, write_after}
use Rattle.op_list.proofs.RoundTrip.{list_left}
use Rattle.op_file.specs.File.{file_words}
use Rattle.message.specs.Message.{judged_refusal, is_message, judged_of, message_list}
use Rattle.std.specs.Prelude.{Ok}
use Rattle.message.proofs.Judging.{judge-yes}
use Rattle.verdict.specs.Kind.{rows}
use Rattle.verdict.specs.CoreAndRound.{core_kind, round_kind, verdict_at}
use Rattle.verdict.specs.Honest.{witness, one_core, one_round}
use Rattle.verdict.specs.declared.Verdict.TheVariants.{Holds}
use Rattle.verdict.proofs.Honest.{left-holds}
use Rattle.bus_sums.specs.Sums.{Fillings, table_share, is_wh_layout, Ours, InField, Filled, SumsHold, nobody, MAX-ROWS, MAX-PAIRS, MAX-SENDS}
use Rattle.bus_sums.proofs.Others.{with-others, at_bound, at_bound_lem, witness-others}
use Rattle.segment_sums.proofs.Calls.{empty-calls-hold, empty-constants, charged-unpaired}
use Rattle.segment_sums.proofs.Sent.{list-charged-sent, list-found, bytes-sent, halves-sent, alu-sent}
use Rattle.segment_sums.proofs.Histogram.{neutral-last, neutral-first, Reordered, order-taken, order-free}
use Rattle.segment_sums.proofs.Pairs.{pair_row_lem, one-row}

-- ---- Item 1: "The verifier now wants every segment's tables, also when no Keccak call was made.": of an empty list, for every number of rounds
-- and every floor that the calls accept, the tables as the calls leave them pass on every bus. They are core and round table, the bitwise table
-- filled from counters that were zero and that `charge` charged in shipped mode (220 times the floor of AreBytes: `empty-charges`), and
-- constants whose multiplicities are 0, which is what `update_multiplicities` sets. There is no IS_WH table: no pair is sent, so none is made, as
-- in the Rust, and `collect_bitwise_from_is_wh` charges nothing for one
module _ (nr floor : ℕ) (T U : List ℕ) (wrote-core : core_trace_refusal floor (length T) [] ≡ accepted) (wrote-round : round_trace_refusal nr floor (length U) [] ≡ accepted)
    (K : List ℕ) (wrote-constants : constants.rc_trace_refusal K ≡ accepted) (set-constants : constants.update_refusal nr (constants.rc_trace_after K) 0 ≡ accepted)
    (Z B : List ℕ) (zeros : (c : ℕ) → c < NUM-COUNTERS → word Z c ≡ 0) (charged : charge_refusal nr floor [] Z ≡ accepted)
    (fills : fill_refusal (charge_after nr floor true [] Z) B ≡ accepted) where
  abbrev core_left : List ℕ
  core_left = take (height floor 0 * 486) (core_trace_after floor [] T)

  abbrev round_left : List ℕ
  round_left = take (round_height nr floor 0 * 1480) (round_trace_after nr floor [] U)

  pub empty-segment-passes : SumsHold nr core_left round_left
      (record { bitwise = λ i k. word (fill_after (charge_after nr floor true [] Z) B) (i * 21 + (11 + k)); constants = λ r. 0; is-wh = [] }) nobody
  empty-segment-passes = empty-calls-hold nr floor T U wrote-core wrote-round K wrote-constants set-constants Z B zeros charged fills

  pub empty-segment-constants : (r : ℕ) → r < 32 → word (constants.update_after nr (constants.rc_trace_after K) 0) (r * 10 + 9) ≡ 0
  empty-segment-constants = empty-constants nr floor T U wrote-core wrote-round K wrote-constants set-constants Z B zeros charged fills

  -- and the verdict on both tables is 'holds' with no active core row
  pub empty-segment-holds : verdict_at nr core_left round_left ≡ Holds 0
  empty-segment-holds = left-holds floor [] T wrote-core (λ k. omega arith) (λ i j l g. absurd (omega (arith, g))) nr U wrote-round (λ i l. absurd (omega (arith, l)))

-- and with no other IS_WH table than one without rows: each of its rows, padding rows too, looks up IsB20 of its MU, which `charge` charges for no
-- list, so beside counters that it alone charged from zero the sums of that bus agree only where there is none
pub charge-leaves-no-pairs : (nr floor : ℕ) (shipped : Bool) (ops Z B : List ℕ) → ((c : ℕ) → c < NUM-COUNTERS → word Z c ≡ 0) →
    fill_refusal (charge_after nr floor shipped ops Z) B ≡ accepted → (core round : List ℕ) (constant : ℕ → ℕ) (pairs : List ℕ) →
    SumsHold nr core round (record { bitwise = λ i k. word (fill_after (charge_after nr floor shipped ops Z) B) (i * 21 + (11 + k)); constants = constant; is-wh = pairs }) nobody →
    rows is_wh_layout pairs ≡ 0
charge-leaves-no-pairs = charged-unpaired

-- ---- Item 3: "all that its core and round rows send, padding rows included, each on the bitwise row of its operands": none is lost, for every
-- number of rounds. Of a list that is charged, of words as they are lent, whatever its outputs are: the counter of given values grows by how often
-- both tables send them, where the tables send at all (an empty list that is not shipped charges none: `empty-charges`) ..
module _ (nr floor : ℕ) (ops counters : List ℕ) (taken : charge_refusal nr floor ops counters ≡ accepted) (lent : (k : ℕ) → word ops k < 2 ^ 64) where
  abbrev sent : Bus → List ℕ → ℕ
  sent b v = table_share Sender b v (core_kind nr) (core_table floor (op_count ops) (op_at ops)) + table_share Sender b v round_kind (round_table nr floor (op_count ops) (op_at ops))

  pub charge-is-sent : (shipped : Bool) → (op_count ops ≡ 0 → shipped ≡ true) → (b : Bus) (v : List ℕ) → found b v ≡ true →
      list_charged nr floor shipped ops (place_counter b v) ≡ sent b v
  charge-is-sent = list-charged-sent nr floor ops counters taken lent

  -- .. and all that they send on the three buses is found, so has a counter
  pub none-lost : (v : List ℕ) → (1 ≤ sent ByteAlu v → found ByteAlu v ≡ true) × (1 ≤ sent AreBytes v → found AreBytes v ≡ true) × (1 ≤ sent IsHalfword v → found IsHalfword v ≡ true)
  none-lost = list-found nr floor ops counters taken lent

-- bus by bus: all counters of a bus grow together by the multiplicities that the rows of both tables send there, ByteAlu being AND, OR and XOR
module _ (nr floor : ℕ) (shipped : Bool) (syscall n : ℕ) (op : ℕ → KeccakOperation) (most : nr ≤ 24) (lanes : (i : ℕ) → i < n → Lanes (op i).input)
    (all-send : n ≡ 0 → shipped ≡ true) where
  abbrev rows_send : Bus → ℕ
  rows_send b = core_table_sum Sender b nr syscall floor n op + round_table_sum Sender b nr floor n op

  pub sums-are-sent :
      (charged_kind (segment_charged nr floor shipped n op) 3 ≡ rows_send AreBytes)
      × (charged_kind (segment_charged nr floor shipped n op) 4 ≡ rows_send IsHalfword)
      × (charged_kind (segment_charged nr floor shipped n op) 7 + charged_kind (segment_charged nr floor shipped n op) 8 + charged_kind (segment_charged nr floor shipped n op) 9
      ≡ rows_send ByteAlu)
  sums-are-sent = (
    bytes-sent nr floor shipped syscall n op most lanes all-send,
    halves-sent nr floor shipped syscall n op most lanes all-send,
    alu-sent nr floor shipped syscall n op most lanes all-send,
  )

-- "in both, 5 covers every counter": where no earlier check refuses, the first of the 10,485,760 counters that is p or more is told by its place,
-- whether anything is charged to it or not
module _ (nr floor : ℕ) (ops counters : List ℕ) (one : 1 ≤ nr) (most : nr ≤ 24) (power : PowerFloor floor) where
  module _ (list : Acceptable (length counters) NUM-COUNTERS ops) (c : ℕ) (there : c < 10485760) (large : p ≤ word counters c)
      (first : (d : ℕ) → d < c → word counters d < p) where
    pub charge-by-5 : charge_refusal nr floor ops counters ≡ some (NotElement c)
    charge-by-5 = charge-counter nr floor ops counters one most power list c (first_found counters NUM-COUNTERS c there large first)

    pub look-by-5 : (copy out : ℕ) → 10485760 ≤ copy → 20 ≤ out → look_refusal nr floor ops counters copy out ≡ some (NotElement c)
    look-by-5 copy out h g = look-refused nr floor ops counters copy out h g ∙ charge-by-5

  -- "The copy's words are lent too, checked by 3 after the counters", and then the twenty words of the answer; both before 4, 7, 11 and 5
  module _ (few : op_count ops ≤ MAX-OPS) (whole : length ops % OP-WORDS ≡ 0) (long : 10485760 ≤ length counters) (copy out : ℕ) where
    pub look-copy-short : copy < 10485760 → look_refusal nr floor ops counters copy out ≡ some (TooShort 10485760)
    look-copy-short = copy-short nr floor ops counters copy out one most power few whole long

    pub look-out-short : 10485760 ≤ copy → out < 20 → look_refusal nr floor ops counters copy out ≡ some (TooShort 20)
    look-out-short = out-short nr floor ops counters copy out one most power few whole long

-- ---- the tables that are looked up
-- The rows that `dedup_is_wh_rows` leaves of a list of keys that it accepts, three words each: the rows of a pair count together how often it is
-- among the keys, a pair that is there has a row, and two only where it is there more than 1,048,575 times; an earlier row has a lower key, or the
-- same and is full; and a row counts from 1 to 1,048,575, so that IsB20 finds it. What they receive: `pairs-received`
module _ (keys C S R : List ℕ) (wrote : dedup_refusal (length C) (length S) (length R) keys ≡ accepted) where
  pub pairs-left : take (3 * length (rows_of (codes keys))) (rows_after (length C) (length S) keys R) ≡ flat (rows_of (codes keys))
  pairs-left = rows_start keys C S R wrote

  pub pairs-counted : (w h : ℕ) → times_counted w h (rows_of (codes keys)) ≡ times_sent w h keys
  pairs-counted = all-counted keys (none-bad 2 keys ((dedup-accepted (length C) (length S) (length R) keys).0 wrote).good.below)

  pub pairs-have-rows : (w h : ℕ) → 1 ≤ times_sent w h keys →
      (i : ℕ) × (i < length (rows_of (codes keys))) × ((nth (rows_of (codes keys)) i).word ≡ w) × ((nth (rows_of (codes keys)) i).half ≡ h)
  pairs-have-rows = pair_row_lem keys (none-bad 2 keys ((dedup-accepted (length C) (length S) (length R) keys).0 wrote).good.below)

  pub pairs-have-one-row : (i j : ℕ) → i < j → j < length (rows_of (codes keys)) → (nth (rows_of (codes keys)) i).word ≡ (nth (rows_of (codes keys)) j).word →
      (nth (rows_of (codes keys)) i).half ≡ (nth (rows_of (codes keys)) j).half →
      1048575 < times_sent (nth (rows_of (codes keys)) i).word (nth (rows_of (codes keys)) i).half keys
  pairs-have-one-row = one-row keys (none-bad 2 keys ((dedup-accepted (length C) (length S) (length R) keys).0 wrote).good.below)

  pub pairs-ordered : InOrder (rows_of (codes keys)) × InRange (rows_of (codes keys))
  pairs-ordered = (rows-in-order (codes keys), rows-in-range (codes keys))

pub most-of-a-pair : MU-MAX ≡ 1048575
most-of-a-pair = refl

-- merging has a neutral element, counters that are 0: on the right it changes no word, on the left no counter (the words past them are those of
-- the first slice)
module _ (a zeros : List ℕ) (all-zero : (k : ℕ) → k < 10485760 → word zeros k ≡ 0) where
  pub merging-zeros : (merge_refusal a zeros ≡ accepted → merge_after a zeros ≡ a) × (merge_refusal zeros a ≡ accepted → Alike 10485760 (merge_after zeros a) a)
  merging-zeros = (neutral-last a zeros all-zero, neutral-first a zeros all-zero)

-- a list's order changes nothing: of two lists of whole lookups that are matched one to one, each with one of the same four words, both are
-- accepted or none, and they leave the same counters
pub lookups-in-any-order : (counters ops other : List ℕ) → Reordered ops other → add_ops_refusal counters ops ≡ accepted → length other % 4 ≡ 0 →
    (add_ops_refusal counters other ≡ accepted) × (add_ops_after counters ops ≡ add_ops_after counters other)
lookups-in-any-order counters ops other order taken whole = (order-taken counters ops other order taken whole, order-free counters ops other order taken whole)

-- ---- Item 9: "The tables' columns don't hold it": of two lists that differ in segment numbers only, none of which is refused. What they leave:
-- `core-calls-free`, `round-calls-free`, `charge-calls-free`. What they refuse, of `keccak_row`, `keccak_rows`, `generate_keccak_trace`,
-- `is_wh_keys`, `keccak_rnd_rows`, `generate_keccak_rnd_trace`, `charge` and `look`, in this order
module _ (a b : List ℕ) (but : ButSegments a b) where
  module _ (short-a : ShortSegments a) (short-b : ShortSegments b) where
    pub refusals-free : (nr floor index : ℕ) (counters copy out : List ℕ) →
        (core_row_refusal (length out) a index ≡ core_row_refusal (length out) b index)
        × (core_rows_refusal (length out) a ≡ core_rows_refusal (length out) b)
        × (core_trace_refusal floor (length out) a ≡ core_trace_refusal floor (length out) b)
        × (keys_refusal (length out) a ≡ keys_refusal (length out) b)
        × (round_rows_refusal nr (length out) a ≡ round_rows_refusal nr (length out) b)
        × (round_trace_refusal nr floor (length out) a ≡ round_trace_refusal nr floor (length out) b)
        × (charge_refusal nr floor a counters ≡ charge_refusal nr floor b counters)
        × (look_refusal nr floor a counters (length copy) (length out) ≡ look_refusal nr floor b counters (length copy) (length out))
    refusals-free nr floor index counters copy out = (
      (core-free.row-call-free a b but short-a short-b index out).0,
      (core-free.rows-call-free a b but short-a short-b out).0,
      (core-free.trace-call-free a b but short-a short-b floor out).0,
      (core-free.keys-call-free a b but short-a short-b out).0,
      (round-free.rows-call-free a b but nr short-a short-b out).0,
      (round-free.trace-call-free a b but nr short-a short-b floor out).0,
      (charge-free.charge-call-free a b but nr floor short-a short-b true counters).0,
      (charge-free.look-call-free a b but nr floor short-a short-b true counters copy out).0,
    )

    -- the charge and the look through a register: what they refuse and leave
    module _ (nr floor : ℕ) (shipped : Bool) (register : ℕ) (counters ledgers : List ℕ) where
      pub register-charges-free :
          (register_refusal nr floor register a counters ledgers ≡ register_refusal nr floor register b counters ledgers)
          × (register_counters_after nr floor shipped register a counters ledgers ≡ register_counters_after nr floor shipped register b counters ledgers)
          × (register_ledgers_after nr floor shipped register a counters ledgers ≡ register_ledgers_after nr floor shipped register b counters ledgers)
      register-charges-free = register-call-free a b but short-a short-b nr floor register counters ledgers shipped

      pub register-looks-free : (copy out : List ℕ) →
          (register_look_refusal nr floor register a counters ledgers (length copy) (length out) ≡ register_look_refusal nr floor register b counters ledgers (length copy) (length out))
          × (register_look_copy_after nr floor shipped register a counters ledgers copy (length out) ≡ register_look_copy_after nr floor shipped register b counters ledgers copy (length out))
          × (register_look_out_after nr floor shipped register a counters ledgers (length copy) out ≡ register_look_out_after nr floor shipped register b counters ledgers (length copy) out)
      register-looks-free = register-look-free a b but short-a short-b nr floor register counters ledgers shipped

  -- Two calls that take operations do depend on segment numbers, as they must: the files that `write_operations` leaves of two such lists are the
  -- same only where the lists are ..
  pub files-hold-segments : (out out' : List ℕ) → ((k : ℕ) → word a k < 2 ^ 64) → ((k : ℕ) → word b k < 2 ^ 64) →
      write_refusal (length out) a ≡ accepted → write_refusal (length out') b ≡ accepted →
      take (bytes_for a (op_count a)) (write_after a out) ≡ take (bytes_for b (op_count b)) (write_after b out') → a ≡ b
  files-hold-segments out out' lent-a lent-b wrote-a wrote-b e = sym (list_left a out lent-a wrote-a) ∙ ap file_words e ∙ list_left b out' lent-b wrote-b

  -- .. and `judge_message`, whose operations are all of segment 0, says yes to one of two such lists at most
  pub judge-reads-segments : (m : List ℕ) → judged_of (judged_refusal m a) (is_message m a) ≡ Ok true →
      judged_of (judged_refusal m b) (is_message m b) ≡ Ok true → a ≡ b
  judge-reads-segments m yes-a yes-b =
      ((judge-yes m a).0 yes-a).1.list
      ∙ ap₂ (message_list m) (core-free.free a b but (λ n op. (op 0).state_addr) (λ n op. refl)) (core-free.free a b but (λ n op. (op 0).timestamp) (λ n op. refl))
      ∙ sym ((judge-yes m b).0 yes-b).1.list

-- ---- the bounds of the sums (bus_sums/specs/Sums.antt): rows of a core table or a round table, rows of an IS_WH table, and sends of other tables
-- for one list of values
pub sums-bounds : (MAX-ROWS ≡ 2 ^ 35) × (MAX-PAIRS ≡ 2 ^ 40) × (MAX-SENDS ≡ 2 ^ 62)
sums-bounds = (refl, refl, refl)

-- where both tables have fillings they have fillings beside other tables that look up in the bitwise table up to 2^62 times for one list of values,
-- all words below p ..
pub sums-beside-others : (nr : ℕ) (core round : List ℕ) → Filled nr core round → (others : Bus → List ℕ → ℕ) → ((b : Bus) (v : List ℕ) → others b v ≤ 2 ^ 62) →
    ((v : List ℕ) → others Keccak v ≡ 0) → ((b : Bus) → Ours b → (v : List ℕ) → 1 ≤ others b v → Placed b v) →
    (w : Fillings) × InField w × SumsHold nr core round w others
sums-beside-others nr core round = with-others nr core round

-- .. and here are two tables beside one that looks up a pair of zero bytes 2^62 times
pub sums-at-bound : (at_bound AreBytes (0 ∷ 0 ∷ []) ≡ 2 ^ 62) × ((w : Fillings) × InField w × SumsHold 24 (one_core witness) (one_round witness) w at_bound)
sums-at-bound = (at_bound_lem, witness-others)
