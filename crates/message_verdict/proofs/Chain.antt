-- The chain from a message to the verdict. Where the verdict holds on the core table that is written from a list and on any
-- round table, every output of the list is Keccak-f[1600] of its input (`holds-right`); so a list whose inputs are chained by a
-- message's blocks, whatever its outputs claim, ends with the message's digest (`chain-digest`, `left-digest`). And the tables
-- that are written from a message's list hold (`message-holds`).
use mathlib.Core.Path.{◌≡◌, sym, ap, ap₂, subst, ◌∙◌}
use mathlib.Core.List.{List}
use Prim.Native.Nat.{ℕ, ◌+◌, ◌-◌, ◌*◌, ◌/◌, ◌%◌, ◌^◌, ◌≤◌, ◌<◌}
use native.Mathlib.Omega.{arith}
use lib.ListN.{length, get_or, take}
use lib.Seq.{ext_get_or}
use Rattle.lists.specs.Tab.{word, tab}
use Rattle.lists.proofs.Laws.{length-tab, get_d-tab}
use Rattle.bits.specs.Bits.{bit, byte_at}
use Rattle.bits.proofs.Bytes.{byte-bit}
use Rattle.fips202.specs.Fips.{State, Agree, keccak_p}
use Rattle.fips202.specs.Lanes.{Lanes, lane, bits, keccak_pl}
use Rattle.fips202.proofs.Steps.{agree-sym, agree_trans, lanes-ext}
use Rattle.fips202.proofs.Rounds.{rounds-cong, rounds-lanes, length-rounds, keccak_p-agree}
use Rattle.sha3.specs.Sha3.{blocks}
use Rattle.sha3.specs.Sponge.{OnlyBytes, bits_of, sha3-256-bits}
use Rattle.sha3.proofs.Sponge.{sha3-bits}
use Rattle.answer.specs.Limits.{MAX-OPS}
use Rattle.answer.specs.Refusal.{accepted}
use Rattle.keccak.specs.Columns.{INPUT-STATE, OUTPUT-STATE, lane_column}
use Rattle.keccak.specs.Height.{height}
use Rattle.keccak.specs.Row.{OP-WORDS, op_at, core_row, core_table}
use Rattle.keccak.specs.Refusals.{op_count, core_trace_refusal}
use Rattle.keccak.specs.Calls.{core_trace_after}
use Rattle.keccak.specs.declared.KeccakOperation.{KeccakOperation}
use Rattle.keccak.proofs.Cells.{read-input, read-output}
use Rattle.keccak.proofs.Calls.{table-left}
use Rattle.keccak_rnd.specs.Row.{round_table}
use Rattle.verdict.specs.CoreAndRound.{core_layout, verdict_at}
use Rattle.verdict.specs.Claims.{state_at, Computed}
use Rattle.verdict.specs.declared.Verdict.TheVariants.{Holds}
use Rattle.verdict.proofs.Honest.{row_made, made-active, written-holds}
use Rattle.verdict.proofs.Demand3.{holds-computed}
use Rattle.message.specs.Message.{message_list, Chained, last_digest, message_refusal}
use Rattle.message.proofs.Refusals.{message-accepted, judged-rest}
use Rattle.message.proofs.Digest.{chained-digest, list_count, list-output, left-accepted, left-lent, left-differ}

-- ---- a written row's states are its operation's
module _ (base : ℕ) (o : KeccakOperation) (s : List ℕ)
    (read : (x y b : ℕ) → x < 5 → y < 5 → b < 8 → word (core_row o) (lane_column base x y b) ≡ byte_at (lane s x y) b) where
  state-bits : Agree (state_at base (core_row o)) (bits s)
  unfolding state_at bits
  state-bits x y z hx hy hz =
      let e : 8 * (z / 8) + z % 8 ≡ z = omega arith in
      ap (λ (n : ℕ). bit n (z % 8)) (read x y (z / 8) hx hy (omega arith)) ∙ byte-bit (lane s x y) (z / 8) (z % 8) (omega arith) ∙ ap (bit (lane s x y)) e

-- an operation whose written row is computed, of lanes below 2^64
pub row-right : (nr : ℕ) → nr ≤ 24 → (o : KeccakOperation) → length o.input ≡ 25 → length o.output ≡ 25 → Lanes o.input → Lanes o.output →
    Computed nr (core_row o) → o.output ≡ keccak_pl nr o.input
row-right nr most o in_size out-size ins outs c =
    let r = keccak_pl nr o.input in
    let low : Lanes r = rounds-lanes (24 - nr) nr (omega arith) o.input ins in
    let fips : Agree (bits o.output) (bits r) =
    agree_trans (agree-sym (state-bits OUTPUT-STATE o o.output (read-output o)))
    (agree_trans c.right
    (agree_trans (rounds-cong (24 - nr) nr (state_at INPUT-STATE (core_row o)) (bits o.input) (state-bits INPUT-STATE o o.input (read-input o)))
    (agree-sym (keccak_p-agree nr most o.input ins)))) in
    ext_get_or 0 o.output r (out-size ∙ sym (length-rounds (24 - nr) nr o.input in_size)) (λ i l. lanes-ext o.output r outs low fips i (omega arith))

-- ---- where the verdict holds on the table that is written from a list of words, every output is right
module _ (nr floor : ℕ) (some : 1 ≤ nr) (most : nr ≤ 24) (ops round : List ℕ) (lent : (k : ℕ) → word ops k < 2 ^ 64) (n : ℕ)
    (holds : verdict_at nr (core_table floor (op_count ops) (op_at ops)) round ≡ Holds n) where
  pub holds-right : (i : ℕ) → i < op_count ops → (op_at ops i).output ≡ keccak_pl nr (op_at ops i).input
  unfolding op_at
  holds-right i l =
      row-right nr most (op_at ops i) (length-tab 25 (λ k. word ops (OP-WORDS * i + 2 + k))) (length-tab 25 (λ k. word ops (OP-WORDS * i + 27 + k)))
      (λ j h. subst (λ (w : ℕ). w < 2 ^ 64) (sym (get_d-tab 25 (λ k. word ops (OP-WORDS * i + 2 + k)) j 0 h)) (lent (OP-WORDS * i + 2 + j)))
      (λ j h. subst (λ (w : ℕ). w < 2 ^ 64) (sym (get_d-tab 25 (λ k. word ops (OP-WORDS * i + 27 + k)) j 0 h)) (lent (OP-WORDS * i + 27 + j)))
      (subst (Computed nr) (row_made floor (op_count ops) (op_at ops) i l)
      (holds-computed nr some most (core_table floor (op_count ops) (op_at ops)) round n holds i (made-active floor (op_count ops) (op_at ops) i l)).0)

-- ---- from a page to its receipt
module _ (m ops : List ℕ) (small : OnlyBytes m) (chained : Chained m ops) (lent : (k : ℕ) → word ops k < 2 ^ 64) where
  pub chain-digest : (floor : ℕ) (round : List ℕ) (n : ℕ) → verdict_at 24 (core_table floor (op_count ops) (op_at ops)) round ≡ Holds n →
      bits_of (last_digest ops) ≡ sha3-256-bits (bits_of m)
  chain-digest floor round n holds =
      ap bits_of (chained-digest m ops chained (λ i l. holds-right 24 floor (omega arith) (omega arith) ops round lent n holds i (omega (arith, chained.count)))) ∙ sha3-bits m small

  -- of what `generate_keccak_trace` leaves of the list, where it is accepted
  pub left-digest : (floor : ℕ) (table round : List ℕ) (n : ℕ) → core_trace_refusal floor (length table) ops ≡ accepted →
      verdict_at 24 (take (height floor (op_count ops) * 486) (core_trace_after floor ops table)) round ≡ Holds n →
      bits_of (last_digest ops) ≡ sha3-256-bits (bits_of m)
  left-digest floor table round n wrote holds = chain-digest floor round n (ap (λ (t : List ℕ). verdict_at 24 t round) (sym (table-left floor ops table wrote)) ∙ holds)

-- ---- and of a message's list, where the writer accepts it, both tables that are written hold
module _ (m : List ℕ) (small : OnlyBytes m) (address timestamp : ℕ) (ops : List ℕ) (passed : message_refusal (length ops) m address timestamp ≡ accepted) where
  abbrev L : List ℕ
  L = message_list m address timestamp

  pub message-holds : (floor : ℕ) → verdict_at 24 (core_table floor (op_count L) (op_at L)) (round_table 24 floor (op_count L) (op_at L)) ≡ Holds (blocks m)
  message-holds floor =
      let h = (message-accepted (length ops) m address timestamp).0 passed in
      let few : op_count L ≤ MAX-OPS = omega (arith, list_count m address timestamp, h.few) in
      written-holds 0 0 L (sym (judged-rest m L few h.few) ∙ left-accepted m address timestamp ops passed) (left-lent m address timestamp ops passed small)
      (left-differ m address timestamp ops passed) 24 floor (omega arith) (omega arith)
      (λ i l. list-output m address timestamp i (omega (arith, list_count m address timestamp))) ∙ ap Holds (list_count m address timestamp)
