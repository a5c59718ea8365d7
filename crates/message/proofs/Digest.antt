-- What a message's list says: its operations as the request has them, and its digest, which any list has whose inputs are
-- chained by the message's blocks and whose outputs are right. And the judge says yes to what the writer leaves.
use mathlib.Core.Path.{◌≡◌, sym, ap, ap₂, ◌∙◌, subst}
use mathlib.Core.Bool.{true}
use mathlib.Core.List.{List}
use Prim.Native.Nat.{ℕ, zero, suc, ◌+◌, ◌-◌, ◌*◌, ◌%◌, ◌^◌, ◌≤◌, ◌<◌}
use native.Mathlib.Omega.{arith}
use lib.ListN.{length, take}
use Rattle.lists.specs.Tab.{tab, word}
use Rattle.lists.proofs.Then.{T_true}
use Rattle.bits.specs.Bits.{lane_byte}
use Rattle.fips202.specs.Fips.{Agree, keccak_f}
use Rattle.fips202.specs.Lanes.{Lanes, bits, keccak_pl}
use Rattle.fips202.proofs.Rounds.{keccak_p-agree}
use Rattle.sha3.specs.Sha3.{blocks, added, absorbed, sha3-256}
use Rattle.sha3.specs.Sponge.{OnlyBytes, bits_of, sha3-256-bits}
use Rattle.sha3.proofs.Sponge.{sha3-bits, added-lanes, absorbed-lanes}
use Rattle.answer.specs.Refusal.{accepted}
use Rattle.answer.proofs.Laws.{new-words}
use Rattle.keccak.specs.Row.{OP-WORDS, op_at}
use Rattle.keccak.specs.Refusals.{op_count, address_at, segment_at}
use Rattle.keccak.specs.declared.KeccakOperation.{KeccakOperation}
use Rattle.keccak.proofs.Listed.{count-listed, whole-listed, listed-read, listed_below, words-below}
use Rattle.keccak.proofs.Refusals.{none-bad}
use Rattle.message.specs.Message.{operation_from, message_op, message_list, Chained, last_digest, Hashable, message_refusal, message_after, judged_refusal, IsMessage, is_message, judged_of}
use Rattle.std.specs.Prelude.{Ok}
use Rattle.message.proofs.Message.{op-lanes, length-list}
use Rattle.message.proofs.Refusals.{message-accepted, judged-rest}
use Rattle.message.proofs.Judging.{message-decides, judge-says}

-- ---- chained lists
module _ (m ops : List ℕ) (chained : Chained m ops) (right : (i : ℕ) → i < blocks m → (op_at ops i).output ≡ keccak_pl 24 (op_at ops i).input) where
  -- every output is the state after that block
  pub chained-absorbed : (i : ℕ) → i < blocks m → (op_at ops i).output ≡ absorbed m (suc i)
  unfolding absorbed
  chained-absorbed zero l = right 0 l ∙ ap (keccak_pl 24) chained.first
  chained-absorbed (suc i) l =
      right (suc i) l ∙ ap (keccak_pl 24) (chained.next i l ∙ ap (added m (suc i)) (chained-absorbed i (omega arith)))

  pub chained-digest : last_digest ops ≡ sha3-256 m
  unfolding sha3-256
  chained-digest =
      let e : op_count ops - 1 ≡ blocks m - 1 = ap (λ (n : ℕ). n - 1) chained.count in
      let n : suc (blocks m - 1) ≡ blocks m = omega arith in
      ap (λ (s : List ℕ). tab 32 (lane_byte s)) (ap (λ (i : ℕ). (op_at ops i).output) e ∙ chained-absorbed (blocks m - 1) (omega arith) ∙ ap (absorbed m) n)

-- ---- a message's list
module _ (m : List ℕ) (address timestamp : ℕ) where
  abbrev L : List ℕ
  L = message_list m address timestamp

  pub list_count : op_count L ≡ blocks m
  unfolding message_list
  list_count = count-listed (blocks m) (message_op m address timestamp)

  pub list-op : (i : ℕ) → i < blocks m → op_at L i ≡ message_op m address timestamp i
  unfolding message_list
  list-op i l = listed-read (blocks m) (message_op m address timestamp) i l (op-lanes m address timestamp i)

  module _ (i : ℕ) (l : i < blocks m) where
    -- "all at that address", "timestamps rise by 1 and the segment is 0"
    pub list-stamp : (op_at L i).timestamp ≡ timestamp + i
    unfolding operation_from
    list-stamp = ap (λ (o : KeccakOperation). o.timestamp) (list-op i l)

    pub list-address : address_at L i ≡ address
    unfolding operation_from
    list-address = ap (λ (o : KeccakOperation). o.state_addr) (list-op i l)

    pub list-segment : segment_at L i ≡ 0
    unfolding operation_from
    list-segment = ap (λ (o : KeccakOperation). o.segment) (list-op i l)

    list-input : (op_at L i).input ≡ added m i (absorbed m i)
    unfolding operation_from
    list-input = ap (λ (o : KeccakOperation). o.input) (list-op i l)

    list-after : (op_at L i).output ≡ absorbed m (suc i)
    unfolding operation_from absorbed
    list-after = ap (λ (o : KeccakOperation). o.output) (list-op i l)

    -- "each output is Keccak-f[1600] of its input"
    pub list-output : (op_at L i).output ≡ keccak_pl 24 (op_at L i).input
    unfolding absorbed
    list-output = list-after ∙ ap (keccak_pl 24) (sym list-input)

    -- by FIPS 202 on bits
    pub list-fips : OnlyBytes m → Agree (bits (op_at L i).output) (keccak_f (bits (op_at L i).input))
    list-fips small =
        let h : Lanes (op_at L i).input = subst Lanes (sym list-input) (added-lanes m small i l) in
        subst (λ (s : List ℕ). Agree (bits s) (keccak_f (bits (op_at L i).input))) (sym list-output) (keccak_p-agree 24 (omega arith) (op_at L i).input h)

  -- "each input is the previous output with the next padded 136-byte block added by exclusive or, the first starting from zero"
  pub list-chained : Chained m L
  unfolding absorbed
  list-chained =
      record {
        count = list_count;
        first = list-input 0 (omega arith);
        next = λ i l. list-input (suc i) l ∙ ap (added m (suc i)) (sym (list-after i (omega arith)));
      }

  -- "The last output's first 32 bytes are the digest of FIPS 202."
  pub list-digest : OnlyBytes m → bits_of (last_digest L) ≡ sha3-256-bits (bits_of m)
  list-digest small = ap bits_of (chained-digest m L list-chained list-output) ∙ sha3-bits m small

  -- ---- of what the call leaves, where it is accepted
  module _ (ops : List ℕ) (passed : message_refusal (length ops) m address timestamp ≡ accepted) where
    hashable : Hashable (length ops) m address timestamp
    hashable = (message-accepted (length ops) m address timestamp).0 passed

    pub left-list : take (blocks m * OP-WORDS) (message_after m address timestamp ops) ≡ L
    left-list = ap (λ (n : ℕ). take n (message_after m address timestamp ops)) (sym (length-list m address timestamp)) ∙ new-words L ops passed

    -- it is one that every call accepts that takes a list, and the judge says yes to it
    pub left-accepted : judged_refusal m L ≡ accepted
    unfolding message_list
    left-accepted =
        let h = hashable in
        let few : blocks m ≤ 89478485 = omega (arith, h.few) in
        let count : op_count L ≤ 89478485 = omega (arith, list_count) in
        judged-rest m L count h.few
        ∙ none-bad 0 0 L count (whole-listed (blocks m) (message_op m address timestamp)) (omega arith)
        (λ i l. omega (arith, list-address i (omega (arith, list_count)), h.low))
        (λ i l. ap (λ (a : ℕ). a % 8) (list-address i (omega (arith, list_count))) ∙ h.aligned)
        (λ i l. omega (arith, list-segment i (omega (arith, list_count))))

    -- its words fit words, and no two of its timestamps are the same
    pub left-lent : OnlyBytes m → (k : ℕ) → word L k < 2 ^ 64
    unfolding message_list operation_from absorbed
    left-lent small =
        let h = hashable in
        listed_below (blocks m) (message_op m address timestamp) (λ i l.
        words-below (message_op m address timestamp i) (op-lanes m address timestamp i) (omega (arith, h.stamps)) (omega (arith, h.low))
        (added-lanes m small i l) (absorbed-lanes m small (suc i) (omega arith)) (omega arith))

    pub left-differ : (i j : ℕ) → i < j → j < op_count L → (op_at L i).timestamp ≡ (op_at L j).timestamp → ⊥
    left-differ i j l h e = omega (arith, e, list-stamp i (omega (arith, list_count)), list-stamp j (omega (arith, list_count)))

    pub left-message : IsMessage m L
    left-message =
        let a = list-address 0 (omega arith) in
        let t : (op_at L 0).timestamp ≡ timestamp = omega (arith, list-stamp 0 (omega arith)) in
        record { list = sym (ap₂ (message_list m) a t); stamps = omega (arith, t, hashable.stamps) }

    pub left-judged : judged_of (judged_refusal m L) (is_message m L) ≡ Ok true
    left-judged = sym (judge-says true left-accepted (T_true _ ((message-decides m L).from left-message)))

-- ---- of a list that the judge says yes to
pub judged-digest : (m ops : List ℕ) → OnlyBytes m → IsMessage m ops → bits_of (last_digest ops) ≡ sha3-256-bits (bits_of m)
judged-digest m ops small h =
    ap (λ (l : List ℕ). bits_of (last_digest l)) h.list ∙ list-digest m (address_at ops 0) (op_at ops 0).timestamp small
