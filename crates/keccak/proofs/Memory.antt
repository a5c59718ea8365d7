-- What the tuples carry that no lookup checks, Ecall and Memw, and in which order the keys of `is_wh_keys` come.
--     memw-address    in a row that passes, whoever filled it, the Memw tuple of lane i is at address + 8i, as two words
--     ecall-written   the Ecall tuple of a written row: the timestamp, and the syscall number as two words
--     addr-written    the Memw tuple that reads the address from register x10
--     lane-written    the Memw tuple of lane i: it reads the INPUT lane and writes the OUTPUT lane, at address + 8i
--     keys-sent       key 25 i + l is what row i sends on the IsWh bus for its lane l
use mathlib.Core.Path.{◌≡◌, sym, ap, ap₂, ◌∙◌}
use mathlib.Core.List.{List, [], ◌∷◌, ◌++◌}
use Prim.Native.Nat.{ℕ, ◌+◌, ◌*◌, ◌/◌, ◌%◌, ◌^◌, ◌<◌}
use native.Mathlib.Omega.{arith}
use lib.ListN.{get_or}
use Rattle.lists.specs.Tab.{word, tab}
use Rattle.lists.proofs.Laws.{tab-same}
use Rattle.bits.specs.Bits.{byte_at, word_at, limb_at}
use Rattle.bits.proofs.Bytes.{byte-lt}
use Rattle.tuple.specs.Tuple.{sender, receiver}
use Rattle.tuple.specs.declared.Bus.TheVariants.{Memw, Ecall}
use Rattle.templates.proofs.Operand.{two-sum}
use Rattle.keccak.specs.Columns.{ADDR, MU, addr, input-state, output-state, state-ptr}
use Rattle.keccak.specs.Row.{core_row, core_address, core_pointer, is-wh-key, is-wh-keys}
use Rattle.keccak.specs.Values.{word_of_bytes, word_of_halves}
use Rattle.keccak.specs.Tuples.{ecall_tuple, addr_memw, lane_memw, pointer_tuple}
use Rattle.keccak.specs.Passes.{CoreCells}
use Rattle.keccak.specs.declared.KeccakOperation.{KeccakOperation}
use Rattle.keccak.proofs.Words.{Ranged, limb-next, address-split, lo-bytes, hi-bytes, lo-lt}
use Rattle.keccak.proofs.Cells.{read-t0, read-t1, read-addr, read-input, read-output, read-pointer, read-mu, key-sent, address_is, pointer_is}

-- a number as its low and its high word
words_of : (n lo hi : ℕ) → lo < 4294967296 → n ≡ lo + 4294967296 * hi → (lo ≡ word_at n 0) × (hi ≡ word_at n 1)
unfolding word_at
words_of n lo hi l e = (omega arith, omega arith)

-- the two words of pointer i
pointer-words : (row : List ℕ) (n i : ℕ) → word row (state-ptr i 0) < 65536 → word row (state-ptr i 1) < 65536 → core_pointer row i ≡ n
    → (word_of_halves row (state-ptr i 0) ≡ word_at n 0) × (word row (state-ptr i 2) ≡ word_at n 1)
pointer-words row n i l m e =
    let low = word row (state-ptr i 0) in
    let mid = word row (state-ptr i 1) in
    let next : state-ptr i 0 + 1 ≡ state-ptr i 1 = omega arith in
    let sum : word_of_halves row (state-ptr i 0) ≡ low + mid * 65536 =
    two-sum low (word row (state-ptr i 0 + 1)) l (rw next m) ∙ ap (λ (k : ℕ). low + word row k * 65536) next in
    let w = words_of n (low + mid * 65536) (word row (state-ptr i 2)) (omega arith) (omega arith) in
    (sum ∙ w.0, w.1)

pub memw-address : (row : List ℕ) → CoreCells row → (i : ℕ) → i < 25 →
    (word_of_halves row (state-ptr i 0) ≡ word_at (core_address row + 8 * i) 0) × (word row (state-ptr i 2) ≡ word_at (core_address row + 8 * i) 1)
memw-address row c i h = pointer-words row (core_address row + 8 * i) i (c.limb-0 i h) (c.limb-1 i h) (c.pointers i h)

module _ (o : KeccakOperation) where
  pub ecall-written : (syscall : ℕ) →
      ecall_tuple syscall (core_row o) ≡ receiver Ecall 1 (word_at o.timestamp 0 ∷ word_at o.timestamp 1 ∷ word_at syscall 0 ∷ word_at syscall 1 ∷ [])
  unfolding ecall_tuple word_at
  ecall-written syscall =
      ap₂ (λ (m t : ℕ). receiver Ecall m (t ∷ word (core_row o) 1 ∷ syscall % 2 ^ 32 ∷ syscall / 2 ^ 32 ∷ [])) (read-mu o) (read-t0 o)
      ∙ ap (λ (t : ℕ). receiver Ecall 1 (o.timestamp % 2 ^ 32 ∷ t ∷ syscall % 2 ^ 32 ∷ syscall / 2 ^ 32 ∷ [])) (read-t1 o)

  module _ (fits : o.state_addr + 192 < 2 ^ 64) where
    ranged : Ranged (core_row o)
    unfolding limb_at
    ranged =
        record {
          addr-bytes = λ b h. rw (read-addr o b h) (byte-lt o.state_addr b);
          limb-0 = λ i h. rw (read-pointer o i 0 h (omega arith)) (omega arith);
          limb-1 = λ i h. rw ((limb-next (core_row o) i).0, read-pointer o i 1 h (omega arith)) (omega arith);
          limb-2 = λ i h. rw ((limb-next (core_row o) i).1, read-pointer o i 2 h (omega arith)) (omega arith);
        }

    -- the two words of the address
    address-words : (word_of_bytes (core_row o) ADDR ≡ word_at o.state_addr 0) × (word_of_bytes (core_row o) (addr 4) ≡ word_at o.state_addr 1)
    address-words =
        let row = core_row o in
        let lo = lo-bytes row ranged in
        let hi = hi-bytes row ranged in
        let w = words_of o.state_addr (word_of_bytes row ADDR) (word_of_bytes row (addr 4)) (omega (arith, lo, lo-lt row ranged)) (omega (arith, lo, hi, address-split row, address_is o fits)) in
        (w.0, w.1)

    pub addr-written : addr_memw (core_row o)
        ≡ (let lo = word_at o.state_addr 0 in
        let hi = word_at o.state_addr 1 in
        sender Memw 1
        (lo ∷ hi ∷ 0 ∷ 0 ∷ 0 ∷ 0 ∷ 0 ∷ 0 ∷ 1 ∷ 20 ∷ 0 ∷ lo ∷ hi ∷ 0 ∷ 0 ∷ 0 ∷ 0 ∷ 0 ∷ 0 ∷ word_at o.timestamp 0 ∷ word_at o.timestamp 1 ∷ 1 ∷ 0 ∷ 0 ∷ []))
    unfolding addr_memw
    addr-written =
        ap₂ (λ (lo hi : ℕ). sender Memw (word (core_row o) MU)
        (lo ∷ hi ∷ 0 ∷ 0 ∷ 0 ∷ 0 ∷ 0 ∷ 0 ∷ 1 ∷ 20 ∷ 0 ∷ lo ∷ hi ∷ 0 ∷ 0 ∷ 0 ∷ 0 ∷ 0 ∷ 0 ∷ word (core_row o) 0 ∷ word (core_row o) 1 ∷ 1 ∷ 0 ∷ 0 ∷ []))
        address-words.0 address-words.1
        ∙ rw (read-mu o, read-t0 o, read-t1 o)

    pub lane-written : (i : ℕ) → i < 25 → lane_memw (core_row o) i
        ≡ sender Memw 1
        (tab 8 (byte_at (get_or o.input i 0))
        ++ (0 ∷ word_at (o.state_addr + 8 * i) 0 ∷ word_at (o.state_addr + 8 * i) 1
        ∷ (tab 8 (byte_at (get_or o.output i 0)) ++ (word_at o.timestamp 0 ∷ word_at o.timestamp 1 ∷ 0 ∷ 0 ∷ 1 ∷ []))))
    unfolding lane_memw
    lane-written i h =
        let place : i % 5 + 5 * (i / 5) ≡ i = omega arith in
        let old : tab 8 (λ b. word (core_row o) (input-state (i % 5) (i / 5) b)) ≡ tab 8 (byte_at (get_or o.input i 0)) =
        tab-same 8 _ _ (λ b hb. read-input o (i % 5) (i / 5) b (omega arith) (omega arith) hb ∙ ap (λ (k : ℕ). byte_at (get_or o.input k 0) b) place) in
        let new : tab 8 (λ b. word (core_row o) (output-state (i % 5) (i / 5) b)) ≡ tab 8 (byte_at (get_or o.output i 0)) =
        tab-same 8 _ _ (λ b hb. read-output o (i % 5) (i / 5) b (omega arith) (omega arith) hb ∙ ap (λ (k : ℕ). byte_at (get_or o.output k 0) b) place) in
        let next = (limb-next (core_row o) i).0 in
        let w = pointer-words (core_row o) (o.state_addr + 8 * i) i (ranged.limb-0 i h) (omega (arith, next, ranged.limb-1 i h)) (pointer_is o fits i h) in
        rw (old, new, w.0, w.1, read-mu o, read-t0 o, read-t1 o)

-- key 25 i + l is what row i sends for its lane l
pub keys-sent : (op : ℕ → KeccakOperation) (i l : ℕ) → l < 25 →
    (pointer_tuple (core_row (op i)) l 0).values ≡ (is-wh-keys op (25 * i + l)).word ∷ (is-wh-keys op (25 * i + l)).half ∷ []
unfolding is-wh-keys
keys-sent op i l h =
    let q : (25 * i + l) / 25 ≡ i = omega arith in
    let r : (25 * i + l) % 25 ≡ l = omega arith in
    key-sent (op i) l h ∙ sym (ap₂ (λ (a b : ℕ). (is-wh-key (op a) b).word ∷ (is-wh-key (op a) b).half ∷ []) q r)
