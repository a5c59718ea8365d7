-- What the calls of the round table read: of a row only its 1,480 columns, for values and tuples; of START only its 25
-- lanes; of an operation never its output.
use mathlib.Core.Path.{◌≡◌, ap}
use mathlib.Core.List.{List, [], ◌∷◌}
use mathlib.Core.Bool.{Bool, not, ◌&&◌}
use Prim.Native.Nat.{ℕ, ◌+◌, ◌-◌, ◌*◌, ◌/◌, ◌%◌, ◌^◌, ◌≤◌, ◌<◌}
use native.Mathlib.Nat.{add-zero}
use native.Mathlib.Omega.{arith}
use lib.Dec.{eqb, leb, ltb}
use lib.ListN.{length, take}
use Rattle.lists.specs.Tab.{pick, tab, table_of, word}
use Rattle.lists.specs.First.{first_at}
use Rattle.lists.proofs.Laws.{tab-same}
use Rattle.lists.proofs.Reading.{Alike, ReadsFirst, front_same, then_same, pick-lt}
use Rattle.field.specs.Field.{fadd, fsub, fmul}
use Rattle.bits.specs.Bits.{word_at}
use Rattle.answer.specs.Refusal.{refuse_if, refuse_at, accepted, overwrite, afterwards, too_short, not_rounds, not_floor}
use Rattle.answer.specs.declared.Refusal.TheVariants.{PastEnd, NotWhole, TooShort, HighAddress, Unaligned, Segment}
use Rattle.answer.specs.Limits.{MAX-OPS}
use Rattle.fips202.specs.Lanes.{rounds_l}
use Rattle.templates.specs.Templates.{is_bit}
use Rattle.tuple.specs.Tuple.{sender, receiver}
use Rattle.tuple.specs.declared.Bus.TheVariants.{ByteAlu, KeccakRc, Keccak}
use Rattle.tuple.specs.Call.{RestNotRead}
use Rattle.tuple.proofs.Values.{long-enough}
use Rattle.tuple.proofs.Reading.{tuple-rest}
use Rattle.keccak.specs.Row.{OP-WORDS, SEGMENT-WORD, LAST-ADDRESS, LAST-SEGMENT, op_at}
use Rattle.keccak.specs.Refusals.{op_count, address_at, segment_at, high_at, unaligned_at, wide_at, operations_refusal}
use Rattle.keccak.proofs.Reading.{by-xyb-same, keccak-same}
use Rattle.keccak_rnd.specs.Columns.{NUM-COLUMNS, TIMESTAMP-0, TIMESTAMP-1, ROUND, MU, start, cxz, cxz-left, cxz-right-bit, cxz-right-bit-for-byte, dxz, theta, rot-left, rot-right, chi-ands, chi, rc, iota, pi-left, pi-right}
use Rattle.keccak_rnd.specs.Row.{rnc, round_row, round_pad, op_row, round_row_at, round_height, round_table}
use Rattle.keccak_rnd.specs.Refusals.{round_row_refusal, round_trace_refusal}
use Rattle.keccak_rnd.specs.Calls.{round_row_after, round_trace_after}
use Rattle.keccak_rnd.specs.Values.{NUM-VALUES, halfword_at, identity, theta_value, rho_value, round_value}
use Rattle.keccak_rnd.specs.Tuples.{NUM-TUPLES, round_received, out, round_sent, alu, are_bytes, rotated_c_at, pi_at, not_pi_at, constant_tuple, cxz_tuple0, cxz_tuple, cxz_left_tuple, dxz_tuple, theta_tuple, rot_tuple, chi_ands_tuple, chi_tuple, iota_tuple, round_tuple}

module _ (row other : List ℕ) (same : Alike NUM-COLUMNS row other) where
  mu : word row MU ≡ word other MU
  mu = same MU (omega arith)

  -- ---- the values
  half : (k : ℕ) → k + 1 < NUM-COLUMNS → halfword_at row k ≡ halfword_at other k
  half k h = let a = same k (omega arith) in let b = same (k + 1) h in λ t. fadd (a t) (fmul (b t) 256)

  theta-value : (x hw : ℕ) → x < 5 → hw < 4 → theta_value row x hw ≡ theta_value other x hw
  theta-value x hw hx hh =
      let inp = half (cxz x 3 (hw * 2)) (omega arith) in
      let left = half (cxz-left x (hw * 2)) (omega arith) in
      let right = same (cxz-right-bit x hw) (omega arith) in
      λ t. fmul (mu t) (identity (inp t) 2 (left t) (right t))

  rho-value : (x y hw : ℕ) → x < 5 → y < 5 → hw < 4 → rho_value row x y hw ≡ rho_value other x y hw
  rho-value x y hw hx hy hh =
      let inp = half (theta x y (hw * 2)) (omega arith) in
      let left = half (rot-left x y (hw * 2)) (omega arith) in
      let right = half (rot-right x y (hw * 2)) (omega arith) in
      λ t. fmul (mu t) (identity (inp t) (2 ^ rnc x y) (left t) (right t))

  -- ---- the Keccak bus
  received : round_received row ≡ round_received other
  unfolding round_received
  received =
      keccak-same _ _ (same TIMESTAMP-0 (omega arith)) (same TIMESTAMP-1 (omega arith)) (same ROUND (omega arith))
      (λ x y b hx hy hb. same (start x y b) (omega arith))

  sent : round_sent row ≡ round_sent other
  unfolding round_sent
  sent =
      keccak-same _ _ (same TIMESTAMP-0 (omega arith)) (same TIMESTAMP-1 (omega arith))
      (ap (λ (r : ℕ). fadd r 1) (same ROUND (omega arith)))
      (λ x y b hx hy hb. same (out x y b) (pick-lt (eqb x 0 && eqb y 0) (iota b) (chi x y b) NUM-COLUMNS (omega arith) (omega arith)))

  -- ---- lookups: two tuples are the same where their values are
  alu-same : (op : ℕ) {a b c a' b' c' : ℕ} → a ≡ a' → b ≡ b' → c ≡ c' → alu row op a b c ≡ alu other op a' b' c'
  alu-same op a b c = λ t. sender ByteAlu (mu t) (op ∷ a t ∷ b t ∷ c t ∷ [])

  bytes_same : {a b a' b' : ℕ} → a ≡ a' → b ≡ b' → are_bytes a b ≡ are_bytes a' b'
  bytes_same a b = λ t. are_bytes (a t) (b t)

  rc-tuple : constant_tuple row ≡ constant_tuple other
  rc-tuple =
      let r = same ROUND (omega arith) in
      let v = tab-same 8 (λ b. word row (rc b)) (λ b. word other (rc b)) (λ b h. same (rc b) (omega arith)) in
      λ t. sender KeccakRc (mu t) (r t ∷ v t)

  cxz-0 : (x b : ℕ) → x < 5 → b < 8 → cxz_tuple0 row x b ≡ cxz_tuple0 other x b
  cxz-0 x b hx hb = alu-same 2 (same (start x 0 b) (omega arith)) (same (start x 1 b) (omega arith)) (same (cxz x 0 b) (omega arith))

  cxz-next : (x k b : ℕ) → x < 5 → k < 3 → b < 8 → cxz_tuple row x k b ≡ cxz_tuple other x k b
  cxz-next x k b hx hk hb =
      alu-same 2 (same (cxz x k b) (omega arith)) (same (start x (k + 2) b) (omega arith)) (same (cxz x (k + 1) b) (omega arith))

  cxz-bytes : (x i : ℕ) → x < 5 → i < 4 → cxz_left_tuple row x i ≡ cxz_left_tuple other x i
  cxz-bytes x i hx hi = bytes_same (same (cxz-left x (2 * i)) (omega arith)) (same (cxz-left x (2 * i + 1)) (omega arith))

  rotated : (x b : ℕ) → x < 5 → b < 8 → rotated_c_at row x b ≡ rotated_c_at other x b
  rotated x b hx hb =
      let l = same (cxz-left x b) (omega arith) in
      let r = same (cxz-right-bit x (cxz-right-bit-for-byte b)) (omega arith) in
      λ t. pick (eqb (b % 2) 0) (fadd (l t) (r t)) (l t)

  dxz-tuple : (x b : ℕ) → x < 5 → b < 8 → dxz_tuple row x b ≡ dxz_tuple other x b
  dxz-tuple x b hx hb =
      alu-same 2 (same (cxz ((x + 4) % 5) 3 b) (omega arith)) (rotated ((x + 1) % 5) b (omega arith) hb) (same (dxz x b) (omega arith))

  theta-tuple : (x y b : ℕ) → x < 5 → y < 5 → b < 8 → theta_tuple row x y b ≡ theta_tuple other x y b
  theta-tuple x y b hx hy hb =
      alu-same 2 (same (start x y b) (omega arith)) (same (dxz x b) (omega arith)) (same (theta x y b) (omega arith))

  rot-tuple : (x y b : ℕ) → x < 5 → y < 5 → b < 8 → rot_tuple row x y b ≡ rot_tuple other x y b
  rot-tuple x y b hx hy hb = bytes_same (same (rot-left x y b) (omega arith)) (same (rot-right x y b) (omega arith))

  pi-same : (x y b : ℕ) → x < 5 → pi_at row x y b ≡ pi_at other x y b
  pi-same x y b hx =
      let l = same (pi-left x y b) (omega arith) in
      let r = same (pi-right x y b) (omega arith) in
      λ t. fadd (l t) (r t)

  not-pi-same : (x y b : ℕ) → x < 5 → not_pi_at row x y b ≡ not_pi_at other x y b
  not-pi-same x y b hx =
      let l = same (pi-left x y b) (omega arith) in
      let r = same (pi-right x y b) (omega arith) in
      λ t. fsub (fsub 255 (l t)) (r t)

  ands-tuple : (x y b : ℕ) → x < 5 → y < 5 → b < 8 → chi_ands_tuple row x y b ≡ chi_ands_tuple other x y b
  ands-tuple x y b hx hy hb =
      alu-same 0 (not-pi-same ((x + 1) % 5) y b (omega arith)) (pi-same ((x + 2) % 5) y b (omega arith))
      (same (chi-ands x y b) (omega arith))

  chi-tuple : (x y b : ℕ) → x < 5 → y < 5 → b < 8 → chi_tuple row x y b ≡ chi_tuple other x y b
  chi-tuple x y b hx hy hb =
      alu-same 2 (pi-same x y b hx) (same (chi-ands x y b) (omega arith)) (same (chi x y b) (omega arith))

  iota-tuple : (b : ℕ) → b < 8 → iota_tuple row b ≡ iota_tuple other b
  iota-tuple b hb = alu-same 2 (same (chi 0 0 b) (omega arith)) (same (rc b) (omega arith)) (same (iota b) (omega arith))

pub value-reads : ReadsFirst NUM-COLUMNS NUM-VALUES round_value
unfolding round_value
value-reads row other same =
    then_same 20 121 _ _ _ _ (λ i l. ap is_bit (same (cxz-right-bit (i / 4) (i % 4)) (omega arith)))
    (then_same 20 101 _ _ _ _ (λ i l. theta-value row other same (i / 4) (i % 4) (omega arith) (omega arith))
    (then_same 100 1 _ _ _ _ (λ i l. rho-value row other same (i / 20) (i / 4 % 5) (i % 4) (omega arith) (omega arith) (omega arith))
    (λ i l. ap is_bit (mu row other same))))

pub tuple-reads : ReadsFirst NUM-COLUMNS NUM-TUPLES round_tuple
unfolding round_tuple
tuple-reads row other same =
    let m = mu row other same in
    let r = received row other same in
    let s = sent row other same in
    then_same 1 1030 _ _ _ _ (λ i l t. receiver Keccak (m t) (r t))
    (then_same 1 1029 _ _ _ _ (λ i l t. sender Keccak (m t) (s t))
    (then_same 1 1028 _ _ _ _ (λ i l. rc-tuple row other same)
    (then_same 40 988 _ _ _ _ (λ i l. cxz-0 row other same (i / 8) (i % 8) (omega arith) (omega arith))
    (then_same 120 868 _ _ _ _ (λ i l. cxz-next row other same (i / 24) (i / 8 % 3) (i % 8) (omega arith) (omega arith) (omega arith))
    (then_same 20 848 _ _ _ _ (λ i l. cxz-bytes row other same (i / 4) (i % 4) (omega arith) (omega arith))
    (then_same 40 808 _ _ _ _ (λ i l. dxz-tuple row other same (i / 8) (i % 8) (omega arith) (omega arith))
    (then_same 200 608 _ _ _ _ (by-xyb-same (theta_tuple row) (theta_tuple other) (theta-tuple row other same))
    (then_same 200 408 _ _ _ _ (by-xyb-same (rot_tuple row) (rot_tuple other) (rot-tuple row other same))
    (then_same 200 208 _ _ _ _ (by-xyb-same (chi_ands_tuple row) (chi_ands_tuple other) (ands-tuple row other same))
    (then_same 200 8 _ _ _ _ (by-xyb-same (chi_tuple row) (chi_tuple other) (chi-tuple row other same))
    (iota-tuple row other same)))))))))))

pub rest-not-read : RestNotRead NUM-COLUMNS NUM-TUPLES round_tuple
rest-not-read = tuple-rest NUM-COLUMNS NUM-TUPLES round_tuple tuple-reads

-- ---- `keccak_rnd_row`, which may be lent a START that is longer than its 25 lanes
module _ (timestamp round : ℕ) (row : List ℕ) where
  module _ (start other : List ℕ) (h : 25 ≤ length start) (j : 25 ≤ length other) (same : Alike 25 start other) where
    checks : round_row_refusal round start row ≡ round_row_refusal round other row
    unfolding round_row_refusal
    checks = ap (λ (b : Bool). refuse_if (leb 24 round) (PastEnd 24) (refuse_if b (TooShort 25) (too_short (length row) NUM-COLUMNS accepted))) (long-enough 25 start other h j)

    lanes : tab 25 (word start) ≡ tab 25 (word other)
    lanes = tab-same 25 (word start) (word other) same

    after : round_row_after timestamp start round row ≡ round_row_after timestamp other round row
    after = λ t. afterwards (checks t) (overwrite (round_row (word_at timestamp) round (lanes t)) row) row

  pub start-rest : (start : List ℕ)
      → (round_row_refusal round (take 25 start) row ≡ round_row_refusal round start row)
      × (round_row_after timestamp (take 25 start) round row ≡ round_row_after timestamp start round row)
  start-rest start = (
    front_same (λ (s : List ℕ). round_row_refusal round s row) 25 checks start,
    front_same (λ (s : List ℕ). round_row_after timestamp s round row) 25 after start,
  )

-- ---- '`generate_keccak_rnd_trace` never reads the operation's output': it is the same for two lists that are as long as
-- each other and whose operations have the same first 27 words, timestamp, address and input, and the same segment number
module _ (nr floor : ℕ) (ops other : List ℕ) (long : length ops ≡ length other)
    (same : (i k : ℕ) → k < 27 → word ops (OP-WORDS * i + k) ≡ word other (OP-WORDS * i + k))
    (segments : (i : ℕ) → word ops (OP-WORDS * i + SEGMENT-WORD) ≡ word other (OP-WORDS * i + SEGMENT-WORD)) where
  timestamp-same : (i : ℕ) → (op_at ops i).timestamp ≡ (op_at other i).timestamp
  unfolding op_at
  timestamp-same i = rw add-zero at (same i 0 (omega arith))

  address_same : (i : ℕ) → address_at ops i ≡ address_at other i
  unfolding op_at
  address_same i = same i 1 (omega arith)

  input-same : (i : ℕ) → (op_at ops i).input ≡ (op_at other i).input
  unfolding op_at
  input-same i = tab-same 25 _ _ (λ k h. let e : OP-WORDS * i + 2 + k ≡ OP-WORDS * i + (2 + k) = omega arith in rw e (same i (2 + k) (omega arith)))

  segment-same : (i : ℕ) → segment_at ops i ≡ segment_at other i
  unfolding op_at
  segment-same = segments

  refusal-output : (room : ℕ) → round_trace_refusal nr floor room ops ≡ round_trace_refusal nr floor room other
  unfolding round_trace_refusal operations_refusal high_at unaligned_at wide_at
  refusal-output room =
      λ t. not_rounds nr (not_floor floor (refuse_if (ltb MAX-OPS (long t / OP-WORDS)) (PastEnd (MAX-OPS + 1))
      (refuse_if (not (eqb (long t % OP-WORDS) 0)) (NotWhole 2)
      (too_short room (round_height nr floor (long t / OP-WORDS) * NUM-COLUMNS)
      (refuse_at (first_at (λ i. ltb LAST-ADDRESS (address_same i t)) (long t / OP-WORDS)) (λ i. HighAddress (address_same i t))
      (refuse_at (first_at (λ i. not (eqb (address_same i t % 8) 0)) (long t / OP-WORDS)) (λ i. Unaligned (address_same i t))
      (refuse_at (first_at (λ i. ltb LAST-SEGMENT (segment-same i t)) (long t / OP-WORDS)) (λ i. Segment (segment-same i t)) accepted)))))))

  table-output : round_table nr floor (op_count ops) (op_at ops) ≡ round_table nr floor (op_count other) (op_at other)
  unfolding round_table round_row_at op_row
  table-output =
      λ t. table_of (round_height nr floor (long t / OP-WORDS)) NUM-COLUMNS (λ q.
      pick (ltb q (long t / OP-WORDS * nr))
      (round_row (word_at (timestamp-same (q / nr) t)) (24 - nr + q % nr) (rounds_l (24 - nr) (q % nr) (input-same (q / nr) t))) round_pad)

  pub output-not-read : (table : List ℕ)
      → (round_trace_refusal nr floor (length table) ops ≡ round_trace_refusal nr floor (length table) other) × (round_trace_after nr floor ops table ≡ round_trace_after nr floor other table)
  output-not-read table =
      let c = refusal-output (length table) in
      (c, λ t. afterwards (c t) (overwrite (table-output t) table) table)
