-- A core row's values and tuples read only its 486 columns.
use mathlib.Core.Path.{◌≡◌, refl, sym, ap, ◌∙◌}
use mathlib.Core.List.{List, [], ◌∷◌, ◌++◌}
use mathlib.Core.Option.{Option}
use Prim.Native.Nat.{ℕ, zero, suc, ◌+◌, ◌*◌, ◌/◌, ◌%◌, ◌^◌, ◌<◌}
use native.Mathlib.Omega.{arith}
use lib.IntN.{pos}
use lib.ListN.{length, take}
use Rattle.lists.specs.Tab.{tab, word}
use Rattle.lists.proofs.Laws.{tab-same, length-tab}
use Rattle.lists.proofs.Reading.{Alike, ReadsFirst, then_same}
use Rattle.field.specs.Field.{fadd, fsub, fmul, INV-SHIFT-32}
use Rattle.templates.specs.Templates.{times, constant, from-dword-bl, from-dword-whh, add-term-expr, add-terms-expr, add-operand-lo, add-operand-hi, carry0, add-pair-carry-hi, emit-add-pair, is_bit, is_bit_if}
use Rattle.templates.specs.declared.AddTerms.{AddTerms}
use Rattle.is_wh.specs.Tuples.{is-whh}
use Rattle.tuple.specs.Tuple.{sender, receiver}
use Rattle.tuple.specs.declared.Bus.TheVariants.{ByteAlu, AreBytes, Memw, Keccak, Ecall, IsWh, IsHalfword}
use Rattle.tuple.specs.Call.{tuple_answer}
use Rattle.tuple.proofs.Call.{tuple-refused}
use Rattle.answer.specs.Refusal.{overwrite, afterwards}
use Rattle.answer.specs.declared.Refusal.{Refusal}
use Rattle.answer.proofs.Refusals.{by-rounds}
use Rattle.tuple.proofs.Reading.{tuple-rest}
use Rattle.keccak.specs.Columns.{NUM-COLUMNS, TIMESTAMP-0, TIMESTAMP-1, ADDR, MU, addr, state-ptr, input-state, output-state, by_xyb}
use Rattle.keccak.specs.Values.{NUM-VALUES, pointer_value, word_of_bytes, word_of_halves, top_value, core_value}
use Rattle.keccak.specs.Tuples.{NUM-TUPLES, ecall_tuple, addr_memw, keccak_values, core_sent, core_received, pointer_tuple, align_tuple, addr_bytes_tuple, lane_memw, core_tuple}
use Rattle.keccak.specs.TupleCalls.{core_tuple_refusal, core_tuple_answer, core_tuple_after}
use Rattle.keccak.proofs.TupleCalls.{tuple-later}
use Rattle.std.specs.Prelude.{Result}
use Rattle.tuple.specs.declared.BusInteraction.{BusInteraction}

-- ---- for any table: entries by x, y and b, and the 203 values of a Keccak tuple
pub by-xyb-same : {A : Type 0} (f g : ℕ → ℕ → ℕ → A) → ((x y b : ℕ) → x < 5 → y < 5 → b < 8 → f x y b ≡ g x y b)
    → (i : ℕ) → i < 200 → by_xyb f i ≡ by_xyb g i
by-xyb-same f g e i h = e (i / 40) (i / 8 % 5) (i % 8) (omega arith) (omega arith) (omega arith)

pub keccak-same : {lo lo' hi hi' round round' : ℕ} (f g : ℕ → ℕ → ℕ → ℕ) → lo ≡ lo' → hi ≡ hi' → round ≡ round'
    → ((x y b : ℕ) → x < 5 → y < 5 → b < 8 → f x y b ≡ g x y b) → keccak_values lo hi round f ≡ keccak_values lo' hi' round' g
unfolding keccak_values
keccak-same f g l h r e =
    let s : tab 200 (by_xyb f) ≡ tab 200 (by_xyb g) = tab-same 200 (by_xyb f) (by_xyb g) (by-xyb-same f g e) in
    λ t. l t ∷ h t ∷ r t ∷ s t

pub keccak-length : (lo hi round : ℕ) (f : ℕ → ℕ → ℕ → ℕ) → length (keccak_values lo hi round f) ≡ 203
unfolding keccak_values
keccak-length lo hi round f = ap (λ (n : ℕ). suc (suc (suc n))) (length-tab 200 (by_xyb f))

module _ (row other : List ℕ) (same : Alike NUM-COLUMNS row other) where
  mu : word row MU ≡ word other MU
  mu = same MU (omega arith)

  time-0 : word row TIMESTAMP-0 ≡ word other TIMESTAMP-0
  time-0 = same TIMESTAMP-0 (omega arith)

  time-1 : word row TIMESTAMP-1 ≡ word other TIMESTAMP-1
  time-1 = same TIMESTAMP-1 (omega arith)

  bytes : (k : ℕ) → k + 3 < NUM-COLUMNS → word_of_bytes row k ≡ word_of_bytes other k
  bytes k h =
      let a = same k (omega arith) in
      let b = same (k + 1) (omega arith) in
      let c = same (k + 2) (omega arith) in
      let d = same (k + 3) h in
      λ t. fadd (fadd (fadd (a t) (fmul (b t) 256)) (fmul (c t) 65536)) (fmul (d t) 16777216)

  halves : (k : ℕ) → k + 1 < NUM-COLUMNS → word_of_halves row k ≡ word_of_halves other k
  halves k h = let a = same k (omega arith) in let b = same (k + 1) h in λ t. fadd (a t) (fmul (b t) 65536)

  -- ---- the values
  column : (c k : ℕ) → k < NUM-COLUMNS → add-term-expr row (times c k) ≡ add-term-expr other (times c k)
  column c k h = ap (λ (w : ℕ). fmul w c) (same k h)

  terms : (ts : AddTerms) → add-term-expr row ts.t0 ≡ add-term-expr other ts.t0 → add-term-expr row ts.t1 ≡ add-term-expr other ts.t1
      → add-term-expr row ts.t2 ≡ add-term-expr other ts.t2 → add-term-expr row ts.t3 ≡ add-term-expr other ts.t3
      → add-terms-expr row ts ≡ add-terms-expr other ts
  unfolding add-terms-expr
  terms ts a b c d = λ t. fadd (fadd (fadd (fadd 0 (a t)) (b t)) (c t)) (d t)

  addr-lo : add-operand-lo row (from-dword-bl ADDR) ≡ add-operand-lo other (from-dword-bl ADDR)
  addr-lo = terms _ (column 1 2 (omega arith)) (column 256 3 (omega arith)) (column 65536 4 (omega arith)) (column 16777216 5 (omega arith))

  addr-hi : add-operand-hi row (from-dword-bl ADDR) ≡ add-operand-hi other (from-dword-bl ADDR)
  addr-hi = terms _ (column 1 6 (omega arith)) (column 256 7 (omega arith)) (column 65536 8 (omega arith)) (column 16777216 9 (omega arith))

  ptr-lo : (k : ℕ) → k + 2 < NUM-COLUMNS → add-operand-lo row (from-dword-whh k) ≡ add-operand-lo other (from-dword-whh k)
  ptr-lo k h = terms _ (column 1 k (omega arith)) (column 65536 (k + 1) (omega arith)) refl refl

  ptr-hi : (k : ℕ) → k + 2 < NUM-COLUMNS → add-operand-hi row (from-dword-whh k) ≡ add-operand-hi other (from-dword-whh k)
  ptr-hi k h = terms _ (column 1 (k + 2) h) refl refl refl

  module _ (i : ℕ) (l : i < 25) where
    carry-lo : carry0 row (from-dword-bl ADDR) (constant (pos (i * 8))) (from-dword-whh (state-ptr i 0))
        ≡ carry0 other (from-dword-bl ADDR) (constant (pos (i * 8))) (from-dword-whh (state-ptr i 0))
    unfolding carry0
    carry-lo =
        let k : add-operand-lo row (constant (pos (i * 8))) ≡ add-operand-lo other (constant (pos (i * 8))) = terms _ refl refl refl refl in
        let s = ptr-lo (state-ptr i 0) (omega arith) in
        λ t. fmul (fsub (fadd (addr-lo t) (k t)) (s t)) INV-SHIFT-32

    carry-hi : add-pair-carry-hi row (from-dword-bl ADDR) (constant (pos (i * 8))) (from-dword-whh (state-ptr i 0))
        ≡ add-pair-carry-hi other (from-dword-bl ADDR) (constant (pos (i * 8))) (from-dword-whh (state-ptr i 0))
    unfolding add-pair-carry-hi
    carry-hi =
        let k : add-operand-hi row (constant (pos (i * 8))) ≡ add-operand-hi other (constant (pos (i * 8))) = terms _ refl refl refl refl in
        let s = ptr-hi (state-ptr i 0) (omega arith) in
        λ t. fmul (fsub (fadd (fadd (addr-hi t) (k t)) (carry-lo t)) (s t)) INV-SHIFT-32

    pointer-value : (j : ℕ) → pointer_value row i j ≡ pointer_value other i j
    unfolding pointer_value emit-add-pair
    pointer-value zero = λ t. is_bit_if (fadd 0 (mu t)) (carry-lo t)
    pointer-value (suc j) = λ t. is_bit_if (fadd 0 (mu t)) (carry-hi t)

  top-value : top_value row ≡ top_value other
  unfolding top_value
  top-value =
      let lo = bytes ADDR (omega arith) in
      let hi = bytes (addr 4) (omega arith) in
      let half = halves (state-ptr 24 0) (omega arith) in
      let high = same (state-ptr 24 2) (omega arith) in
      λ t. fmul (mu t)
      (fmul (fsub (fadd (hi t) (fmul (fsub (fadd (lo t) 192) (half t)) INV-SHIFT-32)) (high t)) INV-SHIFT-32)

  -- ---- the tuples
  ecall : (syscall : ℕ) → ecall_tuple syscall row ≡ ecall_tuple syscall other
  unfolding ecall_tuple
  ecall syscall = λ t. receiver Ecall (mu t) (time-0 t ∷ time-1 t ∷ syscall % 2 ^ 32 ∷ syscall / 2 ^ 32 ∷ [])

  addr-memw : addr_memw row ≡ addr_memw other
  unfolding addr_memw
  addr-memw =
      let lo = bytes ADDR (omega arith) in
      let hi = bytes (addr 4) (omega arith) in
      λ t. sender Memw (mu t)
      (lo t ∷ hi t ∷ 0 ∷ 0 ∷ 0 ∷ 0 ∷ 0 ∷ 0 ∷ 1 ∷ 20 ∷ 0
      ∷ lo t ∷ hi t ∷ 0 ∷ 0 ∷ 0 ∷ 0 ∷ 0 ∷ 0 ∷ time-0 t ∷ time-1 t ∷ 1 ∷ 0 ∷ 0 ∷ [])

  sent : (nr : ℕ) → core_sent nr row ≡ core_sent nr other
  unfolding core_sent
  sent nr = keccak-same _ _ time-0 time-1 refl (λ x y b hx hy hb. same (input-state x y b) (omega arith))

  received : core_received row ≡ core_received other
  unfolding core_received
  received = keccak-same _ _ time-0 time-1 refl (λ x y b hx hy hb. same (output-state x y b) (omega arith))

  pointer : (k : ℕ) → k + 2 < NUM-COLUMNS → (j : ℕ) → is-whh row k (word row MU) j ≡ is-whh other k (word other MU) j
  pointer k h zero = let a = same (k + 2) h in let b = same (k + 1) (omega arith) in λ t. sender IsWh (mu t) (a t ∷ b t ∷ [])
  pointer k h (suc j) = let a = same k (omega arith) in λ t. sender IsHalfword (mu t) (a t ∷ [])

  align : align_tuple row ≡ align_tuple other
  unfolding align_tuple
  align = let a = same (addr 0) (omega arith) in λ t. sender ByteAlu (mu t) (0 ∷ a t ∷ 7 ∷ 0 ∷ [])

  addr-bytes : (i : ℕ) → i < 4 → addr_bytes_tuple row i ≡ addr_bytes_tuple other i
  unfolding addr_bytes_tuple
  addr-bytes i l =
      let a = same (addr (2 * i)) (omega arith) in
      let b = same (addr (2 * i + 1)) (omega arith) in
      λ t. sender AreBytes (mu t) (a t ∷ b t ∷ [])

  lane : (i : ℕ) → i < 25 → lane_memw row i ≡ lane_memw other i
  unfolding lane_memw
  lane i l =
      let old = tab-same 8 (λ b. word row (input-state (i % 5) (i / 5) b)) (λ b. word other (input-state (i % 5) (i / 5) b))
      (λ b h. same (input-state (i % 5) (i / 5) b) (omega arith)) in
      let new = tab-same 8 (λ b. word row (output-state (i % 5) (i / 5) b)) (λ b. word other (output-state (i % 5) (i / 5) b))
      (λ b h. same (output-state (i % 5) (i / 5) b) (omega arith)) in
      let half = halves (state-ptr i 0) (omega arith) in
      let high = same (state-ptr i 2) (omega arith) in
      λ t. sender Memw (mu t) (old t ++ (0 ∷ half t ∷ high t ∷ (new t ++ (time-0 t ∷ time-1 t ∷ 0 ∷ 0 ∷ 1 ∷ []))))

pub value-reads : ReadsFirst NUM-COLUMNS NUM-VALUES core_value
unfolding core_value
value-reads row other same =
    then_same 50 2 _ _ _ _ (λ i l. pointer-value row other same (i / 2) (omega arith) (i % 2))
    (then_same 1 1 _ _ _ _ (λ i l. top-value row other same)
    (λ i l t. is_bit (mu row other same t)))

pub tuple-reads : (nr syscall : ℕ) → ReadsFirst NUM-COLUMNS NUM-TUPLES (core_tuple nr syscall)
unfolding core_tuple pointer_tuple
tuple-reads nr syscall row other same =
    let m = mu row other same in
    let s = sent row other same nr in
    let r = received row other same in
    then_same 1 83 _ _ _ _ (λ i l. ecall row other same syscall)
    (then_same 1 82 _ _ _ _ (λ i l. addr-memw row other same)
    (then_same 1 81 _ _ _ _ (λ i l t. sender Keccak (m t) (s t))
    (then_same 1 80 _ _ _ _ (λ i l t. receiver Keccak (m t) (r t))
    (then_same 50 30 _ _ _ _ (λ i l. pointer row other same (state-ptr (i / 2) 0) (omega arith) (i % 2))
    (then_same 1 29 _ _ _ _ (λ i l. align row other same)
    (then_same 4 25 _ _ _ _ (addr-bytes row other same) (lane row other same)))))))

-- "A row may be lent longer than its columns; the rest is neither read nor written": not read, whether the call is refused
-- or not
pub rest-not-read : (nr syscall : ℕ) (row : List ℕ) (i : ℕ) (out : List ℕ) →
    (core_tuple_answer nr syscall (take NUM-COLUMNS row) i out ≡ core_tuple_answer nr syscall row i out)
    × (core_tuple_after nr syscall (take NUM-COLUMNS row) i out ≡ core_tuple_after nr syscall row i out)
unfolding core_tuple_refusal
rest-not-read nr syscall row i out =
    by-rounds nr
    (λ l h.
    let rest = tuple-rest NUM-COLUMNS NUM-TUPLES (core_tuple nr syscall) (tuple-reads nr syscall) row i out in
    let e = tuple-later nr syscall front i out l h in
    let f = tuple-later nr syscall row i out l h in
    (ap (answered front) e ∙ rest.0 ∙ sym (ap (answered row) f), ap (left front) e ∙ rest.1 ∙ sym (ap (left row) f)))
    (λ no.
    let a = tuple-refused (core_tuple nr syscall front i) _ out (no _) in
    let b = tuple-refused (core_tuple nr syscall row i) _ out (no _) in
    (sym a.0 ∙ b.0, sym a.1 ∙ b.1))
  where
    front : List ℕ
    front = take NUM-COLUMNS row

    answered : List ℕ → Option Refusal → Result BusInteraction Refusal
    answered r o = tuple_answer (core_tuple nr syscall r i) o

    left : List ℕ → Option Refusal → List ℕ
    left r o = afterwards o (overwrite (core_tuple nr syscall r i).values out) out
