-- Charges in parts: a list is its operations one after the other and then the padding of the whole, and two lists are two tables,
-- charged from zero and merged.
--     segment-split    what both tables add is what each operation's rows add, and the padding rows
--     one_by_one       so the counters afterwards are those after the operations, one after the other, and then the padding
--     charge-each      the same of what the call leaves
--     charge-merged    charging a list and then another is merging, the second charged to zeros
--     charge-turned    in either order
use mathlib.Core.Bool.{Bool}
use mathlib.Core.List.{List}
use mathlib.Core.Path.{◌≡◌, refl, sym, ap, ap₂, subst, ◌∙◌}
use Prim.Native.Nat.{ℕ, zero, suc, ◌+◌, ◌-◌, ◌*◌, ◌/◌, ◌%◌, ◌≤◌, ◌<◌}
use native.Mathlib.Nat.{add_assoc, add_comm, zero-add, zero-mul, add-sub_of_le}
use native.Mathlib.Omega.{arith}
use lib.ListN.{length}
use Rattle.lists.specs.Tab.{word}
use Rattle.lists.specs.Sum.{sum_below}
use Rattle.lists.proofs.Sum.{sum_same, sum-add, sum-flat, sum_both}
use Rattle.field.specs.Elements.{ElementRow}
use Rattle.answer.specs.Refusal.{accepted}
use Rattle.answer.proofs.Overwrite.{left}
use Rattle.bitwise.specs.Columns.{NUM-COUNTERS}
use Rattle.bitwise.specs.Counters.{merged, merge_refusal, merge_after}
use Rattle.bitwise.specs.Charge.{charged_row, charged, charged_counters}
use Rattle.bitwise.proofs.Refusals.{merge-accepted}
use Rattle.bitwise.proofs.Charge.{charged-elements}
use Rattle.bitwise.proofs.Charged.{charged-length, charged-same, charged-twice, charged-merged}
use Rattle.keccak.specs.Height.{height}
use Rattle.keccak.specs.Row.{core_row, core_pad, core_row_at, op_at}
use Rattle.keccak.specs.Refusals.{op_count}
use Rattle.keccak.specs.Tuples.{core_tuple}
use Rattle.keccak.specs.declared.KeccakOperation.{KeccakOperation}
use Rattle.keccak.proofs.Height.{height-ge}
use Rattle.keccak.proofs.Table.{core-row-op, core-row-pad}
use Rattle.keccak_rnd.specs.Row.{op_row, round_pad, round_height, round_row_at}
use Rattle.keccak_rnd.specs.Tuples.{round_tuple}
use Rattle.keccak_rnd.proofs.Table.{round-row-op, round-row-pad}
use Rattle.keccak.proofs.Refusals.{other-room}
use Rattle.segment_counts.specs.Segment.{sent_rows, segment_charged, list_charged, charge_refusal, charge_after}
use Rattle.segment_counts.specs.Orders.{operation_charged, padding_charged, charged_each}
use Rattle.segment_counts.proofs.Sums.{rows-sent}
use Rattle.segment_counts.proofs.Accepted.{charge-accepted}

-- the rows of the operations are among those that send
pub sent-ge : (shipped : Bool) (n m h : ℕ) → (n ≡ 0 → m ≡ 0) → m ≤ h → m ≤ sent_rows shipped n h
sent-ge shipped n m h z l = rows-sent (λ s. m ≤ s) shipped n h (λ e. omega (arith, z e)) l

-- a sum of rows whose first m are f and whose others are pad
pub sum_rows : (m s : ℕ) (row f : ℕ → ℕ) (pad : ℕ) → m ≤ s → ((q : ℕ) → q < m → row q ≡ f q) → ((q : ℕ) → m ≤ q → row q ≡ pad)
    → sum_below s row ≡ sum_below m f + sum_below (s - m) (λ q. pad)
sum_rows m s row f pad l e z =
    ap (λ (k : ℕ). sum_below k row) (sym (add-sub_of_le l))
    ∙ sum-add m (s - m) row
    ∙ ap₂ ◌+◌ (sum_same m row f e) (sum_same (s - m) (λ q. row (m + q)) (λ q. pad) (λ q _. z (m + q) (omega arith)))

module _ (nr floor : ℕ) (shipped : Bool) (n : ℕ) (op : ℕ → KeccakOperation) (c : ℕ) where
  core-rows : charged (sent_rows shipped n (height floor n)) 84 (λ r. core_tuple nr 0 (core_row_at n op r)) c
      ≡ sum_below n (λ i. charged_row 84 (core_tuple nr 0 (core_row (op i))) c) + charged (sent_rows shipped n (height floor n) - n) 84 (λ r. core_tuple nr 0 core_pad) c
  unfolding charged
  core-rows =
      sum_rows n (sent_rows shipped n (height floor n)) (λ r. charged_row 84 (core_tuple nr 0 (core_row_at n op r)) c) (λ i. charged_row 84 (core_tuple nr 0 (core_row (op i))) c) (charged_row 84 (core_tuple nr 0 core_pad) c)
      (sent-ge shipped n n (height floor n) (λ e. e) (height-ge floor n))
      (λ r l. ap (λ (x : List ℕ). charged_row 84 (core_tuple nr 0 x) c) (core-row-op n op r l))
      (λ r l. ap (λ (x : List ℕ). charged_row 84 (core_tuple nr 0 x) c) (core-row-pad n op r l))

  round-rows : charged (sent_rows shipped n (round_height nr floor n)) 1031 (λ q. round_tuple (round_row_at nr n op q)) c
      ≡ sum_below n (λ i. charged nr 1031 (λ j. round_tuple (op_row nr (op i) j)) c) + charged (sent_rows shipped n (round_height nr floor n) - n * nr) 1031 (λ q. round_tuple round_pad) c
  unfolding charged
  round-rows =
      sum_rows (n * nr) (sent_rows shipped n (round_height nr floor n)) (λ q. charged_row 1031 (round_tuple (round_row_at nr n op q)) c) (λ q. charged_row 1031 (round_tuple (op_row nr (op (q / nr)) (q % nr))) c) (charged_row 1031 (round_tuple round_pad) c)
      (sent-ge shipped n (n * nr) (round_height nr floor n) (λ e. ap (λ (k : ℕ). k * nr) e ∙ zero-mul nr) (height-ge floor (n * nr)))
      (λ q l. ap (λ (x : List ℕ). charged_row 1031 (round_tuple x) c) (round-row-op nr n op q l))
      (λ q l. ap (λ (x : List ℕ). charged_row 1031 (round_tuple x) c) (round-row-pad nr n op q l))
      ∙ ap (λ (k : ℕ). k + sum_below (sent_rows shipped n (round_height nr floor n) - n * nr) (λ q. charged_row 1031 (round_tuple round_pad) c))
      (sum-flat n nr (λ i j. charged_row 1031 (round_tuple (op_row nr (op i) j)) c))

  pub segment-split : segment_charged nr floor shipped n op c ≡ sum_below n (λ i. operation_charged nr (op i) c) + padding_charged nr floor shipped n c
  unfolding segment_charged operation_charged padding_charged
  segment-split =
      let a = sum_below n (λ i. charged_row 84 (core_tuple nr 0 (core_row (op i))) c) in
      let b = sum_below n (λ i. charged nr 1031 (λ j. round_tuple (op_row nr (op i) j)) c) in
      let x = charged (sent_rows shipped n (height floor n) - n) 84 (λ r. core_tuple nr 0 core_pad) c in
      let y = charged (sent_rows shipped n (round_height nr floor n) - n * nr) 1031 (λ q. round_tuple round_pad) c in
      ap₂ ◌+◌ core-rows round-rows
      ∙ turned a x b y
      ∙ ap (λ (k : ℕ). k + (x + y)) (sym (sum_both n (λ i. charged_row 84 (core_tuple nr 0 (core_row (op i))) c) (λ i. charged nr 1031 (λ j. round_tuple (op_row nr (op i) j)) c)))
    where
      turned : (a x b y : ℕ) → a + x + (b + y) ≡ a + b + (x + y)
      turned a x b y = omega arith

-- ---- the operations one after the other
module _ (nr : ℕ) (op : ℕ → KeccakOperation) (C : List ℕ) (long : NUM-COUNTERS ≤ length C) where
  each-length : (n : ℕ) → length (charged_each nr op n C) ≡ length C
  unfolding charged_each
  each-length zero = refl
  each-length (suc n) =
      charged-length (charged_each nr op n C) (operation_charged nr (op n)) (subst (λ (k : ℕ). NUM-COUNTERS ≤ k) (sym (each-length n)) long) ∙ each-length n

  each-then : (n : ℕ) (g : ℕ → ℕ) → charged_counters (charged_each nr op n C) g ≡ charged_counters C (λ c. sum_below n (λ i. operation_charged nr (op i) c) + g c)
  unfolding charged_each sum_below
  each-then zero g = charged-same C g (λ c. 0 + g c) (λ c _. sym (zero-add (g c)))
  each-then (suc n) g =
      charged-twice (charged_each nr op n C) (operation_charged nr (op n)) g (subst (λ (k : ℕ). NUM-COUNTERS ≤ k) (sym (each-length n)) long)
      ∙ each-then n (λ c. operation_charged nr (op n) c + g c)
      ∙ charged-same C (λ c. sum_below n (λ i. operation_charged nr (op i) c) + (operation_charged nr (op n) c + g c)) (λ c. sum_below n (λ i. operation_charged nr (op i) c) + operation_charged nr (op n) c + g c)
      (λ c _. sym (add_assoc (sum_below n (λ i. operation_charged nr (op i) c)) (operation_charged nr (op n) c) (g c)))

  -- and then the padding of the whole
  pub one_by_one : (floor : ℕ) (shipped : Bool) (n : ℕ) → charged_counters C (segment_charged nr floor shipped n op) ≡ charged_counters (charged_each nr op n C) (padding_charged nr floor shipped n)
  one_by_one floor shipped n =
      charged-same C (segment_charged nr floor shipped n op) (λ c. sum_below n (λ i. operation_charged nr (op i) c) + padding_charged nr floor shipped n c) (λ c _. segment-split nr floor shipped n op c)
      ∙ sym (each-then n (padding_charged nr floor shipped n))

pub charge-each : (nr floor : ℕ) (shipped : Bool) (ops counters : List ℕ) → charge_refusal nr floor ops counters ≡ accepted
    → charge_after nr floor shipped ops counters ≡ charged_counters (charged_each nr (op_at ops) (op_count ops) counters) (padding_charged nr floor shipped (op_count ops))
charge-each nr floor shipped ops counters ok =
    left (charged_counters counters (list_charged nr floor shipped ops)) counters ok
    ∙ one_by_one nr (op_at ops) counters ((charge-accepted nr floor ops counters).0 ok).4.long floor shipped (op_count ops)

-- ---- two lists, each of its own number of rounds and its own floor
module _ (nr nr' floor floor' : ℕ) (shipped shipped' : Bool) (ops ops' C : List ℕ) (first : charge_refusal nr floor ops C ≡ accepted) where
  long : NUM-COUNTERS ≤ length C
  long = ((charge-accepted nr floor ops C).0 first).4.long

  after : charge_after nr floor shipped ops C ≡ charged_counters C (list_charged nr floor shipped ops)
  after = left (charged_counters C (list_charged nr floor shipped ops)) C first

  elements : ElementRow NUM-COUNTERS (charge_after nr floor shipped ops C)
  elements = subst (ElementRow NUM-COUNTERS) (sym after) (charged-elements C (list_charged nr floor shipped ops) long)

  -- what is accepted for any counters is accepted for these
  pub charge-next : (Z : List ℕ) → charge_refusal nr' floor' ops' Z ≡ accepted → charge_refusal nr' floor' ops' (charge_after nr floor shipped ops C) ≡ accepted
  charge-next Z second =
      let b = (charge-accepted nr' floor' ops' Z).0 second in
      (charge-accepted nr' floor' ops' (charge_after nr floor shipped ops C)).1 (b.0, b.1, b.2, other-room b.3 (length (charge_after nr floor shipped ops C)) NUM-COUNTERS elements.long, elements)

  twice : (Z : List ℕ) → charge_refusal nr' floor' ops' Z ≡ accepted
      → charge_after nr' floor' shipped' ops' (charge_after nr floor shipped ops C) ≡ charged_counters (charged_counters C (list_charged nr floor shipped ops)) (list_charged nr' floor' shipped' ops')
  twice Z second =
      left (charged_counters (charge_after nr floor shipped ops C) (list_charged nr' floor' shipped' ops')) (charge_after nr floor shipped ops C) (charge-next Z second)
      ∙ ap (λ (l : List ℕ). charged_counters l (list_charged nr' floor' shipped' ops')) after

  -- the second list charged to zeros of its own
  module _ (Z : List ℕ) (zeros : (c : ℕ) → c < NUM-COUNTERS → word Z c ≡ 0) (second : charge_refusal nr' floor' ops' Z ≡ accepted) where
    long-z : NUM-COUNTERS ≤ length Z
    long-z = ((charge-accepted nr' floor' ops' Z).0 second).4.long

    after-z : charge_after nr' floor' shipped' ops' Z ≡ charged_counters Z (list_charged nr' floor' shipped' ops')
    after-z = left (charged_counters Z (list_charged nr' floor' shipped' ops')) Z second

    pub merge-next : merge_refusal (charge_after nr floor shipped ops C) (charge_after nr' floor' shipped' ops' Z) ≡ accepted
    merge-next =
        (merge-accepted (charge_after nr floor shipped ops C) (charge_after nr' floor' shipped' ops' Z)).1
        (elements, subst (ElementRow NUM-COUNTERS) (sym after-z) (charged-elements Z (list_charged nr' floor' shipped' ops') long-z))

    pub charge-merged : charge_after nr' floor' shipped' ops' (charge_after nr floor shipped ops C) ≡ merge_after (charge_after nr floor shipped ops C) (charge_after nr' floor' shipped' ops' Z)
    charge-merged =
        left (charged_counters (charge_after nr floor shipped ops C) (list_charged nr' floor' shipped' ops')) (charge_after nr floor shipped ops C) (charge-next Z second)
        ∙ sym (charged-merged (charge_after nr floor shipped ops C) Z (list_charged nr' floor' shipped' ops') zeros)
        ∙ ap (merged (charge_after nr floor shipped ops C)) (sym after-z)
        ∙ sym (left (merged (charge_after nr floor shipped ops C) (charge_after nr' floor' shipped' ops' Z)) (charge_after nr floor shipped ops C) merge-next)

-- in either order
pub charge-turned : (nr nr' floor floor' : ℕ) (shipped shipped' : Bool) (ops ops' C : List ℕ) → charge_refusal nr floor ops C ≡ accepted → charge_refusal nr' floor' ops' C ≡ accepted
    → charge_after nr' floor' shipped' ops' (charge_after nr floor shipped ops C) ≡ charge_after nr floor shipped ops (charge_after nr' floor' shipped' ops' C)
charge-turned nr nr' floor floor' shipped shipped' ops ops' C first second =
    let f = list_charged nr floor shipped ops in
    let g = list_charged nr' floor' shipped' ops' in
    let l : NUM-COUNTERS ≤ length C = ((charge-accepted nr floor ops C).0 first).4.long in
    twice nr nr' floor floor' shipped shipped' ops ops' C first C second
    ∙ charged-twice C f g l
    ∙ charged-same C (λ c. f c + g c) (λ c. g c + f c) (λ c _. add_comm (f c) (g c))
    ∙ sym (charged-twice C g f l)
    ∙ sym (twice nr' nr floor' floor shipped' shipped ops' ops C second C first)
