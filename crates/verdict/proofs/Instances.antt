-- Closed instances: tables of concrete operations for which what a statement supposes is met.
--     segments-hold      two written segments apart, and the job that they make holds
--     exchanged-named    "Two core rows share a timestamp, outputs exchanged, otherwise honest: the verdict names the
--                        timestamp."
--     late-unbalanced    "A row with ROUND 24, zero constant and MU 1 passes its values and lookups, and the bus is
--                        unbalanced."
--     full-holds, full-differs   "Padding rows may differ.": two round tables that hold with one core table, whose padding rows have
--                        no word in common but MU
use mathlib.Core.Path.{◌≡◌, refl, sym, ap, subst, ◌∙◌}
use mathlib.Core.Logic.{◌⊎◌, inl, inr}
use mathlib.Core.List.Memᴰ
use mathlib.Core.List.{List, [], ◌∷◌, Memᴰ}
use Prim.Native.Nat.{ℕ, zero, suc, ◌+◌, ◌-◌, ◌*◌, ◌/◌, ◌%◌, ◌≤◌, ◌<◌}
use native.Mathlib.Omega.{arith}
use lib.ListN.{length, get_or, get_or-eq_default}
use Rattle.lists.specs.Tab.{word, row_at}
use Rattle.lists.proofs.Laws.{length-tab, get_d-tab, tab-same, list-tab}
use Rattle.lists.proofs.Then.{by_le, then-all, part_start, part_size, part_at, then_at, then-from}
use Rattle.field.specs.Field.{p}
use Rattle.bits.specs.Bits.{word_at}
use Rattle.fips202.specs.Lanes.{Lanes}
use Rattle.keccak.specs.declared.KeccakOperation.{KeccakOperation}
use Rattle.keccak_rnd.specs.Columns.{MU, ROUND}
use Rattle.keccak_rnd.specs.Row.{round_row, round_pad, round_row_at, round_height, round_table}
use Rattle.keccak_rnd.specs.Passes.{Idle}
use Rattle.keccak_rnd.proofs.Cases.{heights}
use Rattle.keccak_rnd.proofs.Cells.{length-round, written-cells}
use Rattle.keccak_rnd.proofs.Completeness.{round-written, round-words, pad-word}
use Rattle.keccak_rnd.proofs.Table.{round-row-pad, round-table-row}
use Rattle.verdict.specs.Kind.{rows, row, actives, Passes}
use Rattle.verdict.specs.CoreAndRound.{core_layout, round_layout, core_kind, round_kind, verdict_of}
use Rattle.verdict.specs.Failures.{ToRepeat, ToCoreBalance}
use Rattle.verdict.specs.Job.{Segment, job_core, job_round, job_actives, Separate, SegmentsApart}
use Rattle.verdict.specs.Honest.{RightOperation, flat_state, witness, last_witness, one_core, one_round, two_segments, exchanged, exchanged_core, exchanged_round, late_round, full_word, full_pad, full_round}
use Rattle.verdict.specs.declared.Table.TheVariants.{Core, Round}
use Rattle.verdict.specs.declared.Verdict.TheVariants.{Holds, Repeated, Unbalanced}
use Rattle.verdict.proofs.Tables.{RowPasses, row-passes, table-rows}
use Rattle.verdict.proofs.TwoTables.{is-off}
use Rattle.verdict.proofs.Unique.{new_row, repadded-holds}
use Rattle.verdict.proofs.Failures.{timestamp-twice}
use Rattle.verdict.proofs.Late.{late-row}
use Rattle.verdict.proofs.Job.{join-rows, join-right, join-passes, job-holds}
use Rattle.verdict.proofs.Demand3.{demand3}
use Rattle.verdict.proofs.Honest.{core-passes, round-passes, made-active, active-made, made-t0, made-t1, flat-lanes, witness-right, last-right, one-supposed, one_holds}

-- ---- a repeated timestamp
exchanged-lanes : (i : ℕ) → Lanes (exchanged i).input
unfolding exchanged
exchanged-lanes zero = flat-lanes 0 (omega arith)
exchanged-lanes (suc i) = flat-lanes 1 (omega arith)

exchanged-stamp : (i : ℕ) → (exchanged i).timestamp ≡ 5
unfolding exchanged
exchanged-stamp zero = refl
exchanged-stamp (suc i) = refl

exchanged-address : (i : ℕ) → (exchanged i).state_addr ≡ 4096
unfolding exchanged
exchanged-address zero = refl
exchanged-address (suc i) = refl

exchanged-core : Passes (core_kind 24) exchanged_core
exchanged-core =
    core-passes 4 2 exchanged (λ i l. omega (arith, exchanged-stamp i)) 24 (λ i l. omega (arith, exchanged-address i))
    (λ i l. ap (λ (a : ℕ). a % 8) (exchanged-address i))

exchanged-round : Passes round_kind exchanged_round
exchanged-round = round-passes 4 2 exchanged (λ i l. omega (arith, exchanged-stamp i)) 24 (omega arith) (λ i l. exchanged-lanes i)

pub exchanged-met : ToRepeat (core_kind 24) round_kind exchanged_core exchanged_round
exchanged-met =
    let c = exchanged-core in
    let d = exchanged-round in
    (((c.whole, d.whole, c.below, d.below), c.values), c.lookups)

pub exchanged-named : verdict_of exchanged_core exchanged_round ≡ Repeated 1
exchanged-named =
    let same : (k : ℕ) → word_at (exchanged 0).timestamp k ≡ word_at (exchanged 1).timestamp k = λ k. ap (λ (t : ℕ). word_at t k) (exchanged-stamp 0 ∙ sym (exchanged-stamp 1)) in
    let t = timestamp-twice (core_kind 24) round_kind exchanged_core exchanged_round exchanged-met 0 1 (omega arith) (made-active 4 2 exchanged 0 (omega arith)) (made-active 4 2 exchanged 1 (omega arith)) (
      made-t0 4 2 exchanged 0 (omega arith) ∙ same 0 ∙ sym (made-t0 4 2 exchanged 1 (omega arith)),
      made-t1 4 2 exchanged 0 (omega arith) ∙ same 1 ∙ sym (made-t1 4 2 exchanged 1 (omega arith)),
    ) in
    let e : t.0 ≡ 1 = omega (arith, t.1, t.2.before) in
    t.3 ∙ ap Repeated e

-- ---- a row past the last round
abbrev late_row : List ℕ
late_row = round_row (word_at 5) 24 (flat_state 0)

late-alone : row round_layout late_row 0 ≡ late_row
unfolding row_at
late-alone =
    tab-same 1480 (λ k. get_or late_row (0 * 1480 + k) 0) (λ k. get_or late_row k 0) (λ k l. let e : 0 * 1480 + k ≡ k = omega arith in ap (λ (m : ℕ). get_or late_row m 0) e)
    ∙ sym (list-tab late_row 1480 (length-round (word_at 5) 24 (flat_state 0)))

stamp-small : (word_at 5 0 < p) × (word_at 5 1 < p)
unfolding word_at
stamp-small = (omega arith, omega arith)

late-passes : Passes round_kind late_row
late-passes =
    let n = length-round (word_at 5) 24 (flat_state 0) in
    let z = flat-lanes 0 (omega arith) in
    let ok = round-written (word_at 5) 24 (flat_state 0) z (omega arith) in
    row-passes round_kind (omega arith) late_row (ap (λ (m : ℕ). m % 1480) n) (λ r l.
    let e : r ≡ 0 = omega (arith, n) in
    subst (λ (i : ℕ). RowPasses round_kind (row round_layout late_row i)) (sym e) (subst (RowPasses round_kind) (sym late-alone)
    (record { size = n; below = λ k g. round-words (word_at 5) 24 (flat_state 0) stamp-small.0 stamp-small.1 (omega arith) z k; values = ok.values; lookups = ok.lookups })))

one-round : Passes round_kind (one_round witness)
one-round = round-passes 4 1 (λ i. witness) (λ i l. omega arith) 24 (omega arith) (λ i l. flat-lanes 0 (omega arith))

late-round : Passes round_kind late_round
late-round = join-passes round_kind (omega arith) (one_round witness) late_row one-round.whole one-round late-passes

pub late-met : ToCoreBalance (core_kind 24) round_kind (one_core witness) late_round
late-met =
    let s = one-supposed witness witness-right in
    let c = s.passes in
    let d = late-round in
    ((((((c.whole, d.whole, c.below, d.below), c.values), c.lookups), s.apart), d.values), d.lookups)

pub late-unbalanced : (r i : ℕ) × ((verdict_of (one_core witness) late_round ≡ Unbalanced Core r i) ⊎ (verdict_of (one_core witness) late_round ≡ Unbalanced Round r i))
late-unbalanced =
    let e = join-right round_layout (omega arith) (one_round witness) late_row one-round.whole 0 ∙ late-alone in
    let w = written-cells (word_at 5) 24 (flat_state 0) in
    let n : rows round_layout late_row ≡ 1 = ap (λ (m : ℕ). m / 1480) (length-round (word_at 5) 24 (flat_state 0)) in
    late-row 24 (one_core witness) late_round late-met (rows round_layout (one_round witness) + 0)
    (record { there = omega (arith, join-rows round_layout (omega arith) (one_round witness) late_row one-round.whole, n); on = ap (λ (x : List ℕ). word x MU) e ∙ w.mu-is })
    (omega (arith, ap (λ (x : List ℕ). word x ROUND) e ∙ w.round_is))

-- ---- other padding rows
abbrev full_parts : List (ℕ × (ℕ → ℕ))
full_parts = (363, λ k. p - 1) ∷ (40, λ k. 255) ∷ (20, λ k. 1) ∷ (240, λ k. p - 1) ∷ (400, λ k. 255) ∷ (416, λ k. p - 1) ∷ []

full_at : (j k : ℕ) → k < part_size full_parts j → full_word (part_start full_parts j + k) ≡ part_at (λ k. 0) full_parts j k
unfolding full_word
full_at = then_at (λ k. 0) full_parts

full-last : full_word 1479 ≡ 0
unfolding full_word
full-last = then-from (λ k. 0) full_parts 6 0

-- each word is below p, and none but the last is 0
full-each : (P : ℕ → Type 0) (i : ℕ) → P (p - 1) → P 255 → P 1 → (1479 ≤ i → P 0) → P (full_word i)
unfolding full_word
full-each P i free byte bit last =
    then-all P 363 _ _ i (λ l. free)
    (λ a e₁. then-all P 40 _ _ a (λ l. byte)
    (λ b e₂. then-all P 20 _ _ b (λ l. bit)
    (λ c e₃. then-all P 240 _ _ c (λ l. free)
    (λ d e₄. then-all P 400 _ _ d (λ l. byte)
    (λ f e₅. then-all P 416 _ _ f (λ l. free)
    (λ g e₆. last (omega arith)))))))

full_size : length full_pad ≡ 1480
unfolding full_pad
full_size = length-tab 1480 full_word

full-word : (k : ℕ) → k < 1480 → word full_pad k ≡ full_word k
unfolding full_pad
full-word k l = get_d-tab 1480 full_word k 0 l

full-below : (k : ℕ) → word full_pad k < p
full-below k =
    by_le 1480 k
    (λ l. subst (λ (n : ℕ). n < p) (sym (get_or-eq_default full_pad 0 {n = k} (omega (arith, full_size)))) (omega arith))
    (λ l. subst (λ (n : ℕ). n < p) (sym (full-word k l)) (full-each (λ n. n < p) k (omega arith) (omega arith) (omega arith) (λ c. omega arith)))

full-some : (k : ℕ) → k < 1479 → 0 < word full_pad k
full-some k l = subst (λ (n : ℕ). 0 < n) (sym (full-word k (omega arith))) (full-each (λ n. 0 < n) k (omega arith) (omega arith) (omega arith) (λ c. omega arith))

pub full-idle : Idle full_pad
full-idle =
    record {
      off = full-word 1479 (omega arith) ∙ full-last;
      left-bytes = λ k l. omega (arith, full-word (363 + k) (omega arith) ∙ full_at 1 k l);
      right-bits = λ k l. omega (arith, full-word (403 + k) (omega arith) ∙ full_at 2 k l);
      rot-left-bytes = λ k l. omega (arith, full-word (663 + k) (omega arith) ∙ full_at 4 k (omega arith));
      rot-right-bytes = λ k l. omega (arith, full-word (863 + k) (omega arith) ∙ ap full_word (later k) ∙ full_at 4 (200 + k) (omega arith));
    }
  where
    later : (k : ℕ) → 863 + k ≡ 663 + (200 + k)
    later k = omega arith

-- both hold with the core table of a right operation
pub full-holds : (o : KeccakOperation) → RightOperation 24 o → verdict_of (one_core o) (full_round o) ≡ Holds 1
full-holds o right = repadded-holds (λ r. full_pad) (λ r. full_size) (λ r. full-below) (λ r. full-idle) (one_round o) 24 (one_core o) 1 (one_holds o right)

-- and they differ in each padding row: those of the one are zero, those of the other have a zero in no column but MU
module _ (o : KeccakOperation) (q : ℕ) (past : 24 ≤ q) (there : q < 32) where
  zero_row : row round_layout (one_round o) q ≡ round_pad
  zero_row = round-table-row 24 1 (λ i. o) 4 q (subst (λ (n : ℕ). q < n) (sym heights.1) there) ∙ round-row-pad 24 1 (λ i. o) q past

  one-rows : rows round_layout (one_round o) ≡ 32
  unfolding round_table
  one-rows = table-rows round_layout (omega arith) (round_height 24 4 1) (round_row_at 24 1 (λ i. o)) ∙ heights.1

  full-row : row round_layout (full_round o) q ≡ full_pad
  full-row =
      new_row (λ r. full_pad) (λ r. full_size) (λ r. full-below) (λ r. full-idle) (one_round o) q (omega (arith, one-rows))
      (is-off round_layout (row round_layout (one_round o) q) (ap (λ (x : List ℕ). word x MU) zero_row ∙ pad-word MU))

  pub full-differs : (k : ℕ) → k < 1479 → word (row round_layout (one_round o) q) k ≡ word (row round_layout (full_round o) q) k → ⊥
  full-differs k l e =
      omega (arith, full-some k l, sym (ap (λ (x : List ℕ). word x k) full-row) ∙ sym e ∙ ap (λ (x : List ℕ). word x k) zero_row ∙ pad-word k)

-- ---- two segments
-- what holds of a segment holds of each of a list of it, and what holds of two of each of a list of both
the_one : (P : Segment → Type 0) (g : Segment) → P g → (k : Segment) → Memᴰ k (g ∷ []) → P k
the_one P g a k m = elim (Memᴰ.cases_cons m) [
  | inl e ↦ subst P (sym e) a
  | inr n ↦ absurd (Memᴰ.not-nil n)
]

each_of : (P : Segment → Type 0) (g h : Segment) → P g → P h → (k : Segment) → Memᴰ k (g ∷ h ∷ []) → P k
each_of P g h a b k m = elim (Memᴰ.cases_cons m) [
  | inl e ↦ subst P (sym e) a
  | inr n ↦ the_one P h b k n
]

-- operations of different timestamps
one-separate : (o o' : KeccakOperation) → (word_at o.timestamp 0 ≡ word_at o'.timestamp 0 → ⊥) → Separate core_layout (one_core o) (one_core o')
unfolding Separate
one-separate o o' differ q r a b e =
    let l = active-made 4 1 (λ i. o) q a in
    let g = active-made 4 1 (λ i. o') r b in
    differ (sym (made-t0 4 1 (λ i. o) q l) ∙ e.0 ∙ made-t0 4 1 (λ i. o') r g)

pub two-apart : SegmentsApart two_segments
unfolding word_at
two-apart =
    let other = one-separate witness last_witness (λ e. omega (arith, e)) in (
      the_one (λ k. Separate core_layout (one_core witness) k.core-table) _ other,
      ((λ h m. absurd (Memᴰ.not-nil m)), tt),
    )

one-actives : (o : KeccakOperation) → RightOperation 24 o → 1 ≡ actives core_layout (one_core o)
one-actives o right = (demand3 (one_core o) (one-supposed o right)).number (one_round o) 1 (one_holds o right)

pub segments-hold : verdict_of (job_core two_segments) (job_round two_segments) ≡ Holds 2
unfolding job_actives
segments-hold =
    job-holds 24 two_segments
    (each_of (λ g. (n : ℕ) × (verdict_of g.core-table g.round-table ≡ Holds n)) _ _ (1, one_holds witness witness-right) (1, one_holds last_witness last-right)) two-apart
    ∙ ap Holds (omega (arith, one-actives witness witness-right, one-actives last_witness last-right))
