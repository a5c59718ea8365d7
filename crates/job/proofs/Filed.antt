-- Where the job holds and every active round row was filed with a core row of its timestamp, every segment holds (`filed-holds`): so a segment of
-- a job that holds fails only "because a round row was filed with the wrong segment".
--     tuples-parts    what is sent or received in a table, part by part
--     none-there      a tuple that no active row has is sent and received by none
--     even-part       a tuple with the timestamp of a core row of a segment is as even there as in the job
use mathlib.Core.Path.{◌≡◌, refl, sym, ap, subst, ◌∙◌}
use mathlib.Core.Bool.{◌&&◌}
use mathlib.Core.Logic.{inl, inr}
use mathlib.Core.List.{List}
use Prim.Native.Nat.{ℕ, zero, suc, ◌+◌, ◌≤◌, ◌<◌}
use native.Mathlib.Omega.{arith}
use Rattle.lists.specs.Tab.{word, followed_by}
use Rattle.lists.specs.First.{count_below}
use Rattle.lists.specs.Select.{words_test}
use Rattle.lists.specs.Sum.{sum_below}
use Rattle.lists.proofs.Count.{count-find}
use Rattle.lists.proofs.Select.{words-sound}
use Rattle.lists.proofs.Sum.{sum_same, sum-add, sum-place}
use Rattle.lists.proofs.Tests.{T_of, and-true}
use Rattle.lists.proofs.Then.{by_le}
use Rattle.tuple.specs.declared.Bus.TheVariants.{Keccak}
use Rattle.tuple.specs.declared.Side.{Side}
use Rattle.tuple.specs.declared.Side.TheVariants.{Sender, Receiver}
use Rattle.keccak.specs.Tuples.{core_tuple, core_sent, core_received, keccak_values}
use Rattle.keccak_rnd.specs.Tuples.{round_tuple, round_sent, round_received}
use Rattle.verdict.specs.Kind.{Layout, Kind, rows, row, is_active, active, actives, Active, SameTimestamp, keccak_test, active_tuple, active_tuples, OnBus, BalancedAt, Balanced}
use Rattle.verdict.specs.CoreAndRound.{core_layout, round_layout, core_kind, round_kind, verdict_at}
use Rattle.verdict.specs.Job.{Separate}
use Rattle.verdict.specs.declared.Table.TheVariants.{Core, Round}
use Rattle.verdict.specs.declared.Verdict.TheVariants.{Holds, Unbalanced}
use Rattle.verdict.proofs.Failures.{verdict-says, core-places, round-places}
use Rattle.verdict.proofs.Judge.{active-is}
use Rattle.verdict.proofs.Tuples.{active_tuple_at, place, active-tuples-count, core-bus, round-bus}
use Rattle.job.specs.Report.{segment_count, core_rows, round_rows, part_at, job_segment, verdict_on, Split, Checked}
use Rattle.job.proofs.Parts.{part-rows}
use Rattle.job.proofs.Together.{held-apart, held-balance}
use Rattle.job.proofs.Whole.{part-there, table-row}

-- ---- sums, part by part
sum-split : (f h : ℕ → ℕ) (n : ℕ) → sum_below (sum_below n f) h ≡ sum_below n (λ i. sum_below (f i) (λ q. h (sum_below i f + q)))
unfolding sum_below
sum-split f h zero = refl
sum-split f h (suc n) = sum-add (sum_below n f) (f n) h ∙ ap (λ (m : ℕ). m + sum_below (f n) (λ q. h (sum_below n f + q))) (sum-split f h n)

module _ (A : Layout) (wide : 0 < A.width) (ws : List ℕ) (f : ℕ → ℕ) (n : ℕ) (sum : sum_below n f ≡ rows A ws) (g : List ℕ → ℕ) where
  sum-parts : sum_below (rows A ws) (λ r. g (row A ws r)) ≡ sum_below n (λ i. sum_below (rows A (part_at A ws f i)) (λ q. g (row A (part_at A ws f i) q)))
  sum-parts =
      ap (λ (m : ℕ). sum_below m (λ r. g (row A ws r))) (sym sum) ∙ sum-split f (λ r. g (row A ws r)) n
      ∙ sum_same n (λ i. sum_below (f i) (λ q. g (row A ws (sum_below i f + q)))) (λ i. sum_below (rows A (part_at A ws f i)) (λ q. g (row A (part_at A ws f i) q))) (λ i l.
      ap (λ (m : ℕ). sum_below m (λ q. g (row A ws (sum_below i f + q)))) (sym (part-rows A ws (sum_below i f) (f i) (part-there A ws f n sum i l) wide))
      ∙ sum_same (rows A (part_at A ws f i)) (λ q. g (row A ws (sum_below i f + q))) (λ q. g (row A (part_at A ws f i) q))
      (λ q k. ap g (sym (table-row A ws f n sum wide i l q k))))

tuples-parts : (K : Kind) → 0 < K.layout.width → (s : Side) (ws x : List ℕ) (f : ℕ → ℕ) (n : ℕ) → sum_below n f ≡ rows K.layout ws →
    active_tuples K s ws x ≡ sum_below n (λ i. active_tuples K s (part_at K.layout ws f i) x)
unfolding active_tuples active_tuple
tuples-parts K wide s ws x f n sum =
    sum-parts K.layout wide ws f n sum (λ y. count_below (λ i. (is_active K.layout y && keccak_test s x (K.tuple y i))) K.tuples)

-- ---- tuples and timestamps
none-there : {K : Kind} {S R : ℕ} (bus : OnBus K S R) (s : Side) (ws x : List ℕ) →
    ((r : ℕ) → Active K.layout ws r → x ≡ (K.tuple (row K.layout ws r) (place bus s)).values → ⊥) → active_tuples K s ws x ≡ 0
unfolding active_tuple_at
none-there {K} bus s ws x absent =
    by_le 1 (active_tuples K s ws x)
    (λ h.
    let f = count-find (active_tuple_at K (place bus s) ws x) (rows K.layout ws) (subst (λ (n : ℕ). 1 ≤ n) (active-tuples-count bus s ws x) h) in
    let v : List ℕ = (K.tuple (row K.layout ws f.0) (place bus s)).values in
    let g = and-true (active K.layout ws f.0) (words_test x v) f.2 in
    absurd (absent f.0 (active-is K.layout ws f.0 f.1 g.0) (words-sound x v (T_of (words_test x v) g.1))))
    (λ l. omega arith)

-- both Keccak tuples of a row begin with its timestamp
core-stamp : (nr : ℕ) (s : Side) (y : List ℕ) → SameTimestamp (core_tuple nr 0 y (place (core-bus nr) s)).values y
unfolding core_tuple followed_by core_sent core_received keccak_values
core-stamp nr Sender y = (refl, refl)
core-stamp nr Receiver y = (refl, refl)

round-stamp : (s : Side) (y : List ℕ) → SameTimestamp (round_tuple y (place round-bus s)).values y
unfolding round_tuple followed_by round_sent round_received keccak_values
round-stamp Sender y = (refl, refl)
round-stamp Receiver y = (refl, refl)

stamp-trans : (x y z : List ℕ) → SameTimestamp x y → SameTimestamp y z → SameTimestamp x z
stamp-trans x y z e f = (e.0 ∙ f.0, e.1 ∙ f.1)

stamp-sym : (x y : List ℕ) → SameTimestamp x y → SameTimestamp y x
stamp-sym x y e = (sym e.0, sym e.1)

stamp-of : (x y : List ℕ) → x ≡ y → SameTimestamp x y
stamp-of x y e = (ap (λ (z : List ℕ). word z 0) e, ap (λ (z : List ℕ). word z 1) e)

-- ---- a job that holds, with every round row where its core row is
module _ (nr : ℕ) (core round counts : List ℕ) (tables : Checked core round) (split : Split core round counts) (m : ℕ) (holds : verdict_at nr core round ≡ Holds m) where
  abbrev n : ℕ
  n = segment_count counts

  abbrev core_at : ℕ → List ℕ
  core_at i = (job_segment core round counts i).core-table

  abbrev round_at : ℕ → List ℕ
  round_at i = (job_segment core round counts i).round-table

  -- the active round rows of every segment have the timestamps of its active core rows
  abbrev pub WellFiled : Type 0
  WellFiled = (i : ℕ) → i < n → (q : ℕ) → Active round_layout (round_at i) q →
      (r : ℕ) × Active core_layout (core_at i) r × SameTimestamp (row round_layout (round_at i) q) (row core_layout (core_at i) r)

  module _ (filed : WellFiled) (i : ℕ) (l : i < n) where
    -- a tuple with the timestamp of core row c of segment i
    module _ (x : List ℕ) (c : ℕ) (a : Active core_layout (core_at i) c) (own : SameTimestamp x (row core_layout (core_at i) c)) where
      -- no core row of another segment has it
      other-core : (j : ℕ) → j < n → (j ≡ i → ⊥) → (r : ℕ) → Active core_layout (core_at j) r → SameTimestamp x (row core_layout (core_at j) r) → ⊥
      unfolding Separate
      other-core j k differ r b e =
          let same = stamp-trans (row core_layout (core_at i) c) x (row core_layout (core_at j) r) (stamp-sym x (row core_layout (core_at i) c) own) e in
          by_le i j
          (λ h. held-apart nr core round counts tables split m holds i j (omega arith) k c r a b same)
          (λ h. held-apart nr core round counts tables split m holds j i h l r c b a (stamp-sym (row core_layout (core_at i) c) (row core_layout (core_at j) r) same))

      core-part : (s : Side) → active_tuples (core_kind nr) s core x ≡ active_tuples (core_kind nr) s (core_at i) x
      core-part s =
          tuples-parts (core_kind nr) (omega arith) s core x (core_rows counts) n split.core-sum
          ∙ sum-place n i (λ j. active_tuples (core_kind nr) s (core_at j) x) l (λ j k differ.
          none-there (core-bus nr) s (core_at j) x (λ r b e.
          let y : List ℕ = row core_layout (core_at j) r in
          other-core j k differ r b (stamp-trans x (core_tuple nr 0 y (place (core-bus nr) s)).values y (stamp-of x (core_tuple nr 0 y (place (core-bus nr) s)).values e) (core-stamp nr s y))))

      round-part : (s : Side) → active_tuples round_kind s round x ≡ active_tuples round_kind s (round_at i) x
      round-part s =
          tuples-parts round_kind (omega arith) s round x (round_rows counts) n split.round-sum
          ∙ sum-place n i (λ j. active_tuples round_kind s (round_at j) x) l (λ j k differ.
          none-there round-bus s (round_at j) x (λ q b e.
          let y : List ℕ = row round_layout (round_at j) q in
          let o = filed j k q b in
          other-core j k differ o.0 o.1 (stamp-trans x y (row core_layout (core_at j) o.0)
          (stamp-trans x (round_tuple y (place round-bus s)).values y (stamp-of x (round_tuple y (place round-bus s)).values e) (round-stamp s y)) o.2)))

      even-part : BalancedAt (core_kind nr) round_kind (core_at i) (round_at i) x
      unfolding Balanced
      even-part =
          let b = ((verdict-says nr core round (Holds m)).0 holds).3 x in
          omega (arith, b, core-part Sender, core-part Receiver, round-part Sender, round-part Receiver)

    core-place : (k : ℕ) (y : List ℕ) → (core_tuple nr 0 y k).bus ≡ Keccak → SameTimestamp (core_tuple nr 0 y k).values y
    core-place k y e = elim (core-places nr y k e) [
      | inl z ↦ subst (λ (h : ℕ). SameTimestamp (core_tuple nr 0 y h).values y) (sym z.0) (core-stamp nr Sender y)
      | inr z ↦ subst (λ (h : ℕ). SameTimestamp (core_tuple nr 0 y h).values y) (sym z.0) (core-stamp nr Receiver y)
    ]

    round-place : (k : ℕ) (y : List ℕ) → (round_tuple y k).bus ≡ Keccak → SameTimestamp (round_tuple y k).values y
    round-place k y e = elim (round-places y k e) [
      | inl z ↦ subst (λ (h : ℕ). SameTimestamp (round_tuple y h).values y) (sym z.0) (round-stamp Sender y)
      | inr z ↦ subst (λ (h : ℕ). SameTimestamp (round_tuple y h).values y) (sym z.0) (round-stamp Receiver y)
    ]

    core-even : (r k : ℕ) → verdict_at nr (core_at i) (round_at i) ≡ Unbalanced Core r k → ⊥
    core-even r k e =
        let u = ((verdict-says nr (core_at i) (round_at i) (Unbalanced Core r k)).0 e).1.fails in
        u.differ (even-part (core_tuple nr 0 (row core_layout (core_at i) r) k).values r u.active (core-place k (row core_layout (core_at i) r) u.on-bus))

    round-even : (q k : ℕ) → verdict_at nr (core_at i) (round_at i) ≡ Unbalanced Round q k → ⊥
    round-even q k e =
        let u = ((verdict-says nr (core_at i) (round_at i) (Unbalanced Round q k)).0 e).1.fails in
        let y : List ℕ = row round_layout (round_at i) q in
        let o = filed i l q u.active in
        u.differ (even-part (round_tuple y k).values o.0 o.1 (stamp-trans (round_tuple y k).values y (row core_layout (core_at i) o.0) (round-place k y u.on-bus) o.2))

    pub filed-holds : verdict_on nr core round counts i ≡ Holds (actives core_layout (core_at i))
    unfolding verdict_on
    filed-holds = elim (held-balance nr core round counts tables split m holds i l) [
      | inl e ↦ e
      | inr x ↦ elim x.2 [
        | inl e ↦ absurd (core-even x.0 x.1 e)
        | inr e ↦ absurd (round-even x.0 x.1 e)
      ]
    ]
