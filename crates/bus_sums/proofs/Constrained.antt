-- What the constraints alone say of a core table and a round table: MU is 0 or 1, so each tuple adds 0 or 1 to a sum,
-- and on the Keccak bus the sums are what the verdict counts.
use mathlib.Core.List.{List}
use mathlib.Core.Path.{◌≡◌, sym, ◌∙◌}
use Prim.Native.Nat.{ℕ, ◌*◌, ◌^◌, ◌≤◌, ◌<◌}
use native.Mathlib.Omega.{arith}
use Rattle.lists.specs.Tab.{word}
use Rattle.lists.proofs.Then.{then-past}
use Rattle.tuple.specs.declared.Bus.{Bus}
use Rattle.tuple.specs.declared.Bus.TheVariants.{Keccak}
use Rattle.tuple.specs.declared.Side.{Side}
use Rattle.templates.specs.Templates.{is_bit}
use Rattle.templates.proofs.Bit.{bit_is}
use Rattle.keccak.specs.Values.{core_value}
use Rattle.keccak_rnd.proofs.Passing.{round-bit}
use Rattle.verdict.specs.Kind.{Kind, rows, row, active_tuples}
use Rattle.verdict.specs.CoreAndRound.{core_layout, round_layout, core_kind, round_kind}
use Rattle.verdict.proofs.Tables.{row_below}
use Rattle.verdict.proofs.Tuples.{core-bus, round-bus}
use Rattle.bus_sums.specs.Sums.{tuple_at, table_share, Constrained}
use Rattle.bus_sums.proofs.Shares.{shares-line}
use Rattle.bus_sums.proofs.Buses.{core-line, round-line, core-most, round-most}
use Rattle.bus_sums.proofs.Carried.{active-tuples-share}

-- ---- MU is a bit, by the constraints
mu-bit : (K : Kind) (ws : List ℕ) → Constrained K ws → (i : ℕ) → i < K.values → K.layout.mu < K.layout.width →
    ((x : List ℕ) → K.value x i ≡ is_bit (word x K.layout.mu)) →
    (r : ℕ) → r < rows K.layout ws → word (row K.layout ws r) K.layout.mu < 2
mu-bit K ws c i li lm e r l =
    bit_is (word (row K.layout ws r) K.layout.mu) (row_below K ws c.below r K.layout.mu l lm) (sym (e (row K.layout ws r)) ∙ c.values r i l li)

core-bit : (x : List ℕ) → core_value x 51 ≡ is_bit (word x 485)
unfolding core_value
core-bit x = then-past 50 51 _ _ (omega arith) ∙ then-past 1 1 _ _ (omega arith)

module _ (nr : ℕ) (core : List ℕ) (c : Constrained (core_kind nr) core) where
  pub core-mu : (r : ℕ) → r < rows core_layout core → word (row core_layout core r) 485 < 2
  core-mu = mu-bit (core_kind nr) core c 51 (omega arith) (omega arith) core-bit

  pub core-few : (s : Side) (b : Bus) (v : List ℕ) → table_share s b v (core_kind nr) core ≤ 2 ^ 35 * 84
  unfolding tuple_at
  core-few s b v =
      let a = shares-line s b v (rows core_layout core) 84 (tuple_at (core_kind nr) core) 84 (λ r l. omega (arith, core-line s b nr (row core_layout core r), core-most s b _ (core-mu r l))) in
      omega (arith, a, c.few)

  pub core-carried : (s : Side) (v : List ℕ) → table_share s Keccak v (core_kind nr) core ≡ active_tuples (core_kind nr) s core v
  core-carried = active-tuples-share (core_kind nr) core (core-bus nr) core-mu

module _ (round : List ℕ) (c : Constrained round_kind round) where
  pub round-mu : (r : ℕ) → r < rows round_layout round → word (row round_layout round r) 1479 < 2
  round-mu = mu-bit round_kind round c 140 (omega arith) (omega arith) round-bit

  pub round-few : (s : Side) (b : Bus) (v : List ℕ) → table_share s b v round_kind round ≤ 2 ^ 35 * 1031
  unfolding tuple_at
  round-few s b v =
      let a = shares-line s b v (rows round_layout round) 1031 (tuple_at round_kind round) 1031 (λ r l. omega (arith, round-line s b (row round_layout round r), round-most s b _ (round-mu r l))) in
      omega (arith, a, c.few)

  pub round-carried : (s : Side) (v : List ℕ) → table_share s Keccak v round_kind round ≡ active_tuples round_kind s round v
  round-carried = active-tuples-share round_kind round round-bus round-mu
