-- A row past the last round: in tables that pass and whose timestamps differ, an active round row with ROUND 24 or more has the verdict name an unbalanced tuple.
-- Such a row sends the round after its own; no core row receives that, so a later row does, and so on; no row that passes has ROUND 32.
use mathlib.Core.Path.{◌≡◌, refl, sym, ap, subst, ◌∙◌}
use mathlib.Core.Logic.{◌⊎◌}
use mathlib.Core.List.{List}
use Prim.Native.Nat.{ℕ, zero, suc, ◌+◌, ◌-◌, ◌≤◌, ◌<◌}
use native.Mathlib.Omega.{arith}
use Rattle.lists.specs.Tab.{word, followed_by}
use Rattle.lists.specs.Select.{words_test}
use Rattle.lists.proofs.Count.{count-find, count-hit}
use Rattle.lists.proofs.Tests.{T_of, and-true, true-and}
use Rattle.lists.proofs.Then.{by_le, T_true}
use Rattle.lists.proofs.Select.{words_same_lem, words-sound}
use Rattle.tuple.specs.declared.Side.TheVariants.{Sender, Receiver}
use Rattle.field.specs.Field.{fadd}
use Rattle.field.proofs.Field.{fadd-small}
use Rattle.keccak.specs.Tuples.{keccak_values, core_tuple, core_received}
use Rattle.keccak_rnd.specs.Columns.{ROUND}
use Rattle.keccak_rnd.specs.Tuples.{round_tuple, round_received, round_sent}
use Rattle.keccak_rnd.proofs.Soundness.{round-sound}
use Rattle.verdict.specs.Kind.{Kind, rows, row, active, Active, Passes, OnBus, sent, received, Balanced}
use Rattle.verdict.specs.CoreAndRound.{core_layout, round_layout, core_kind, round_kind, verdict_at}
use Rattle.verdict.specs.Failures.{ToCoreBalance}
use Rattle.verdict.specs.declared.Table.TheVariants.{Core, Round}
use Rattle.verdict.specs.declared.Verdict.TheVariants.{Unbalanced}
use Rattle.verdict.proofs.Tables.{passes-row, all-below}
use Rattle.verdict.proofs.Judge.{is-active, active-is}
use Rattle.verdict.proofs.Tuples.{active_tuple_at, active-tuples-count, core-bus, round-bus}
use Rattle.verdict.proofs.Failures.{round-passes, out-of-balance}

-- what an active row sends is sent, and what is received, an active row receives
module _ {K : Kind} {S R : ℕ} (bus : OnBus K S R) (ws : List ℕ) where
  is-sent : (r : ℕ) → Active K.layout ws r → 1 ≤ sent K ws (K.tuple (row K.layout ws r) S).values
  unfolding active_tuple_at
  is-sent r a =
      let x : List ℕ = (K.tuple (row K.layout ws r) S).values in
      subst (λ (n : ℕ). 1 ≤ n) (sym (active-tuples-count bus Sender ws x)) (count-hit (active_tuple_at K S ws x) (rows K.layout ws) r a.there
      (true-and (active K.layout ws r) (words_test x x) (is-active K.layout ws a) (T_true (words_test x x) (words_same_lem x))))

  who-receives : (x : List ℕ) → 1 ≤ received K ws x → (r : ℕ) × Active K.layout ws r × (x ≡ (K.tuple (row K.layout ws r) R).values)
  unfolding active_tuple_at
  who-receives x h =
      let f = count-find (active_tuple_at K R ws x) (rows K.layout ws) (subst (λ (n : ℕ). 1 ≤ n) (active-tuples-count bus Receiver ws x) h) in
      let v : List ℕ = (K.tuple (row K.layout ws f.0) R).values in
      let g = and-true (active K.layout ws f.0) (words_test x v) f.2 in
      (f.0, active-is K.layout ws f.0 f.1 g.0, words-sound x v (T_of (words_test x v) g.1))

-- the round number in a Keccak tuple
core-received-round : (nr : ℕ) (x : List ℕ) → word (core_tuple nr 0 x 3).values 2 ≡ 24
unfolding core_tuple followed_by core_received keccak_values
core-received-round nr x = refl

round-received-round : (x : List ℕ) → word (round_tuple x 0).values 2 ≡ word x ROUND
unfolding round_tuple followed_by round_received keccak_values
round-received-round x = refl

round-sent-round : (x : List ℕ) → word (round_tuple x 1).values 2 ≡ fadd (word x ROUND) 1
unfolding round_tuple followed_by round_sent keccak_values
round-sent-round x = refl

module _ (nr : ℕ) (core round : List ℕ) (passes : Passes round_kind round) (balanced : Balanced (core_kind nr) round_kind core round) where
  abbrev round_at : ℕ → ℕ
  round_at q = word (row round_layout round q) ROUND

  early : (q : ℕ) → Active round_layout round q → round_at q < 32
  early q a =
      let h = passes-row round_kind (omega arith) round passes q a.there in
      (round-sound (row round_layout round q) (all-below round_kind (omega arith) (row round_layout round q) h) (record { values = h.values; lookups = h.lookups }) a.on).round

  handed-on : (q : ℕ) → Active round_layout round q → 24 ≤ round_at q → (s : ℕ) × Active round_layout round s × (round_at s ≡ round_at q + 1)
  unfolding Balanced
  handed-on q a l =
      let x : List ℕ = (round_tuple (row round_layout round q) 1).values in
      let e : word x 2 ≡ round_at q + 1 = round-sent-round (row round_layout round q) ∙ fadd-small (round_at q) 1 (omega (arith, early q a)) in
      let s = is-sent round-bus round q a in
      let b = balanced x in
      by_le 1 (received (core_kind nr) core x)
      (λ g.
      let c = who-receives (core-bus nr) core x g in
      let z : word x 2 ≡ 24 = ap (λ (y : List ℕ). word y 2) c.2 ∙ core-received-round nr (row core_layout core c.0) in
      absurd (omega arith))
      (λ g.
      let c = who-receives round-bus round x (omega arith) in
      (c.0, c.1, sym (round-received-round (row round_layout round c.0)) ∙ sym (ap (λ (y : List ℕ). word y 2) c.2) ∙ e))

  none-late : (n q : ℕ) → Active round_layout round q → 24 ≤ round_at q → round_at q + n ≡ 32 → ⊥
  none-late zero q a l e = let h = early q a in omega arith
  none-late (suc n) q a l e = let s = handed-on q a l in let f = s.2 in none-late n s.0 s.1 (omega arith) (omega arith)

pub late-row : (nr : ℕ) (core round : List ℕ) → ToCoreBalance (core_kind nr) round_kind core round → (q : ℕ) → Active round_layout round q → 24 ≤ word (row round_layout round q) ROUND →
    (r i : ℕ) × ((verdict_at nr core round ≡ Unbalanced Core r i) ⊎ (verdict_at nr core round ≡ Unbalanced Round r i))
late-row nr core round h q a l =
    out-of-balance (core_kind nr) round_kind core round h (λ b.
    let p = round-passes (core_kind nr) round_kind core round h in
    let k = early nr core round p b q a in
    none-late nr core round p b (32 - word (row round_layout round q) ROUND) q a l (omega arith))
