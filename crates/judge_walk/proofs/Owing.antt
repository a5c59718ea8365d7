-- What the walk along the Keccak bus passes is even: the laws of judge_links' Walk at the four ports, along the recursions
-- of specs/Walk.antt.
--     chain-in       where a chain ends, it ends in the table
--     walked-even    the rows that the walk passes send and receive the same tuples, each equally often
use mathlib.Core.Path.{◌≡◌, refl, sym, ap, subst, ◌∙◌}
use mathlib.Core.Bool.{Bool, true, false}
use mathlib.Core.List.{List}
use Prim.Native.Nat.{ℕ, zero, suc, ◌+◌, ◌-◌, ◌≤◌, ◌<◌}
use native.Mathlib.Omega.{arith}
use Rattle.lists.specs.Tab.{pick, followed_by}
use Rattle.lists.proofs.Tests.{T_of}
use Rattle.lists.specs.Select.{words_test}
use Rattle.lists.proofs.Select.{words-sound}
use Rattle.keccak.specs.Tuples.{core_tuple}
use Rattle.keccak_rnd.specs.Tuples.{round_tuple}
use Rattle.verdict.specs.Kind.{rows, row, active}
use Rattle.verdict.specs.CoreAndRound.{core_layout, round_layout}
use Rattle.verdict.proofs.Tuples.{core-bus, round-bus}
use Rattle.judge_links.proofs.Walk.{OwingTo, even-start, even-skip, even-rest, owe-start, owe-skip, owe-step, owe-end}
use Rattle.judge_tuples.specs.Port.{tuple_of}
use Rattle.judge_tuples.specs.declared.Port.TheVariants.{CoreReceive, RoundReceive, RoundSend}
use Rattle.judge_links.specs.Even.{Even, owed_by, takes_at, ends_at, on_place, Started}
use Rattle.judge_walk.specs.Walk.{chain_to, chain_from, active_to, walk_to, skipped, walked}
use Rattle.judge_walk.specs.declared.Walked.{Walked}
use Rattle.judge_links.proofs.Even.{even-to, to-even, not_at, at_same}
use Rattle.std.specs.Prelude.{Some, None}
use Rattle.lists.specs.First.{Place}

-- ---- the walk
module _ (nr : ℕ) (core round : List ℕ) where
  pub walk_start : Even nr core round 0 0
  walk_start = to-even nr core round 0 0 (even-start (core-bus nr) round-bus core round)

  pub walk-skip : (a b : ℕ) → active core_layout core a ≡ false → Even nr core round a b → Even nr core round (a + 1) b
  walk-skip a b e h = to-even nr core round (a + 1) b (even-skip (core-bus nr) round-bus core round a b e (even-to nr core round a b h))

  pub walk-rest : (a b : ℕ) → active round_layout round b ≡ false → Even nr core round a b → Even nr core round a (b + 1)
  walk-rest a b e h = to-even nr core round a (b + 1) (even-rest (core-bus nr) round-bus core round a b e (even-to nr core round a b h))

-- the chain of core row a from round row b on, up to row q: what it owes
pub record Owed (nr : ℕ) (core round : List ℕ) (a b q : ℕ) (last : Place) : Type 0 where
  pub started : Started round last
  pub owing : Even nr core round a b → OwingTo (core-bus nr) round-bus core round a q (owed_by nr core a round last)

module _ (nr : ℕ) (core round : List ℕ) (a b : ℕ) where
  pub owed_start : active core_layout core a ≡ true → Owed nr core round a b b None
  unfolding Started owed_by tuple_of core_tuple followed_by
  owed_start e = record { started = tt; owing = λ h. owe-start (core-bus nr) round-bus core round a b _ e refl (even-to nr core round a b h) }

  module _ (q : ℕ) (last : Place) (o : Owed nr core round a b q last) where
    pub owed-skip : (next : Place) → active round_layout round q ≡ false → next ≡ last → Owed nr core round a b (q + 1) next
    owed-skip next e z =
        record {
          started = subst (Started round) (sym z) o.started;
          owing = λ h. owe-skip (core-bus nr) round-bus core round a q _ _ e (ap (owed_by nr core a round) z) (o.owing h);
        }

    module _ (l : q < rows round_layout round) (e : active round_layout round q ≡ true)
        (t : words_test (owed_by nr core a round last) (tuple_of RoundReceive (row round_layout round q)) ≡ true) where
      step : Even nr core round a b → OwingTo (core-bus nr) round-bus core round a (q + 1) (tuple_of RoundSend (row round_layout round q))
      unfolding tuple_of round_tuple followed_by
      step h = owe-step (core-bus nr) round-bus core round a q _ _ e (sym (words-sound _ _ (T_of _ t))) refl (o.owing h)

      pub owed-step : (next : Place) → next ≡ Some q → Owed nr core round a b (q + 1) next
      unfolding Started owed_by
      owed-step next z = subst (Owed nr core round a b (q + 1)) (sym z) (record { started = l; owing = step })

      pub owed-end : active core_layout core a ≡ true →
          words_test (tuple_of RoundSend (row round_layout round q)) (tuple_of CoreReceive (row core_layout core a)) ≡ true →
          (q + 1 ≤ rows round_layout round) × (Even nr core round a b → Even nr core round (a + 1) (q + 1))
      unfolding tuple_of core_tuple followed_by
      owed-end f g =
          (omega arith, λ h. to-even nr core round (a + 1) (q + 1) (owe-end (core-bus nr) round-bus core round a (q + 1) (q + 1) _ f (words-sound _ _ (T_of _ g)) refl (step h)))

  -- the chain of core row a: where it ends, row a and its rows are even
  abbrev Reaches : Place → Type 0
  Reaches p = (k : ℕ) → p ≡ Some k → (k ≤ rows round_layout round) × (Even nr core round a b → Even nr core round (a + 1) k)

  reaches-none : Reaches None
  reaches-none k e = absurd (not_at e)

  chain-reaches : active core_layout core a ≡ true → (n q : ℕ) (last : Place) → q + n ≤ rows round_layout round → Owed nr core round a b q last → Reaches (chain_to nr core a round last q n)
  unfolding chain_to
  chain-reaches on zero q last l o = reaches-none
  chain-reaches on (suc n) q last l o =
      go (active round_layout round q) (takes_at nr core a round last q) (ends_at core a round q)
      (λ e. chain-reaches on n (q + 1) last (omega arith) (owed-skip q last o last e refl))
      (λ e t. chain-reaches on n (q + 1) (Some q) (omega arith) (owed-step q last o (omega arith) e t (Some q) refl))
      (λ e t f k z. subst (λ (m : ℕ). (m ≤ rows round_layout round) × (Even nr core round a b → Even nr core round (a + 1) m)) (at_same z) (owed-end q last o (omega arith) e t on f))
      refl refl refl
    where
      go : (x y z : Bool) → (active round_layout round q ≡ false → Reaches (chain_to nr core a round last (q + 1) n)) →
          (active round_layout round q ≡ true → takes_at nr core a round last q ≡ true → Reaches (chain_to nr core a round (Some q) (q + 1) n)) →
          (active round_layout round q ≡ true → takes_at nr core a round last q ≡ true → ends_at core a round q ≡ true → Reaches (Some (q + 1))) →
          active round_layout round q ≡ x → takes_at nr core a round last q ≡ y → ends_at core a round q ≡ z →
          Reaches (pick x (pick y (pick z (Some (q + 1)) (chain_to nr core a round (Some q) (q + 1) n)) None) (chain_to nr core a round last (q + 1) n))
      go false y z off on end e t f = off e
      go true false z off on end e t f = reaches-none
      go true true false off on end e t f = on e t
      go true true true off on end e t f = end e t f

  chain-goes : active core_layout core a ≡ true → b ≤ rows round_layout round → Reaches (chain_from nr core a round b)
  chain-goes on l = chain-reaches on (rows round_layout round - b) b None (omega arith) (owed_start on)

  pub chain-in : active core_layout core a ≡ true → b ≤ rows round_layout round → (p : Place) (k d : ℕ) → p ≡ chain_from nr core a round b → p ≡ Some k → d ≡ k → d ≤ rows round_layout round
  chain-in on l p k d e z w = omega (arith, (chain-goes on l k (sym e ∙ z)).0)

-- ---- all of the walk
module _ (nr : ℕ) (core round : List ℕ) where
  -- the rows that it passed are even
  abbrev Good : Walked → Type 0
  Good w = (w.core ≤ rows core_layout core) × (w.round ≤ rows round_layout round) × Even nr core round w.core w.round

  walk-goes : (n a b : ℕ) → a + n ≤ rows core_layout core → b ≤ rows round_layout round → Even nr core round a b → Good (walk_to nr core round a b n)
  unfolding walk_to on_place
  walk-goes zero a b l g h = (omega arith, g, h)
  walk-goes (suc n) a b l g h =
      go (active core_layout core a) (chain_from nr core a round b)
      (λ e. walk-goes n (a + 1) b (omega arith) g (walk-skip nr core round a b e h))
      (omega arith, g, h)
      (λ e k z. let r = chain-goes nr core round a b e g k z in walk-goes n (a + 1) k (omega arith) r.0 (r.1 h))
      refl refl
    where
      go : (x : Bool) (p : Place) → (active core_layout core a ≡ false → Good (walk_to nr core round (a + 1) b n)) → Good (record { core = a; round = b }) →
          (active core_layout core a ≡ true → (k : ℕ) → chain_from nr core a round b ≡ Some k → Good (walk_to nr core round (a + 1) k n)) →
          active core_layout core a ≡ x → chain_from nr core a round b ≡ p →
          Good (pick x (on_place (λ next. walk_to nr core round (a + 1) next n) (record { core = a; round = b }) p) (walk_to nr core round (a + 1) b n))
      go false p off stop on e z = off e
      go true None off stop on e z = stop
      go true (Some k) off stop on e z = on e k z

  rest_goes : (n q a : ℕ) → q + n ≤ rows round_layout round → Even nr core round a q → (active_to round q n ≤ rows round_layout round) × Even nr core round a (active_to round q n)
  unfolding active_to
  rest_goes zero q a l h = (omega arith, h)
  rest_goes (suc n) q a l h = go (active round_layout round q) (λ e. rest_goes n (q + 1) a (omega arith) (walk-rest nr core round a q e h)) refl
    where
      go : (x : Bool) → (active round_layout round q ≡ false → (active_to round (q + 1) n ≤ rows round_layout round) × Even nr core round a (active_to round (q + 1) n)) →
          active round_layout round q ≡ x → (pick x q (active_to round (q + 1) n) ≤ rows round_layout round) × Even nr core round a (pick x q (active_to round (q + 1) n))
      go true on e = (omega arith, h)
      go false on e = on e

  pub walked-even : (w : Walked) → w ≡ walked nr core round → Good w
  unfolding skipped
  walked-even w e =
      let v = walk-goes (rows core_layout core) 0 0 (omega arith) (omega arith) (walk_start nr core round) in
      let u : Walked = walk_to nr core round 0 0 (rows core_layout core) in
      let r = rest_goes (rows round_layout round - u.round) u.round u.core (omega (arith, v.1)) v.2 in
      subst Good (sym e) (v.0, r.0, r.1)
