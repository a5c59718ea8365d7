-- One turn of each of the walk's loops, n rows being all of them.
use mathlib.Core.Path.{◌≡◌, sym, ap, ◌∙◌}
use mathlib.Core.Bool.{true, false}
use mathlib.Core.List.{List}
use Prim.Native.Nat.{ℕ, suc, ◌+◌, ◌-◌, ◌≤◌, ◌<◌}
use native.Mathlib.Omega.{arith}
use Rattle.verdict.specs.Kind.{rows, active}
use Rattle.verdict.specs.CoreAndRound.{core_layout, round_layout}
use Rattle.judge_links.specs.Even.{takes_at, ends_at, on_place}
use Rattle.judge_links.proofs.Even.{on-at, on-nowhere}
use Rattle.judge_walk.specs.Walk.{chain_to, chain_from, active_to, active_from, walk_to, skipped, walked}
use Rattle.judge_walk.specs.declared.Walked.{Walked}
use Rattle.std.specs.Prelude.{Some, None}
use Rattle.lists.specs.First.{Place}

left_out : (n q : ℕ) → n ≤ q → n - q ≡ 0
left_out n q l = omega arith

left_one : (n q : ℕ) → q < n → n - q ≡ suc (n - (q + 1))
left_one n q l = omega arith

-- ---- along the chain of core row a
module _ (nr : ℕ) (core : List ℕ) (a : ℕ) (round : List ℕ) (last : Place) (q n : ℕ) where
  pub chain-out : n ≤ q → chain_to nr core a round last q (n - q) ≡ None
  unfolding chain_to
  chain-out l = ap (chain_to nr core a round last q) (left_out n q l)

  module _ (l : q < n) where
    turn : chain_to nr core a round last q (n - q) ≡ chain_to nr core a round last q (suc (n - (q + 1)))
    turn = ap (chain_to nr core a round last q) (left_one n q l)

    pub chain-off : active round_layout round q ≡ false → chain_to nr core a round last q (n - q) ≡ chain_to nr core a round last (q + 1) (n - (q + 1))
    unfolding chain_to
    chain-off e = turn ∙ rw e

    module _ (e : active round_layout round q ≡ true) where
      pub chain-stop : takes_at nr core a round last q ≡ false → chain_to nr core a round last q (n - q) ≡ None
      unfolding chain_to
      chain-stop t = turn ∙ rw (e, t)

      module _ (t : takes_at nr core a round last q ≡ true) where
        pub chain-end : ends_at core a round q ≡ true → chain_to nr core a round last q (n - q) ≡ Some (q + 1)
        unfolding chain_to
        chain-end f = turn ∙ rw (e, t, f)

        pub chain-on : ends_at core a round q ≡ false → chain_to nr core a round last q (n - q) ≡ chain_to nr core a round (Some q) (q + 1) (n - (q + 1))
        unfolding chain_to
        chain-on f = turn ∙ rw (e, t, f)

-- the last row, as the code has it
pub chain-last : (nr : ℕ) (core : List ℕ) (a : ℕ) (round : List ℕ) {p last : Place} (q n : ℕ) → p ≡ last → chain_to nr core a round p q n ≡ chain_to nr core a round last q n
chain-last nr core a round q n e = ap (λ (s : Place). chain_to nr core a round s q n) e

-- ---- to the next active row
module _ (round : List ℕ) (q n : ℕ) where
  pub active-out : n ≤ q → active_to round q (n - q) ≡ q
  unfolding active_to
  active-out l = ap (active_to round q) (left_out n q l)

  pub active-end : n ≤ q → q ≤ n → active_to round q (n - q) ≡ n
  active-end l m = let e : q ≡ n = omega arith in active-out l ∙ e

  module _ (l : q < n) where
    pub active-here : active round_layout round q ≡ true → active_to round q (n - q) ≡ q
    unfolding active_to
    active-here e = ap (active_to round q) (left_one n q l) ∙ rw e

    pub active_on : active round_layout round q ≡ false → active_to round q (n - q) ≡ active_to round (q + 1) (n - (q + 1))
    unfolding active_to
    active_on e = ap (active_to round q) (left_one n q l) ∙ rw e

-- ---- the walk
module _ (nr : ℕ) (core round : List ℕ) (a b n : ℕ) where
  pub walk-out : n ≤ a → walk_to nr core round a b (n - a) ≡ record { core = a; round = b }
  unfolding walk_to
  walk-out l = ap (walk_to nr core round a b) (left_out n a l)

  pub walk-end : n ≤ a → a ≤ n → walk_to nr core round a b (n - a) ≡ record { core = n; round = b }
  walk-end l m = let e : a ≡ n = omega arith in walk-out l ∙ (λ i. record { core = e i; round = b })

  module _ (l : a < n) where
    pub walk-off : (d : ℕ) → d ≡ b → active core_layout core a ≡ false → walk_to nr core round a b (n - a) ≡ walk_to nr core round (a + 1) d (n - (a + 1))
    unfolding walk_to
    walk-off d z e = ap (walk_to nr core round a b) (left_one n a l) ∙ (rw e) ∙ ap (λ (k : ℕ). walk_to nr core round (a + 1) k (n - (a + 1))) (sym z)

    module _ (e : active core_layout core a ≡ true) (p : Place) (ep : p ≡ chain_from nr core a round b) where
      at : walk_to nr core round a b (n - a) ≡ on_place (λ next. walk_to nr core round (a + 1) next (n - (a + 1))) (record { core = a; round = b }) p
      unfolding walk_to
      at = ap (walk_to nr core round a b) (left_one n a l) ∙ (rw e) ∙ ap (on_place _ _) (sym ep)

      pub walk-on : (k d : ℕ) → p ≡ Some k → d ≡ k → walk_to nr core round a b (n - a) ≡ walk_to nr core round (a + 1) d (n - (a + 1))
      walk-on k d z w = at ∙ on-at _ _ z ∙ ap (λ (k : ℕ). walk_to nr core round (a + 1) k (n - (a + 1))) (sym w)

      pub walk-stop : p ≡ None → walk_to nr core round a b (n - a) ≡ record { core = a; round = b }
      walk-stop z = at ∙ on-nowhere _ _ z

module _ (nr : ℕ) (core round : List ℕ) where
  pub walk-begin : (n : ℕ) → walk_to nr core round 0 0 (n - 0) ≡ walk_to nr core round 0 0 n
  walk-begin n = let e : n - 0 ≡ n = omega arith in ap (walk_to nr core round 0 0) e

  pub walk-told : (a b r : ℕ) → ◌≡◌ {A = Walked} (record { core = a; round = b }) (walk_to nr core round 0 0 (rows core_layout core)) → r ≡ active_from round b →
      ◌≡◌ {A = Walked} (record { core = a; round = r }) (walked nr core round)
  unfolding skipped
  walk-told a b r e f = (λ i. record { core = a; round = f i }) ∙ ap (skipped round) e
