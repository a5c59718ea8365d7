-- What the walk and the counts on the Keccak bus cite.
--     row-wide          a row is as long as its tuples need
--     linked            what the code compares is what the rows send and receive
--     on-at, on-nowhere   what follows from the answer of a search
--     even-to, to-even  the tuples by port are those of the two kinds by index
use mathlib.Core.Path.{◌≡◌, refl, sym, ap, subst, ◌∙◌}
use mathlib.Core.Bool.{Bool}
use mathlib.Core.List.{List}
use Prim.Native.Nat.{ℕ, ◌≤◌, ◌<◌}
use native.Mathlib.Omega.{arith}
use lib.ListN.{length}
use Rattle.lists.specs.Tab.{followed_by, row_at}
use Rattle.lists.specs.First.{count_below}
use Rattle.lists.proofs.Laws.{length-row_at}
use Rattle.lists.specs.Select.{words_test}
use Rattle.keccak.specs.Tuples.{core_tuple}
use Rattle.keccak_rnd.specs.Tuples.{round_tuple}
use Rattle.verdict.specs.Kind.{rows}
use Rattle.verdict.specs.CoreAndRound.{core_layout, round_layout, core_kind, round_kind}
use Rattle.verdict.proofs.Tuples.{active_tuple_at, core-bus, round-bus}
use Rattle.judge_links.proofs.Walk.{EvenTo}
use Rattle.judge_tuples.specs.Port.{tuple_of, width_of}
use Rattle.judge_tuples.specs.declared.Port.{Port}
use Rattle.judge_tuples.specs.declared.Port.TheVariants.{CoreSend, CoreReceive, RoundReceive, RoundSend}
use Rattle.judge_links.specs.Even.{has_tuple, Even, Started, on_place}
use Rattle.std.specs.Prelude.{Some, None}
use Rattle.lists.specs.First.{Place}

-- ---- rows by port
pub row-wide : (s : Port) (w : ℕ) (x ws : List ℕ) (r : ℕ) → width_of s ≤ w → x ≡ row_at w ws r → width_of s ≤ length x
row-wide s w x ws r l e = omega (arith, ap length e, length-row_at w ws r)

-- ---- what the code compares
pub linked : (s q : Port) (t : Bool) (x u y v z : List ℕ) → t ≡ words_test (tuple_of s x) (tuple_of q y) → x ≡ u → y ≡ v → z ≡ tuple_of s u →
    t ≡ words_test z (tuple_of q v)
linked s q t x u y v z h e f g = h ∙ (λ i. words_test ((ap (tuple_of s) e ∙ sym g) i) (tuple_of q (f i)))

pub started-in : (round : List ℕ) (last : Place) (r : ℕ) → last ≡ Some r → Started round last → r < rows round_layout round
unfolding Started
started-in round last r e s = subst (Started round) e s

pub started-at : (round : List ℕ) (last : Place) (r : ℕ) → last ≡ Some r → r < rows round_layout round → Started round last
unfolding Started
started-at round last r e l = subst (Started round) (sym e) l

pub started-nowhere : (round : List ℕ) → Started round None
unfolding Started
started-nowhere round = tt

-- ---- the answer of a search
module _ {A : Type 0} (f : ℕ → A) (d : A) where
  pub on-at : {p : Place} {k : ℕ} → p ≡ Some k → on_place f d p ≡ f k
  unfolding on_place
  on-at e = ap (on_place f d) e

  pub on-nowhere : {p : Place} → p ≡ None → on_place f d p ≡ d
  unfolding on_place
  on-nowhere e = ap (on_place f d) e

pub not_at : {k : ℕ} → None ≡ Some k → ⊥
not_at e = cc

pub at_same : {k j : ℕ} → Some k ≡ Some j → k ≡ j
at_same e = cc

-- ---- the tuples of the two kinds by port
pub core-sends : (nr : ℕ) (core v : List ℕ) → has_tuple core_layout (CoreSend nr) core v ≡ active_tuple_at (core_kind nr) 2 core v
unfolding has_tuple active_tuple_at tuple_of core_tuple followed_by
core-sends nr core v = refl

pub core-receives : (nr : ℕ) (core v : List ℕ) → has_tuple core_layout CoreReceive core v ≡ active_tuple_at (core_kind nr) 3 core v
unfolding has_tuple active_tuple_at tuple_of core_tuple followed_by
core-receives nr core v = refl

pub round-sends : (round v : List ℕ) → has_tuple round_layout RoundSend round v ≡ active_tuple_at round_kind 1 round v
unfolding has_tuple active_tuple_at tuple_of round_tuple followed_by
round-sends round v = refl

pub round-receives : (round v : List ℕ) → has_tuple round_layout RoundReceive round v ≡ active_tuple_at round_kind 0 round v
unfolding has_tuple active_tuple_at tuple_of round_tuple followed_by
round-receives round v = refl

pub counts : {f g : ℕ → Bool} → f ≡ g → (n : ℕ) → count_below f n ≡ count_below g n
counts e n = ap (λ (f : ℕ → Bool). count_below f n) e

module _ (nr : ℕ) (core round : List ℕ) (a b : ℕ) where
  pub even-to : Even nr core round a b → EvenTo (core-bus nr) round-bus core round a b
  unfolding Even EvenTo
  even-to h v =
      omega (arith, h v, counts (core-sends nr core v) a, counts (core-receives nr core v) a, counts (round-sends round v) b, counts (round-receives round v) b)

  pub to-even : EvenTo (core-bus nr) round-bus core round a b → Even nr core round a b
  unfolding Even EvenTo
  to-even h v =
      omega (arith, h v, counts (core-sends nr core v) a, counts (core-receives nr core v) a, counts (round-sends round v) b, counts (round-receives round v) b)
