-- Where MU is 0 or 1 in every row, what a table adds to the sums of the Keccak bus is what the verdict counts.
use mathlib.Core.Bool.{Bool, true, false, ◌&&◌}
use mathlib.Core.List.{List}
use mathlib.Core.Path.{◌≡◌, refl, sym, ap, ◌∙◌}
use Prim.Native.Nat.{ℕ, zero, suc, ◌<◌}
use native.Mathlib.Omega.{arith}
use lib.Dec.{eqb}
use Rattle.lists.specs.Tab.{word, pick}
use Rattle.lists.specs.Select.{words_test}
use Rattle.lists.proofs.Sum.{sum_same}
use Rattle.lists.proofs.Count.{sum-tests}
use Rattle.lists.proofs.Tests.{T_of, true-not-false, false-and}
use Rattle.lists.proofs.Then.{T_true}
use Rattle.tuple.specs.Tuple.{Tuple, same_bus, same_side}
use Rattle.tuple.specs.declared.Bus.TheVariants.{Keccak}
use Rattle.tuple.specs.declared.Side.{Side}
use Rattle.tuple.specs.declared.Side.TheVariants.{Sender, Receiver}
use Rattle.tuple.proofs.Buses.{bus-decides}
use Rattle.verdict.specs.Kind.{Kind, rows, row, is_active, on_keccak, keccak_test, active_tuple, active_tuples, OnBus}
use Rattle.verdict.proofs.Tuples.{place, at_place}
use Rattle.bus_sums.specs.Sums.{share, shares, tuple_at, table_share}
use Rattle.bus_sums.proofs.Shares.{share-most, share-none}

side-turn : (a b : Side) → same_side a b ≡ same_side b a
side-turn Sender Sender = refl
side-turn Sender Receiver = refl
side-turn Receiver Sender = refl
side-turn Receiver Receiver = refl

-- a tuple whose multiplicity, on this bus, is m, a bit
module _ (s : Side) (v : List ℕ) (t : Tuple) where
  off-share : on_keccak t ≡ false → share s Keccak v t ≡ 0
  off-share e = share-none s Keccak v t (λ o. true-not-false (sym (T_true (on_keccak t) ((bus-decides t.bus Keccak).from (sym o.bus))) ∙ e))

  on-share : on_keccak t ≡ true → t.multiplicity ≡ 1 → share s Keccak v t ≡ pick (keccak_test s v t) 1 0
  unfolding share keccak_test
  on-share e m =
      let c : same_bus Keccak t.bus ≡ true = T_true (same_bus Keccak t.bus) ((bus-decides Keccak t.bus).from (sym ((bus-decides t.bus Keccak).to (T_of (on_keccak t) e)))) in
      ap (λ (n : ℕ). pick (words_test v t.values) (pick (same_side s t.side && same_bus Keccak t.bus) n 0) 0) m
      ∙ ap (λ (x : Bool). pick (words_test v t.values) (pick (same_side s t.side && x) 1 0) 0) c
      ∙ ap (λ (x : Bool). pick (words_test v t.values) (pick (x && true) 1 0) 0) (side-turn s t.side)
      ∙ tests (words_test v t.values) (same_side t.side s)
      ∙ ap (λ (x : Bool). pick (x && (same_side t.side s && words_test v t.values)) 1 0) (sym e)
    where
      tests : (a b : Bool) → pick {A = ℕ} a (pick (b && true) 1 0) 0 ≡ pick {A = ℕ} (true && (b && a)) 1 0
      tests true true = refl
      tests true false = refl
      tests false true = refl
      tests false false = refl

  share-test : (m : ℕ) → m < 2 → (on_keccak t ≡ true → t.multiplicity ≡ m) → share s Keccak v t ≡ pick (eqb m 1 && keccak_test s v t) 1 0
  unfolding keccak_test
  share-test m l h = go (on_keccak t) refl m refl
    where
      go : (b : Bool) → on_keccak t ≡ b → (k : ℕ) → m ≡ k → share s Keccak v t ≡ pick (eqb m 1 && keccak_test s v t) 1 0
      go false e k q = off-share e ∙ ap (λ (x : Bool). pick x 1 0) (sym (false-and (eqb m 1) (keccak_test s v t) (λ a. ap (λ (x : Bool). x && (same_side t.side s && words_test v t.values)) e)))
      go true e zero q = (let a = share-most s Keccak v t in omega (arith, a, h e)) ∙ ap (λ (n : ℕ). pick (eqb n 1 && keccak_test s v t) 1 0) (sym q)
      go true e (suc zero) q = on-share e (h e ∙ q) ∙ ap (λ (n : ℕ). pick (eqb n 1 && keccak_test s v t) 1 0) (sym q)
      go true e (suc (suc k)) q = absurd (omega arith)

-- a table of some kind, its Keccak tuples sent and received MU times
module _ (K : Kind) (ws : List ℕ) {S R : ℕ} (bus : OnBus K S R) (bits : (r : ℕ) → r < rows K.layout ws → word (row K.layout ws r) K.layout.mu < 2) where
  mu-times : (x : List ℕ) (i : ℕ) → on_keccak (K.tuple x i) ≡ true → (K.tuple x i).multiplicity ≡ word x K.layout.mu
  mu-times x i e = ap (λ (j : ℕ). (K.tuple x j).multiplicity) (at_place bus x i e) ∙ by (K.tuple x i).side
    where
      by : (s : Side) → (K.tuple x (place bus s)).multiplicity ≡ word x K.layout.mu
      by Sender = ap (λ (t : Tuple). t.multiplicity) (bus.send x)
      by Receiver = ap (λ (t : Tuple). t.multiplicity) (bus.receive x)

  pub active-tuples-share : (s : Side) (v : List ℕ) → table_share s Keccak v K ws ≡ active_tuples K s ws v
  unfolding shares active_tuples active_tuple tuple_at is_active
  active-tuples-share s v =
      sum_same (rows K.layout ws) _ _
      (λ r l.
      sum_same K.tuples (λ i. share s Keccak v (K.tuple (row K.layout ws r) i)) (λ i. pick (active_tuple K s ws v r i) 1 0)
      (λ i g. share-test s v (K.tuple (row K.layout ws r) i) (word (row K.layout ws r) K.layout.mu) (bits r l) (mu-times (row K.layout ws r) i))
      ∙ sum-tests (active_tuple K s ws v r) K.tuples)
