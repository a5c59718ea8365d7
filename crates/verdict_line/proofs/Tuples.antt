-- Every tuple of a core row and of a round row has at most 203 values, and each of them is below 2^64 where the row's
-- words are.
use Prim.Native.Nat.{ℕ, zero, suc, ◌+◌, ◌/◌, ◌%◌, ◌≤◌, ◌<◌}
use mathlib.Core.Bool.{Bool, true, false}
use mathlib.Core.List.{List, [], ◌∷◌}
use native.Mathlib.Omega.{arith}
use lib.Dec.{eqb}
use lib.ListN.{length}
use Rattle.lists.specs.Tab.{pick, tab, tab_from, word}
use Rattle.lists.proofs.Laws.{length-tab}
use Rattle.lists.proofs.Then.{then-all}
use Rattle.field.specs.Field.{p}
use Rattle.field.proofs.Field.{mod-p}
use Rattle.text.proofs.Words.{Short}
use Rattle.tuple.specs.Tuple.{Tuple}
use Rattle.keccak.specs.Columns.{by_xyb}
use Rattle.keccak.specs.Tuples.{keccak_values, core_sent, core_received, ecall_tuple, addr_memw, pointer_tuple, align_tuple}
use Rattle.keccak.specs.Tuples.{addr_bytes_tuple, lane_memw, core_tuple}
use Rattle.keccak_rnd.specs.Columns.{rc}
use Rattle.keccak_rnd.specs.Tuples.{round_received, round_sent, round_tuple, rotated_c_at}

abbrev pub Small : ℕ → Type 0
Small n = n < 18446744073709551616

mod-small : (n : ℕ) → Small (n % p)
mod-small n = omega (arith, mod-p n)

pick_small : (b : Bool) (x y : ℕ) → Small x → Small y → Small (pick b x y)
pick_small true x y h g = h
pick_small false x y h g = g

short-from : (i n : ℕ) (f : ℕ → ℕ) → ((k : ℕ) → Small (f k)) → Short (tab_from i n f)
unfolding tab_from
short-from i zero f h = tt
short-from i (suc n) f h = (h i, short-from (suc i) n f h)

short-tab : (n : ℕ) (f : ℕ → ℕ) → ((k : ℕ) → Small (f k)) → Short (tab n f)
unfolding tab
short-tab n f h = short-from 0 n f h

-- ---- the values of a tuple
pub record Fits (vs : List ℕ) : Type 0 where
  pub few : length vs ≤ 203
  pub short : Short vs

abbrev TupleFits : Tuple → Type 0
TupleFits t = Fits t.values

keccak-few : (lo hi n : ℕ) (f : ℕ → ℕ → ℕ → ℕ) → length (keccak_values lo hi n f) ≤ 203
unfolding keccak_values
keccak-few lo hi n f = omega (arith, length-tab 200 (by_xyb f))

keccak-short : (lo hi n : ℕ) (f : ℕ → ℕ → ℕ → ℕ) → Small lo → Small hi → Small n → ((x y b : ℕ) → Small (f x y b)) → Short (keccak_values lo hi n f)
unfolding keccak_values
keccak-short lo hi n f a b c h = (a, (b, (c, short-tab 200 (by_xyb f) (λ k. h _ _ _))))

module _ (x : List ℕ) (h : (k : ℕ) → Small (word x k)) where
  -- ---- of a core row
  ecall-fits : TupleFits (ecall_tuple 0 x)
  unfolding ecall_tuple
  ecall-fits = record { few = omega arith; short = (h _, (h _, (omega arith, (omega arith, tt)))) }

  addr-fits : TupleFits (addr_memw x)
  unfolding addr_memw
  addr-fits =
      let z : Small 0 = omega arith in
      let o : Small 1 = omega arith in
      let g : Small 20 = omega arith in
      record {
        few = omega arith;
        short =
            (mod-small _, (mod-small _, (z, (z, (z, (z, (z, (z, (o, (g, (z, (mod-small _, (mod-small _, (z, (z, (z, (z, (z, (z, (h _, (h _, (o, (z, (z, tt))))))))))))))))))))))));
      }

  sent-few : (nr : ℕ) → length (core_sent nr x) ≤ 203
  unfolding core_sent
  sent-few nr = keccak-few _ _ _ _

  sent-short : (nr : ℕ) → Short (core_sent nr x)
  unfolding core_sent
  sent-short nr = keccak-short _ _ _ _ (h _) (h _) (omega arith) (λ _ _ _. h _)

  received-few : length (core_received x) ≤ 203
  unfolding core_received
  received-few = keccak-few _ _ _ _

  received-short : Short (core_received x)
  unfolding core_received
  received-short = keccak-short _ _ _ _ (h _) (h _) (omega arith) (λ _ _ _. h _)

  pointer-fits : (i j : ℕ) → TupleFits (pointer_tuple x i j)
  unfolding pointer_tuple
  pointer-fits i zero = record { few = omega arith; short = (h _, (h _, tt)) }
  pointer-fits i (suc j) = record { few = omega arith; short = (h _, tt) }

  align_fits : TupleFits (align_tuple x)
  unfolding align_tuple
  align_fits = record { few = omega arith; short = (omega arith, (h _, (omega arith, (omega arith, tt)))) }

  bytes-fits : (i : ℕ) → TupleFits (addr_bytes_tuple x i)
  unfolding addr_bytes_tuple
  bytes-fits i = record { few = omega arith; short = (h _, (h _, tt)) }

  lane-fits : (i : ℕ) → TupleFits (lane_memw x i)
  unfolding lane_memw tab tab_from
  lane-fits i =
      let z : Small 0 = omega arith in
      let o : Small 1 = omega arith in
      record {
        few = omega arith;
        short =
            (h _, (h _, (h _, (h _, (h _, (h _, (h _, (h _, (z, (mod-small _, (h _, (h _, (h _, (h _, (h _, (h _, (h _, (h _, (h _, (h _, (h _, (z, (z, (o, tt))))))))))))))))))))))));
      }

  pub core-fits : (nr i : ℕ) → Fits (core_tuple nr 0 x i).values
  unfolding core_tuple
  core-fits nr i =
      then-all TupleFits 1 _ _ i (λ _. ecall-fits) λ i₁ _.
      then-all TupleFits 1 _ _ i₁ (λ _. addr-fits) λ i₂ _.
      then-all TupleFits 1 _ _ i₂ (λ _. record { few = sent-few nr; short = sent-short nr }) λ i₃ _.
      then-all TupleFits 1 _ _ i₃ (λ _. record { few = received-few; short = received-short }) λ i₄ _.
      then-all TupleFits 50 _ _ i₄ (λ _. pointer-fits _ _) λ i₅ _.
      then-all TupleFits 1 _ _ i₅ (λ _. align_fits) λ i₆ _.
      then-all TupleFits 4 _ _ i₆ (λ _. bytes-fits _) λ i₇ _. lane-fits i₇

  -- ---- of a round row
  round-received-few : length (round_received x) ≤ 203
  unfolding round_received
  round-received-few = keccak-few _ _ _ _

  round-received-short : Short (round_received x)
  unfolding round_received
  round-received-short = keccak-short _ _ _ _ (h _) (h _) (h _) (λ _ _ _. h _)

  round-sent-few : length (round_sent x) ≤ 203
  unfolding round_sent
  round-sent-few = keccak-few _ _ _ _

  round-sent-short : Short (round_sent x)
  unfolding round_sent
  round-sent-short = keccak-short _ _ _ _ (h _) (h _) (mod-small _) (λ _ _ _. h _)

  alu-fits : (op a b c : ℕ) → Small op → Small a → Small b → Small c → Fits (op ∷ a ∷ b ∷ c ∷ [])
  alu-fits op a b c e f g i = record { few = omega arith; short = (e, (f, (g, (i, tt)))) }

  two_fits : (a b : ℕ) → Small a → Small b → Fits (a ∷ b ∷ [])
  two_fits a b f g = record { few = omega arith; short = (f, (g, tt)) }

  rotated-small : (c b : ℕ) → Small (rotated_c_at x c b)
  rotated-small c b = pick_small (eqb (b % 2) 0) _ _ (mod-small _) (h _)

  pub round-fits : (i : ℕ) → Fits (round_tuple x i).values
  unfolding round_tuple
  round-fits i =
      let two : Small 2 = omega arith in
      let zero' : Small 0 = omega arith in
      then-all TupleFits 1 _ _ i (λ _. record { few = round-received-few; short = round-received-short }) λ i₁ _.
      then-all TupleFits 1 _ _ i₁ (λ _. record { few = round-sent-few; short = round-sent-short }) λ i₂ _.
      then-all TupleFits 1 _ _ i₂ (λ _. record { few = omega (arith, length-tab 8 (λ b. word x (rc b))); short = (h _, short-tab 8 _ (λ k. h _)) }) λ i₃ _.
      then-all TupleFits 40 _ _ i₃ (λ _. alu-fits _ _ _ _ two (h _) (h _) (h _)) λ i₄ _.
      then-all TupleFits 120 _ _ i₄ (λ _. alu-fits _ _ _ _ two (h _) (h _) (h _)) λ i₅ _.
      then-all TupleFits 20 _ _ i₅ (λ _. two_fits _ _ (h _) (h _)) λ i₆ _.
      then-all TupleFits 40 _ _ i₆ (λ _. alu-fits _ _ _ _ two (h _) (rotated-small ((i₆ / 8 + 1) % 5) (i₆ % 8)) (h _)) λ i₇ _.
      then-all TupleFits 200 _ _ i₇ (λ _. alu-fits _ _ _ _ two (h _) (h _) (h _)) λ i₈ _.
      then-all TupleFits 200 _ _ i₈ (λ _. two_fits _ _ (h _) (h _)) λ i₉ _.
      then-all TupleFits 200 _ _ i₉ (λ _. alu-fits _ _ _ _ zero' (mod-small _) (mod-small _) (h _)) λ i₁₀ _.
      then-all TupleFits 200 _ _ i₁₀ (λ _. alu-fits _ _ _ _ two (mod-small _) (h _) (h _)) λ i₁₁ _.
      alu-fits _ _ _ _ two (h _) (h _) (h _)
