-- The row of specs/Forged.antt: all its words are below p, all its values 0, all its tuples matched but three AreBytes tuples of one lane of ρ, MU is 1; and what it
-- sends is not the round of what it receives. So it is not enough that as many tuples stay as `lean-enough` asks for, or more.
use mathlib.Core.Path.{◌≡◌, refl, sym, ap, subst, ◌∙◌}
use mathlib.Core.Bool.{Bool, true, false, ◌||◌}
use mathlib.Core.List.{List}
use Prim.Native.Nat.{ℕ, ◌≤◌, ◌<◌}
use native.Mathlib.Omega.{arith}
use lib.Dec.{T, eqb, ltb, eqb→eq, ltb→lt}
use lib.ListN.{length, get_or, get_or-eq_default}
use Rattle.lists.specs.Tab.{word, tab, tab_from, row_of, followed_by}
use Rattle.lists.specs.Sum.{all_below}
use Rattle.lists.proofs.Sum.{all-at}
use Rattle.lists.proofs.Tests.{T_of}
use Rattle.lists.proofs.Then.{by_le}
use Rattle.field.specs.Field.{p}
use Rattle.bits.specs.Bits.{pack}
use Rattle.fips202.specs.Fips.{offset}
use Rattle.fips202.specs.Lanes.{grid, rc_l, rnd_l}
use Rattle.fips202.specs.Tables.{round_constant}
use Rattle.bitwise.specs.Found.{alu_op, alu_found, are_bytes_found}
use Rattle.keccak_rc.specs.Found.{rc_found}
use Rattle.matching.specs.Matching.{found_on, Matched, matched}
use Rattle.matching.proofs.Matching.{matched-decides}
use Rattle.keccak.specs.Row.{state_lanes}
use Rattle.keccak_rnd.specs.Columns.{ROUND, START, MU}
use Rattle.keccak_rnd.specs.Values.{round_value}
use Rattle.keccak_rnd.specs.Tuples.{round_tuple, out_lanes}
use Rattle.keccak_rnd_lean.specs.Forged.{forged_row, forged_at}

-- ---- by computation
small-test : all_below 1480 (λ k. ltb (word forged_row k) p) ≡ true
unfolding all_below forged_row row_of tab tab_from
small-test = refl

values-test : all_below 141 (λ i. eqb (round_value forged_row i) 0) ≡ true
unfolding all_below forged_row row_of tab tab_from round_value followed_by offset
values-test = refl

lookups-test : all_below 1031 (λ i. forged_at i || matched (round_tuple forged_row i)) ≡ true
unfolding all_below forged_row row_of tab tab_from round_tuple followed_by offset found_on alu_found are_bytes_found rc_found alu_op round_constant rc_l
lookups-test = refl

pub forged-size : length forged_row ≡ 1480
unfolding forged_row row_of tab tab_from
forged-size = refl

forged-on : word forged_row MU ≡ 1
unfolding forged_row row_of tab tab_from
forged-on = refl

forged-round : word forged_row ROUND ≡ 0
unfolding forged_row row_of tab tab_from
forged-round = refl

-- lane (0, 2), which is 2^33 - 1 here and 0 there
sent-lane : get_or (out_lanes forged_row) 10 0 ≡ 8589934591
unfolding out_lanes grid pack forged_row row_of tab tab_from
sent-lane = refl

round-lane : get_or (rnd_l (state_lanes START forged_row) 0) 10 0 ≡ 0
unfolding rnd_l state_lanes grid pack forged_row row_of tab tab_from
round-lane = refl

-- ---- what that says
pub record ForgedPasses (row : List ℕ) : Type 0 where
  pub size : length row ≡ 1480
  pub below : (k : ℕ) → word row k < p
  pub values : (i : ℕ) → i < 141 → round_value row i ≡ 0
  pub lookups : (i : ℕ) → i < 1031 → forged_at i ≡ false → Matched (round_tuple row i)
  pub on : word row MU ≡ 1

pub forged-passes : ForgedPasses forged_row
forged-passes =
    record {
      size = forged-size;
      below = λ k.
          by_le 1480 k (λ g. subst (λ (m : ℕ). m < p) (sym (get_or-eq_default forged_row 0 {n = k} (subst (λ (m : ℕ). m ≤ k) (sym forged-size) g))) (omega arith))
          (λ g. ltb→lt (word forged_row k) p (all-at 1480 (λ k. ltb (word forged_row k) p) (T_of _ small-test) k g));
      values = λ i l. eqb→eq (round_value forged_row i) 0 (all-at 141 (λ i. eqb (round_value forged_row i) 0) (T_of _ values-test) i l);
      lookups = λ i l e.
          (matched-decides (round_tuple forged_row i)).to (other (forged_at i) (matched (round_tuple forged_row i)) e (all-at 1031 (λ i. forged_at i || matched (round_tuple forged_row i)) (T_of _ lookups-test) i l));
      on = forged-on;
    }
  where
    other : (a b : Bool) → a ≡ false → T (a || b) → T b
    other a b e t = subst (λ (c : Bool). T (c || b)) e t

pub forged-false : out_lanes forged_row ≡ rnd_l (state_lanes START forged_row) (word forged_row ROUND) → ⊥
forged-false e =
    let z : ◌≡◌ {A = ℕ} 8589934591 0 =
    sym sent-lane ∙ ap (λ (l : List ℕ). get_or l 10 0) e ∙ ap (λ (r : ℕ). get_or (rnd_l (state_lanes START forged_row) r) 10 0) forged-round ∙ round-lane in
    omega arith
