-- The walk of Algorithm 2: what a loop that makes it knows at each turn; that it meets each lane but (0, 0) once; and what it gives them.
use mathlib.Core.Path.{◌≡◌, refl, sym, ap, ap₂, ◌∙◌, subst}
use mathlib.Core.Bool.{Bool, true, false, not, ◌&&◌, ◌||◌}
use Prim.Native.Nat.{ℕ, zero, suc, ◌+◌, ◌-◌, ◌*◌, ◌/◌, ◌%◌, ◌≤◌, ◌<◌}
use native.Mathlib.Numerals.{add-one}
use native.Mathlib.Omega.{arith}
use borrow.Author.Tests.{eqb-true, eq-eqb, ne_eqb}
use lib.Dec.{T, eqb, ltb, eqb→eq, ltb→lt}
use Rattle.lists.specs.Tab.{pick}
use Rattle.lists.specs.Sum.{sum_below, all_below}
use Rattle.lists.proofs.Sum.{and_left, and_right, all-at}
use Rattle.lists.proofs.Tests.{false-and}
use Rattle.fips202.specs.Fips.{offset_from, offset, walk, MetOnce}

-- ---- a loop that makes the walk: at t it is at (cx, cy), and what is left of the walk gives the offset of (x, y)
abbrev pub Walking : ℕ → ℕ → ℕ → ℕ → ℕ → Type 0
Walking x y cx cy t = offset_from (24 - t) t cx cy x y ≡ offset x y

pub walk-starts : (x y : ℕ) → Walking x y 1 0 0
unfolding offset
walk-starts x y = refl

-- one turn, by its test
turn : (x y cx cy t : ℕ) (b : Bool) → t < 24 → (eqb x cx && eqb y cy) ≡ b → Walking x y cx cy t → pick b ((t + 1) * (t + 2) / 2) (offset_from (24 - (t + 1)) (t + 1) cy ((2 * cx + 3 * cy) % 5) x y) ≡ offset x y
unfolding offset_from
turn x y cx cy t b l e w =
    ap (λ (b : Bool). pick b ((t + 1) * (t + 2) / 2) (offset_from left (t + 1) cy ((2 * cx + 3 * cy) % 5) x y)) (sym e)
    ∙ ap (λ (s : ℕ). pick (eqb x cx && eqb y cy) ((t + 1) * (t + 2) / 2) (offset_from left s cy ((2 * cx + 3 * cy) % 5) x y)) (add-one t)
    ∙ ap (λ (n : ℕ). offset_from n t cx cy x y) more
    ∙ w
  where
    left : ℕ
    left = 24 - (t + 1)

    more : suc left ≡ 24 - t
    more = omega arith

-- where it is at (x, y), where it is elsewhere, and where it has ended
pub walk_meets : (x y cx cy t : ℕ) → t < 24 → x ≡ cx → y ≡ cy → Walking x y cx cy t → (t + 1) * (t + 2) / 2 ≡ offset x y
walk_meets x y cx cy t l p q w = turn x y cx cy t true l (ap₂ ◌&&◌ (eq-eqb x cx p) (eq-eqb y cy q)) w

pub walk-goes-on : (x y cx cy t : ℕ) → t < 24 → (x ≡ cx → y ≡ cy → ⊥) → Walking x y cx cy t → Walking x y cy ((2 * cx + 3 * cy) % 5) (t + 1)
walk-goes-on x y cx cy t l other w =
    turn x y cx cy t false l (false-and (eqb x cx) (eqb y cy) (λ e. ne_eqb y cy (other (eqb-true x cx e)))) w

pub walk_ends : (x y cx cy t : ℕ) → 24 ≤ t → Walking x y cx cy t → 0 ≡ offset x y
unfolding offset_from
walk_ends x y cx cy t l w = let none : 0 ≡ 24 - t = omega arith in ap (λ (n : ℕ). offset_from n t cx cy x y) none ∙ w

-- ---- each lane once
-- whether lane (x, y) is met at t; and the sum of all t from 0 to 23 at which it is
meets : ℕ → ℕ → ℕ → Bool
meets x y t = eqb (walk t).0 x && eqb (walk t).1 y

time : ℕ → ℕ → ℕ
time x y = sum_below 24 (λ t. pick (meets x y t) t 0)

once : ℕ → ℕ → Bool
once x y = ltb (time x y) 24 && meets x y (time x y)

-- where it is met more than once or not at all, one of the two tests fails
found : T (all_below 5 (λ x. all_below 5 (λ y. (eqb x 0 && eqb y 0) || once x y)))
unfolding all_below sum_below walk once time meets
found = tt

alone : T (all_below 24 (λ t. eqb (time (walk t).0 (walk t).1) t))
unfolding all_below sum_below walk time meets
alone = tt

met-once : (x y : ℕ) → T (once x y) → MetOnce x y
unfolding once meets
met-once x y h =
    let l = walk (time x y) in
    let there = and_right (ltb (time x y) 24) (meets x y (time x y)) h in
    let at_x = eqb→eq l.0 x (and_left (eqb l.0 x) (eqb l.1 y) there) in
    let at_y = eqb→eq l.1 y (and_right (eqb l.0 x) (eqb l.1 y) there) in
    record {
      at = time x y;
      below = ltb→lt (time x y) 24 (and_left (ltb (time x y) 24) (meets x y (time x y)) h);
      met = λ i. (at_x i, at_y i);
      only = λ t l e. sym (itself t l) ∙ ap (λ (l : ℕ × ℕ). time l.0 l.1) e;
    }
  where
    itself : (t : ℕ) → t < 24 → time (walk t).0 (walk t).1 ≡ t
    itself t l = eqb→eq (time (walk t).0 (walk t).1) t (all-at 24 (λ t. eqb (time (walk t).0 (walk t).1) t) alone t l)

pub each-lane-once : (x y : ℕ) → x < 5 → y < 5 → (x ≡ 0 → y ≡ 0 → ⊥) → MetOnce x y
each-lane-once x y hx hy other =
    let row = all-at 5 (λ x. all_below 5 (λ y. (eqb x 0 && eqb y 0) || once x y)) found x hx in
    let cell = all-at 5 (λ y. (eqb x 0 && eqb y 0) || once x y) row y hy in
    met-once x y (subst (λ (b : Bool). T (b || once x y)) (false-and (eqb x 0) (eqb y 0) (λ e. ne_eqb y 0 (other (eqb-true x 0 e)))) cell)

-- and (0, 0) never, however long it goes on
in-5 : (t : ℕ) → ((walk t).0 < 5) × ((walk t).1 < 5)
unfolding walk
in-5 zero = (omega arith, omega arith)
in-5 (suc t) = ((in-5 t).1, omega arith)

back : (x y : ℕ) → x < 5 → y ≡ 0 → (2 * x + 3 * y) % 5 ≡ 0 → x ≡ 0
unfolding all_below
back x y h p q =
    eqb→eq x 0
    (subst (λ (b : Bool). T (not b || eqb x 0)) (eq-eqb ((2 * x + 3 * 0) % 5) 0 (ap (λ (y : ℕ). (2 * x + 3 * y) % 5) (sym p) ∙ q)) (all-at 5 (λ x. not (eqb ((2 * x + 3 * 0) % 5) 0) || eqb x 0) tt x h))

not-both : (t : ℕ) → (walk t).0 ≡ 0 → (walk t).1 ≡ 0 → ⊥
unfolding walk
not-both zero p q = omega (arith, p)
not-both (suc t) p q = not-both t (back (walk t).0 (walk t).1 (in-5 t).0 p q) p

pub never-0-0 : (t : ℕ) → walk t ≡ (0, 0) → ⊥
never-0-0 t e = not-both t (λ i. (e i).0) (λ i. (e i).1)

-- ---- what it gives: the lane that is met at t has (t + 1)(t + 2) / 2, and (0, 0) has 0
given : T (all_below 24 (λ t. eqb (offset (walk t).0 (walk t).1) ((t + 1) * (t + 2) / 2)))
unfolding all_below offset walk
given = tt

pub offset-met : (t : ℕ) → t < 24 → offset (walk t).0 (walk t).1 ≡ (t + 1) * (t + 2) / 2
offset-met t l =
    let test = all-at 24 (λ t. eqb (offset (walk t).0 (walk t).1) ((t + 1) * (t + 2) / 2)) given t l in
    eqb→eq (offset (walk t).0 (walk t).1) ((t + 1) * (t + 2) / 2) test

pub offset-0-0 : offset 0 0 ≡ 0
unfolding offset
offset-0-0 = refl
