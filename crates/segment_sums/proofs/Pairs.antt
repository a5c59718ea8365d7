-- The rows of a list of keys, one for a distinct pair: what counts and order (is_wh_rows/proofs/Counts.antt, Order.antt) come to.
--     counted-one, counted-two   a row, and two rows of one pair, count no more than all rows of the pair together
--     pair_row_lem                   a pair that is among the keys has a row
--     one-row                    and two rows only where it is there more than 1,048,575 times
use mathlib.Core.Bool.{Bool, true, false, ◌&&◌}
use mathlib.Core.List.{List, [], ◌∷◌}
use mathlib.Core.Logic.{⊎_elim}
use mathlib.Core.Option.{none}
use mathlib.Core.Path.{◌≡◌, refl, sym, ap, ap₂}
use Prim.Native.Nat.{ℕ, zero, suc, ◌+◌, ◌*◌, ◌≤◌, ◌<◌}
use native.Mathlib.Omega.{arith}
use borrow.Author.Tests.{eq-eqb, eqb-true}
use lib.Dec.{eqb}
use lib.ListN.{length}
use Rattle.lists.specs.First.{first_at}
use Rattle.lists.specs.Tab.{pick}
use Rattle.lists.proofs.Tests.{true-and, and-true}
use Rattle.is_wh_rows.specs.Rows.{Row, MU-MAX, codes, rows_of}
use Rattle.is_wh_rows.specs.Lists.{bad_at}
use Rattle.is_wh_rows.specs.Meaning.{times_sent, times_counted, nth, code_of, InOrder, InRange}
use Rattle.is_wh_rows.proofs.Counts.{all-counted}
use Rattle.is_wh_rows.proofs.Order.{rows-in-order, rows-in-range}

module _ (w h : ℕ) where
  -- a row of the pair
  abbrev Of : Row → Type 0
  Of r = (r.word ≡ w) × (r.half ≡ h)

  first_counted : (r : Row) (rs : List Row) → Of r → times_counted w h (r ∷ rs) ≡ r.mu + times_counted w h rs
  unfolding times_counted
  first_counted r rs o =
      ap (λ (t : Bool). pick t r.mu 0 + times_counted w h rs) (true-and (eqb r.word w) (eqb r.half h) (eq-eqb r.word w o.0) (eq-eqb r.half h o.1))

  rest-counted : (r : Row) (rs : List Row) → times_counted w h rs ≤ times_counted w h (r ∷ rs)
  unfolding times_counted
  rest-counted r rs = omega arith

  counted-one : (rs : List Row) (j : ℕ) → j < length rs → Of (nth rs j) → (nth rs j).mu ≤ times_counted w h rs
  counted-one [] j l o = absurd (omega arith)
  counted-one (r ∷ rs) zero l o = let e = first_counted r rs o in omega (arith, e)
  counted-one (r ∷ rs) (suc j) l o = let e = counted-one rs j (omega arith) o in omega (arith, e, rest-counted r rs)

  counted-two : (rs : List Row) (i j : ℕ) → i < j → j < length rs → Of (nth rs i) → Of (nth rs j) → (nth rs i).mu + (nth rs j).mu ≤ times_counted w h rs
  counted-two [] i j l g o q = absurd (omega arith)
  counted-two (r ∷ rs) i zero l g o q = absurd (omega arith)
  counted-two (r ∷ rs) zero (suc j) l g o q = let e = counted-one rs j (omega arith) q in omega (arith, e, first_counted r rs o)
  counted-two (r ∷ rs) (suc i) (suc j) l g o q = let e = counted-two rs i j (omega arith) (omega arith) o q in omega (arith, e, rest-counted r rs)

  -- what is counted is counted in a row
  some-row : (rs : List Row) → 1 ≤ times_counted w h rs → (i : ℕ) × (i < length rs) × Of (nth rs i)
  unfolding times_counted
  some-row [] l = absurd (omega arith)
  some-row (r ∷ rs) l = go (eqb r.word w && eqb r.half h) refl l (some-row rs)
    where
      go : (t : Bool) → (eqb r.word w && eqb r.half h) ≡ t → 1 ≤ pick t r.mu 0 + times_counted w h rs
          → (1 ≤ times_counted w h rs → (i : ℕ) × (i < length rs) × Of (nth rs i)) → (i : ℕ) × (i < length (r ∷ rs)) × Of (nth (r ∷ rs) i)
      go true e k rec = let b = and-true (eqb r.word w) (eqb r.half h) e in (0, omega arith, (eqb-true r.word w b.0, eqb-true r.half h b.1))
      go false e k rec = let x = rec (omega arith) in (suc x.0, omega (arith, x.1), x.2)

module _ (keys : List ℕ) (passed : first_at (bad_at 2 keys) (length keys) ≡ none) where
  abbrev rows : List Row
  rows = rows_of (codes keys)

  pub pair_row_lem : (w h : ℕ) → 1 ≤ times_sent w h keys → (i : ℕ) × (i < length rows) × ((nth rows i).word ≡ w) × ((nth rows i).half ≡ h)
  pair_row_lem w h l = let x = some-row w h rows (omega (arith, all-counted keys passed w h)) in (x.0, x.1, x.2.0, x.2.1)

  pub one-row : (i j : ℕ) → i < j → j < length rows → (nth rows i).word ≡ (nth rows j).word → (nth rows i).half ≡ (nth rows j).half →
      MU-MAX < times_sent (nth rows i).word (nth rows i).half keys
  unfolding InOrder InRange
  one-row i j l g e f =
      let both = counted-two (nth rows i).word (nth rows i).half rows i j l g (refl, refl) (sym e, sym f) in
      let code : code_of (nth rows i) ≡ code_of (nth rows j) = ap₂ (λ (a b : ℕ). a * 65536 + b) e f in
      ⊎_elim (λ lower. absurd (omega (arith, lower, code)))
      (λ full. omega (arith, both, full.1, (rows-in-range (codes keys) j g).0, all-counted keys passed (nth rows i).word (nth rows i).half))
      (rows-in-order (codes keys) i j l g)
