-- What a scan over rows cites, where a row is handed on as a part of the slice.
--     spot-at, spot-nowhere   what the answer of a scan says
--     layout_is, mu-is, wide   the layouts of the two tables: the same for each number of rounds, and MU is the last word
--     ends_as, row_as, element-as, active-as, rows_as   a row of a table by its width
--     active-word   whether row r is active, by its word MU in the table
--     part-is, part-long, part-row   the part of a table that is row r: its words, how many, and that they are elements
use mathlib.Core.Path.{◌≡◌, refl, sym, ap, subst, ◌∙◌}
use mathlib.Core.Option.{Option, none, some}
use mathlib.Core.List.{List}
use Prim.Native.Nat.{ℕ, ◌+◌, ◌-◌, ◌*◌, ◌/◌, ◌≤◌, ◌<◌}
use native.Mathlib.Nat.{div-le_self, div-mul-le_self, le_trans, mul-le-mul_right, suc-mul}
use native.Mathlib.Omega.{arith}
use lib.Dec.{eqb}
use lib.ListN.{length, take, drop}
use Rattle.lists.specs.Tab.{word, row_at}
use Rattle.lists.proofs.Laws.{length-row_at, word-row_at}
use Rattle.lists.proofs.Kept.{part-tab}
use Rattle.field.specs.Field.{p}
use Rattle.field.specs.Elements.{ElementRow}
use Rattle.verdict.specs.Kind.{Layout, rows, is_active, active, Elements}
use Rattle.verdict.specs.declared.Table.{Table}
use Rattle.verdict.specs.declared.Table.TheVariants.{Core, Round}
use Rattle.judge_scan.specs.Tables.{kind_of, layout_of}
use Rattle.judge_scan.specs.declared.Spot.{Spot}
use Rattle.judge_scan.specs.Spot.{spot_of}
use Rattle.std.specs.Prelude.{Some, None}

-- ---- the answer of a scan
pub spot-at : (o : Option (ℕ × ℕ)) {s : Spot} → Some s ≡ spot_of o → o ≡ some (s.row, s.index)
spot-at none e = cc
spot-at (some x) {s} e = let a : x.0 ≡ s.row = cc in let b : x.1 ≡ s.index = cc in ap some (λ j. (a j, b j))

pub spot-nowhere : (o : Option (ℕ × ℕ)) → None ≡ spot_of o → o ≡ none
spot-nowhere none e = refl
spot-nowhere (some x) e = cc

-- ---- the two tables
pub layout_is : (nr : ℕ) (t : Table) → (kind_of nr t).layout ≡ layout_of t
unfolding kind_of layout_of
layout_is nr Core = refl
layout_is nr Round = refl

pub mu-is : (t : Table) → (layout_of t).mu + 1 ≡ (layout_of t).width
unfolding layout_of
mu-is Core = refl
mu-is Round = refl

pub wide : (t : Table) → 486 ≤ (layout_of t).width
unfolding layout_of
wide Core = omega arith
wide Round = omega arith

-- what a match has found
pub told-width : {t u : Table} → t ≡ u → (layout_of u).width ≡ (layout_of t).width
told-width e = ap (λ (t : Table). (layout_of t).width) (sym e)

-- ---- a row as a part of the slice
-- row r of a table of rows of w words ends in the table
pub row_ends : (w : ℕ) (ws : List ℕ) (r : ℕ) → r < length ws / w → r * w + w ≤ length ws
row_ends w ws r l = le_trans (subst (λ (m : ℕ). m ≤ length ws / w * w) (suc-mul r w) (mul-le-mul_right w l)) (div-mul-le_self (length ws) w)

-- whether row r is active, by its word MU in the table
pub active-word : (A : Layout) (ws : List ℕ) → A.mu < A.width → (r : ℕ) → eqb (word ws (r * A.width + A.mu)) 1 ≡ active A ws r
unfolding is_active
active-word A ws l r = ap (λ (n : ℕ). eqb n 1) (sym (word-row_at A.width ws r A.mu l))

module _ (w : ℕ) (ws : List ℕ) (r : ℕ) (l : r < length ws / w) where
  pub part-is : take (r * w + w - r * w) (drop (r * w) ws) ≡ row_at w ws r
  unfolding row_at
  part-is = part-tab ws (r * w) w (row_ends w ws r l)

  pub part-long : w ≤ length (take (r * w + w - r * w) (drop (r * w) ws))
  part-long = omega (arith, ap length part-is, length-row_at w ws r)

  pub part-row : Elements ws → ElementRow w (take (r * w + w - r * w) (drop (r * w) ws))
  part-row h =
      record {
        long = part-long;
        below = λ k g.
            subst (λ (n : ℕ). n < p) (sym (ap (λ (x : List ℕ). word x k) part-is ∙ word-row_at w ws r k g))
            (h (r * w + k) (omega (arith, row_ends w ws r l)));
      }

-- how long a row is
pub row-long : (w : ℕ) (y ws : List ℕ) (r : ℕ) → y ≡ row_at w ws r → length y ≡ w
row-long w y ws r e = ap length e ∙ length-row_at w ws r

-- a table's row, where the width is what `width_of` answers
module _ (t : Table) (w : ℕ) (ew : w ≡ (layout_of t).width) (ws : List ℕ) where
  pub rows_as : length ws / w ≡ rows (layout_of t) ws
  rows_as = ap (λ (k : ℕ). length ws / k) ew

  pub rows-small : rows (layout_of t) ws ≤ length ws
  rows-small = div-le_self (length ws) (layout_of t).width

  module _ (r : ℕ) (l : r < rows (layout_of t) ws) where
    pub in-as : r < length ws / w
    in-as = omega (arith, rows_as)

    pub ends_as : r * w + w ≤ length ws
    ends_as = row_ends w ws r in-as

    pub row_as : take (r * w + w - r * w) (drop (r * w) ws) ≡ row_at (layout_of t).width ws r
    row_as = part-is w ws r in-as ∙ ap (λ (k : ℕ). row_at k ws r) ew

    pub element-as : Elements ws → ElementRow (layout_of t).width (take (r * w + w - r * w) (drop (r * w) ws))
    element-as h = subst (λ (k : ℕ). ElementRow k (take (r * w + w - r * w) (drop (r * w) ws))) ew (part-row w ws r in-as h)

    pub active-as : eqb (word ws (r * w + (w - 1))) 1 ≡ active (layout_of t) ws r
    active-as =
        let em : w - 1 ≡ (layout_of t).mu = omega (arith, mu-is t) in
        (λ i. eqb (word ws (r * ew i + em i)) 1) ∙ active-word (layout_of t) ws (omega (arith, mu-is t)) r
