-- n rows of a table from row a on: where they end, their words, that they are a table of their own, and its rows.
use mathlib.Core.Path.{◌≡◌, sym, ap, subst, ◌∙◌}
use mathlib.Core.List.{List}
use Prim.Native.Nat.{ℕ, ◌+◌, ◌-◌, ◌*◌, ◌/◌, ◌%◌, ◌≤◌, ◌<◌}
use native.Mathlib.Nat.{div-mul-le_self, le_trans, mul-le-mul_right, add-mul, mul-mod_left, mul-div_cancel}
use native.Mathlib.Omega.{arith}
use lib.Arith.{digits_lt}
use lib.ListN.{length, get_or, take, drop, length-drop}
use lib.Seq.{get_or-take, get_or-drop, length-take-le}
use Rattle.lists.specs.Tab.{word, row_at}
use Rattle.lists.proofs.Laws.{tab-same}
use Rattle.field.specs.Field.{p}
use Rattle.verdict.specs.Kind.{Layout, rows, row, Whole, Elements}
use Rattle.verdict.specs.declared.Table.{Table}
use Rattle.judge_scan.specs.Tables.{layout_of}
use Rattle.verdict.specs.CoreAndRound.{core_layout, round_layout}
use Rattle.job.specs.Report.{rows_from, Checked}

-- the rows end in the table
ends : (w : ℕ) (ws : List ℕ) (a n : ℕ) → a + n ≤ length ws / w → a * w + n * w ≤ length ws
ends w ws a n l = subst (λ (m : ℕ). m ≤ length ws) (add-mul a n w) (le_trans (mul-le-mul_right w l) (div-mul-le_self (length ws) w))

module _ (A : Layout) (ws : List ℕ) (a n : ℕ) (there : a + n ≤ rows A ws) where
  pub part_length : length (rows_from A ws a n) ≡ n * A.width
  unfolding rows_from
  part_length =
      length-take-le (n * A.width) (drop (a * A.width) ws) (omega (arith, ends A.width ws a n there, length-drop (a * A.width) ws))

  pub part-whole : Whole A (rows_from A ws a n)
  part-whole = ap (λ (m : ℕ). m % A.width) part_length ∙ mul-mod_left n A.width

  pub part-word : (k : ℕ) → k < n * A.width → word (rows_from A ws a n) k ≡ word ws (a * A.width + k)
  unfolding rows_from
  part-word k l = get_or-take (n * A.width) (drop (a * A.width) ws) k 0 l ∙ get_or-drop (a * A.width) ws k 0

  pub part-below : Elements ws → Elements (rows_from A ws a n)
  part-below h k l =
      let g : k < n * A.width = omega (arith, l, part_length) in
      subst (λ (m : ℕ). m < p) (sym (part-word k g)) (h (a * A.width + k) (omega (arith, g, ends A.width ws a n there)))

  module _ (some : 0 < A.width) where
    pub part-rows : rows A (rows_from A ws a n) ≡ n
    part-rows = ap (λ (m : ℕ). m / A.width) part_length ∙ mul-div_cancel n some

    -- row r of the part is row a + r of the table
    pub part-row : (r : ℕ) → r < n → row A (rows_from A ws a n) r ≡ row A ws (a + r)
    unfolding row_at
    part-row r l =
        tab-same A.width (λ k. get_or (rows_from A ws a n) (r * A.width + k) 0) (λ k. get_or ws ((a + r) * A.width + k) 0)
        (λ k g.
        let e : a * A.width + (r * A.width + k) ≡ (a + r) * A.width + k = omega (arith, add-mul a r A.width) in
        part-word (r * A.width + k) (digits_lt l g) ∙ ap (word ws) e)

-- parts of tables that are not refused are not refused
pub parts-checked : (core round : List ℕ) (a c b d : ℕ) → a + c ≤ rows core_layout core → b + d ≤ rows round_layout round → Checked core round →
    Checked (rows_from core_layout core a c) (rows_from round_layout round b d)
parts-checked core round a c b d l g h =
    record {
      core-whole = part-whole core_layout core a c l;
      round_whole = part-whole round_layout round b d g;
      core-below = part-below core_layout core a c l h.core-below;
      round-below = part-below round_layout round b d g h.round-below;
    }

-- ---- a part, where the width is what `width_of` answers
module _ (t : Table) (w : ℕ) (ew : w ≡ (layout_of t).width) (ws : List ℕ) (a n : ℕ) (there : a + n ≤ rows (layout_of t) ws) where
  pub ends_as : a * w + n * w ≤ length ws
  ends_as = ends w ws a n (subst (λ (k : ℕ). a + n ≤ length ws / k) (sym ew) there)

  pub part-as : take (a * w + n * w - a * w) (drop (a * w) ws) ≡ rows_from (layout_of t) ws a n
  unfolding rows_from
  part-as =
      let e : a * w + n * w - a * w ≡ n * w = omega arith in
      ap (λ (k : ℕ). take k (drop (a * w) ws)) e ∙ ap (λ (k : ℕ). take (n * k) (drop (a * k) ws)) ew
