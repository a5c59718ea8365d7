-- What the tuples of a row add to the counters, and what the rows of the written table add together.
use mathlib.Core.Bool.{Bool, true, false}
use mathlib.Core.List.{List, [], ◌∷◌}
use mathlib.Core.Path.{◌≡◌, refl, sym, ap, ap₂, subst, ◌∙◌}
use Prim.Native.Nat.{ℕ, ◌+◌, ◌-◌, ◌*◌, ◌/◌, ◌%◌, ◌^◌, ◌≤◌, ◌<◌}
use native.Mathlib.Nat.{add-sub_of_le}
use native.Mathlib.Numerals.{add-one}
use native.Mathlib.Omega.{arith}
use borrow.Author.Tests.{eq-eqb, ne_eqb}
use lib.Dec.{eqb}
use lib.ListN.{length}
use Rattle.lists.specs.Tab.{pick, word, row_at}
use Rattle.lists.specs.Sum.{sum_below}
use Rattle.lists.proofs.Sum.{sum_same, sum-const, sum-add, sum-hit}
use Rattle.field.specs.Field.{p}
use Rattle.tuple.specs.Tuple.{sender}
use Rattle.tuple.specs.declared.Bus.TheVariants.{IsHalfword, IsB20}
use Rattle.bitwise.specs.Columns.{NUM-COUNTERS}
use Rattle.bitwise.specs.Charge.{charged_row, charged}
use Rattle.bitwise.proofs.Charge.{half-counted, twenty-counted, adds, sent-adds, received-adds}
use Rattle.is_wh.specs.Row.{pair_row, pad_row}
use Rattle.is_wh.specs.Tuples.{is_wh_tuple}
use Rattle.is_wh.proofs.Tuples.{mu-sent, half-sent, pair-received}
use Rattle.is_wh_rows.specs.Lists.{limit_of, GoodList}
use Rattle.is_wh_trace.specs.Trace.{row_count, trace_row, is_wh_height, is_wh_table}
use Rattle.is_wh_trace.proofs.Rows.{row_before, row-behind, written_row}
use Rattle.keccak.proofs.Height.{height-ge}
use Rattle.is_wh_counts.specs.Counts.{sending_rows, is_wh_charged, grown_counters}
use Rattle.is_wh_counts.specs.Steps.{charged_by_row, RowBelow}
use Rattle.is_wh_counts.proofs.Grown.{Grown, grown-none, grown-same, grown-below, grown-charge, grown-all}

-- ---- a row
-- what its tuples add to counter c
abbrev row_adds : List ℕ → ℕ → ℕ
row_adds row c = sum_below 5 (λ i. adds c (is_wh_tuple row i))

module _ (w h mu c : ℕ) (lw : w < 2 ^ 32) (lh : h < 2 ^ 16) (lm : mu < 2 ^ 20) where
  abbrev row : List ℕ
  row = pair_row w h mu

  half-adds : (i n : ℕ) → 0 < i → i < 4 → word row (i - 1) ≡ n → n < 2 ^ 16 → adds c (is_wh_tuple row i) ≡ pick (eqb c (n * 10 + 4)) mu 0
  half-adds i n l g e b =
      ap (adds c) (half-sent row i l g ∙ ap (λ (k : ℕ). sender IsHalfword mu (k ∷ [])) e) ∙ sent-adds c IsHalfword mu (n ∷ []) (n * 10 + 4) (half-counted n b)

  pub row-adds : row_adds (pair_row w h mu) c ≡ pick (eqb c (mu * 10 + 5)) 1 0 + pick (eqb c (h * 10 + 4)) mu 0 + pick (eqb c (w % 65536 * 10 + 4)) mu 0 + pick (eqb c (w / 65536 * 10 + 4)) mu 0
  unfolding sum_below
  row-adds =
      let a = ap (adds c) (mu-sent row 0 refl) ∙ sent-adds c IsB20 1 (mu ∷ []) (mu * 10 + 5) (twenty-counted mu lm) in
      let b = half-adds 1 h (omega arith) (omega arith) refl lh in
      let d = half-adds 2 (w % 65536) (omega arith) (omega arith) refl (omega arith) in
      let e = half-adds 3 (w / 65536) (omega arith) (omega arith) refl (omega arith) in
      let f = ap (adds c) (pair-received row 4 (omega arith)) ∙ received-adds c _ mu _ in
      omega (arith, a, b, d, e, f)

-- it adds to each of its counters, to those of halves where its μ is not 0
same : (c n : ℕ) → pick (eqb c c) n 0 ≡ n
same c n = ap (λ (b : Bool). pick b n 0) (eq-eqb c c refl)

module _ (w h mu : ℕ) (lw : w < 2 ^ 32) (lh : h < 2 ^ 16) (lm : mu < 2 ^ 20) where
  adds-twenty : 0 < row_adds (pair_row w h mu) (mu * 10 + 5)
  adds-twenty = let a = row-adds w h mu (mu * 10 + 5) lw lh lm in let b = same (mu * 10 + 5) 1 in omega (arith, a, b)

  module _ (some : 0 < mu) where
    adds-half : 0 < row_adds (pair_row w h mu) (h * 10 + 4)
    adds-half = let a = row-adds w h mu (h * 10 + 4) lw lh lm in let b = same (h * 10 + 4) mu in omega (arith, a, b, some)

    adds-low : 0 < row_adds (pair_row w h mu) (w % 65536 * 10 + 4)
    adds-low = let a = row-adds w h mu (w % 65536 * 10 + 4) lw lh lm in let b = same (w % 65536 * 10 + 4) mu in omega (arith, a, b, some)

    adds-high : 0 < row_adds (pair_row w h mu) (w / 65536 * 10 + 4)
    adds-high = let a = row-adds w h mu (w / 65536 * 10 + 4) lw lh lm in let b = same (w / 65536 * 10 + 4) mu in omega (arith, a, b, some)

pub pad-adds : (c : ℕ) → row_adds pad_row c ≡ pick (eqb c 5) 1 0
pad-adds c = row-adds 0 0 0 c (omega arith) (omega arith) (omega arith) ∙ go (eqb c 5) (eqb c 4)
  where
    go : (a b : Bool) → pick a 1 0 + pick b 0 0 + pick b 0 0 + pick b 0 0 ≡ pick {A = ℕ} a 1 0
    go true true = refl
    go true false = refl
    go false true = refl
    go false false = refl

-- ---- the rows of a list
module _ (rows : List ℕ) where
  abbrev pub list_adds : ℕ → ℕ → ℕ
  list_adds n = charged n 5 (λ r. is_wh_tuple (trace_row rows r))

  more-adds : (i c : ℕ) → list_adds (i + 1) c ≡ list_adds i c + row_adds (trace_row rows i) c
  unfolding charged_row charged sum_below
  more-adds i c = ap (λ (k : ℕ). sum_below k (λ r. row_adds (trace_row rows r) c)) (add-one i)

  -- the words of row i
  pub good-row : GoodList 3 rows → (i : ℕ) → i < length rows / 3
      → (word rows (3 * i) < 2 ^ 32) × (word rows (3 * i + 1) < 2 ^ 16) × (word rows (3 * i + 2) < 2 ^ 20)
  good-row g i l =
      let a : 3 * i % 3 ≡ 0 = omega arith in
      let b : (3 * i + 1) % 3 ≡ 1 = omega arith in
      let d : (3 * i + 2) % 3 ≡ 2 = omega arith in (
        subst (λ (n : ℕ). word rows (3 * i) < limit_of n) a (g.below (3 * i) (omega arith)),
        subst (λ (n : ℕ). word rows (3 * i + 1) < limit_of n) b (g.below (3 * i + 1) (omega arith)),
        subst (λ (n : ℕ). word rows (3 * i + 2) < limit_of n) d (g.below (3 * i + 2) (omega arith)),
      )

  -- the same counter by counter
  pub next-adds : (i c : ℕ) → (word rows (3 * i) < 2 ^ 32) × (word rows (3 * i + 1) < 2 ^ 16) × (word rows (3 * i + 2) < 2 ^ 20)
      → list_adds (i + 1) c ≡ list_adds i c + pick (eqb c (word rows (3 * i + 2) * 10 + 5)) 1 0 + pick (eqb c (word rows (3 * i + 1) * 10 + 4)) (word rows (3 * i + 2)) 0 + pick (eqb c (word rows (3 * i) % 65536 * 10 + 4)) (word rows (3 * i + 2)) 0 + pick (eqb c (word rows (3 * i) / 65536 * 10 + 4)) (word rows (3 * i + 2)) 0
  unfolding trace_row
  next-adds i c b =
      more-adds i c ∙ ap (λ (k : ℕ). list_adds i c + k) (row-adds (word rows (3 * i)) (word rows (3 * i + 1)) (word rows (3 * i + 2)) c b.0 b.1 b.2) ∙ omega arith

  -- what a row adds is part of what all add
  row-part : (n i c : ℕ) → i < n → row_adds (trace_row rows i) c ≤ list_adds n c
  unfolding charged_row charged
  row-part n i c l = sum-hit n (λ r. row_adds (trace_row rows r) c) i l

  -- after i turns
  pub record ListGrown (C₀ C : List ℕ) (i : ℕ) : Type 0 where
    pub bound : i ≤ length rows / 3
    pub grown : Grown C₀ (list_adds i) C

  pub list-start : (C : List ℕ) → ListGrown C C 0
  unfolding charged_row charged sum_below
  list-start C = record { bound = omega arith; grown = grown-none C (list_adds 0) (λ c. refl) }

  module _ (C₀ : List ℕ) (long : NUM-COUNTERS ≤ length C₀) (g : GoodList 3 rows) (n : ℕ) (all : n ≡ length rows / 3)
      (clear : (c : ℕ) → c < NUM-COUNTERS → 0 < list_adds n c → word C₀ c < p) where
    -- the counters of row i are below p before any is charged
    first_below : (i : ℕ) → i < n → RowBelow C₀ (word rows (3 * i)) (word rows (3 * i + 1)) (word rows (3 * i + 2))
    unfolding trace_row
    first_below i l =
        let b = good-row g i (omega (arith, l, all)) in
        let w = word rows (3 * i) in
        let h = word rows (3 * i + 1) in
        let mu = word rows (3 * i + 2) in
        let below : (c : ℕ) → c < NUM-COUNTERS → 0 < row_adds (pair_row w h mu) c → word C₀ c < p = λ c k q. clear c k (omega (arith, q, row-part n i c l)) in
        record {
          twenty = below (mu * 10 + 5) (omega (arith, b.2)) (adds-twenty w h mu b.0 b.1 b.2);
          half = λ q. below (h * 10 + 4) (omega (arith, b.1)) (adds-half w h mu b.0 b.1 b.2 q);
          low = λ q. below (w % 65536 * 10 + 4) (omega arith) (adds-low w h mu b.0 b.1 b.2 q);
          high = λ q. below (w / 65536 * 10 + 4) (omega (arith, b.0)) (adds-high w h mu b.0 b.1 b.2 q);
        }

    -- and after others were
    pub row_below : {C : List ℕ} (i : ℕ) → ListGrown C₀ C i → i < n → RowBelow C (word rows (3 * i)) (word rows (3 * i + 1)) (word rows (3 * i + 2))
    row_below {C} i s l =
        let b = good-row g i (omega (arith, l, all)) in
        let r = first_below i l in
        record {
          twenty = grown-below s.grown (word rows (3 * i + 2) * 10 + 5) (omega (arith, b.2)) r.twenty;
          half = λ q. grown-below s.grown (word rows (3 * i + 1) * 10 + 4) (omega (arith, b.1)) (r.half q);
          low = λ q. grown-below s.grown (word rows (3 * i) % 65536 * 10 + 4) (omega arith) (r.low q);
          high = λ q. grown-below s.grown (word rows (3 * i) / 65536 * 10 + 4) (omega (arith, b.0)) (r.high q);
        }

    pub list-more : {C C' : List ℕ} (i : ℕ) → ListGrown C₀ C i → i < n → C' ≡ charged_by_row C (word rows (3 * i)) (word rows (3 * i + 1)) (word rows (3 * i + 2))
        → ListGrown C₀ C' (i + 1)
    unfolding charged_by_row trace_row
    list-more {C} {C'} i s l e =
        let w = word rows (3 * i) in
        let h = word rows (3 * i + 1) in
        let mu = word rows (3 * i + 2) in
        let b = good-row g i (omega (arith, l, all)) in
        let r = first_below i l in
        let a₁ = grown-charge s.grown (mu * 10 + 5) 1 long (omega (arith, b.2)) (λ _. r.twenty) in
        let a₂ = grown-charge a₁ (h * 10 + 4) mu long (omega (arith, b.1)) r.half in
        let a₃ = grown-charge a₂ (w % 65536 * 10 + 4) mu long (omega arith) r.low in
        let a₄ = grown-charge a₃ (w / 65536 * 10 + 4) mu long (omega (arith, b.0)) r.high in
        record {
          bound = omega (arith, l, all);
          grown = subst (Grown C₀ (list_adds (i + 1))) (sym e) (grown-same a₄ (list_adds (i + 1)) (λ c _. sym (next-adds i c b)));
        }

    pub list_all : {C : List ℕ} (i : ℕ) → ListGrown C₀ C i → n ≤ i → C ≡ grown_counters C₀ (list_adds n)
    list_all {C} i s l =
        let b = s.bound in
        let q : i ≡ n = omega (arith, b, l, all) in
        grown-all s.grown long ∙ ap (λ (k : ℕ). grown_counters C₀ (list_adds k)) q

  -- ---- and the padding
  pub table-adds : (c : ℕ) → row_count rows ≤ is_wh_height rows
      → charged (is_wh_height rows) 5 (λ r. is_wh_tuple (row_at 4 (is_wh_table rows) r)) c ≡ list_adds (row_count rows) c + pick (eqb c 5) (is_wh_height rows - row_count rows) 0
  unfolding charged_row charged
  table-adds c le =
      let n = row_count rows in
      let m = is_wh_height rows - row_count rows in
      let F : ℕ → ℕ = λ r. row_adds (row_at 4 (is_wh_table rows) r) c in
      ap (λ (k : ℕ). sum_below k F) (sym (add-sub_of_le le))
      ∙ sum-add n m F
      ∙ ap₂ ◌+◌
      (sum_same n F (λ r. row_adds (trace_row rows r) c) (λ r l. ap (λ (x : List ℕ). row_adds x c) (written_row rows r (omega arith) ∙ row_before rows n r l)))
      (sum_same m (λ k. F (n + k)) (λ k. pick (eqb c 5) 1 0) (λ k l. ap (λ (x : List ℕ). row_adds x c) (written_row rows (n + k) (omega arith) ∙ row-behind rows n (n + k) (omega arith)) ∙ pad-adds c)
      ∙ sum-const m (pick (eqb c 5) 1 0)
      ∙ times (eqb c 5) m)
    where
      times : (b : Bool) (m : ℕ) → m * pick b 1 0 ≡ pick b m 0
      times true m = omega arith
      times false m = omega arith

  -- what is charged, where there are rows
  pub charged-is : (row_count rows ≡ 0 → ⊥) → (c : ℕ) → is_wh_charged rows c ≡ list_adds (row_count rows) c + pick (eqb c 5) (is_wh_height rows - row_count rows) 0
  unfolding is_wh_charged sending_rows
  charged-is has c =
      ap (λ (t : Bool). charged (pick t 0 (is_wh_height rows)) 5 (λ r. is_wh_tuple (row_at 4 (is_wh_table rows) r)) c) (ne_eqb (row_count rows) 0 has)
      ∙ table-adds c (height-ge 4 (row_count rows))

-- "No sends, no table": no rows, nothing
pub none-charged : (rows : List ℕ) → row_count rows ≡ 0 → (c : ℕ) → is_wh_charged rows c ≡ 0
unfolding is_wh_charged charged sending_rows sum_below
none-charged rows e c = ap (λ (b : Bool). charged (pick b 0 (is_wh_height rows)) 5 (λ r. is_wh_tuple (row_at 4 (is_wh_table rows) r)) c) (eq-eqb (row_count rows) 0 e)
