-- The balance by places.
--     PlaceIs        what a place says of tuple k of a table, counted through its rows
--     balance-is     the verdict's two stages of the balance are one search over places
use mathlib.Core.Path.{◌≡◌, refl, sym, ap, subst, ◌∙◌}
use mathlib.Core.Bool.{Bool, true, false, ◌&&◌}
use mathlib.Core.Option.{Option, none, some}
use mathlib.Core.List.{List}
use Prim.Native.Nat.{ℕ, zero, suc, ◌+◌, ◌-◌, ◌*◌, ◌/◌, ◌%◌, ◌≤◌, ◌<◌}
use native.Mathlib.Omega.{arith}
use native.Mathlib.Numerals.{add-one}
use borrow.Author.Tests.{eq-eqb, ne_eqb}
use Rattle.lists.specs.First.{first_at}
use Rattle.lists.proofs.First.{first-start, at_clear, at-found}
use Rattle.lists.proofs.Tests.{and-true, and-false}
use Rattle.lists.proofs.Then.{by_le, then-lt, then-ge}
use Rattle.verdict.specs.Kind.{rows, row, active, actives}
use Rattle.verdict.specs.Verdict.{first_unbalanced, stage, from_round_balance, from_core_balance}
use Rattle.verdict.specs.CoreAndRound.{core_layout, round_layout, core_kind, round_kind}
use Rattle.verdict.specs.declared.Table.{Table}
use Rattle.verdict.specs.declared.Table.TheVariants.{Core, Round}
use Rattle.verdict.specs.declared.Verdict.TheVariants.{Unbalanced, Holds}
use Rattle.judge_scan.specs.Tables.{kind_of, layout_of}
use Rattle.judge_tuples.specs.Port.{tuple_of}
use Rattle.judge_bus.specs.Order.{first_port, second_port, first_index}
use Rattle.judge_bus.proofs.Bus.{odd, Clear, clear-end, spot-off, spot_on, spot-early, spot-late}
use Rattle.sort_places.specs.Places.{core_places, place_count, place_table, place_words, place_row, port_at, place_port, place_row_words, place_tuple}
use Rattle.judge_within.specs.Places.{active_place, sends_at, sends, place_index, bad_place, unbalanced_at, balance_of}

-- ---- places as tuples of the two tables
module _ (nr : ℕ) (core round : List ℕ) where
  pub record PlaceIs (t : Table) (ws : List ℕ) (p k : ℕ) : Type 0 where
    pub on : active_place core round p ≡ active (layout_of t) ws (k / 2)
    pub tuple : place_tuple nr core round p ≡ tuple_of (port_at nr t k) (row (layout_of t) ws (k / 2))
    pub send : sends core p ≡ sends_at t k
    pub table : place_table core p ≡ t
    pub at : place_row core p ≡ k / 2
    pub index : place_index core p ≡ first_index t + k % 2

  made : (t : Table) (ws : List ℕ) (p k : ℕ) → place_table core p ≡ t → place_words core round p ≡ ws → place_row core p ≡ k / 2 → place_port nr core p ≡ port_at nr t k →
      sends core p ≡ sends_at t k → place_index core p ≡ first_index t + k % 2 → PlaceIs t ws p k
  unfolding active_place place_tuple place_row_words
  made t ws p k et ew er ep es ei =
      record {
        on = λ i. active (layout_of (et i)) (ew i) (er i);
        tuple = λ i. tuple_of (ep i) (row (layout_of (et i)) (ew i) (er i));
        send = es;
        table = et;
        at = er;
        index = ei;
      }

  pub core-place : (k : ℕ) → k < core_places core → PlaceIs Core core k k
  unfolding place_table place_words place_row place_port sends place_index
  core-place k l =
      made Core core k k (then-lt (core_places core) k _ _ l) (then-lt (core_places core) k _ _ l) (then-lt (core_places core) k _ _ l) (then-lt (core_places core) k _ _ l)
      (then-lt (core_places core) k _ _ l) (then-lt (core_places core) k _ _ l)

  pub round-place : (k : ℕ) → PlaceIs Round round (core_places core + k) k
  unfolding place_table place_words place_row place_port sends place_index
  round-place k =
      made Round round (core_places core + k) k (then-ge (core_places core) k _ _) (then-ge (core_places core) k _ _) (then-ge (core_places core) k _ _) (then-ge (core_places core) k _ _)
      (then-ge (core_places core) k _ _) (then-ge (core_places core) k _ _)

-- ---- the two tuples of row r
pub half : (r : ℕ) → 2 * r / 2 ≡ r
half r = omega arith

pub half-odd : (r : ℕ) → (2 * r + 1) / 2 ≡ r
half-odd r = omega arith

pub port-even : (nr : ℕ) (t : Table) (r : ℕ) → port_at nr t (2 * r) ≡ first_port nr t
unfolding port_at
port-even nr t r = let e : 2 * r % 2 ≡ 0 = omega arith in rw (eq-eqb (2 * r % 2) 0 e)

pub port-odd : (nr : ℕ) (t : Table) (r : ℕ) → port_at nr t (2 * r + 1) ≡ second_port t
unfolding port_at
port-odd nr t r = let e : (2 * r + 1) % 2 ≡ 1 = omega arith in rw (ne_eqb ((2 * r + 1) % 2) 0 (λ z. omega arith))

module _ (nr : ℕ) (core round : List ℕ) (t : Table) (ws : List ℕ) where
  -- tuple k of the table is unbalanced, its row being active
  abbrev odd_at : ℕ → Bool
  odd_at k = active (layout_of t) ws (k / 2) && odd nr core round (tuple_of (port_at nr t k) (row (layout_of t) ws (k / 2)))

  abbrev here : ℕ → Bool
  here r = active (layout_of t) ws r

  abbrev early : ℕ → Bool
  early r = odd nr core round (tuple_of (first_port nr t) (row (layout_of t) ws r))

  abbrev late : ℕ → Bool
  late r = odd nr core round (tuple_of (second_port t) (row (layout_of t) ws r))

  abbrev found : Option (ℕ × ℕ)
  found = first_unbalanced (core_kind nr) round_kind core round (kind_of nr t) ws

  even-at : (r : ℕ) → odd_at (2 * r) ≡ (here r && early r)
  even-at r = λ i. active (layout_of t) ws (half r i) && odd nr core round (tuple_of (port-even nr t r i) (row (layout_of t) ws (half r i)))

  odd-at : (r : ℕ) → odd_at (2 * r + 1) ≡ (here r && late r)
  odd-at r = λ i. active (layout_of t) ws (half-odd r i) && odd nr core round (tuple_of (port-odd nr t r i) (row (layout_of t) ws (half-odd r i)))

  not-early : (r : ℕ) → odd_at (2 * r) ≡ false → here r ≡ true → early r ≡ false
  not-early r e a = and-false (here r) (early r) (sym (even-at r) ∙ e) a

  clear-to : (r : ℕ) → ((k : ℕ) → k < 2 * r → odd_at k ≡ false) → Clear nr core round t ws r
  clear-to zero h = first-start _
  clear-to (suc r) h = subst (Clear nr core round t ws) (add-one r) (go (here r) refl (clear-to r (λ k l. h k (omega arith))))
    where
      go : (b : Bool) → here r ≡ b → Clear nr core round t ws r → Clear nr core round t ws (r + 1)
      go false e c = spot-off nr core round t ws r c e
      go true e c =
          spot_on nr core round t ws r c e (row (layout_of t) ws r) refl (early r) refl (not-early r (h (2 * r) (omega arith)) e) (late r) refl
          (and-false (here r) (late r) (sym (odd-at r) ∙ h (2 * r + 1) (omega arith)) e)

  table_none : ((k : ℕ) → k < 2 * rows (layout_of t) ws → odd_at k ≡ false) → found ≡ none
  table_none h = clear-end nr core round t ws (rows (layout_of t) ws) (rows (layout_of t) ws) refl (omega arith) (omega arith) (clear-to (rows (layout_of t) ws) h)

  some-early : (r : ℕ) → r < rows (layout_of t) ws → ((j : ℕ) → j < 2 * r → odd_at j ≡ false) → odd_at (2 * r) ≡ true → found ≡ some (r, first_index t)
  some-early r l h e =
      let b = and-true (here r) (early r) (sym (even-at r) ∙ e) in
      spot-early nr core round t ws r (clear-to r h) b.0 (row (layout_of t) ws r) refl (early r) refl (rows (layout_of t) ws) refl l b.1

  some-late : (r : ℕ) → r < rows (layout_of t) ws → ((j : ℕ) → j < 2 * r + 1 → odd_at j ≡ false) → odd_at (2 * r + 1) ≡ true → found ≡ some (r, first_index t + 1)
  some-late r l h e =
      let b = and-true (here r) (late r) (sym (odd-at r) ∙ e) in
      spot-late nr core round t ws r (clear-to r (λ j g. h j (omega arith))) b.0 (row (layout_of t) ws r) refl (early r) refl (not-early r (h (2 * r) (omega arith)) b.0) (late r) refl
      (rows (layout_of t) ws) refl l b.1

  table-some : (k : ℕ) → k < 2 * rows (layout_of t) ws → ((j : ℕ) → j < k → odd_at j ≡ false) → odd_at k ≡ true → found ≡ some (k / 2, first_index t + k % 2)
  table-some k l h e =
      by_le 1 (k % 2)
      (λ g.
      let z : k ≡ 2 * (k / 2) + 1 = omega arith in
      let i : first_index t + 1 ≡ first_index t + k % 2 = omega arith in
      some-late (k / 2) (omega arith) (λ j m. h j (omega arith)) (ap odd_at (sym z) ∙ e) ∙ ap (λ (n : ℕ). some (k / 2, n)) i)
      (λ g.
      let z : k ≡ 2 * (k / 2) = omega arith in
      let i : first_index t ≡ first_index t + k % 2 = omega arith in
      some-early (k / 2) (omega arith) (λ j m. h j (omega arith)) (ap odd_at (sym z) ∙ e) ∙ ap (λ (n : ℕ). some (k / 2, n)) i)

-- ---- one search
module _ (nr : ℕ) (core round : List ℕ) where
  bad-is : (t : Table) (ws : List ℕ) (p k : ℕ) → PlaceIs nr core round t ws p k → bad_place nr core round p ≡ odd_at nr core round t ws k
  unfolding bad_place
  bad-is t ws p k h = λ i. h.on i && odd nr core round (h.tuple i)

  pub named : (t : Table) (ws : List ℕ) (p k : ℕ) → PlaceIs nr core round t ws p k → Unbalanced t (k / 2) (first_index t + k % 2) ≡ unbalanced_at core p
  unfolding unbalanced_at
  named t ws p k h = sym (λ i. Unbalanced (h.table i) (h.at i) (h.index i))

  -- no place before n is bad
  abbrev ClearTo : ℕ → Type 0
  ClearTo n = (p : ℕ) → p < n → bad_place nr core round p ≡ false

  core-clear : (n : ℕ) → ClearTo n → (k : ℕ) → k < n → k < core_places core → odd_at nr core round Core core k ≡ false
  core-clear n h k l g = sym (bad-is Core core k k (core-place nr core round k g)) ∙ h k l

  round-clear : (n : ℕ) → ClearTo n → (k : ℕ) → core_places core + k < n → odd_at nr core round Round round k ≡ false
  round-clear n h k l = sym (bad-is Round round (core_places core + k) k (round-place nr core round k)) ∙ h (core_places core + k) l

  -- no core row, so the round rows decide
  after-core : (n : ℕ) → ClearTo n → core_places core ≤ n → from_core_balance (core_kind nr) round_kind core round ≡ from_round_balance (core_kind nr) round_kind core round
  unfolding from_core_balance stage kind_of layout_of core_places
  after-core n h l = rw (table_none nr core round Core core (λ k g. core-clear n h k (omega arith) g))

  at-core : (p : ℕ) → ClearTo p → bad_place nr core round p ≡ true → p < core_places core → from_core_balance (core_kind nr) round_kind core round ≡ unbalanced_at core p
  unfolding from_core_balance stage kind_of layout_of core_places
  at-core p h e l =
      let q = core-place nr core round p l in
      rw (table-some nr core round Core core p l (λ j g. core-clear p h j g (omega arith)) (sym (bad-is Core core p p q) ∙ e)) (named Core core p p q)

  at-round : (k : ℕ) → ClearTo (core_places core + k) → bad_place nr core round (core_places core + k) ≡ true → k < 2 * rows round_layout round →
      from_core_balance (core_kind nr) round_kind core round ≡ unbalanced_at core (core_places core + k)
  unfolding from_round_balance stage kind_of layout_of
  at-round k h e l =
      let q = round-place nr core round k in
      after-core (core_places core + k) h (omega arith)
      ∙ rw (table-some nr core round Round round k l (λ j g. round-clear (core_places core + k) h j (omega arith)) (sym (bad-is Round round (core_places core + k) k q) ∙ e)) (named Round round (core_places core + k) k q)

  at_none : ClearTo (place_count core round) → from_core_balance (core_kind nr) round_kind core round ≡ Holds (actives core_layout core)
  unfolding from_round_balance stage kind_of layout_of core_places place_count
  at_none h =
      after-core (place_count core round) h (omega arith)
      ∙ rw (table_none nr core round Round round (λ k g. round-clear (place_count core round) h k (omega arith)))

  at_some : (p : ℕ) → ClearTo p → bad_place nr core round p ≡ true → p < place_count core round → from_core_balance (core_kind nr) round_kind core round ≡ unbalanced_at core p
  unfolding place_count core_places
  at_some p h e l =
      by_le (core_places core) p
      (λ g.
      let k : ℕ = p - core_places core in
      let z : core_places core + k ≡ p = omega arith in
      at-round k (λ j m. h j (omega arith)) (ap (bad_place nr core round) z ∙ e) (omega arith) ∙ ap (unbalanced_at core) z)
      (λ g. at-core p h e g)

  pub balance-is : from_core_balance (core_kind nr) round_kind core round ≡ balance_of nr core round
  unfolding balance_of stage
  balance-is = go (first_at (bad_place nr core round) (place_count core round)) refl
    where
      go : (o : Option ℕ) → first_at (bad_place nr core round) (place_count core round) ≡ o →
          from_core_balance (core_kind nr) round_kind core round ≡ stage o (unbalanced_at core) (Holds (actives core_layout core))
      go none e = at_none (λ p l. at_clear (bad_place nr core round) (place_count core round) p e l)
      go (some p) e =
          let f = at-found (bad_place nr core round) (place_count core round) p e in
          at_some p (λ j l. at_clear (bad_place nr core round) p j f.2 l) f.1 f.0

  -- a place that the code names, table by table
  pub core-named : (p : ℕ) → p < core_places core → Unbalanced Core (p / 2) (2 + p % 2) ≡ unbalanced_at core p
  unfolding first_index
  core-named p l = named Core core p p (core-place nr core round p l)

  pub round-named : (p : ℕ) → core_places core ≤ p → Unbalanced Round ((p - core_places core) / 2) ((p - core_places core) % 2) ≡ unbalanced_at core p
  unfolding first_index
  round-named p l =
      let k : ℕ = p - core_places core in
      let z : core_places core + k ≡ p = omega arith in
      let o : k % 2 ≡ 0 + k % 2 = omega arith in
      ap (Unbalanced Round (k / 2)) o ∙ named Round round (core_places core + k) k (round-place nr core round k) ∙ ap (unbalanced_at core) z
