-- What the search for an unbalanced tuple cites: the laws of verdict's Tuples and of UnevenRow by port.
--     uneven-left                       what the walk passed is even, so the counts of the other rows decide
--     Two                               what the tables say of the two tuples of a row
--     spot-off, spot_on, spot-early, spot-late   what a row says of the search: not active; no tuple; the first one; the second
use mathlib.Core.Path.{◌≡◌, refl, sym, ap, ◌∙◌}
use mathlib.Core.Bool.{Bool, true, false, not, ◌&&◌}
use mathlib.Core.Option.{Option, none, some}
use mathlib.Core.List.{List}
use Prim.Native.Nat.{ℕ, ◌+◌, ◌≤◌, ◌<◌}
use native.Mathlib.Omega.{arith}
use borrow.Author.Tests.{eqb-true, eq-eqb}
use lib.Dec.{eqb}
use Rattle.lists.specs.Tab.{followed_by}
use Rattle.lists.specs.First.{first, in_row}
use Rattle.lists.proofs.First.{first_more, first-hit, in-none}
use Rattle.keccak.specs.Tuples.{core_tuple}
use Rattle.keccak_rnd.specs.Tuples.{round_tuple}
use Rattle.tuple.specs.declared.Side.TheVariants.{Sender, Receiver}
use Rattle.verdict.specs.Kind.{rows, row, active, sent, received}
use Rattle.verdict.specs.Verdict.{uneven, bad_tuple, first_unbalanced}
use Rattle.verdict.specs.CoreAndRound.{core_layout, round_layout, core_kind, round_kind}
use Rattle.verdict.proofs.Tuples.{active-tuples-count, core-bus, round-bus}
use Rattle.judge_bus.proofs.UnevenRow.{two-early, two-late, two_none, bad-side, bad-other}
use Rattle.judge_scan.specs.Spot.{spot, spot_of}
use Rattle.verdict.specs.declared.Table.{Table}
use Rattle.verdict.specs.declared.Table.TheVariants.{Core, Round}
use Rattle.judge_scan.specs.Tables.{kind_of, layout_of}
use Rattle.judge_scan.proofs.Scan.{layout_is}
use Rattle.judge_tuples.specs.Port.{tuple_of, table_of, width_of}
use Rattle.judge_tuples.specs.declared.Port.{Port}
use Rattle.judge_links.specs.Even.{Even}
use Rattle.judge_links.proofs.Even.{core-sends, core-receives, round-sends, round-receives, counts}
use Rattle.judge_links.specs.Counting.{sent_by, received_by, counts_to}
use Rattle.judge_links.specs.declared.Counts.{Counts}
use Rattle.judge_links.proofs.Counting.{is-counted}
use Rattle.judge_bus.specs.Order.{first_port, second_port, first_index}
use Rattle.std.specs.Prelude.{Some}

eqb_same : (a b c d : ℕ) → (a ≡ b → c ≡ d) → (c ≡ d → a ≡ b) → eqb a b ≡ eqb c d
eqb_same a b c d f g = go (eqb a b) (eqb c d) refl refl
  where
    go : (s t : Bool) → eqb a b ≡ s → eqb c d ≡ t → s ≡ t
    go true true p q = refl
    go false false p q = refl
    go true false p q = sym (eq-eqb c d (f (eqb-true a b p))) ∙ q
    go false true p q = sym p ∙ eq-eqb a b (g (eqb-true c d q))

module _ (nr : ℕ) (core round v : List ℕ) where
  pub uneven-left : (a b : ℕ) (t u : Counts) → Even nr core round a b → a ≤ rows core_layout core → b ≤ rows round_layout round →
      t ≡ counts_to nr Core core v a (rows core_layout core) → u ≡ counts_to nr Round round v b (rows round_layout round) →
      not (eqb (t.sent + u.sent) (t.received + u.received)) ≡ uneven (core_kind nr) round_kind core round v
  unfolding Even uneven layout_of sent_by received_by
  uneven-left a b t u h la lb et eu =
      let c = is-counted nr Core core v a (rows core_layout core) t la et in
      let d = is-counted nr Round round v b (rows round_layout round) u lb eu in
      let es = active-tuples-count (core-bus nr) Sender core v ∙ sym (counts (core-sends nr core v) (rows core_layout core)) in
      let fs = active-tuples-count round-bus Sender round v ∙ sym (counts (round-sends round v) (rows round_layout round)) in
      let er = active-tuples-count (core-bus nr) Receiver core v ∙ sym (counts (core-receives nr core v) (rows core_layout core)) in
      let fr = active-tuples-count round-bus Receiver round v ∙ sym (counts (round-receives round v) (rows round_layout round)) in
      ap not (eqb_same (t.sent + u.sent) (t.received + u.received) (sent (core_kind nr) core v + sent round_kind round v) (received (core_kind nr) core v + received round_kind round v)
      (λ z. omega (arith, h v, es, fs, er, fr, c.sends, c.receives, d.sends, d.receives))
      (λ z. omega (arith, h v, es, fs, er, fr, c.sends, c.receives, d.sends, d.receives)))

  -- a tuple by the port that the code has
  pub uneven-port : {p q : Port} → p ≡ q → uneven (core_kind nr) round_kind core round (tuple_of p v) ≡ uneven (core_kind nr) round_kind core round (tuple_of q v)
  uneven-port e = ap (λ (p : Port). uneven (core_kind nr) round_kind core round (tuple_of p v)) e

-- ---- the two tuples of a row
-- what a match has found
module _ {t u : Table} (e : t ≡ u) where
  pub told-first : (nr : ℕ) → first_port nr u ≡ first_port nr t
  told-first nr = ap (first_port nr) (sym e)

  pub told-second : second_port u ≡ second_port t
  told-second = ap second_port (sym e)

  pub told-index : first_index u ≡ first_index t
  told-index = ap first_index (sym e)

-- such a row is as long as its tuples need
pub first_fits : (nr : ℕ) (t : Table) (n : ℕ) → (layout_of t).width ≤ n → width_of (first_port nr t) ≤ n
unfolding width_of table_of first_port
first_fits nr Core n l = l
first_fits nr Round n l = l

pub second_fits : (t : Table) (n : ℕ) → (layout_of t).width ≤ n → width_of (second_port t) ≤ n
unfolding width_of table_of second_port
second_fits Core n l = l
second_fits Round n l = l

pub port-fits : (p q : Port) (n : ℕ) → p ≡ q → width_of q ≤ n → width_of p ≤ n
port-fits p q n e l = omega (arith, ap width_of e)

module _ (nr : ℕ) (core round : List ℕ) where
  -- tuple j of row r of a table is unbalanced, and the row is active
  abbrev pub bad : Table → List ℕ → ℕ → ℕ → Bool
  bad t ws = bad_tuple (core_kind nr) round_kind core round (kind_of nr t) ws

  -- the tuple v is unbalanced
  abbrev pub odd : List ℕ → Bool
  odd v = uneven (core_kind nr) round_kind core round v

  pub record Two (t : Table) : Type 0 where
    pub inside : first_index t + 1 < (kind_of nr t).tuples
    pub early : (ws : List ℕ) (r : ℕ) → bad t ws r (first_index t) ≡ (active (layout_of t) ws r && odd (tuple_of (first_port nr t) (row (layout_of t) ws r)))
    pub late : (ws : List ℕ) (r : ℕ) → bad t ws r (first_index t + 1) ≡ (active (layout_of t) ws r && odd (tuple_of (second_port t) (row (layout_of t) ws r)))
    pub other : (ws : List ℕ) (r i : ℕ) → (i ≡ first_index t → ⊥) → (i ≡ first_index t + 1 → ⊥) → bad t ws r i ≡ false

  -- a core row's send comes first, a round row's receive
  two-of : (t : Table) → Two t
  unfolding kind_of layout_of first_index first_port second_port tuple_of core_tuple round_tuple followed_by
  two-of Core =
      record {
        inside = omega arith;
        early = λ ws r. bad-side (core_kind nr) round_kind core round (core-bus nr) ws r Sender;
        late = λ ws r. bad-side (core_kind nr) round_kind core round (core-bus nr) ws r Receiver;
        other = λ ws r i n m. bad-other (core_kind nr) round_kind core round (core-bus nr) ws r i n m;
      }
  two-of Round =
      record {
        inside = omega arith;
        early = λ ws r. bad-side (core_kind nr) round_kind core round round-bus ws r Receiver;
        late = λ ws r. bad-side (core_kind nr) round_kind core round round-bus ws r Sender;
        other = λ ws r i n m. bad-other (core_kind nr) round_kind core round round-bus ws r i m n;
      }

-- ---- the search, row by row
pub spot_is : (o : Option (ℕ × ℕ)) (r i j : ℕ) → i ≡ j → o ≡ some (r, j) → Some (spot r i) ≡ spot_of o
spot_is o r i j e f = ap (λ (k : ℕ). Some (spot r k)) e ∙ sym (ap spot_of f)

pub spot-next : (o : Option (ℕ × ℕ)) (r i j : ℕ) → i ≡ j → o ≡ some (r, j + 1) → Some (spot r (i + 1)) ≡ spot_of o
spot-next o r i j e f = spot_is o r (i + 1) (j + 1) (ap (λ (k : ℕ). k + 1) e) f

pub index-small : (t : Table) (i : ℕ) → i ≡ first_index t → i ≤ 2
unfolding first_index
index-small Core i e = omega arith
index-small Round i e = omega arith

module _ (nr : ℕ) (core round : List ℕ) (t : Table) (ws : List ℕ) where
  -- no row before r has one
  abbrev pub Clear : ℕ → Type 0
  Clear r = first (in_row (bad nr core round t ws) (kind_of nr t).tuples) r ≡ none

  abbrev two : Two nr core round t
  two = two-of nr core round t

  rows_are : (n : ℕ) → n ≡ rows (layout_of t) ws → n ≡ rows (kind_of nr t).layout ws
  rows_are n e = e ∙ sym (λ i. rows (layout_is nr t i) ws)

  pub clear-end : (r n : ℕ) → n ≡ rows (layout_of t) ws → r ≤ n → n ≤ r → Clear r → first_unbalanced (core_kind nr) round_kind core round (kind_of nr t) ws ≡ none
  clear-end r n e l g f = in-none (bad nr core round t ws) (kind_of nr t).tuples r (rows (kind_of nr t).layout ws) (omega (arith, rows_are n e)) (omega (arith, rows_are n e)) f

  module _ (r : ℕ) (f : Clear r) where
    pub spot-off : active (layout_of t) ws r ≡ false → Clear (r + 1)
    spot-off e =
        first_more (in_row (bad nr core round t ws) (kind_of nr t).tuples) r f
        (two_none (bad nr core round t ws) (kind_of nr t).tuples (first_index t) (first_index t + 1) r (omega arith) two.inside (two.other ws r) (two.early ws r ∙ rw e) (two.late ws r ∙ rw e))

    module _ (on : active (layout_of t) ws r ≡ true) (x : List ℕ) (ex : x ≡ row (layout_of t) ws r) (d : Bool) (ed : d ≡ odd nr core round (tuple_of (first_port nr t) x)) where
      at-early : bad nr core round t ws r (first_index t) ≡ d
      at-early = two.early ws r ∙ rw on (sym (ed ∙ ap (λ (y : List ℕ). odd nr core round (tuple_of (first_port nr t) y)) ex))

      pub spot-early : (n : ℕ) → n ≡ rows (layout_of t) ws → r < n → d ≡ true → first_unbalanced (core_kind nr) round_kind core round (kind_of nr t) ws ≡ some (r, first_index t)
      spot-early n e l z =
          first-hit (in_row (bad nr core round t ws) (kind_of nr t).tuples) r (rows (kind_of nr t).layout ws) (r, first_index t) (omega (arith, rows_are n e)) f
          (two-early (bad nr core round t ws) (kind_of nr t).tuples (first_index t) (first_index t + 1) r (omega arith) two.inside (two.other ws r) (at-early ∙ z))

      module _ (z : d ≡ false) (b : Bool) (eb : b ≡ odd nr core round (tuple_of (second_port t) x)) where
        at-late : bad nr core round t ws r (first_index t + 1) ≡ b
        at-late = two.late ws r ∙ rw on (sym (eb ∙ ap (λ (y : List ℕ). odd nr core round (tuple_of (second_port t) y)) ex))

        pub spot-late : (n : ℕ) → n ≡ rows (layout_of t) ws → r < n → b ≡ true → first_unbalanced (core_kind nr) round_kind core round (kind_of nr t) ws ≡ some (r, first_index t + 1)
        spot-late n e l y =
            first-hit (in_row (bad nr core round t ws) (kind_of nr t).tuples) r (rows (kind_of nr t).layout ws) (r, first_index t + 1) (omega (arith, rows_are n e)) f
            (two-late (bad nr core round t ws) (kind_of nr t).tuples (first_index t) (first_index t + 1) r (omega arith) two.inside (two.other ws r) (at-early ∙ z) (at-late ∙ y))

        pub spot_on : b ≡ false → Clear (r + 1)
        spot_on y =
            first_more (in_row (bad nr core round t ws) (kind_of nr t).tuples) r f
            (two_none (bad nr core round t ws) (kind_of nr t).tuples (first_index t) (first_index t + 1) r (omega arith) two.inside (two.other ws r) (at-early ∙ z) (at-late ∙ y))
