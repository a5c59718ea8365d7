-- What the counts of tuples cite.
--     Counted         counts of the rows from one on and before another, by the counts of all before each
--     counted_is, is-counted    these are `counts_to`
use mathlib.Core.Path.{◌≡◌, refl, sym, ap, subst, ◌∙◌}
use mathlib.Core.Bool.{Bool, true, false, ◌&&◌}
use mathlib.Core.List.{List}
use Prim.Native.Nat.{ℕ, ◌+◌, ◌-◌, ◌^◌, ◌≤◌, ◌<◌}
use native.Mathlib.Omega.{arith}
use lib.ListN.{length}
use Rattle.lists.specs.Tab.{pick, row_at}
use Rattle.lists.specs.First.{count_below}
use Rattle.lists.specs.Select.{words_test}
use Rattle.lists.proofs.First.{count-more, count-skip, count-le}
use Rattle.lists.proofs.Count.{count_add}
use Rattle.lists.proofs.Tests.{true-not-false, false-and}
use Rattle.verdict.specs.Kind.{rows, row, active, same_stamp, stamped_at}
use Rattle.verdict.specs.declared.Table.{Table}
use Rattle.verdict.specs.declared.Table.TheVariants.{Core, Round}
use Rattle.judge_scan.specs.Tables.{layout_of}
use Rattle.judge_scan.proofs.Scan.{row-long, rows-small}
use Rattle.judge_tuples.specs.Port.{tuple_of, table_of, width_of}
use Rattle.judge_tuples.specs.declared.Port.{Port}
use Rattle.judge_tuples.proofs.Ports.{stamp-apart}
use Rattle.judge_links.specs.Even.{has_tuple}
use Rattle.judge_links.specs.Counting.{sent_by, received_by, with_row, count_from, counts_to}
use Rattle.judge_links.specs.declared.Counts.{Counts}

-- ---- the counts
-- a count from an index on
module _ (t : ℕ → Bool) (from : ℕ) where
  pub from_more : (n m i : ℕ) → m ≡ n + 1 → n + count_below t from ≡ count_below t i → t i ≡ true → m + count_below t from ≡ count_below t (i + 1)
  from_more n m i e h b = omega (arith, count-more t i b)

  pub from-skip : (n m i : ℕ) → m ≡ n → n + count_below t from ≡ count_below t i → t i ≡ false → m + count_below t from ≡ count_below t (i + 1)
  from-skip n m i e h b = omega (arith, count-skip t i b)

  pub from_le : (n i : ℕ) → n + count_below t from ≡ count_below t i → n ≤ i
  from_le n i h = omega (arith, count-le t i)

  pub from_row : (n i : ℕ) → n + count_below t from ≡ count_below t i → pick (t i) (n + 1) n + count_below t from ≡ count_below t (i + 1)
  from_row n i h = go (t i) refl
    where
      go : (b : Bool) → t i ≡ b → pick b (n + 1) n + count_below t from ≡ count_below t (i + 1)
      go true e = from_more n (n + 1) i refl h e
      go false e = from-skip n n i refl h e

  pub from_is : (n : ℕ) → from ≤ n → count_from t from n + count_below t from ≡ count_below t n
  unfolding count_from
  from_is n l =
      let e : from + (n - from) ≡ n = omega arith in omega (arith, count_add t from (n - from), ap (count_below t) e)

-- the counts of the rows that send and of those that receive
pub record Counted (f g : ℕ → Bool) (from n : ℕ) (t : Counts) : Type 0 where
  pub sends : t.sent + count_below f from ≡ count_below f n
  pub receives : t.received + count_below g from ≡ count_below g n

module _ (f g : ℕ → Bool) (from : ℕ) where
  pub counts_start : Counted f g from from (record { sent = 0; received = 0 })
  counts_start = record { sends = omega arith; receives = omega arith }

  module _ (i : ℕ) (t : Counts) (h : Counted f g from i t) where
    pub counts-row : (u : Counts) → u ≡ with_row t (f i) (g i) → Counted f g from (i + 1) u
    unfolding with_row
    counts-row u e =
        subst (Counted f g from (i + 1)) (sym e)
        (record { sends = from_row f from t.sent i h.sends; receives = from_row g from t.received i h.receives })

    pub counts_past : (u : Counts) → u ≡ t → f i ≡ false → g i ≡ false → Counted f g from (i + 1) u
    counts_past u e a b =
        subst (Counted f g from (i + 1)) (sym e)
        (record { sends = from-skip f from _ _ i refl h.sends a; receives = from-skip g from _ _ i refl h.receives b })

    pub counts-le : (t.sent ≤ i) × (t.received ≤ i)
    counts-le = (from_le f from _ i h.sends, from_le g from _ i h.receives)

pub with-row : (t : Counts) (s r a b : Bool) (n m : ℕ) → s ≡ a → r ≡ b → n ≡ pick s (t.sent + 1) t.sent → m ≡ pick r (t.received + 1) t.received →
    ◌≡◌ {A = Counts} (record { sent = n; received = m }) (with_row t a b)
unfolding with_row
with-row t s r a b n m e f en em =
    let es = en ∙ ap (λ (z : Bool). pick z (t.sent + 1) t.sent) e in
    let er = em ∙ ap (λ (z : Bool). pick z (t.received + 1) t.received) f in λ j. record { sent = es j; received = er j }

pub one_more : (b : Bool) (n : ℕ) → b ≡ true → n + 1 ≡ pick b (n + 1) n
one_more b n e = sym (rw e)

pub no_more : (b : Bool) (n : ℕ) → b ≡ false → n ≡ pick b (n + 1) n
no_more b n e = sym (rw e)

-- ---- the tuples of a table's rows
-- what a match has found
pub told-sent : (nr : ℕ) {t u : Table} → t ≡ u → sent_by nr u ≡ sent_by nr t
told-sent nr e = ap (sent_by nr) (sym e)

pub told-received : {t u : Table} → t ≡ u → received_by u ≡ received_by t
told-received e = ap received_by (sym e)

pub sent-wide : (nr : ℕ) (t : Table) → width_of (sent_by nr t) ≡ (layout_of t).width
unfolding width_of table_of sent_by
sent-wide nr Core = refl
sent-wide nr Round = refl

pub received-wide : (t : Table) → width_of (received_by t) ≡ (layout_of t).width
unfolding width_of table_of received_by
received-wide Core = refl
received-wide Round = refl

-- a row as the code has it is as long as its tuples need
module _ (t : Table) (y ws : List ℕ) (r : ℕ) (e : y ≡ row_at (layout_of t).width ws r) where
  pub sends-fit : (nr : ℕ) (s : Port) → s ≡ sent_by nr t → width_of s ≤ length y
  sends-fit nr s f = omega (arith, ap width_of f, sent-wide nr t, row-long _ y ws r e)

  pub receives-fit : (s : Port) → s ≡ received_by t → width_of s ≤ length y
  receives-fit s f = omega (arith, ap width_of f, received-wide t, row-long _ y ws r e)

-- ---- the timestamp, then MU
pub stamp-off : (a b s : Bool) → s ≡ b → s ≡ false → false ≡ (a && b)
stamp-off a b s e f = sym (false-and a b (λ z. sym e ∙ f))

pub and-on : (a b c : Bool) → c ≡ a → b ≡ true → c ≡ (a && b)
and-on true b c z e = z ∙ sym e
and-on false b c z e = z

on_and : (a b c : Bool) → (a && b) ≡ true → c ≡ (a && c)
on_and true b c e = refl
on_and false b c e = absurd (true-not-false (sym e))

off-and : (a b c : Bool) → (a && b) ≡ false → (b ≡ false → c ≡ false) → (a && c) ≡ false
off-and true b c e f = f e
off-and false b c e f = refl

-- ---- the rows of a table
module _ (nr : ℕ) (t : Table) (ws : List ℕ) where
  -- the counts of the tuple v
  abbrev pub CountedRows : List ℕ → ℕ → ℕ → Counts → Type 0
  CountedRows v = Counted (has_tuple (layout_of t) (sent_by nr t) ws v) (has_tuple (layout_of t) (received_by t) ws v)

  module _ (v : List ℕ) (from : ℕ) where
    pub counted_is : (r n : ℕ) (u : Counts) → from ≤ n → r ≤ n → n ≤ r → CountedRows v from r u → u ≡ counts_to nr t ws v from n
    unfolding counts_to
    counted_is r n u k l g h =
        let e : r ≡ n = omega arith in
        let z = subst (λ (m : ℕ). CountedRows v from m u) e h in
        let es : u.sent ≡ count_from (has_tuple (layout_of t) (sent_by nr t) ws v) from n = omega (arith, z.sends, from_is (has_tuple (layout_of t) (sent_by nr t) ws v) from n k) in
        let er : u.received ≡ count_from (has_tuple (layout_of t) (received_by t) ws v) from n = omega (arith, z.receives, from_is (has_tuple (layout_of t) (received_by t) ws v) from n k) in
        λ i. record { sent = es i; received = er i }

    pub is-counted : (n : ℕ) (u : Counts) → from ≤ n → u ≡ counts_to nr t ws v from n → CountedRows v from n u
    unfolding counts_to
    is-counted n u l e = subst (CountedRows v from n) (sym e) (record { sends = from_is _ from n l; receives = from_is _ from n l })

    pub counts-small : (r : ℕ) (u : Counts) → CountedRows v from r u → r < rows (layout_of t) ws → length ws < 2 ^ 63 → (u.sent < 2 ^ 63) × (u.received < 2 ^ 63)
    counts-small r u h l m =
        let g = counts-le _ _ from r u h in
        let d = rows-small t _ refl ws in (omega arith, omega arith)

    pub counts-fit : (u : Counts) → from ≤ rows (layout_of t) ws → u ≡ counts_to nr t ws v from (rows (layout_of t) ws) → length ws < 2 ^ 63 →
        (u.sent < 2 ^ 63) × (u.received < 2 ^ 63)
    counts-fit u l e m =
        let g = counts-le _ _ from _ u (is-counted _ u l e) in
        let d = rows-small t _ refl ws in (omega arith, omega arith)

  -- row r, as the code finds it: one test for all of its tuples, then each tuple
  module _ (r : ℕ) (x : List ℕ) (b : Bool) (eb : b ≡ stamped_at (layout_of t) ws x r) where
    tested : (active (layout_of t) ws r && same_stamp x (row (layout_of t) ws r)) ≡ b
    unfolding stamped_at
    tested = sym eb

    carried : (y : List ℕ) → y ≡ row (layout_of t) ws r → (s port z : Port) → z ≡ port → b ≡ true →
        words_test (tuple_of s x) (tuple_of z y) ≡ has_tuple (layout_of t) port ws (tuple_of s x) r
    unfolding has_tuple
    carried y ey s port z ez e =
        (λ i. words_test (tuple_of s x) (tuple_of (ez i) (ey i)))
        ∙ on_and (active (layout_of t) ws r) (same_stamp x (row (layout_of t) ws r)) (words_test (tuple_of s x) (tuple_of port (row (layout_of t) ws r))) (tested ∙ e)

    other : (s port : Port) → b ≡ false → has_tuple (layout_of t) port ws (tuple_of s x) r ≡ false
    unfolding has_tuple
    other s port e =
        off-and (active (layout_of t) ws r) (same_stamp x (row (layout_of t) ws r)) (words_test (tuple_of s x) (tuple_of port (row (layout_of t) ws r))) (tested ∙ e)
        (stamp-apart s x port (row (layout_of t) ws r))

    module _ (s : Port) (from : ℕ) (u v : Counts) (h : CountedRows (tuple_of s x) from r u) where
      pub row-added : (y : List ℕ) → y ≡ row (layout_of t) ws r → (send receive : Port) → send ≡ sent_by nr t → receive ≡ received_by t → (n : Counts) → b ≡ true → v ≡ n →
          n ≡ with_row u (words_test (tuple_of s x) (tuple_of send y)) (words_test (tuple_of s x) (tuple_of receive y)) → CountedRows (tuple_of s x) from (r + 1) v
      row-added y ey send receive es er n e f z =
          counts-row _ _ from r u h v (f ∙ z ∙ (λ i. with_row u (carried y ey s _ send es e i) (carried y ey s _ receive er e i)))

      pub row-passed : b ≡ false → v ≡ u → CountedRows (tuple_of s x) from (r + 1) v
      row-passed e z = counts_past _ _ from r u h v z (other s (sent_by nr t) e) (other s (received_by t) e)
