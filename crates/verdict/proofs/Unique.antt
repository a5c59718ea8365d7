-- Only one way to fill it.
--     some-order        'in some order' in its two ways, for any two tables of one layout
--     refilled-answers  a round table refilled answers what it answered
--     answers-refilled  two round tables that answer one core table are the one refilled as the other
--     refilled-exactly  the two together, by the verdict, with nothing supposed
--     ours-exactly      the same of our table, for a core table as demand 3 supposes
--     repadded-holds    other idle rows in place of padding rows leave the verdict as it is
use mathlib.Core.Path.{◌≡◌, refl, sym, ap, subst, ◌∙◌}
use mathlib.Core.Logic.{inl, inr, ◌↔◌}
use mathlib.Core.Bool.{Bool, true, false}
use mathlib.Core.List.{List}
use Prim.Native.Nat.{ℕ, ◌*◌, ◌/◌, ◌%◌, ◌≤◌, ◌<◌}
use native.Mathlib.Nat.{div-lt_iff_lt-mul}
use native.Mathlib.Omega.{arith}
use lib.ListN.{length}
use lib.Seq.{ext_get_or}
use Rattle.lists.specs.Tab.{pick, word, tab, table_of, cells_of}
use Rattle.lists.specs.Select.{words_test}
use Rattle.lists.proofs.Laws.{get_d-tab, length-table, length-row_at, row_at-table}
use Rattle.lists.proofs.Tests.{not-true}
use Rattle.lists.proofs.Select.{words_same_lem, words-sound}
use Rattle.lists.proofs.Kept.{by-eq}
use Rattle.lists.proofs.OneToOne.{equally-matched, matched-equally, matched-by}
use Rattle.field.specs.Field.{p}
use Rattle.tuple.specs.declared.Side.{Side}
use Rattle.tuple.specs.declared.Side.TheVariants.{Sender, Receiver}
use Rattle.keccak_rnd.specs.Passes.{RoundPasses, Idle}
use Rattle.keccak_rnd.proofs.Completeness.{idle-passes}
use Rattle.keccak_rnd.proofs.Passing.{mu-is, passes-idle}
use Rattle.bus.proofs.Count.{same_by}
use Rattle.bus.proofs.Table.{by-active}
use Rattle.bus.proofs.Words.{words_same}
use Rattle.verdict.specs.Kind.{Layout, Kind, rows, row, is_active, active, Active, active_rows, copy_at, active_tuples, OnBus, Balanced, Elements, DistinctTimestamps}
use Rattle.verdict.specs.CoreAndRound.{core_layout, round_layout, core_kind, round_kind, verdict_at}
use Rattle.verdict.specs.Claims.{EachActive, Computed, our_rounds, SupposedAt, Answers}
use Rattle.verdict.specs.Unique.{EquallyOften, EqualRows, Rearranged, Refilled, repadded}
use Rattle.verdict.specs.declared.Verdict.TheVariants.{Holds}
use Rattle.verdict.proofs.Tables.{RowPasses, row_below, passes-row, row-passes, all-below, table-rows, table-whole}
use Rattle.verdict.proofs.Tuples.{place, round-bus}
use Rattle.verdict.proofs.TwoTables.{copies-listed, active-tuples-listed}
use Rattle.verdict.proofs.Judge.{is-active, active-is}
use Rattle.verdict.proofs.Failures.{verdict-says}
use Rattle.verdict.proofs.Claims.{same_rows}
use Rattle.verdict.proofs.Demand3.{demand3-at}

-- ---- 'in some order'
module _ (A : Layout) (t u : List ℕ) where
  equal-rows : (r q : ℕ) → EqualRows A t u r q → row A t r ≡ row A u q
  equal-rows r q e =
      let n = length-row_at A.width t r in
      ext_get_or 0 (row A t r) (row A u q) (n ∙ sym (length-row_at A.width u q)) (λ k l. e k (subst (λ (m : ℕ). k < m) n l))

  pub some-order : EquallyOften A t u ↔ Rearranged A t u
  unfolding copy_at
  some-order = (
    (λ h.
        matched-by (λ r a. (a.there, is-active A t a)) (λ r c. active-is A t r c.0 c.1) (λ q a. (a.there, is-active A u a)) (λ q c. active-is A u q c.0 c.1)
        (λ r q c e k l. ap (λ (x : List ℕ). word x k) e)
        (equally-matched words_test words-sound words_same_lem (rows A t) (active A t) (row A t) (rows A u) (active A u) (row A u) h)),
    λ h.
        matched-equally words_test (rows A t) (active A t) (row A t) (rows A u) (active A u) (row A u)
        (matched-by (λ r c. active-is A t r c.0 c.1) (λ r a. (a.there, is-active A t a)) (λ q c. active-is A u q c.0 c.1) (λ q a. (a.there, is-active A u a))
        (λ r q a e. equal-rows r q e) h),
  )

-- ---- the bus counts active rows alone, so their order and the other rows are nothing to it
tuples-same : {K : Kind} {S R : ℕ} (bus : OnBus K S R) (s : Side) (t u : List ℕ) → EquallyOften K.layout t u → (x : List ℕ) → active_tuples K s t x ≡ active_tuples K s u x
tuples-same {K} bus s t u h x =
    let A : Layout = K.layout in
    let test : List ℕ → Bool = λ y. words_test x (K.tuple y (place bus s)).values in
    active-tuples-listed bus s t x
    ∙ sym (by-active (is_active A) test (tab (rows A t) (row A t)))
    ∙ same_by words_same test (active_rows A t) (active_rows A u) (λ y _. copies-listed A t y ∙ h y ∙ sym (copies-listed A u y))
    ∙ by-active (is_active A) test (tab (rows A u) (row A u))
    ∙ sym (active-tuples-listed bus s u x)

pub balanced-same : (nr : ℕ) (core u v : List ℕ) → EquallyOften round_layout v u → Balanced (core_kind nr) round_kind core u → Balanced (core_kind nr) round_kind core v
unfolding Balanced
balanced-same nr core u v h b x = omega (arith, b x, tuples-same round-bus Sender v u h x, tuples-same round-bus Receiver v u h x)

-- ---- a round table refilled
module _ (nr : ℕ) (core u v : List ℕ) where
  pub refilled-answers : Answers nr core u → Refilled u v → Answers nr core v
  refilled-answers h f =
      record {
        passes = row-passes round_kind (omega arith) v f.whole each;
        balanced = balanced-same nr core u v ((some-order round_layout v u).1 f.same) h.balanced;
      }
    where
      each : (r : ℕ) → r < rows round_layout v → RowPasses round_kind (row round_layout v r)
      each r l =
          by-eq (word (row round_layout v r) 1479) 1
          (λ e.
          let a : Active round_layout v r = record { there = l; on = e } in
          let q : ℕ = f.same.to r in
          subst (RowPasses round_kind) (sym (equal-rows round_layout v u r q (f.same.alike r a)))
          (passes-row round_kind (omega arith) u h.passes q (f.same.to_in r a).there))
          (λ n.
          let ok = idle-passes (row round_layout v r) (f.rest r l (λ a. n a.on)) in
          record { size = length-row_at 1480 v r; below = λ k g. row_below round_kind v f.below r k l g; values = ok.values; lookups = ok.lookups })

  pub answers-refilled : 1 ≤ nr → nr ≤ 24 → DistinctTimestamps core_layout core → Answers nr core u → Answers nr core v → Refilled u v
  answers-refilled some most apart h g =
      record {
        whole = g.passes.whole;
        below = g.passes.below;
        same = (some-order round_layout v u).0 (λ y. same_rows nr some most core apart v u g h y);
        rest = λ r l n.
            let ok = passes-row round_kind (omega arith) v g.passes r l in
            let x : List ℕ = row round_layout v r in
            let small = all-below round_kind (omega arith) x ok in
            let fine : RoundPasses x = record { values = ok.values; lookups = ok.lookups } in
            elim (mu-is x small fine) [ inl e ↦ passes-idle x small fine e | inr e ↦ absurd (n (record { there = l; on = e })) ];
      }

  -- WITH NOTHING SUPPOSED: where the verdict on a core table and a round table holds, it holds with another round table exactly
  -- where that is the first one refilled
  pub refilled-holds : (n : ℕ) → verdict_at nr core u ≡ Holds n → Refilled u v → verdict_at nr core v ≡ Holds n
  refilled-holds n e f =
      let g = (verdict-says nr core u (Holds n)).0 e in
      let a = refilled-answers (record { passes = g.2; balanced = g.3 }) f in
      (verdict-says nr core v (Holds n)).1 (g.0, g.1, a.passes, a.balanced, g.4)

  pub refilled-exactly : 1 ≤ nr → nr ≤ 24 → (n : ℕ) → verdict_at nr core u ≡ Holds n → (verdict_at nr core v ≡ Holds n) ↔ Refilled u v
  refilled-exactly some most n e = (
    (λ c.
        let g = (verdict-says nr core u (Holds n)).0 e in
        let d = (verdict-says nr core v (Holds n)).0 c in
        answers-refilled some most g.1 (record { passes = g.2; balanced = g.3 }) (record { passes = d.2; balanced = d.3 })),
    refilled-holds n e,
  )

-- ---- our table, for a core table as demand 3 supposes
module _ (nr : ℕ) (some : 1 ≤ nr) (most : nr ≤ 24) (floor : ℕ) (core : List ℕ) (supposed : SupposedAt nr core) where
  module _ (round : List ℕ) (h : Answers nr core round) where
    pub ours-equally : EquallyOften round_layout round (our_rounds nr floor core)
    ours-equally = (demand3-at nr floor some most core supposed).unique round h

    pub ours-matched : Rearranged round_layout round (our_rounds nr floor core)
    ours-matched = (some-order round_layout round (our_rounds nr floor core)).0 ours-equally

  pub ours-exactly : EachActive (Computed nr) core → (round : List ℕ) → Answers nr core round ↔ Refilled (our_rounds nr floor core) round
  ours-exactly right round =
      let h = (demand3-at nr floor some most core supposed).ours right in
      (answers-refilled nr core (our_rounds nr floor core) round some most supposed.apart h, refilled-answers nr core (our_rounds nr floor core) round h)

-- ---- other rows in place of padding rows
module _ (pad : ℕ → List ℕ) (size : (r : ℕ) → length (pad r) ≡ 1480) (small : (r k : ℕ) → word (pad r) k < p) (idle : (r : ℕ) → Idle (pad r)) (u : List ℕ) where
  abbrev row_of : ℕ → List ℕ
  row_of r = pick (active round_layout u r) (row round_layout u r) (pad r)

  pub repadded-rows : rows round_layout (repadded pad u) ≡ rows round_layout u
  unfolding repadded
  repadded-rows = table-rows round_layout (omega arith) (rows round_layout u) row_of

  pub repadded-row : (r : ℕ) → r < rows round_layout u → row round_layout (repadded pad u) r ≡ row_of r
  unfolding repadded
  repadded-row r l = row_at-table (rows round_layout u) 1480 row_of r l (long (active round_layout u r))
    where
      long : (b : Bool) → length (pick b (row round_layout u r) (pad r)) ≡ 1480
      long true = length-row_at 1480 u r
      long false = size r

  module _ (r : ℕ) (l : r < rows round_layout u) where
    kept_row : active round_layout u r ≡ true → row round_layout (repadded pad u) r ≡ row round_layout u r
    kept_row e = repadded-row r l ∙ ap (λ (b : Bool). pick b (row round_layout u r) (pad r)) e

    pub new_row : active round_layout u r ≡ false → row round_layout (repadded pad u) r ≡ pad r
    new_row e = repadded-row r l ∙ ap (λ (b : Bool). pick b (row round_layout u r) (pad r)) e

    same-active : Active round_layout (repadded pad u) r → active round_layout u r ≡ true
    same-active a = go (active round_layout u r) refl
      where
        go : (b : Bool) → active round_layout u r ≡ b → b ≡ true
        go true e = refl
        go false e = absurd (omega (arith, a.on, ap (λ (x : List ℕ). word x 1479) (new_row e), (idle r).off))

    kept-active : active round_layout u r ≡ true → Active round_layout (repadded pad u) r
    kept-active e =
        record { there = subst (λ (n : ℕ). r < n) (sym repadded-rows) l; on = ap (λ (x : List ℕ). word x 1479) (kept_row e) ∙ (active-is round_layout u r l e).on }

    word_small : Elements u → (k : ℕ) → k < 1480 → word (row_of r) k < p
    word_small below k g = go (active round_layout u r)
      where
        go : (b : Bool) → word (pick b (row round_layout u r) (pad r)) k < p
        go true = row_below round_kind u below r k l g
        go false = small r k

  pub repadded-refilled : Elements u → Refilled u (repadded pad u)
  unfolding repadded table_of
  repadded-refilled below =
      let h : ℕ = rows round_layout u in
      let there : (r : ℕ) → Active round_layout (repadded pad u) r → r < h = λ r a. subst (λ (n : ℕ). r < n) repadded-rows a.there in
      record {
        whole = table-whole round_layout (omega arith) h row_of;
        below = λ k l.
            let g : k < h * 1480 = subst (λ (n : ℕ). k < n) (length-table h 1480 row_of) l in
            subst (λ (n : ℕ). n < p) (sym (get_d-tab (h * 1480) (cells_of 1480 row_of) k 0 g)) (word_small (k / 1480) ((div-lt_iff_lt-mul (omega arith)).1 g) below (k % 1480) (omega arith));
        same =
            record {
              to = λ r. r;
              from = λ r. r;
              to_in = λ r a. active-is round_layout u r (there r a) (same-active r (there r a) a);
              from_in = λ r a. kept-active r a.there (is-active round_layout u a);
              from-to = λ r a. refl;
              to-from = λ r a. refl;
              alike = λ r a k g. ap (λ (x : List ℕ). word x k) (kept_row r (there r a) (same-active r (there r a) a));
            };
        rest = λ r l n.
            let g : r < h = subst (λ (m : ℕ). r < m) repadded-rows l in
            subst Idle (sym (new_row r g (not-true (active round_layout u r) (λ e. n (kept-active r g e))))) (idle r);
      }

  -- the verdict is the same
  pub repadded-holds : (nr : ℕ) (core : List ℕ) (n : ℕ) → verdict_at nr core u ≡ Holds n → verdict_at nr core (repadded pad u) ≡ Holds n
  repadded-holds nr core n e = refilled-holds nr core u (repadded pad u) n e (repadded-refilled ((verdict-says nr core u (Holds n)).0 e).2.below)
