-- Demand 3 with 911 tuples to a round row.
--     lean-answers   a table that passes these and balances, its inactive rows put to zero, passes all 1,031 and balances
--     answers-lean   a table that passes all 1,031 and balances passes these
--     lean-demand3   so such a table exists exactly where in each active core row OUTPUT is Keccak-p[1600, nr] of INPUT
--     lean-one-way   and its active rows are ours, in some order
use mathlib.Core.Path.{◌≡◌, refl, sym, ap, subst, ◌∙◌}
use mathlib.Core.Logic.{◌↔◌}
use mathlib.Core.Bool.{Bool, true, false}
use mathlib.Core.List.{List}
use Prim.Native.Nat.{ℕ, ◌≤◌, ◌<◌}
use native.Mathlib.Omega.{arith}
use lib.ListN.{get_or-eq_default}
use Rattle.lists.specs.Tab.{pick, word}
use Rattle.lists.proofs.Laws.{length-row_at}
use Rattle.lists.proofs.Then.{by_le}
use Rattle.field.specs.Field.{p}
use Rattle.keccak_rnd.specs.Row.{round_pad}
use Rattle.keccak_rnd.proofs.Completeness.{pad-word, pad-idle, round-pad}
use Rattle.keccak_rnd_lean.proofs.Enough.{lean-enough, lean-less}
use Rattle.verdict.specs.Kind.{rows, row, active, Passes}
use Rattle.verdict.specs.CoreAndRound.{round_layout, round_kind}
use Rattle.verdict.specs.Claims.{EachActive, Computed, our_rounds, SupposedAt, Answers}
use Rattle.verdict.specs.Unique.{EquallyOften, Refilled, repadded}
use Rattle.verdict.proofs.Tables.{RowPasses, row_below, row-passes, passes-row}
use Rattle.verdict.proofs.Judge.{active-is}
use Rattle.verdict.proofs.Rounds.{pad-size}
use Rattle.verdict.proofs.Demand3.{demand3-at}
use Rattle.verdict.proofs.Unique.{some-order, balanced-same, repadded-rows, repadded-row, repadded-refilled}
use Rattle.lean_verdict.specs.LeanTables.{LeanTable, LeanAnswers}

pad-small : (k : ℕ) → word round_pad k < p
pad-small k = omega (arith, pad-word k)

-- zero rows in place of the rows that are not active
abbrev pub zeroed : List ℕ → List ℕ
zeroed u = repadded (λ r. round_pad) u

module _ (u : List ℕ) (h : LeanTable u) where
  refilled : Refilled u (zeroed u)
  refilled = repadded-refilled (λ r. round_pad) (λ r. pad-size) (λ r. pad-small) (λ r. pad-idle) u h.below

  pub zeroed-same : EquallyOften round_layout (zeroed u) u
  zeroed-same = (some-order round_layout (zeroed u) u).1 refilled.same

  -- the words of a row, past its end too
  small : (r : ℕ) → r < rows round_layout u → (k : ℕ) → word (row round_layout u r) k < p
  small r l k =
      by_le 1480 k (λ g. subst (λ (m : ℕ). m < p) (sym (get_or-eq_default (row round_layout u r) 0 {n = k} (subst (λ (m : ℕ). m ≤ k) (sym (length-row_at 1480 u r)) g))) (omega arith))
      (λ g. row_below round_kind u h.below r k l g)

  active-passes : (r : ℕ) → r < rows round_layout u → active round_layout u r ≡ true → RowPasses round_kind (row round_layout u r)
  active-passes r l e =
      let ok = lean-enough (row round_layout u r) (small r l) (h.each r l) (active-is round_layout u r l e).on in
      record { size = length-row_at 1480 u r; below = λ k _. small r l k; values = ok.values; lookups = ok.lookups }

  pad-passes : RowPasses round_kind round_pad
  pad-passes = record { size = pad-size; below = λ k _. pad-small k; values = round-pad.values; lookups = round-pad.lookups }

  zeroed-row : (r : ℕ) → r < rows round_layout (zeroed u) → RowPasses round_kind (row round_layout (zeroed u) r)
  zeroed-row r l = go (active round_layout u r) refl
    where
      there : r < rows round_layout u
      there = subst (λ (n : ℕ). r < n) (repadded-rows (λ r. round_pad) (λ r. pad-size) (λ r. pad-small) (λ r. pad-idle) u) l

      is : row round_layout (zeroed u) r ≡ pick (active round_layout u r) (row round_layout u r) round_pad
      is = repadded-row (λ r. round_pad) (λ r. pad-size) (λ r. pad-small) (λ r. pad-idle) u r there

      go : (b : Bool) → active round_layout u r ≡ b → RowPasses round_kind (row round_layout (zeroed u) r)
      go true e = subst (RowPasses round_kind) (sym (is ∙ ap (λ (b : Bool). pick b (row round_layout u r) round_pad) e)) (active-passes r there e)
      go false e = subst (RowPasses round_kind) (sym (is ∙ ap (λ (b : Bool). pick b (row round_layout u r) round_pad) e)) pad-passes

  pub zeroed-passes : Passes round_kind (zeroed u)
  zeroed-passes = row-passes round_kind (omega arith) (zeroed u) refilled.whole zeroed-row

module _ (nr : ℕ) (core u : List ℕ) where
  pub lean-answers : LeanAnswers nr core u → Answers nr core (zeroed u)
  lean-answers h = record { passes = zeroed-passes u h.passes; balanced = balanced-same nr core u (zeroed u) (zeroed-same u h.passes) h.balanced }

  pub answers-lean : Answers nr core u → LeanAnswers nr core u
  answers-lean h =
      record {
        passes =
            record {
              whole = h.passes.whole;
              below = h.passes.below;
              each = λ r l.
                  let x = passes-row round_kind (omega arith) u h.passes r l in
                  lean-less (row round_layout u r) (record { values = x.values; lookups = x.lookups });
            };
        balanced = h.balanced;
      }

module _ (nr : ℕ) (some : 1 ≤ nr) (most : nr ≤ 24) (core : List ℕ) (supposed : SupposedAt nr core) where
  pub lean-demand3 : ((round : List ℕ) × LeanAnswers nr core round) ↔ EachActive (Computed nr) core
  lean-demand3 =
      let d = demand3-at nr 4 some most core supposed in (
        (λ h. d.exists.0 (zeroed h.0, lean-answers nr core h.0 h.1)),
        λ right. (our_rounds nr 4 core, answers-lean nr core (our_rounds nr 4 core) (d.ours right)),
      )

  pub lean-one-way : (floor : ℕ) (round : List ℕ) → LeanAnswers nr core round → EquallyOften round_layout round (our_rounds nr floor core)
  lean-one-way floor round h y =
      sym (zeroed-same round h.passes y) ∙ (demand3-at nr floor some most core supposed).unique (zeroed round) (lean-answers nr core round h) y
