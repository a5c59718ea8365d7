-- `keccak_rnd_row::keccak_rnd_row` meets its contract: one check after the other, then the row.
use mathlib.Core.Path.{refl, ap, ◌∙◌}
use mathlib.Core.List.{List}
use Prim.Native.Nat.{ℕ, ◌+◌}
use native.Mathlib.Nat.{zero-add}
use native.Mathlib.Omega.{arith}
use lib.ListN.{get_or}
use lib.Seq.{sets}
use borrow.Author.Tests.{le-leb, lt-leb, le-ltb, lt-ltb}
use Rattle.lists.specs.Tab.{tab, word}
use Rattle.lists.proofs.Laws.{tab-same}
use Rattle.bits.specs.Bits.{word_at}
use Rattle.answer.proofs.Laws.{accepts, written, answers, kept, refuse-yes, refuse-no, sets-overwrite}
use Rattle.keccak_rnd.specs.Row.{round_row}
use Rattle.keccak_rnd.specs.Refusals.{round_row_refusal}
use Rattle.keccak_rnd.proofs.Cells.{length-round}
use Rattle.keccak_rnd_row.proofs.keccak_rnd_row.Goals as goal

pub returns-then-round-ge-ROUNDS : goal.returns-then-round-ge-ROUNDS
unfolding round_row_refusal
returns-then-round-ge-ROUNDS c =
    let e = refuse-yes _ _ (le-leb 24 c.args.round (omega arith)) in
    record { answer = answers e; words = kept _ _ e }

pub returns-then-start-lt25 : goal.returns-then-start-lt25
unfolding round_row_refusal
returns-then-start-lt25 c =
    let e = refuse-no _ (lt-leb 24 c.args.round (omega arith)) (refuse-yes _ _ (lt-ltb _ _ c.if-start-lt25.true)) in
    record { answer = answers e; words = kept _ _ e }

pub returns-then-row-lt-NUM_COLUMNS : goal.returns-then-row-lt-NUM_COLUMNS
unfolding round_row_refusal
returns-then-row-lt-NUM_COLUMNS c =
    let e = refuse-no _ (lt-leb 24 c.args.round (omega arith))
    (refuse-no _ (le-ltb _ _ c.if-start-lt25.false)
    (refuse-yes _ _ (lt-ltb _ _ c.if-row-lt-NUM_COLUMNS.true))) in
    record { answer = answers e; words = kept _ _ e }

pub returns : goal.returns
unfolding round_row_refusal
returns c =
    let a = c.args in
    let s = a.start.now in
    let row : List ℕ → List ℕ = round_row (word_at a.timestamp) a.round in
    let e = refuse-no _ (lt-leb 24 a.round (omega arith))
    (refuse-no _ (le-ltb _ _ c.if-start-lt25.false)
    (refuse-no _ (le-ltb _ _ c.if-row-lt-NUM_COLUMNS.false) refl)) in
    record {
      answer = accepts e;
      words = written _ e
          (c.put_round_row.ensures
          ∙ ap (λ (l : List ℕ). sets a.row.now 0 (row l)) (c.lanes_at-lanes.ensures ∙ tab-same 25 (λ k. get_or s (0 + k) 0) (word s) (λ k _. ap (λ (i : ℕ). get_or s i 0) (zero-add k)))
          ∙ sets-overwrite a.row.now (row (tab 25 (word s))) (omega (arith, length-round (word_at a.timestamp) a.round (tab 25 (word s)), c.if-row-lt-NUM_COLUMNS.false)));
    }
