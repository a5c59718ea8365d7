-- `is_wh::row_tuple` meets its contract: the tuple of the index, in three cases.
use mathlib.Core.Path.{ap, ◌∙◌}
use mathlib.Core.List.{[], ◌∷◌}
use Prim.Native.Nat.{ℕ}
use native.Mathlib.Omega.{arith}
use Rattle.lists.specs.Tab.{word}
use Rattle.answer.specs.Refusal.{overwrite}
use Rattle.tuple.proofs.Call.{fits, as-tuple}
use Rattle.is_wh.proofs.Tuples.{mu-sent, half-sent, pair-received}
use Rattle.is_wh.proofs.row_tuple.Goals as goal

pub send_one-requires : goal.send_one-requires
send_one-requires c = fits _ (mu-sent _ _ c.if-index-eq0.true) c.requires.2

pub returns-then-index-eq0 : goal.returns-then-index-eq0
returns-then-index-eq0 c =
    let t = as-tuple _ (mu-sent _ _ c.if-index-eq0.true) c.send_one.ensures.answer c.send_one.ensures.words in
    record { answer = t.0; words = t.1 }

pub send_one-requires-then-index-lt4 : goal.send_one-requires-then-index-lt4
send_one-requires-then-index-lt4 c = fits _ (half-sent _ _ (omega arith) c.if-index-lt4.true) c.requires.2

pub returns-then-index-lt4 : goal.returns-then-index-lt4
returns-then-index-lt4 c =
    let sent = c.send_one-then-index-lt4.ensures in
    let t = as-tuple _ (half-sent _ _ (omega arith) c.if-index-lt4.true) sent.answer sent.words in
    record { answer = t.0; words = t.1 }

pub pair-requires : goal.pair-requires
pair-requires c = fits _ (pair-received _ _ c.if-index-lt4.false) c.requires.2

pub returns : goal.returns
returns c =
    let args = c.args in
    let words = c.pair.ensures.words ∙ ap (λ (w : ℕ). overwrite (w ∷ word args.row.now 0 ∷ []) args.out.now) c.pair_word-word.ensures in
    let t = as-tuple _ (pair-received _ _ c.if-index-lt4.false) c.pair.ensures.answer words in
    record { answer = t.0; words = t.1 }
