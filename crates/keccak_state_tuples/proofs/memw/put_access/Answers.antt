-- `keccak_state_tuples::memw::put_access` meets its contract: five words are stored.
use mathlib.Core.Path.{ap, ◌∙◌}
use mathlib.Core.List.{[], ◌∷◌}
use native.Mathlib.Omega.{arith}
use lib.ListN.{length-set}
use lib.Seq.{sets}
use Rattle.add_template.specs.declared.AddWords.{AddWords}
use Rattle.add_template.specs.Words.{words_on}
use Rattle.add_template.proofs.Within.{dword-in, made_in}
use Rattle.keccak_state_tuples.proofs.memw.put_access.Goals as goal

pub add_words-timestamp-requires : goal.add_words-timestamp-requires
add_words-timestamp-requires c =
    let row = c.args.row.now in
    made_in row c.dword.ensures (dword-in row 486 c.requires.1 0 (omega arith))

pub bounds-out-20 : goal.bounds-out-20
bounds-out-20 c = simp length-set (omega arith)

pub bounds-out-21 : goal.bounds-out-21
bounds-out-21 c = simp length-set (omega arith)

pub bounds-out-22 : goal.bounds-out-22
bounds-out-22 c = simp length-set (omega arith)

pub returns : goal.returns
returns c =
    let row = c.args.row.now in
    ap (λ (w : AddWords). sets c.args.out.now 19 (w.lo ∷ w.hi ∷ c.args.write2 ∷ 0 ∷ c.args.write8 ∷ [])) (c.add_words-timestamp.ensures.words ∙ ap (words_on row) c.dword.ensures)
