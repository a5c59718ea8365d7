-- `keccak_state_tuples::memw::lane_memw` meets its contract: the four parts.
use mathlib.Core.Path.{ap, ◌∙◌}
use mathlib.Core.List.{[], ◌∷◌}
use Prim.Native.Nat.{◌+◌, ◌*◌}
use native.Mathlib.Omega.{arith}
use Rattle.lists.specs.Tab.{tab, word}
use Rattle.lists.proofs.Laws.{length-tab}
use Rattle.add_template.specs.declared.AddWords.{AddWords}
use Rattle.add_template.specs.Words.{words_on}
use Rattle.templates.proofs.Operand.{whh-hi}
use Rattle.add_template.proofs.Within.{whh-in, made_in}
use Rattle.keccak.proofs.Operands.{halves-lo}
use Rattle.keccak_state_tuples.proofs.Tuples.{lane-answer}
use Rattle.keccak_state_tuples.proofs.Accesses.{lane-stored, memw-parts}
use Rattle.keccak_state_tuples.proofs.memw.lane_memw.Goals as goal

pub add_words-pointer-requires : goal.add_words-pointer-requires
add_words-pointer-requires c =
    let row = c.args.row.now in
    made_in row c.from_dword_whh.ensures (whh-in row 486 c.requires.0 _ (omega arith))

pub bounds-row-485 : goal.bounds-row-485
bounds-row-485 c =
    omega (arith, c.requires.0.long)

pub returns : goal.returns
returns c =
    let row = c.args.row.now in
    let e = c.add_words-pointer.ensures.words ∙ ap (words_on row) c.from_dword_whh.ensures in
    let i = c.args.i in
    record {
      answer = lane-answer row i;
      words = lane-stored row c.args.out.now i c.requires.2
          (ap (λ (w : AddWords). w.lo) e ∙ halves-lo row (410 + 3 * i) (c.requires.0.below (410 + 3 * i) (omega arith)))
          (ap (λ (w : AddWords). w.hi) e ∙ whh-hi row (410 + 3 * i) (c.requires.0.below (410 + 3 * i + 2) (omega arith)))
          (memw-parts c.args.out.now _ _ _ (tab 8 (λ k. word row (10 + 8 * i + k))) (tab 8 (λ k. word row (210 + 8 * i + k))) (word row 0 ∷ word row 1 ∷ 0 ∷ 0 ∷ 1 ∷ []) 0
          c.add_words-pointer.result.lo c.add_words-pointer.result.hi (length-tab 8 _) (length-tab 8 _) c.put_part.ensures c.put_place.ensures
          c.put_part-2.ensures c.put_access.ensures);
    }
