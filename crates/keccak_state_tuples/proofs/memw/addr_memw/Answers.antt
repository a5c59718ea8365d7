-- `keccak_state_tuples::memw::addr_memw` meets its contract: the four parts.
use mathlib.Core.Path.{refl, ap, ◌∙◌}
use mathlib.Core.List.{[], ◌∷◌}
use native.Mathlib.Omega.{arith}
use Rattle.lists.specs.Tab.{word}
use Rattle.add_template.specs.declared.AddWords.{AddWords}
use Rattle.add_template.specs.Words.{words_on}
use Rattle.add_template.proofs.Within.{bl-in, made_in}
use Rattle.keccak.proofs.Operands.{bytes-lo, bytes-hi}
use Rattle.keccak_state_tuples.proofs.Tuples.{addr-answer}
use Rattle.keccak_state_tuples.proofs.Accesses.{register, addr-stored, memw-parts}
use Rattle.keccak_state_tuples.proofs.memw.addr_memw.Goals as goal

pub add_words-addr-requires : goal.add_words-addr-requires
add_words-addr-requires c =
    let row = c.args.row.now in
    made_in row c.from_dword_bl.ensures (bl-in row 486 c.requires.0 2 (omega arith))

pub returns : goal.returns
returns c =
    let row = c.args.row.now in
    let e = c.add_words-addr.ensures.words ∙ ap (words_on row) c.from_dword_bl.ensures in
    let value = register c.add_words-addr.result.lo c.add_words-addr.result.hi in
    record {
      answer = addr-answer row;
      words = addr-stored row c.args.out.now c.requires.1
          (ap (λ (w : AddWords). w.lo) e ∙ bytes-lo row (c.requires.0.below 2 (omega arith)))
          (ap (λ (w : AddWords). w.hi) e ∙ bytes-hi row (c.requires.0.below 6 (omega arith)))
          (memw-parts c.args.out.now _ _ _ value value (word row 0 ∷ word row 1 ∷ 1 ∷ 0 ∷ 0 ∷ []) 1 20 0 refl refl c.put_register.ensures c.put_place.ensures c.put_register-2.ensures c.put_access.ensures);
    }
