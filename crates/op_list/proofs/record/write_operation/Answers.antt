-- `record::write_operation` meets its contract: the mark, and then the bytes of the words.
use Prim.Native.Nat.{ℕ, ◌+◌, ◌-◌, ◌≤◌}
use mathlib.Core.Bool.{Bool}
use mathlib.Core.Path.{◌≡◌, ap, ◌∙◌}
use native.Mathlib.Omega.{arith}
use lib.ListN.{length, set, length-set}
use lib.Seq.{sets}
use Rattle.lists.specs.Tab.{tab}
use Rattle.op_file.specs.File.{record_size}
use Rattle.op_file.proofs.Steps.{size-least, size-most}
use Rattle.op_list.specs.Record.{word_byte, mark_of, words_from}
use Rattle.op_list.proofs.RecordAgain.{record-stores}
use Rattle.op_list.proofs.record.write_operation.Goals as goal

-- how many bytes a record has
sized : {n : ℕ} {a b : Bool} → n ≡ record_size a → a ≡ b → (418 ≤ n) × (n ≤ 422) × (n ≡ record_size b)
sized {n} {a} {b} p q = let e = p ∙ ap record_size q in (omega (arith, size-least b), omega (arith, size-most b), e)

pub put_mark-requires : goal.put_mark-requires
put_mark-requires c = let s = sized c.record_size-size.ensures c.is_numbered-numbered.ensures in omega (arith, c.requires.1)

pub overflow_sub-size : goal.overflow_sub-size
overflow_sub-size c = let s = sized c.record_size-size.ensures c.is_numbered-numbered.ensures in omega arith

pub put_words-requires : goal.put_words-requires
put_words-requires c =
    let s = sized c.record_size-size.ensures c.is_numbered-numbered.ensures in
    let l = simp length-set at (ap length c.put_mark.ensures) in
    (c.requires.0, omega arith, omega (arith, c.requires.1))

pub overflow_add-result : goal.overflow_add-result
overflow_add-result c = let s = sized c.record_size-size.ensures c.is_numbered-numbered.ensures in omega (arith, c.requires.1)

pub returns : goal.returns
returns c =
    let f = words_from c.args.ops.now c.args.at in
    let size = c.record_size-size.ensures ∙ ap record_size c.is_numbered-numbered.ensures in
    let mark = c.mark_of.ensures ∙ ap mark_of c.is_numbered-numbered.ensures in (
      c.put_words.ensures
          ∙ (λ t. sets ((c.put_mark.ensures ∙ ap (set (set c.args.bytes.now c.args.to 75) (c.args.to + 1)) mark) t) (c.args.to + 2) (tab (size t - 2) (word_byte f)))
          ∙ record-stores c.args.bytes.now c.args.to f,
      ap (λ (n : ℕ). c.args.to + n) size,
    )
