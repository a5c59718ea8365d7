-- `record::read_operation` meets its contract: 52 words, and then the segment number.
use Prim.Native.Nat.{ℕ, ◌+◌, ◌≤◌}
use mathlib.Core.Bool.{Bool}
use mathlib.Core.List.{List}
use mathlib.Core.Path.{sym, ap, ◌∙◌, subst}
use native.Mathlib.Omega.{arith}
use lib.Dec.{eqb}
use lib.ListN.{length, drop, get_or, set}
use Rattle.lists.specs.Tab.{pick, word}
use Rattle.lists.proofs.Laws.{sets_more}
use Rattle.bits.specs.Bits.{pack}
use Rattle.op_file.specs.File.{RECORD-BYTES, size_of, record_size, record_word, operation_words}
use Rattle.op_file.proofs.Steps.{size-least}
use Rattle.op_list.proofs.RecordAgain.{mark-in, segment-in}
use Rattle.op_list.proofs.record.read_operation.Goals as goal

-- the bytes of the record are there, by its mark
enough : (bytes : List ℕ) (from : ℕ) → from + size_of (drop from bytes) ≤ length bytes → from + record_size (eqb (get_or bytes (from + 1) 0) 80) ≤ length bytes
enough bytes from h = subst (λ (b : Bool). from + record_size b ≤ length bytes) (sym (mark-in bytes from)) h

long : (bytes : List ℕ) (from : ℕ) → from + size_of (drop from bytes) ≤ length bytes → from + 418 ≤ length bytes
long bytes from h = omega (arith, enough bytes from h, size-least (eqb (get_or bytes (from + 1) 0) 80))

pub bounds-bytes-from : goal.bounds-bytes-from
bounds-bytes-from c = omega (arith, long _ _ c.requires.0)

pub read_words-requires : goal.read_words-requires
read_words-requires c = (omega (arith, long _ _ c.requires.0), omega (arith, c.requires.1))

pub segment_at-requires : goal.segment_at-requires
segment_at-requires c = enough _ _ c.requires.0

pub overflow_add-result : goal.overflow_add-result
overflow_add-result c = omega (arith, c.record_size.ensures, enough _ _ c.requires.0)

pub returns : goal.returns
unfolding operation_words
returns c =
    let bytes = c.args.bytes.now in
    let from = c.args.from in
    let at = c.args.at in
    let ops = c.args.ops.now in
    let mark = mark-in bytes from in
    let segment = segment-in bytes from (c.segment_at.ensures ∙ ap (λ (b : Bool). pick b (pack 4 (from + RECORD-BYTES) (word bytes)) 0) mark) in (
      (λ t. set (c.read_words.ensures t) (at + 52) (segment t)) ∙ sets_more ops at 52 (record_word (drop from bytes)),
      ap (λ (n : ℕ). from + n) (c.record_size.ensures ∙ ap record_size mark),
    )
