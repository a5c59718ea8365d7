use Prim.Native.Nat.{ℕ, ◌+◌, ◌-◌, ◌*◌}
use mathlib.Core.Path.{◌≡◌, refl, sym, ap, ◌∙◌}
use native.Mathlib.Nat.{zero-add}
use native.Mathlib.Omega.{arith}
use lib.ListN.{length}
use lib.Seq.{sets, length-sets}
use Rattle.lists.specs.Sum.{sum_below}
use Rattle.lists.specs.Tab.{tab, tab_from}
use Rattle.lists.proofs.Laws.{sets-append}
use Rattle.keccak.specs.Row.{OP-WORDS}
use Rattle.op_file.specs.File.{record_size, bytes_of}
use Rattle.op_list.specs.Record.{is_numbered, words_from}
use Rattle.op_list.specs.Files.{records_for, bytes_for}
use Rattle.op_list.proofs.Files.{record_for, records-more, bytes-more, bytes-grow, for-length}
use Rattle.op_list.proofs.put_records.Goals as goal

pub loop-i-init : goal.loop-i-init
unfolding bytes_for sum_below tab tab_from bytes_of
loop-i-init c = (omega arith, refl, refl)

-- the list and the file keep their lengths, and there is room for one more record
pub write_operation-to-requires : goal.write_operation-to-requires
write_operation-to-requires c =
    let ops = c.args.ops.now in
    let i = c.loop-i.i in
    let k = c.args.n - (i + 1) in
    let e : i + 1 + k ≡ c.args.n = omega arith in
    (omega arith, omega (arith, c.loop-i.invariant.1, bytes-more ops i, bytes-grow ops (i + 1) k, ap (bytes_for ops) e, c.requires.1, ap length c.loop-i.invariant.2, length-sets c.args.file.now 0 (bytes_of (records_for ops i))))

pub loop-i-preserved : goal.loop-i-preserved
loop-i-preserved c =
    let ops = c.args.ops.now in
    let i = c.loop-i.i in
    let w = c.write_operation-to.ensures in
    let here = bytes_of (records_for ops i) in
    let to : c.loop-i.to ≡ 0 + length here = c.loop-i.invariant.1 ∙ sym (for-length ops i) ∙ sym (zero-add (length here)) in (
      omega arith,
      w.1 ∙ ap (λ (k : ℕ). k + record_size (is_numbered (words_from ops (i * OP-WORDS)))) c.loop-i.invariant.1 ∙ bytes-more ops i,
      w.0 ∙ (λ t. sets (c.loop-i.invariant.2 t) (to t) (record_for ops i)) ∙ sets-append c.args.file.now 0 here (record_for ops i) ∙ ap (sets c.args.file.now 0) (records-more ops i),
    )

pub shape_of-file : goal.shape_of-file
shape_of-file c =
    ap length c.loop-i.invariant.2 ∙ length-sets c.args.file.now 0 (bytes_of (records_for c.args.ops.now c.loop-i.i))

pub returns : goal.returns
returns c =
    let e : c.loop-i.i ≡ c.args.n = omega arith in
    c.loop-i.invariant.2 ∙ ap (λ (k : ℕ). sets c.args.file.now 0 (bytes_of (records_for c.args.ops.now k))) e
