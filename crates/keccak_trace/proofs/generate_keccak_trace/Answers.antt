-- `keccak_trace::generate_keccak_trace` meets its contract: one check after the other, then the table.
use mathlib.Core.Path.{◌≡◌, ap, ◌∙◌}
use Prim.Native.Nat.{ℕ, ◌*◌}
use native.Mathlib.Omega.{arith}
use lib.Seq.{sets}
use Rattle.answer.proofs.Laws.{answers, kept, accepts, written, handed-on, sets-overwrite}
use Rattle.answer.proofs.Refusals.{floor-later, floor-most, floor-stops, floor-goes-on}
use Rattle.keccak.specs.Refusals.{op_count, core_trace_refusal}
use Rattle.keccak.proofs.Checks.{too_many_lem, told-refused, told-done}
use Rattle.lists.specs.Tab.{table_of}
use Rattle.keccak.specs.Row.{core_row_at, core_table, op_at}
use Rattle.keccak.proofs.Height.{height-ge, height-le}
use Rattle.keccak.proofs.Table.{length-core-table}
use Rattle.keccak_trace.proofs.generate_keccak_trace.Goals as goal

-- the words that the checks ask for, from the height that was computed
asked : {h n : ℕ} → h ≡ n → h * 486 ≡ n * 486
asked e = ap (λ (k : ℕ). k * 486) e

pub returns-in_err-check_floor : goal.returns-in_err-check_floor
unfolding core_trace_refusal
returns-in_err-check_floor c =
    let floor = c.args.floor in
    record {
      answer = handed-on _ c.from_residual.ensures.1 ∙ answers (floor-stops floor c.check_floor.ensures _ c.in_err-check_floor.was);
      words = kept _ _ (floor-stops floor c.check_floor.ensures _ c.in_err-check_floor.was);
    }

pub returns-then-n-gt-MAX_OPS : goal.returns-then-n-gt-MAX_OPS
unfolding core_trace_refusal
returns-then-n-gt-MAX_OPS c =
    let power = floor-goes-on _ c.check_floor.ensures c.in_ok-check_floor.was in
    record {
      answer = answers (floor-later _ _ power ∙ too_many_lem _ _ _ c.if-n-gt-MAX_OPS.true);
      words = kept _ _ (floor-later _ _ power ∙ too_many_lem _ _ _ c.if-n-gt-MAX_OPS.true);
    }

pub overflow_mul-h : goal.overflow_mul-h
overflow_mul-h c =
    let floor = c.args.floor in
    omega (arith, c.table_height-h.ensures, height-le floor (op_count c.args.ops.now), floor-most floor (floor-goes-on _ c.check_floor.ensures c.in_ok-check_floor.was), c.if-n-gt-MAX_OPS.false)

pub returns-in_err-check_operations : goal.returns-in_err-check_operations
unfolding core_trace_refusal
returns-in_err-check_operations c =
    let power = floor-goes-on _ c.check_floor.ensures c.in_ok-check_floor.was in
    let told = told-refused _ _ _ c.if-n-gt-MAX_OPS.false (asked c.table_height-h.ensures) c.check_operations.ensures c.in_err-check_operations.was in
    record {
      answer = handed-on _ c.from_residual-in_err-check_operations.ensures.1 ∙ answers (floor-later _ _ power ∙ told);
      words = kept _ _ (floor-later _ _ power ∙ told);
    }

pub put_core_rows-requires : goal.put_core_rows-requires
put_core_rows-requires c =
    let floor = c.args.floor in
    let h = c.table_height-h.ensures in
    let known = (told-done _ _ _ c.if-n-gt-MAX_OPS.false (asked h) c.check_operations.ensures c.in_ok-check_operations.was).1 in
    (omega arith, omega (arith, h, height-ge floor (op_count c.args.ops.now)), omega (arith, h, known.fits), known.low, known.segments)

pub returns : goal.returns
unfolding core_trace_refusal core_table
returns c =
    let floor = c.args.floor in
    let ops = c.args.ops.now in
    let table = c.args.table.now in
    let n = op_count ops in
    let power = floor-goes-on _ c.check_floor.ensures c.in_ok-check_floor.was in
    let known = told-done _ _ _ c.if-n-gt-MAX_OPS.false (asked c.table_height-h.ensures) c.check_operations.ensures c.in_ok-check_operations.was in
    record {
      answer = accepts (floor-later _ _ power ∙ known.0);
      words =
          written _ (floor-later _ _ power ∙ known.0)
          (c.put_core_rows.ensures
          ∙ ap (λ (h : ℕ). sets table 0 (table_of h 486 (core_row_at n (op_at ops)))) c.table_height-h.ensures
          ∙ sets-overwrite table (core_table floor n (op_at ops)) (omega (arith, known.1.fits, length-core-table n (op_at ops) floor)));
    }
