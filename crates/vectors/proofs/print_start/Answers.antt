-- `print_start`: 32 of the state's 200 bytes make a line.
use Rattle.std.proofs.Common.{ℕ, ◌≡◌, List, length, take, sym, ap, ◌∙◌, arith}
use lib.Seq.{length-take-le}
use Rattle.lists.proofs.Laws.{length-tab}
use Rattle.lists.specs.Tab.{tab}
use Rattle.bits.specs.Bits.{lane_byte}
use Rattle.vectors.proofs.print_start.Goals as goal

taken : {bytes : List ℕ} (lanes : List ℕ) → bytes ≡ tab 200 (lane_byte lanes) → length (take 32 bytes) ≡ 32
taken {bytes = bytes} lanes e =
    let whole = ap length e ∙ length-tab 200 (lane_byte lanes) in
    length-take-le 32 bytes (omega (arith, whole))

pub slice_bounds-print_line-end : goal.slice_bounds-print_line-end
slice_bounds-print_line-end g c = sym (taken c.args.state.lanes c.state_bytes-bytes.ensures)

pub print_line-requires : goal.print_line-requires
print_line-requires g c = omega (arith, taken c.args.state.lanes c.state_bytes-bytes.ensures)
