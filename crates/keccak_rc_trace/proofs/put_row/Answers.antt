-- `keccak_rc_trace::put_row` meets its contract: one store, then the bytes of the constant.
use mathlib.Core.Path.{ap, ◌∙◌}
use Prim.Native.Nat.{ℕ, ◌+◌}
use lib.ListN.{set}
use native.Mathlib.Numerals.{add-one}
use lib.Seq.{sets}
use Rattle.lists.specs.Tab.{tab}
use Rattle.bits.specs.Bits.{byte_at}
use Rattle.fips202.specs.Tables.{round_constant}
use Rattle.keccak_rc.specs.Row.{rc_row}
use Rattle.keccak_rc_trace.proofs.put_row.Goals as goal

pub returns : goal.returns
unfolding rc_row
returns c =
    let a = c.args in
    let first = set a.row.now a.at a.round in
    c.put_dword_bl.ensures
    ∙ ap (λ (n : ℕ). sets first (a.at + 1) (tab 8 (byte_at n))) c.round_constant-constant.ensures
    ∙ ap (λ (k : ℕ). sets first k (tab 8 (byte_at (round_constant a.round)))) (add-one a.at)
