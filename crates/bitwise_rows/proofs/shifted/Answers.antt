-- `bitwise_rows::shifted` meets its contract: sixteen bits and a shift below 16 fit 64 bits.
use native.Mathlib.Omega.{arith}
use lib.Pow.{shl_exact}
use Rattle.bitwise_rows.proofs.shifted.Goals as goal

pub returns : goal.returns
returns c = rw (shl_exact 16 c.args.z 64 c.requires.0 (omega arith))
