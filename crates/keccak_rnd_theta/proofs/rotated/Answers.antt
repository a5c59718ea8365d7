-- `rotated` meets its contract, byte by byte.
use mathlib.Core.Path.{refl, sym}
use Prim.Native.Nat.{◌+◌, ◌<◌}
use native.Mathlib.Omega.{arith}
use lib.ListN.{get_or}
use native.Mathlib.Nat.{add-zero}
use Rattle.keccak_rnd.specs.Parts.{rotated_from}
use Rattle.keccak_rnd.proofs.Tables.{eight}
use Rattle.keccak_rnd_theta.proofs.rotated.Goals as goal

pub overflow_add-result : goal.overflow_add-result
overflow_add-result c = let h : get_or c.args.left 0 0 + get_or c.args.right 3 0 < 256 = c.requires 0 (omega arith) in omega arith

pub overflow_add-result-2 : goal.overflow_add-result-2
overflow_add-result-2 c = let h : get_or c.args.left 2 0 + get_or c.args.right 0 0 < 256 = c.requires 1 (omega arith) in omega arith

pub overflow_add-result-3 : goal.overflow_add-result-3
overflow_add-result-3 c = let h : get_or c.args.left 4 0 + get_or c.args.right 1 0 < 256 = c.requires 2 (omega arith) in omega arith

pub overflow_add-result-4 : goal.overflow_add-result-4
overflow_add-result-4 c = let h : get_or c.args.left 6 0 + get_or c.args.right 2 0 < 256 = c.requires 3 (omega arith) in omega arith

pub returns : goal.returns
unfolding rotated_from
returns c = eight _ refl (sym (add-zero _)) refl (sym (add-zero _)) refl (sym (add-zero _)) refl (sym (add-zero _))
