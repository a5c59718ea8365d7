-- `keccak_rnd_terms::put_terms` meets its contract: the groups stand one behind the other, and the bytes of π are elements.
use Prim.Native.Nat.{◌/◌, ◌%◌}
use native.Mathlib.Omega.{arith}
use Rattle.keccak_rnd_terms.proofs.Terms.{pi-word, terms-stored, pi-below, below}
use Rattle.keccak_rnd_terms.proofs.put_terms.Goals as goal

pub put_not_pi-requires : goal.put_not_pi-requires
put_not_pi-requires c =
    let row = c.args.row.now in
    (omega arith, λ k h. below (pi-word row _ c.requires.1 c.put_rotated.ensures c.put_pi.ensures k h) (pi-below row (k / 40) (k / 8 % 5) (k % 8)))

pub returns : goal.returns
returns c = terms-stored _ _ c.requires.1 c.put_rotated.ensures c.put_pi.ensures c.requires.0 c.put_not_pi.ensures
