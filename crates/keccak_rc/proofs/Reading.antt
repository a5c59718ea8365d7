-- A row's tuple reads only its ten columns.
use mathlib.Core.Path.{◌≡◌}
use native.Mathlib.Omega.{arith}
use Rattle.lists.specs.Tab.{tab, word}
use Rattle.lists.proofs.Laws.{tab-same}
use Rattle.lists.proofs.Reading.{ReadsFirst}
use Rattle.tuple.specs.Tuple.{receiver}
use Rattle.tuple.specs.declared.Bus.TheVariants.{KeccakRc}
use Rattle.tuple.specs.Call.{RestNotRead}
use Rattle.tuple.proofs.Reading.{tuple-rest}
use Rattle.keccak_rc.specs.Columns.{MU, NUM-COLUMNS}
use Rattle.keccak_rc.specs.Tuples.{NUM-TUPLES, rc_tuple}

pub tuple-reads : ReadsFirst NUM-COLUMNS NUM-TUPLES rc_tuple
unfolding rc_tuple
tuple-reads row other same i l =
    let mu = same MU (omega arith) in
    let values : tab 9 (word row) ≡ tab 9 (word other) = tab-same 9 (word row) (word other) (λ k h. same k (omega arith)) in
    λ t. receiver KeccakRc (mu t) (values t)

pub rest-not-read : RestNotRead NUM-COLUMNS NUM-TUPLES rc_tuple
rest-not-read = tuple-rest NUM-COLUMNS NUM-TUPLES rc_tuple tuple-reads
