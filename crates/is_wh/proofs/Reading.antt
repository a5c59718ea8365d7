-- A row's tuples read only its four columns.
use mathlib.Core.List.{[], ◌∷◌}
use Prim.Native.Nat.{◌^◌}
use native.Mathlib.Omega.{arith}
use Rattle.lists.proofs.Reading.{ReadsFirst, then_same}
use Rattle.field.specs.Field.{fadd, fmul}
use Rattle.tuple.specs.Tuple.{sender, receiver}
use Rattle.tuple.specs.declared.Bus.TheVariants.{IsWh, IsHalfword, IsB20}
use Rattle.tuple.specs.Call.{RestNotRead}
use Rattle.tuple.proofs.Reading.{tuple-rest}
use Rattle.is_wh.specs.Columns.{MU, NUM-COLUMNS, value}
use Rattle.is_wh.specs.Tuples.{NUM-TUPLES, is_wh_tuple}

pub tuple-reads : ReadsFirst NUM-COLUMNS NUM-TUPLES is_wh_tuple
unfolding is_wh_tuple
tuple-reads row other same =
    let mu = same MU (omega arith) in
    let low = same (value 0) (omega arith) in
    let mid = same (value 1) (omega arith) in
    let top = same (value 2) (omega arith) in
    then_same 1 4 _ _ _ _ (λ i l t. sender IsB20 1 (mu t ∷ []))
    (then_same 3 1 _ _ _ _ (λ i l. let e = same (value i) (omega arith) in λ t. sender IsHalfword (mu t) (e t ∷ []))
    (λ i l t. receiver IsWh (mu t) (fadd (mid t) (fmul (2 ^ 16) (top t)) ∷ low t ∷ [])))

pub rest-not-read : RestNotRead NUM-COLUMNS NUM-TUPLES is_wh_tuple
rest-not-read = tuple-rest NUM-COLUMNS NUM-TUPLES is_wh_tuple tuple-reads
