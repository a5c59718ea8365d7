-- What a call of the interface promises to a host, on every input. Of a call nothing is known but its contract: `Asked` is what
-- its `requires` clauses want of the caller and `Learnt` what its `ensures` clauses tell it, as the toolchain reads them. With a
-- `requires` more, or an `ensures` less, a call is not `Kept`.
--     Kept n ps r asked learnt told   a call with n lifetimes, parameters ps and a result r wants nothing, and `told` is known of it
-- In `told`, `lent` is the parameters when the call begins and `ended` when it ends, `.0` the first, `.1 .0` the second, `.1 .1 .0`
-- the third; `row` is what a slice holds when the call begins and `row'` when it ends. One that is lent by `&` can't be written.
use Prim.Native.Nat.{ℕ}
use mathlib.Core.List.{List}
use contract.Lifetimes.{Lfts}
use denote.Triple.Clauses.{AtExit}
use borrow.Fn.Kinds.{ParamKind, ResultKind, Dens, In, Out, res_t, ended_of}

pub record Kept (n : ℕ) (ps : List (ParamKind n)) (r : ResultKind n) (asked : In n ps) (learnt told : Out n ps r) : Type 0 where
  pub wants-nothing : (lifetimes : Lfts n) (lent : Dens lifetimes ps) → asked lifetimes lent
  pub tells : (lifetimes : Lfts n) (lent : Dens lifetimes ps) (answer : (res_t r lifetimes).Denot) (ended : AtExit (ended_of n ps r) lifetimes) →
      learnt lifetimes lent answer ended → told lifetimes lent answer ended
