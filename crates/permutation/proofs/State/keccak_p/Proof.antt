-- `State::keccak_p` meets its contract: after i turns the state has gone through i rounds.
use mathlib.Core.Path.{◌≡◌, refl, sym, ap, ◌∙◌, subst}
use mathlib.Core.List.{List}
use Prim.Native.Nat.{ℕ, ◌+◌, ◌-◌, ◌≤◌}
use native.Mathlib.Numerals.{add-one}
use native.Mathlib.Omega.{arith}
use lib.ListN.{get_or}
use mir.Syntax.{w64}
use mir.Val.{Fits}
use borrow.Author.Rules.{rules}
use Rattle.fips202.specs.Fips.{Agree, keccak_p}
use Rattle.fips202.specs.Lanes.{bits, rnd_l, rounds_l, keccak_pl}
use Rattle.fips202.proofs.Rounds.{keccak_p-agree}
use Rattle.permutation.proofs.State.keccak_p.Statement.{statement}
use Rattle.permutation.proofs.State.keccak_p.Tie as tie

abbrev invariant-loop : tie.invariant-loop-i
invariant-loop nr state₀ i₀ state i = (i ≤ nr) × (state.lanes ≡ rounds_l (24 - nr) i state₀.lanes)

abbrev decreases-loop : tie.decreases-loop-i
decreases-loop nr state₀ i₀ state i = nr - i

loop-holds : tie.Need-loop-i-init invariant-loop decreases-loop
unfolding rounds_l
loop-holds c = (omega arith, refl)

sub-round : tie.Need-overflow_sub-nr invariant-loop decreases-loop
sub-round c = omega arith

add-round : tie.Need-overflow_add-nr invariant-loop decreases-loop
add-round c = omega arith

round-requires : tie.Need-round-state-requires invariant-loop decreases-loop
round-requires c κs = omega arith

add-i : tie.Need-overflow_step-i invariant-loop decreases-loop
add-i c = omega arith

loop-less : tie.Need-loop-i-smaller invariant-loop decreases-loop
loop-less c = omega arith

loop-again : tie.Need-loop-i-preserved invariant-loop decreases-loop
unfolding rounds_l
loop-again c =
    let i = c.loop-i.i in
    let first = 24 - c.args.nr in
    let s = c.args.self.lanes in (
      omega arith,
      c.round-state.ensures.0
          ∙ ap (λ (t : List ℕ). rnd_l t (first + i)) c.loop-i.invariant.1
          ∙ sym (ap (λ (n : ℕ). rounds_l first n s) (add-one i)),
    )

returns : tie.Need-returns invariant-loop decreases-loop
returns c =
    let nr = c.args.nr in
    let s = c.args.self.lanes in
    let fits : (i : ℕ) → Fits w64 (get_or s i 0) = λ i. search rules in
    let all : c.loop-i.i ≡ nr = omega arith in
    let e : c.loop-i.state.lanes ≡ keccak_pl nr s = c.loop-i.invariant.1 ∙ ap (λ (n : ℕ). rounds_l (24 - nr) n s) all in
    (e, subst (λ (t : List ℕ). Agree (bits t) (keccak_p nr (bits s))) (sym e) (keccak_p-agree nr c.requires s (λ i h. (fits i).fits)))

pub keccak_p_spec : {M : Type 1} → statement M
keccak_p_spec =
    tie.close
    (tie.spec
    invariant-loop
    decreases-loop
    loop-holds
    sub-round
    add-round
    round-requires
    add-i
    loop-less
    loop-again
    returns)
