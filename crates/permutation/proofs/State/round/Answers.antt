-- `State::round` meets its contract: the steps follow each other.
use mathlib.Core.Path.{◌≡◌, sym, ap, ◌∙◌, subst}
use mathlib.Core.List.{List}
use Prim.Native.Nat.{ℕ}
use lib.ListN.{get_or}
use mir.Syntax.{w64}
use mir.Val.{Fits}
use borrow.Author.Rules.{rules}
use Rattle.fips202.specs.Fips.{Agree, rnd}
use Rattle.fips202.specs.Lanes.{bits, rho_pi_l, chi_l, iota_l, rnd_l}
use Rattle.fips202.proofs.Rounds.{rnd-agree}
use Rattle.permutation.proofs.State.round.Goals as goal

pub returns : goal.returns
unfolding rnd_l
returns c =
    let s = c.args.self.lanes in
    let r = c.args.r in
    let fits : (i : ℕ) → Fits w64 (get_or s i 0) = λ i. search rules in
    let e : c.iota-lanes.result ≡ rnd_l s r =
    c.iota-lanes.ensures
    ∙ ap (iota_l r) (c.chi.ensures ∙ ap chi_l (c.rho_pi-moved.ensures ∙ ap rho_pi_l c.theta.ensures)) in
    record { lanes = e; fips = subst (λ (t : List ℕ). Agree (bits t) (rnd (bits s) r)) (sym e) (rnd-agree r c.requires s (λ i h. (fits i).fits)) }
