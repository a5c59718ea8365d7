-- `keccak_rnd_counts::charge_round` meets its contract: the lanes add what the tuples of the row add (Round.antt), and are those of the
-- round.
use mathlib.Core.Path.{ap, ◌∙◌}
use mathlib.Core.List.{List}
use Prim.Native.Nat.{ℕ}
use lib.ListN.{get_or}
use mir.Syntax.{w64}
use mir.Val.{Fits}
use borrow.Author.Rules.{rules}
use Rattle.bitwise.specs.Charge.{charged_row, charged_counters}
use Rattle.fips202.specs.Lanes.{theta_l, rho_pi_l, chi_l, iota_l, rnd_l}
use Rattle.keccak_rnd.specs.Row.{round_row}
use Rattle.keccak_rnd.specs.Tuples.{round_tuple}
use Rattle.keccak_rnd_counts.specs.Lanes.{both, front_adds, rest_adds}
use Rattle.keccak_rnd_counts.proofs.Charging.{still-elements, both-charged, same-charged}
use Rattle.keccak_rnd_counts.proofs.Round.{row-adds}
use Rattle.keccak_rnd_counts.proofs.charge_round.Goals as goal

pub charge_rest-requires : goal.charge_rest-requires
charge_rest-requires c = (still-elements _ c.requires.0 c.charge_front-t.ensures.counters, c.requires.1)

pub returns : goal.returns
unfolding rnd_l
returns c =
    let l = c.args.start in
    let r = c.args.r in
    let fits : (i : ℕ) → Fits w64 (get_or l i 0) = λ i. search rules in
    record {
      counters = λ stamp.
          same-charged (both (front_adds l) (rest_adds r (theta_l l))) (charged_row 1031 (round_tuple (round_row stamp r l))) c.requires.0 (row-adds stamp r l (λ i h. (fits i).fits))
          (both-charged (front_adds l) (rest_adds r (theta_l l)) c.requires.0 c.charge_front-t.ensures.counters
          (c.charge_rest.ensures.counters ∙ ap (λ (t : List ℕ). charged_counters c.charge_front-t.new.counters (rest_adds r t)) c.charge_front-t.ensures.lanes));
      lanes = c.charge_rest.ensures.lanes ∙ ap (λ (t : List ℕ). iota_l r (chi_l (rho_pi_l t))) c.charge_front-t.ensures.lanes;
    }
