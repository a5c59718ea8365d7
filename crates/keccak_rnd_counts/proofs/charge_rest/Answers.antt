-- `keccak_rnd_counts::charge_rest` meets its contract: the steps follow each other (Charging.antt), and ι changes lane (0, 0) alone.
use mathlib.Core.Path.{ap, ◌∙◌}
use native.Mathlib.Omega.{arith}
use lib.Bits.{bit_xor}
use lib.ListN.{get_or}
use borrow.Author.Rules.{rules}
use Rattle.fips202.specs.Lanes.{chi_l, iota_l}
use Rattle.fips202.proofs.Rounds.{iota-set}
use Rattle.fips202.proofs.Tables.{constant-below}
use Rattle.keccak_rnd_counts.proofs.Charging.{still-elements, rest-charged}
use Rattle.keccak_rnd_counts.proofs.charge_rest.Goals as goal

pub charge_chi-requires : goal.charge_chi-requires
charge_chi-requires c = still-elements _ c.requires.0 c.charge_rho.ensures

pub charge_lane-requires : goal.charge_lane-requires
charge_lane-requires c = (still-elements _ (still-elements _ c.requires.0 c.charge_rho.ensures) c.charge_chi.ensures, omega arith)

pub returns : goal.returns
returns c =
    let r = c.args.r in
    let v = c.chi-v.result in
    record {
      counters = rest-charged c.requires.0 r c.args.t c.charge_rho.ensures c.rho_pi-u.ensures c.charge_chi.ensures c.chi-v.ensures c.round_constant-rc.ensures c.charge_lane.ensures;
      lanes = iota-set r v _ (search rules) (ap (bit_xor (get_or v 0 0)) (c.round_constant-rc.ensures ∙ constant-below r c.requires.1))
          ∙ ap (iota_l r) (c.chi-v.ensures ∙ ap chi_l c.rho_pi-u.ensures);
    }
