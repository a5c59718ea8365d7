-- `put_round_row` meets its contract: the three parts make the row.
use mathlib.Core.Path.{◌≡◌, refl, sym, ap, ◌∙◌}
use mathlib.Core.List.{List, []}
use Prim.Native.Nat.{ℕ, ◌+◌}
use native.Mathlib.Nat.{add-zero}
use lib.Bits.{bit_xor}
use lib.ListN.{get_or}
use lib.Seq.{sets}
use Rattle.lists.specs.Tab.{word, row_of}
use Rattle.lists.proofs.Laws.{wrote_none, wrote-groups}
use Rattle.bits.specs.Bits.{lane_of, word_at}
use Rattle.fips202.specs.Lanes.{lane, grid, rho_pi_l, chi_l}
use Rattle.keccak_rnd.specs.Row.{theta_lanes, pi_lanes, chi_lanes, round_row}
use Rattle.keccak_rnd.specs.Parts.{cxz_table, left_table, right_table, d_table, front_groups, rho_groups, chi_groups}
use Rattle.keccak_rnd.proofs.Tables.{theta-of, parts-row}
use Rattle.keccak_rnd_row.proofs.put_round_row.Goals as goal

-- the three parts, stored one after the other, are the row
three-parts : (l : List ℕ) (at : ℕ) {front rho row : List ℕ} (stamp : ℕ → ℕ) (r : ℕ) (s : List ℕ) {t u v : List ℕ} →
    front ≡ sets l at (row_of (front_groups stamp r s (cxz_table s) (left_table s) (right_table s) (d_table s))) →
    rho ≡ sets front (at + 463) (row_of (rho_groups t)) →
    row ≡ sets rho (at + 1063) (row_of (chi_groups r u v)) →
    t ≡ theta_lanes s → u ≡ pi_lanes s → v ≡ chi_lanes s →
    row ≡ sets l at (round_row stamp r s)
unfolding round_row front_groups rho_groups chi_groups
three-parts l at {front} {rho} stamp r s e₁ e₂ e₃ a b c =
    let w0 = wrote-groups (front_groups stamp r s (cxz_table s) (left_table s) (right_table s) (d_table s)) (wrote_none l at) (sym (add-zero at)) e₁ in
    let w1 = wrote-groups (rho_groups (theta_lanes s)) w0 refl (e₂ ∙ ap (λ (x : List ℕ). sets front (at + 463) (row_of (rho_groups x))) a) in
    let w2 = wrote-groups (chi_groups r (pi_lanes s) (chi_lanes s)) w1 refl (e₃ ∙ (λ i. sets rho (at + 1063) (row_of (chi_groups r (b i) (c i))))) in
    w2.is ∙ ap (sets l at) (parts-row s stamp r)

pub returns : goal.returns
returns c =
    let a = c.args in
    let s = a.s in
    let thetaE = c.after_theta-theta.ensures ∙ ap (λ (d : List (List ℕ)). grid (λ x y. bit_xor (lane s x y) (lane_of (word (get_or d x []))))) c.put_theta-d.ensures.d ∙ theta-of s in
    let piE = c.rho_pi-pi.ensures ∙ ap rho_pi_l thetaE in
    let chiE = c.chi-chi.ensures ∙ ap chi_l piE in
    three-parts a.row.now a.at (word_at a.timestamp) a.round s c.put_theta-d.ensures.row c.put_rho.ensures c.put_chi.ensures thetaE piE chiE
