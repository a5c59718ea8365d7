-- The values by their parts: a turn that stores the four values of a column or lane, or the twenty of an x; and the groups
-- one after the other.
use mathlib.Core.Path.{◌≡◌, ap, ◌∙◌}
use mathlib.Core.List.{List}
use Prim.Native.Nat.{ℕ, ◌+◌, ◌*◌, ◌/◌, ◌%◌, ◌≤◌, ◌<◌}
use native.Mathlib.Omega.{arith}
use lib.ListN.{set}
use lib.Seq.{sets}
use Rattle.lists.specs.Tab.{tab, followed_by, word}
use Rattle.lists.proofs.Laws.{Filled, filled-block, sets_then, sets-cell}
use Rattle.lists.proofs.Then.{at-two, at-three}
use Rattle.templates.specs.Templates.{is_bit}
use Rattle.keccak_rnd.specs.Columns.{MU}
use Rattle.keccak_rnd.specs.Values.{carry_value, theta_value, rho_value, round_value}

-- four more
pub filled-four : {l : List ℕ} {at n : ℕ} {row row' : List ℕ} (x : ℕ) (f : ℕ → ℕ → ℕ) → Filled l at n (λ i. f (i / 4) (i % 4)) row (4 * x)
    → 4 * (x + 1) ≤ n → row' ≡ sets row (at + 4 * x) (tab 4 (f x)) → Filled l at n (λ i. f (i / 4) (i % 4)) row' (4 * (x + 1))
filled-four x f h b e = filled-block 4 x (f x) h b e (λ j l. at-two f (part j l) (rest j l))
  where
    part : (j : ℕ) → j < 4 → (4 * x + j) / 4 ≡ x
    part j l = omega arith

    rest : (j : ℕ) → j < 4 → (4 * x + j) % 4 ≡ j
    rest j l = omega arith

-- twenty more
pub filled-twenty : {l : List ℕ} {at n : ℕ} {row row' : List ℕ} (x : ℕ) (f : ℕ → ℕ → ℕ → ℕ) → Filled l at n (λ i. f (i / 20) (i / 4 % 5) (i % 4)) row (20 * x)
    → 20 * (x + 1) ≤ n → row' ≡ sets row (at + 20 * x) (tab 20 (λ i. f x (i / 4) (i % 4)))
    → Filled l at n (λ i. f (i / 20) (i / 4 % 5) (i % 4)) row' (20 * (x + 1))
filled-twenty x f h b e = filled-block 20 x (λ i. f x (i / 4) (i % 4)) h b e (λ j l. at-three f (part j l) (mid j l) (rest j l))
  where
    part : (j : ℕ) → j < 20 → (20 * x + j) / 20 ≡ x
    part j l = omega arith

    mid : (j : ℕ) → j < 20 → (20 * x + j) / 4 % 5 ≡ j / 4
    mid j l = omega arith

    rest : (j : ℕ) → j < 20 → (20 * x + j) % 4 ≡ j % 4
    rest j l = omega arith

-- the four groups, stored one behind the other
module _ (row : List ℕ) where
  carries : ℕ → ℕ
  carries i = carry_value row (i / 4) (i % 4)

  thetas : ℕ → ℕ
  thetas i = theta_value row (i / 4) (i % 4)

  rhos : ℕ → ℕ
  rhos i = rho_value row (i / 20) (i / 4 % 5) (i % 4)

  last : ℕ → ℕ
  last i = is_bit (word row MU)

  pub stored-values : (l : List ℕ) {a b c : List ℕ} {v : ℕ} → a ≡ sets l 0 (tab 20 (λ i. carry_value row (i / 4) (i % 4)))
      → b ≡ sets a 20 (tab 20 (λ i. theta_value row (i / 4) (i % 4)))
      → c ≡ sets b 40 (tab 100 (λ i. rho_value row (i / 20) (i / 4 % 5) (i % 4)))
      → v ≡ is_bit (word row MU) → set c 140 v ≡ sets l 0 (tab 141 (round_value row))
  unfolding round_value carries thetas rhos last
  stored-values l {a} {b} {c} {v} p q r s =
      ap (set c 140) s
      ∙ sets-cell c 140 (is_bit (word row MU))
      ∙ ap (λ (t : List ℕ). sets t 140 (tab 1 last)) r
      ∙ sets_then b 40 100 1 rhos last
      ∙ ap (λ (t : List ℕ). sets t 40 (tab 101 (followed_by 100 rhos last))) q
      ∙ sets_then a 20 20 101 thetas (followed_by 100 rhos last)
      ∙ ap (λ (t : List ℕ). sets t 20 (tab 121 (followed_by 20 thetas (followed_by 100 rhos last)))) p
      ∙ sets_then l 0 20 121 carries (followed_by 20 thetas (followed_by 100 rhos last))
