-- What rows of the three tables that are looked up receive, with its values.
--     pair-receive         a row of the IS_WH table receives its pair alone
--     bitwise-receive, constant-receive   what these tables receive is found in them
--     found-twenty         what is found in the bitwise table on the bus IsB20 has 20 bits
use mathlib.Core.List.{List, [], ◌∷◌, ◌++◌}
use mathlib.Core.Path.{◌≡◌, refl, sym, ap, ap₂, subst, ◌∙◌}
use Prim.Native.Nat.{ℕ, zero, suc, ◌+◌, ◌*◌, ◌/◌, ◌%◌, ◌^◌, ◌≤◌, ◌<◌}
use native.Mathlib.Nat.{mod-eq_of_lt}
use native.Mathlib.Omega.{arith}
use lib.ListN.{get_or}
use Rattle.lists.specs.Tab.{word, tab}
use Rattle.lists.proofs.Then.{by_le}
use Rattle.field.specs.Field.{fadd, fmul}
use Rattle.tuple.specs.Tuple.{Tuple, bus_number, side_number}
use Rattle.tuple.specs.declared.Bus.{Bus}
use Rattle.tuple.specs.declared.Bus.TheVariants.{IsB20}
use Rattle.tuple.specs.declared.Side.TheVariants.{Sender, Receiver}
use Rattle.is_wh.specs.Tuples.{is_wh_tuple}
use Rattle.is_wh.proofs.Tuples.{mu-sent, half-sent, pair-received}
use Rattle.bitwise.specs.declared.BitwiseOperationType.{BitwiseOperationType}
use Rattle.bitwise.specs.Row.{bitwise_row, row_of_xyz}
use Rattle.bitwise.specs.Tuples.{kind_at, kind_bus, kind_values}
use Rattle.bitwise.specs.Found.{BitwiseFound}
use Rattle.bitwise.proofs.Numbers.{by_kind}
use Rattle.keccak_rc.specs.Tuples.{rc_tuple}
use Rattle.keccak_rc.specs.Found.{RcFound}
use Rattle.keccak_rc.proofs.Found.{rc-values}
use Rattle.bus_sums.specs.Sums.{bitwise_at, constant_at}
use Rattle.bus_sums.proofs.Shares.{On}

pub sides-differ : Receiver ≡ Sender → ⊥
sides-differ e = let q : ◌≡◌ {A = ℕ} 1 0 = ap side_number e in omega arith

-- ---- a row of the IS_WH table
module _ (x : List ℕ) where
  -- tuples 0 to 3 are sent
  pub pair-early : (i : ℕ) → i < 4 → (is_wh_tuple x i).side ≡ Sender
  pair-early zero l = ap (λ (t : Tuple). t.side) (mu-sent x 0 refl)
  pair-early (suc i) l = ap (λ (t : Tuple). t.side) (half-sent x (suc i) (omega arith) l)

  pub pair-receive : (b : Bus) (v : List ℕ) (i : ℕ) → On Receiver b v (is_wh_tuple x i) → (v ≡ (is_wh_tuple x 4).values) × (1 ≤ word x 3)
  pair-receive b v i o =
      by_le 4 i
      (λ l.
      let q = pair-received x i l in (
        o.values ∙ ap (λ (t : Tuple). t.values) (q ∙ sym (pair-received x 4 (omega arith))),
        subst (λ (n : ℕ). 1 ≤ n) (ap (λ (t : Tuple). t.multiplicity) q) o.some,
      ))
      (λ l. absurd (sides-differ (o.side ∙ pair-early i l)))

-- ---- a row of the bitwise table
module _ (mu : ℕ → ℕ → ℕ) (i : ℕ) where
  -- the fixed columns are as they are without multiplicities
  pub fixed : (xs : List ℕ) (k : BitwiseOperationType) → kind_values (bitwise_row i ++ xs) k ≡ kind_values (bitwise_row i) k
  unfolding bitwise_row row_of_xyz
  fixed xs = by_kind (λ k. kind_values (bitwise_row i ++ xs) k ≡ kind_values (bitwise_row i) k) refl refl refl refl refl refl refl refl refl refl

  pub bitwise-receive : (b : Bus) (v : List ℕ) (j : ℕ) → i < 1048576 → On Receiver b v (bitwise_at mu i j) → BitwiseFound b v
  unfolding bitwise_at
  bitwise-receive b v j l o =
      record { index = i; kind = kind_at j; index-lt = l; bus = sym o.bus; values = sym (fixed (tab 10 (mu i)) (kind_at j)) ∙ sym o.values }

-- ---- a row of the constants
module _ (mu : ℕ → ℕ) (r : ℕ) where
  pub constant-receive : (b : Bus) (v : List ℕ) (j : ℕ) → r < 32 → On Receiver b v (constant_at mu r j) → RcFound v
  unfolding constant_at rc_tuple
  constant-receive b v j l o = record { index = r; index-lt = l; values = rc-values r 0 ∙ sym (rc-values r (mu r)) ∙ sym o.values }

-- ---- what is found in the bitwise table on the bus IsB20
other-bus : {A B : Type 0} {b c : Bus} → (bus_number b ≡ bus_number c → ⊥) → b ≡ c → A → B
other-bus n e a = absurd (n (ap bus_number e))

twenty-is : (x y z : ℕ) → x < 256 → y < 256 → z < 16 → fadd (fadd x (fmul 256 y)) (fmul 65536 z) ≡ x + 256 * y + 65536 * z
twenty-is x y z hx hy hz =
    ap₂ fadd (ap (fadd x) (mod-eq_of_lt (omega arith)) ∙ mod-eq_of_lt (omega arith)) (mod-eq_of_lt (omega arith)) ∙ mod-eq_of_lt (omega arith)

small : (x y z n : ℕ) → x < 256 → y < 256 → z < 16 → n ≡ x + 256 * y + 65536 * z → n < 2 ^ 20
small x y z n hx hy hz e = omega arith

sum-small : (x y z : ℕ) → x < 256 → y < 256 → z < 16 → fadd (fadd x (fmul 256 y)) (fmul 65536 z) < 2 ^ 20
sum-small x y z hx hy hz = small x y z _ hx hy hz (twenty-is x y z hx hy hz)

pub found-twenty : (n : ℕ) → BitwiseFound IsB20 (n ∷ []) → n < 2 ^ 20
unfolding bitwise_row row_of_xyz
found-twenty n f = go f.kind f.bus f.values
  where
    go : (k : BitwiseOperationType) → kind_bus k ≡ IsB20 → kind_values (bitwise_row f.index) k ≡ n ∷ [] → n < 2 ^ 20
    go =
        by_kind (λ k. kind_bus k ≡ IsB20 → kind_values (bitwise_row f.index) k ≡ n ∷ [] → n < 2 ^ 20)
        (other-bus (λ q. omega arith)) (other-bus (λ q. omega arith)) (other-bus (λ q. omega arith)) (other-bus (λ q. omega arith)) (other-bus (λ q. omega arith))
        (λ e v. subst (λ (vs : List ℕ). get_or vs 0 0 < 2 ^ 20) v (sum-small (f.index % 256) (f.index / 256 % 256) (f.index / 65536 % 16) (omega arith) (omega arith) (omega arith)))
        (other-bus (λ q. omega arith)) (other-bus (λ q. omega arith)) (other-bus (λ q. omega arith)) (other-bus (λ q. omega arith))
