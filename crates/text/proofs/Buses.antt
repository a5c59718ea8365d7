-- The buses, one by one.
use Prim.Native.Nat.{ℕ, ◌+◌, ◌-◌, ◌*◌, ◌<◌, ◌≤◌}
use mathlib.Core.Path.{◌≡◌, ap, ◌∙◌}
use mathlib.Core.List.{List}
use native.Mathlib.Omega.{arith}
use lib.Dec.{lit<, lit≤}
use lib.ListN.{length, take, drop, get_or}
use Rattle.tuple.specs.declared.Bus.{Bus}
use Rattle.tuple.specs.declared.Bus.TheVariants.{ByteAlu, AreBytes, IsHalfword, IsWh, KeccakRc, Keccak, Memw, Ecall, Msb8, Msb16, Zero, IsB20, Hwsl}
use Rattle.tuple.specs.Tuple.{bus_number}
use Rattle.text.specs.Names.{bus_name}

-- what holds of each bus holds of every bus
pub every-bus : (P : Bus → Type 0) → P ByteAlu → P AreBytes → P IsHalfword → P IsWh → P KeccakRc → P Keccak → P Memw → P Ecall → P Msb8 → P Msb16 → P Zero → P IsB20 → P Hwsl → (b : Bus) → P b
every-bus P p0 p1 p2 p3 p4 p5 p6 p7 p8 p9 p10 p11 p12 ByteAlu = p0
every-bus P p0 p1 p2 p3 p4 p5 p6 p7 p8 p9 p10 p11 p12 AreBytes = p1
every-bus P p0 p1 p2 p3 p4 p5 p6 p7 p8 p9 p10 p11 p12 IsHalfword = p2
every-bus P p0 p1 p2 p3 p4 p5 p6 p7 p8 p9 p10 p11 p12 IsWh = p3
every-bus P p0 p1 p2 p3 p4 p5 p6 p7 p8 p9 p10 p11 p12 KeccakRc = p4
every-bus P p0 p1 p2 p3 p4 p5 p6 p7 p8 p9 p10 p11 p12 Keccak = p5
every-bus P p0 p1 p2 p3 p4 p5 p6 p7 p8 p9 p10 p11 p12 Memw = p6
every-bus P p0 p1 p2 p3 p4 p5 p6 p7 p8 p9 p10 p11 p12 Ecall = p7
every-bus P p0 p1 p2 p3 p4 p5 p6 p7 p8 p9 p10 p11 p12 Msb8 = p8
every-bus P p0 p1 p2 p3 p4 p5 p6 p7 p8 p9 p10 p11 p12 Msb16 = p9
every-bus P p0 p1 p2 p3 p4 p5 p6 p7 p8 p9 p10 p11 p12 Zero = p10
every-bus P p0 p1 p2 p3 p4 p5 p6 p7 p8 p9 p10 p11 p12 IsB20 = p11
every-bus P p0 p1 p2 p3 p4 p5 p6 p7 p8 p9 p10 p11 p12 Hwsl = p12

pub number-below : (b : Bus) → bus_number b < 13
number-below = every-bus (λ b. bus_number b < 13) (lit< tt) (lit< tt) (lit< tt) (lit< tt) (lit< tt) (lit< tt) (lit< tt) (lit< tt) (lit< tt) (lit< tt) (lit< tt) (lit< tt) (lit< tt)

pub name-most : (b : Bus) → length (bus_name b) ≤ 10
name-most = every-bus (λ b. length (bus_name b) ≤ 10) (lit≤ tt) (lit≤ tt) (lit≤ tt) (lit≤ tt) (lit≤ tt) (lit≤ tt) (lit≤ tt) (lit≤ tt) (lit≤ tt) (lit≤ tt) (lit≤ tt) (lit≤ tt) (lit≤ tt)

-- the name of bus number n, in a list of names of ten bytes each and a list of their lengths
module _ (b : Bus) (n : ℕ) (e : n ≡ bus_number b) (lengths : List ℕ) (l : (a : Bus) → get_or lengths (bus_number a) 0 ≡ length (bus_name a)) where
  pub length_at : get_or lengths n 0 ≡ length (bus_name b)
  length_at = ap (λ (k : ℕ). get_or lengths k 0) e ∙ l b

  pub name-at : (names : List ℕ) → ((a : Bus) → take (length (bus_name a)) (drop (10 * bus_number a) names) ≡ bus_name a) → take (10 * n + get_or lengths n 0 - 10 * n) (drop (10 * n) names) ≡ bus_name b
  name-at names h =
      let k : 10 * n + get_or lengths n 0 - 10 * n ≡ length (bus_name b) = omega (arith, length_at) in
      ap (λ (m : ℕ). take m (drop (10 * n) names)) k ∙ ap (λ (m : ℕ). take (length (bus_name b)) (drop (10 * m) names)) e ∙ h b
