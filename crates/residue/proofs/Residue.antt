-- A tuple's residue is 0 exactly where the tuple needs no match or has one: `residue-matched`.
use mathlib.Core.Path.{◌≡◌, refl, sym, ap, ap₂, ◌∙◌}
use mathlib.Core.Bool.{Bool, true, false, ◌&&◌}
use mathlib.Core.List.{List}
use Prim.Native.Nat.{ℕ, suc, ◌/◌, ◌^◌}
use native.Mathlib.Omega.{arith}
use borrow.Author.Tests.{lt-ltb, le-ltb, eq-eqb, ne_eqb}
use lib.Bits.{bit_xor, xor_add_and, xor_self, and_le_l, and_le_r, or_shr}
use lib.Dec.{eqb, ltb}
use lib.ListN.{length, get_or}
use Rattle.lists.specs.Tab.{pick}
use Rattle.lists.specs.Sum.{all_below}
use Rattle.lists.proofs.Then.{by_le}
use Rattle.bits.specs.Bits.{byte_at}
use Rattle.fips202.specs.Tables.{round_constant}
use Rattle.tuple.specs.Tuple.{Tuple}
use Rattle.tuple.specs.declared.Bus.{Bus}
use Rattle.tuple.specs.declared.Bus.TheVariants.{ByteAlu, AreBytes, IsHalfword, IsWh, KeccakRc, Keccak, Memw}
use Rattle.tuple.specs.declared.Bus.TheVariants.{Ecall, Msb8, Msb16, Zero, IsB20, Hwsl}
use Rattle.bitwise.specs.Found.{alu_op, alu_found, are_bytes_found, half_found}
use Rattle.keccak_rc.specs.Found.{rc_found}
use Rattle.is_wh.specs.Found.{is_wh_found}
use Rattle.matching.specs.Matching.{found_on, found, matched}
use Rattle.residue.proofs.Or.{or-zero, or-all-zero}
use Rattle.residue.specs.Residue.{bytes_residue, alu_residue, is_wh_residue, constant_residue, rc_residue, residue_on, residue}

-- ---- numbers
xor-none : (a b : ℕ) → bit_xor a b ≡ 0 → b ≡ a
xor-none a b e =
    let s = xor_add_and a b in
    let l = and_le_l a b in
    let r = and_le_r a b in
    omega (arith, s, l, r, e)

-- a XOR is 0 where they are equal
by-eq : (a b : ℕ) → (x : Bool) → (a ≡ b → x ≡ true) → ((a ≡ b → ⊥) → x ≡ false) → x ≡ eqb a b
by-eq a b x f g =
    by_le a b
    (λ l. by_le b a (λ m. let e : a ≡ b = omega arith in f e ∙ sym (eq-eqb a b e)) (λ m. let n : a ≡ b → ⊥ = λ e. omega (arith, e) in g n ∙ sym (ne_eqb a b n)))
    (λ l. let n : a ≡ b → ⊥ = λ e. omega (arith, e) in g n ∙ sym (ne_eqb a b n))

xor-zero : (a b : ℕ) → eqb (bit_xor a b) 0 ≡ eqb b a
xor-zero a b =
    by-eq b a (eqb (bit_xor a b) 0)
    (λ e. eq-eqb _ 0 (ap (bit_xor a) e ∙ xor_self a))
    (λ n. ne_eqb _ 0 (λ e. n (xor-none a b e)))

-- a shift is 0 where there is nothing above
over-8 : (a : ℕ) → eqb (a / 2 ^ 8) 0 ≡ ltb a 256
over-8 a =
    by_le 256 a
    (λ l. let n : a / 256 ≡ 0 → ⊥ = λ e. omega (arith, e) in ne_eqb (a / 256) 0 n ∙ sym (le-ltb a 256 l))
    (λ l. let e : a / 256 ≡ 0 = omega arith in eq-eqb (a / 256) 0 e ∙ sym (lt-ltb a 256 l))

over-16 : (a : ℕ) → eqb (a / 2 ^ 16) 0 ≡ ltb a 65536
over-16 a =
    by_le 65536 a
    (λ l. let n : a / 65536 ≡ 0 → ⊥ = λ e. omega (arith, e) in ne_eqb (a / 65536) 0 n ∙ sym (le-ltb a 65536 l))
    (λ l. let e : a / 65536 ≡ 0 = omega arith in eq-eqb (a / 65536) 0 e ∙ sym (lt-ltb a 65536 l))

over-32 : (a : ℕ) → eqb (a / 2 ^ 32) 0 ≡ ltb a (2 ^ 32)
over-32 a =
    by_le 4294967296 a
    (λ l. let n : a / 4294967296 ≡ 0 → ⊥ = λ e. omega (arith, e) in ne_eqb (a / 4294967296) 0 n ∙ sym (le-ltb a 4294967296 l))
    (λ l. let e : a / 4294967296 ≡ 0 = omega arith in eq-eqb (a / 4294967296) 0 e ∙ sym (lt-ltb a 4294967296 l))

-- ---- the kinds of residue
bytes-zero : (a b : ℕ) → eqb (bytes_residue a b) 0 ≡ (ltb a 256 && ltb b 256)
unfolding bytes_residue
bytes-zero a b = ap (λ (x : ℕ). eqb x 0) (or_shr a b 8) ∙ or-zero (a / 2 ^ 8) (b / 2 ^ 8) ∙ ap₂ (λ (x y : Bool). x && y) (over-8 a) (over-8 b)

assoc : (x y z : Bool) → ((x && y) && z) ≡ (x && (y && z))
assoc true y z = refl
assoc false y z = refl

alu-zero : (op a b c : ℕ) → eqb (alu_residue op a b c) 0 ≡ (ltb a 256 && (ltb b 256 && eqb c (alu_op op a b)))
unfolding alu_residue
alu-zero op a b c =
    or-zero (bytes_residue a b) (bit_xor (alu_op op a b) c)
    ∙ ap₂ (λ (x y : Bool). x && y) (bytes-zero a b) (xor-zero (alu_op op a b) c)
    ∙ assoc (ltb a 256) (ltb b 256) (eqb c (alu_op op a b))

is-wh-zero : (w h : ℕ) → eqb (is_wh_residue w h) 0 ≡ (ltb w (2 ^ 32) && ltb h (2 ^ 16))
unfolding is_wh_residue
is-wh-zero w h = or-zero (w / 2 ^ 32) (h / 2 ^ 16) ∙ ap₂ (λ (x y : Bool). x && y) (over-32 w) (over-16 h)

constant-zero : (k : ℕ) (f : ℕ → ℕ) → eqb (constant_residue k f) 0 ≡ all_below 8 (λ b. eqb (f b) (byte_at k b))
unfolding constant_residue
constant-zero k f = or-all-zero 8 (λ b. bit_xor (byte_at k b) (f b)) (λ b. eqb (f b) (byte_at k b)) (λ b. xor-zero (byte_at k b) (f b))

-- where a test fails the residue is 1
picked : (t : Bool) (n : ℕ) (u : Bool) → eqb n 0 ≡ u → eqb (pick t n 1) 0 ≡ (t && u)
picked true n u e = e
picked false n u e = refl

rc-zero : (r : ℕ) (f : ℕ → ℕ) → eqb (rc_residue r f) 0 ≡ (ltb r 32 && all_below 8 (λ b. eqb (f b) (byte_at (round_constant r) b)))
unfolding rc_residue
rc-zero r f = picked (ltb r 32) (constant_residue (round_constant r) f) _ (constant-zero (round_constant r) f)

-- ---- of values on a bus, and of a tuple
on-zero : (b : Bus) (vs : List ℕ) → eqb (residue_on b vs) 0 ≡ found_on b vs
unfolding residue_on found_on alu_found are_bytes_found half_found is_wh_found rc_found
on-zero ByteAlu vs =
    picked (eqb (length vs) 4 && ltb (get_or vs 0 0) 3) _ _ (alu-zero (get_or vs 0 0) (get_or vs 1 0) (get_or vs 2 0) (get_or vs 3 0))
    ∙ assoc (eqb (length vs) 4) (ltb (get_or vs 0 0) 3) _
on-zero AreBytes vs = picked (eqb (length vs) 2) _ _ (bytes-zero (get_or vs 0 0) (get_or vs 1 0))
on-zero IsHalfword vs = picked (eqb (length vs) 1) _ _ (over-16 (get_or vs 0 0))
on-zero IsWh vs = picked (eqb (length vs) 2) _ _ (is-wh-zero (get_or vs 0 0) (get_or vs 1 0))
on-zero KeccakRc vs = picked (eqb (length vs) 9) _ _ (rc-zero (get_or vs 0 0) (λ b. get_or vs (suc b) 0))
on-zero Keccak vs = refl
on-zero Memw vs = refl
on-zero Ecall vs = refl
on-zero Msb8 vs = refl
on-zero Msb16 vs = refl
on-zero Zero vs = refl
on-zero IsB20 vs = refl
on-zero Hwsl vs = refl

pub residue-matched : (t : Tuple) → eqb (residue t) 0 ≡ matched t
unfolding residue
residue-matched t = go (eqb t.multiplicity 0)
  where
    go : (m : Bool) → eqb (pick m 0 (residue_on t.bus t.values)) 0 ≡ (elim m as (λ _. Bool) [ true ↦ true | false ↦ found t ])
    go true = refl
    go false = on-zero t.bus t.values

-- ---- for the code: a tuple that is not sent, and one that is
pub idle : (t : Tuple) → t.multiplicity ≡ 0 → 0 ≡ residue t
unfolding residue
idle t e = sym (ap (λ (m : Bool). pick m 0 (residue_on t.bus t.values)) (eq-eqb t.multiplicity 0 e))

pub sent : (t : Tuple) → (t.multiplicity ≡ 0 → ⊥) → residue_on t.bus t.values ≡ residue t
unfolding residue
sent t n = sym (ap (λ (m : Bool). pick m 0 (residue_on t.bus t.values)) (ne_eqb t.multiplicity 0 n))

-- one of which nothing is asked
pub free : (t : Tuple) → residue_on t.bus t.values ≡ 0 → 0 ≡ residue t
unfolding residue
free t e = go (eqb t.multiplicity 0)
  where
    go : (m : Bool) → 0 ≡ pick m 0 (residue_on t.bus t.values)
    go true = refl
    go false = sym e
