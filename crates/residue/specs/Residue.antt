-- What a scan of a row's lookups goes by: a number for each tuple that is 0 exactly where the tuple needs no match or
-- has one (proofs/Residue.antt, `residue-matched`).
--     residue_on    of the values on a bus: what is left of them where they should be bytes, halves or a result
--     residue      of a tuple: 0 where its multiplicity is 0
--     residues     of tuples by their index
--     Marked       a slice whose first n words tell which of n tuples need a match and have none
use Rattle.std.specs.Prelude.{ℕ, zero, suc, ◌/◌, ◌^◌, ◌<◌, ◌≡◌, ◌&&◌, List, eqb, ltb, length, get_or, drop}
use Rattle.std.specs.Int.Bits.{bit_xor, bit_or}
use Rattle.lists.specs.Tab.{pick, word}
use Rattle.bits.specs.Bits.{byte_at}
use Rattle.fips202.specs.Tables.{round_constant}
use Rattle.tuple.specs.Tuple.{Tuple}
use Rattle.tuple.specs.declared.Bus.{Bus}
use Rattle.tuple.specs.declared.Bus.TheVariants.{ByteAlu, AreBytes, IsHalfword, IsWh, KeccakRc, Keccak, Memw}
use Rattle.tuple.specs.declared.Bus.TheVariants.{Ecall, Msb8, Msb16, Zero, IsB20, Hwsl}
use Rattle.bitwise.specs.Found.{alu_op}
use Rattle.matching.specs.Matching.{matched}

-- a and b have bits above their lowest eight
unfoldable pub bytes_residue : ℕ → ℕ → ℕ
bytes_residue a b = bit_or a b / 2 ^ 8

-- and op of them differs from c
unfoldable pub alu_residue : ℕ → ℕ → ℕ → ℕ → ℕ
alu_residue op a b c = bit_or (bytes_residue a b) (bit_xor (alu_op op a b) c)

-- a word has bits above its lowest 32, or a half above its lowest 16
unfoldable pub is_wh_residue : ℕ → ℕ → ℕ
is_wh_residue w h = bit_or (w / 2 ^ 32) (h / 2 ^ 16)

-- the OR of f 0 .. f (n - 1)
unfoldable pub or_all : ℕ → (ℕ → ℕ) → ℕ
or_all zero f = 0
or_all (suc n) f = bit_or (f n) (or_all n f)

-- the bytes f differ from those of a constant; there are constants for 32 rounds
unfoldable pub constant_residue : ℕ → (ℕ → ℕ) → ℕ
constant_residue constant f = or_all 8 (λ b. bit_xor (byte_at constant b) (f b))

unfoldable pub rc_residue : ℕ → (ℕ → ℕ) → ℕ
rc_residue r f = pick (ltb r 32) (constant_residue (round_constant r) f) 1

-- of the values on a bus; 1 where they are of another number
unfoldable pub residue_on : Bus → List ℕ → ℕ
residue_on ByteAlu vs = pick (eqb (length vs) 4 && ltb (get_or vs 0 0) 3) (alu_residue (get_or vs 0 0) (get_or vs 1 0) (get_or vs 2 0) (get_or vs 3 0)) 1
residue_on AreBytes vs = pick (eqb (length vs) 2) (bytes_residue (get_or vs 0 0) (get_or vs 1 0)) 1
residue_on IsHalfword vs = pick (eqb (length vs) 1) (get_or vs 0 0 / 2 ^ 16) 1
residue_on IsWh vs = pick (eqb (length vs) 2) (is_wh_residue (get_or vs 0 0) (get_or vs 1 0)) 1
residue_on KeccakRc vs = pick (eqb (length vs) 9) (rc_residue (get_or vs 0 0) (λ b. get_or vs (suc b) 0)) 1
residue_on Keccak vs = 0
residue_on Memw vs = 0
residue_on Ecall vs = 0
residue_on Msb8 vs = 0
residue_on Msb16 vs = 0
residue_on Zero vs = 0
residue_on IsB20 vs = 0
residue_on Hwsl vs = 0

unfoldable pub residue : Tuple → ℕ
residue t = pick (eqb t.multiplicity 0) 0 (residue_on t.bus t.values)

unfoldable pub residues : (ℕ → Tuple) → ℕ → ℕ
residues t i = residue (t i)

-- word i of `new` is 0 exactly where tuple i needs no match or has one, i below n; from n on it is as it was
pub record Marked (n : ℕ) (t : ℕ → Tuple) (old new : List ℕ) : Type 0 where
  pub long : length new ≡ length old
  pub zero : (i : ℕ) → i < n → eqb (word new i) 0 ≡ matched (t i)
  pub rest : drop n new ≡ drop n old
