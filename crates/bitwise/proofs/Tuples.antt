-- What the ten tuples carry on the table's rows: the row of X, Y and Z, with ten multiplicities behind its fixed columns.
-- H is X + 256 Y.
use mathlib.Core.Path.{◌≡◌, ap, ap₂, ◌∙◌}
use mathlib.Core.List.{List, [], ◌∷◌, ◌++◌}
use Prim.Native.Nat.{ℕ, ◌+◌, ◌*◌, ◌/◌, ◌%◌, ◌^◌, ◌<◌}
use native.Mathlib.Nat.{mod-eq_of_lt}
use native.Mathlib.Omega.{arith}
use lib.Bits.{bit_xor, bit_and, bit_or}
use lib.Dec.{leb, eqb}
use Rattle.lists.specs.Tab.{word, pick}
use Rattle.field.specs.Field.{fadd, fmul}
use Rattle.tuple.specs.Tuple.{receiver}
use Rattle.tuple.specs.declared.Bus.TheVariants.{ByteAlu, AreBytes, IsHalfword, Msb8, Msb16, Zero, IsB20, Hwsl}
use Rattle.bitwise.specs.Row.{row_of_xyz, bitwise_row, row-index}
use Rattle.bitwise.specs.Tuples.{kind_at, bitwise_tuple}
use Rattle.bitwise.proofs.Rows.{row-of-index, msb8-is, msb16-is, zero_is}

-- the row of X, Y and Z in a table whose multiplicities there are mus
abbrev pub row_with : ℕ → ℕ → ℕ → List ℕ → List ℕ
row_with x y z mus = bitwise_row (row-index x y z) ++ mus

half_is : (x y : ℕ) → x < 256 → y < 256 → fadd x (fmul 256 y) ≡ x + y * 256
half_is x y hx hy = ap (fadd x) (mod-eq_of_lt (omega arith)) ∙ mod-eq_of_lt (omega arith) ∙ omega arith

twenty-is : (x y z : ℕ) → x < 256 → y < 256 → z < 16 → fadd (fadd x (fmul 256 y)) (fmul 65536 z) ≡ row-index x y z
twenty-is x y z hx hy hz =
    ap₂ fadd (half_is x y hx hy) (mod-eq_of_lt (omega arith)) ∙ mod-eq_of_lt (omega arith) ∙ omega arith

module _ (x y z : ℕ) (hx : x < 256) (hy : y < 256) (hz : z < 16) (mus : List ℕ) where
  -- tuple i of the row at its index is that of the row of X, Y and Z
  at-index : (i : ℕ) → bitwise_tuple (row_with x y z mus) i ≡ bitwise_tuple (row_of_xyz x y z ++ mus) i
  at-index i = ap (λ (r : List ℕ). bitwise_tuple (r ++ mus) i) (row-of-index x y z hx hy hz)

  pub msb8-tuple : bitwise_tuple (row_with x y z mus) 0 ≡ receiver Msb8 (word mus 0) (x ∷ pick (leb 128 x) 1 0 ∷ [])
  unfolding row_of_xyz kind_at
  msb8-tuple = at-index 0 ∙ ap (λ (b : ℕ). receiver Msb8 (word mus 0) (x ∷ b ∷ [])) (msb8-is x y z hx)

  pub msb16-tuple : bitwise_tuple (row_with x y z mus) 1
      ≡ receiver Msb16 (word mus 1) ((x + y * 256) ∷ pick (leb 32768 (x + y * 256)) 1 0 ∷ [])
  unfolding row_of_xyz kind_at
  msb16-tuple = at-index 1 ∙ ap₂ (λ (h b : ℕ). receiver Msb16 (word mus 1) (h ∷ b ∷ [])) (half_is x y hx hy) (msb16-is x y z hx hy)

  pub zero-tuple : bitwise_tuple (row_with x y z mus) 2
      ≡ receiver Zero (word mus 2) (row-index x y z ∷ pick (eqb (row-index x y z) 0) 1 0 ∷ [])
  unfolding row_of_xyz kind_at
  zero-tuple = at-index 2 ∙ ap₂ (λ (n b : ℕ). receiver Zero (word mus 2) (n ∷ b ∷ [])) (twenty-is x y z hx hy hz) (zero_is x y z)

  pub are-bytes-tuple : bitwise_tuple (row_with x y z mus) 3 ≡ receiver AreBytes (word mus 3) (x ∷ y ∷ [])
  unfolding row_of_xyz kind_at
  are-bytes-tuple = at-index 3

  pub is-half-tuple : bitwise_tuple (row_with x y z mus) 4 ≡ receiver IsHalfword (word mus 4) ((x + y * 256) ∷ [])
  unfolding row_of_xyz kind_at
  is-half-tuple = at-index 4 ∙ ap (λ (h : ℕ). receiver IsHalfword (word mus 4) (h ∷ [])) (half_is x y hx hy)

  pub is-b20-tuple : bitwise_tuple (row_with x y z mus) 5 ≡ receiver IsB20 (word mus 5) (row-index x y z ∷ [])
  unfolding row_of_xyz kind_at
  is-b20-tuple = at-index 5 ∙ ap (λ (n : ℕ). receiver IsB20 (word mus 5) (n ∷ [])) (twenty-is x y z hx hy hz)

  pub hwsl-tuple : bitwise_tuple (row_with x y z mus) 6
      ≡ receiver Hwsl (word mus 6) ((x + y * 256) ∷ z ∷ (x + y * 256) * 2 ^ z % 65536 ∷ (x + y * 256) * 2 ^ z / 65536 ∷ [])
  unfolding row_of_xyz kind_at
  hwsl-tuple =
      at-index 6
      ∙ ap
      (λ (h : ℕ). receiver Hwsl (word mus 6) (h ∷ z ∷ (x + y * 256) * 2 ^ z % 65536 ∷ (x + y * 256) * 2 ^ z / 65536 ∷ []))
      (half_is x y hx hy)

  pub and-tuple : bitwise_tuple (row_with x y z mus) 7 ≡ receiver ByteAlu (word mus 7) (0 ∷ x ∷ y ∷ bit_and x y ∷ [])
  unfolding row_of_xyz kind_at
  and-tuple = at-index 7

  pub or-tuple : bitwise_tuple (row_with x y z mus) 8 ≡ receiver ByteAlu (word mus 8) (1 ∷ x ∷ y ∷ bit_or x y ∷ [])
  unfolding row_of_xyz kind_at
  or-tuple = at-index 8

  pub xor-tuple : bitwise_tuple (row_with x y z mus) 9 ≡ receiver ByteAlu (word mus 9) (2 ∷ x ∷ y ∷ bit_xor x y ∷ [])
  unfolding row_of_xyz kind_at
  xor-tuple = at-index 9
