-- What the words of each operand are over whole numbers, and its signed constants.
use mathlib.Core.Path.{◌≡◌, refl, sym, ap, ◌∙◌}
use mathlib.Core.List.{List}
use Prim.Native.Nat.{ℕ, suc, ◌+◌, ◌-◌, ◌*◌, ◌%◌, ◌<◌}
use native.Mathlib.Nat.{mod-eq_of_lt, zero-add, mod-add-mod, add-mod-mod, mul-add, mul-mod_left}
use native.Mathlib.Omega.{arith}
use lib.IntN.{ℤ, pos, negsuc}
use Rattle.lists.specs.Tab.{word}
use Rattle.field.specs.Field.{p, fadd, fmul, INV-SHIFT-32}
use Rattle.field.proofs.Field.{fadd-small}
use Rattle.templates.specs.declared.AddLinearTerm.TheVariants.{Column}
use Rattle.templates.specs.Templates.{SHIFT-32, const-signed, add-term-expr, add-terms-expr, add-operand-lo, add-operand-hi, dword, constant, from-dword-whh, from-dword-bl}

-- P: 2^32 · INV_SHIFT_32 mod p is 1
pub shift-32 : SHIFT-32 * INV-SHIFT-32 % p ≡ 1
shift-32 = refl

-- -(n + 1) and n + 1 make 0
back : (n : ℕ) → n < p → p - suc n + suc n ≡ p
back n h = omega arith

pub signed_back : (n : ℕ) → n < p → fadd (const-signed (negsuc n)) (suc n) ≡ 0
signed_back n h = ap (λ (x : ℕ). x % p) (back n h)

-- ---- sums of terms that stay below p
plus : (a b : ℕ) → a + b < p → fadd a (b % p) ≡ a + b
plus a b h = ap (fadd a) (mod-eq_of_lt (omega arith)) ∙ mod-eq_of_lt h

plus-three : (a b c d : ℕ) → a + b + c + d < p → fadd (fadd (fadd a (b % p)) (c % p)) (d % p) ≡ a + b + c + d
plus-three a b c d h =
    ap (λ (x : ℕ). fadd (fadd x (c % p)) (d % p)) (plus a b (omega arith)) ∙ ap (λ (x : ℕ). fadd x (d % p)) (plus (a + b) c (omega arith)) ∙ plus (a + b + c) d h

terms : (a b c d : ℕ) → a + b + c + d < p → fadd (fadd (fadd (fadd 0 (a % p)) (b % p)) (c % p)) (d % p) ≡ a + b + c + d
terms a b c d h = ap (λ (x : ℕ). fadd (fadd (fadd x (b % p)) (c % p)) (d % p)) (plus 0 a (omega arith) ∙ zero-add a) ∙ plus-three a b c d h

-- two halfwords, and four bytes, as a constraint writes them out
pub two-sum : (a b : ℕ) → a < 65536 → b < 65536 → fadd a (fmul b 65536) ≡ a + b * 65536
two-sum a b ha hb = plus a (b * 65536) (omega arith)

pub four-sum : (a b c d : ℕ) → a < 256 → b < 256 → c < 256 → d < 256 → fadd (fadd (fadd a (fmul b 256)) (fmul c 65536)) (fmul d 16777216) ≡ a + b * 256 + c * 65536 + d * 16777216
four-sum a b c d ha hb hc hd = plus-three a (b * 256) (c * 65536) (d * 16777216) (omega arith)

-- ---- the words of each operand
abbrev pub four_bytes : List ℕ → ℕ → ℕ
four_bytes row k = word row k + word row (k + 1) * 256 + word row (k + 2) * 65536 + word row (k + 3) * 16777216

module _ (row : List ℕ) where
  pub constant-lo : (n : ℕ) → n < p → add-operand-lo row (constant (pos n)) ≡ n
  unfolding add-terms-expr
  constant-lo n h = ap (λ (x : ℕ). fadd (fadd (fadd x 0) 0) 0) (fadd-small 0 n (omega arith) ∙ zero-add n) ∙ plus-three n 0 0 0 (omega arith) ∙ omega arith

  pub constant-hi : (v : ℤ) → add-operand-hi row (constant v) ≡ 0
  unfolding add-terms-expr
  constant-hi v = refl

  module _ (k : ℕ) where
    pub dword-lo : add-operand-lo row (dword k) ≡ word row k
    dword-lo = refl

    pub dword-hi : add-operand-hi row (dword k) ≡ word row (k + 1)
    dword-hi = refl

    one : (k : ℕ) → word row k < p → fadd (fadd (fadd (fadd 0 (fmul (word row k) 1)) 0) 0) 0 ≡ word row k
    one k h = terms (word row k * 1) 0 0 0 (omega arith) ∙ omega arith

    two : (k j : ℕ) → word row k < 65536 → word row j < 65536 → fadd (fadd (fadd (fadd 0 (fmul (word row k) 1)) (fmul (word row j) 65536)) 0) 0 ≡ word row k + word row j * 65536
    two k j h g = terms (word row k * 1) (word row j * 65536) 0 0 (omega arith) ∙ omega arith

    pub whh-lo : word row k < 65536 → word row (k + 1) < 65536 → add-operand-lo row (from-dword-whh k) ≡ word row k + word row (k + 1) * 65536
    unfolding add-terms-expr
    whh-lo = two k (k + 1)

    pub whh-hi : word row (k + 2) < p → add-operand-hi row (from-dword-whh k) ≡ word row (k + 2)
    unfolding add-terms-expr
    whh-hi = one (k + 2)

    four : (a b c d : ℕ) → a < 256 → b < 256 → c < 256 → d < 256
        → fadd (fadd (fadd (fadd 0 (fmul a 1)) (fmul b 256)) (fmul c 65536)) (fmul d 16777216) ≡ a + b * 256 + c * 65536 + d * 16777216
    four a b c d ha hb hc hd = terms (a * 1) (b * 256) (c * 65536) (d * 16777216) (omega arith) ∙ omega arith

    pub bl-lo : word row k < 256 → word row (k + 1) < 256 → word row (k + 2) < 256 → word row (k + 3) < 256
        → add-operand-lo row (from-dword-bl k) ≡ four_bytes row k
    unfolding add-terms-expr
    bl-lo = four (word row k) (word row (k + 1)) (word row (k + 2)) (word row (k + 3))

    pub bl-hi : word row (k + 4) < 256 → word row (k + 5) < 256 → word row (k + 6) < 256 → word row (k + 7) < 256
        → add-operand-hi row (from-dword-bl k) ≡ word row (k + 4) + word row (k + 5) * 256 + word row (k + 6) * 65536 + word row (k + 7) * 16777216
    unfolding add-terms-expr
    bl-hi = four (word row (k + 4)) (word row (k + 5)) (word row (k + 6)) (word row (k + 7))

    -- a negative coefficient takes the column away
    pub negative-term : (n : ℕ) → n < p → fadd (add-term-expr row (Column (negsuc n) k)) (fmul (word row k) (suc n)) ≡ 0
    negative-term n h =
        mod-add-mod (word row k * (p - suc n)) p (fmul (word row k) (suc n)) ∙ add-mod-mod (word row k * (p - suc n)) (word row k * suc n) p
        ∙ ap (λ (x : ℕ). x % p) (sym (mul-add (word row k) (p - suc n) (suc n)) ∙ ap (λ (x : ℕ). word row k * x) (back n h)) ∙ mul-mod_left (word row k) p
