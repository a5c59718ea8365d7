-- What a store adds to a text, and to a number's digits.
use Prim.Native.Nat.{ℕ, zero, suc, ◌+◌, ◌-◌, ◌*◌, ◌/◌, ◌%◌, ◌^◌, ◌<◌, ◌≤◌}
use mathlib.Core.Path.{◌≡◌, refl, sym, ap, ◌∙◌}
use mathlib.Core.List.{List, [], ◌∷◌, ◌++◌, append_assoc}
use native.Mathlib.Nat.{add-zero, pow-suc}
use native.Mathlib.Numerals.{add-one}
use native.Mathlib.Omega.{arith}
use lib.ListN.{length, get_or, take, drop, set, length-append, length-drop, length-set}
use lib.Seq.{take-suc, drop-cons, get_or-set_same, drop-set-lt, take_all, length-take-le, sets, length-sets}
use borrow.Author.Tests.{lt-ltb, le-ltb}
use Rattle.lists.proofs.Laws.{sets-append}
use Rattle.text.specs.Text.{digits_of, Puts}

-- one more byte
pub put-more : (a s : List ℕ) (at i : ℕ) → i < length s → set (sets a at (take i s)) (at + i) (get_or s i 0) ≡ sets a at (take (i + 1) s)
put-more a s at i h =
    let x = get_or s i 0 in
    let l : i ≤ length s = omega arith in
    ap (λ (k : ℕ). set (sets a at (take i s)) (at + k) x) (sym (length-take-le i s l))
    ∙ sets-append a at (take i s) (x ∷ [])
    ∙ ap (sets a at) (sym (take-suc s i 0 h) ∙ ap (λ (k : ℕ). take k s) (sym (add-one i)))

-- after a store at i, what stands from i on
drop-set : (b : List ℕ) (i x : ℕ) → i < length b → drop i (set b i x) ≡ x ∷ drop (i + 1) b
drop-set b i x l =
    let h : i < length (set b i x) = simp length-set l in
    let m : i < suc i = omega arith in
    drop-cons (set b i x) i 0 h
    ∙ ap (λ (y : ℕ). y ∷ drop (suc i) (set b i x)) (get_or-set_same b i x 0 l)
    ∙ ap (λ (t : List ℕ). x ∷ t) (drop-set-lt (suc i) b i x m ∙ ap (λ (k : ℕ). drop k b) (sym (add-one i)))

pub room : (i rest : ℕ) → rest < 10 ^ (i + 1) → 10 ≤ rest → 0 < i
room zero rest l h = absurd (omega arith)
room (suc i) rest l h = omega arith

-- one digit more, and the last
pub digit-more : (d b : List ℕ) (i rest x : ℕ) → 0 < i → i < length b → 10 ≤ rest → x ≡ 48 + rest % 10 → rest < 10 ^ (i + 1) → d ≡ digits_of (i + 1) rest ++ drop (i + 1) b
    → (rest / 10 < 10 ^ (i - 1 + 1)) × (d ≡ digits_of (i - 1 + 1) (rest / 10) ++ drop (i - 1 + 1) (set b i x))
unfolding digits_of
digit-more d b i rest x p l h f q e =
    let n : i - 1 + 1 ≡ i = omega arith in
    let s = add-one i in
    let w : 10 ^ (i + 1) ≡ 10 ^ i * 10 = ap (λ (k : ℕ). 10 ^ k) s ∙ pow-suc 10 i in
    let g : digits_of (i + 1) rest ≡ digits_of i (rest / 10) ++ (x ∷ []) =
    ap (λ (k : ℕ). digits_of k rest) s ∙ simp (le-ltb rest 10 h) (ap (λ (y : ℕ). digits_of i (rest / 10) ++ (y ∷ [])) (sym f))
    in
    rw n (
      omega arith,
      e
          ∙ ap (λ (t : List ℕ). t ++ drop (i + 1) b) g
          ∙ append_assoc (digits_of i (rest / 10)) (x ∷ []) (drop (i + 1) b)
          ∙ ap (λ (t : List ℕ). digits_of i (rest / 10) ++ t) (sym (drop-set b i x l)),
    )

pub digit-last : (d b : List ℕ) (i rest x : ℕ) → i < length b → rest < 10 → x ≡ 48 + rest → d ≡ digits_of (i + 1) rest ++ drop (i + 1) b → drop i (set b i x) ≡ d
unfolding digits_of
digit-last d b i rest x l h f e =
    drop-set b i x l
    ∙ ap (λ (y : ℕ). y ∷ drop (i + 1) b) f
    ∙ sym (e ∙ ap (λ (k : ℕ). digits_of k rest ++ drop (i + 1) b) (add-one i) ∙ simp (lt-ltb rest 10 h))

drop-sets : (s a : List ℕ) (at r : ℕ) → at + length s ≤ r → drop r (sets a at s) ≡ drop r a
drop-sets [] a at r h = refl
drop-sets (x ∷ s) a at r h = drop-sets s (set a at x) (suc at) r (omega arith) ∙ drop-set-lt r a at x (omega arith)

module _ {a s b : List ℕ} {at r : ℕ} where
  -- the bytes past the text are those at entry
  pub puts-past : Puts a at s b r → drop r b ≡ drop r a
  puts-past p = ap (drop r) p.is ∙ drop-sets s a at r (omega (arith, p.ends))

  pub puts-as : {t : List ℕ} → Puts a at s b r → s ≡ t → Puts a at t b r
  puts-as p e = record { ends = p.ends ∙ ap (λ (x : List ℕ). at + length x) e; is = p.is ∙ ap (sets a at) e }

  -- one text after another
  pub puts_then : {t d : List ℕ} {q : ℕ} → Puts a at s b r → Puts b r t d q → Puts a at (s ++ t) d q
  puts_then {t} p n =
      record {
        ends = omega (arith, p.ends, n.ends, length-append s t);
        is =
            n.is
            ∙ ap (λ (x : List ℕ). sets x r t) p.is
            ∙ ap (λ (k : ℕ). sets (sets a at s) k t) p.ends
            ∙ sets-append a at s t;
      }

  pub puts-long : Puts a at s b r → length b ≡ length a
  puts-long p = ap length p.is ∙ length-sets a at s

-- nothing
pub puts-nothing : (a : List ℕ) (at : ℕ) → Puts a at [] a at
puts-nothing a at = record { ends = sym (add-zero at); is = refl }

-- one byte
pub puts-byte : (a : List ℕ) (at x : ℕ) → Puts a at (x ∷ []) (set a at x) (at + 1)
puts-byte a at x = record { ends = refl; is = refl }

-- what is left of an array from a place on
pub rest_of : (b : List ℕ) (i k : ℕ) → length b ≤ k + i → take k (drop i b) ≡ drop i b
rest_of b i k l = let e : length (drop i b) ≤ k = omega (arith, length-drop i b) in take_all k (drop i b) e
