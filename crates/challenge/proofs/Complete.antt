-- The other way: where what is sent and what is received of all words agree mod p, the check passes at every α and every z that is no
-- fingerprint.
--     off               the entries with other words, and their totals
--     split-words       the fractions of the entries with given words, and the others
--     agree-pass        THE CHECK PASSES
use mathlib.Core.Path.{◌≡◌, refl, sym, ap, ap₂, ◌∙◌, subst}
use mathlib.Core.Bool.{Bool, true, false, not, ◌&&◌}
use mathlib.Core.List.{List, [], ◌∷◌, map}
use Prim.Native.Nat.{ℕ, zero, suc, ◌+◌, ◌*◌, ◌/◌, ◌%◌, ◌≤◌, ◌<◌}
use native.Mathlib.Nat.{zero-add, mod-add-div, not-suc-le-zero}
use native.Mathlib.Omega.{arith}
use lib.Dec.{T}
use lib.ListN.{length}
use Rattle.lists.specs.Tab.{pick}
use Rattle.lists.specs.Select.{cons_if, selected, words_test}
use Rattle.lists.proofs.Select.{words-sound, words_same_lem}
use Rattle.lists.proofs.Tests.{true-not-false, not-true, T_of}
use Rattle.lists.proofs.Then.{T_true}
use Rattle.tuple.specs.declared.Side.{Side}
use Rattle.tuple.specs.declared.Side.TheVariants.{Sender, Receiver}
use Rattle.challenge.specs.Domain.{Domain}
use Rattle.challenge.specs.Check.{All, Entry, TotalsAgree, fraction, signed, entry_share, total, passes, fingerprint as fingerprintOf, denominator as denominatorOf, numerator as numeratorOf, ◌⊖◌ as minus}
use Rattle.challenge.proofs.Kept.{kept-all, kept_less, is-decided}
use Rattle.challenge.proofs.Ring.{none-times, times_none, no_difference, factor, cancel}
use Rattle.challenge.proofs.Fractions.{Parts, parts-empty, parts_at, parts-other}
use Rattle.challenge.proofs.Gathered.{share-at, share-off, signed-step}

-- ---- entries with other words
module _ (ws : List ℕ) where
  abbrev is_off : Entry → Bool
  is_off e = not (words_test ws e.words)

  abbrev off : List Entry → List Entry
  off es = selected is_off es

  -- of these words the others have nothing
  off-none : (s : Side) (es : List Entry) → total s ws (off es) ≡ 0
  unfolding selected total
  off-none s [] = refl
  off-none s (e ∷ es) = go (words_test ws e.words) refl (off-none s es)
    where
      go : (b : Bool) → words_test ws e.words ≡ b → total s ws (off es) ≡ 0 → total s ws (cons_if (not b) e (off es)) ≡ 0
      go true q h = h
      go false q h = share-off s ws e q (total s ws (off es)) ∙ h

  -- of any others they have all
  off-all : (s : Side) (vs : List ℕ) → words_test ws vs ≡ false → (es : List Entry) → total s vs (off es) ≡ total s vs es
  unfolding selected total
  off-all s vs n [] = refl
  off-all s vs n (e ∷ es) = go (words_test ws e.words) refl (off-all s vs n es)
    where
      other : words_test ws e.words ≡ true → words_test vs e.words ≡ false
      other q = not-true (words_test vs e.words) (λ r. true-not-false (sym
          (T_true (words_test ws vs) (subst (λ (l : List ℕ). T (words_test ws l))
          (words-sound ws e.words (T_of (words_test ws e.words) q) ∙ sym (words-sound vs e.words (T_of (words_test vs e.words) r))) (words_same_lem ws)))
          ∙ n))

      go : (b : Bool) → words_test ws e.words ≡ b → total s vs (off es) ≡ total s vs es →
          total s vs (cons_if (not b) e (off es)) ≡ entry_share s vs e + total s vs es
      go true q h = h ∙ sym (share-off s vs e (other q) (total s vs es))
      go false q h = ap (λ (m : ℕ). entry_share s vs e + m) h

off-shorter : (e : Entry) (es : List Entry) → length (off e.words (e ∷ es)) ≤ length es
unfolding selected
off-shorter e es = go (words_test e.words e.words) (T_true (words_test e.words e.words) (words_same_lem e.words))
  where
    go : (b : Bool) → b ≡ true → length (cons_if (not b) e (off e.words es)) ≤ length es
    go true q = kept_less (is_off e.words) es
    go false q = absurd (true-not-false (sym q))

off-agree : (p : ℕ) (ws : List ℕ) (es : List Entry) → TotalsAgree p es → TotalsAgree p (off ws es)
off-agree p ws es agree vs = go (words_test ws vs) refl
  where
    go : (b : Bool) → words_test ws vs ≡ b → total Sender vs (off ws es) % p ≡ total Receiver vs (off ws es) % p
    go true q =
        subst (λ (us : List ℕ). total Sender us (off ws es) % p ≡ total Receiver us (off ws es) % p)
        (words-sound ws vs (T_of (words_test ws vs) q)) (ap (λ (m : ℕ). m % p) (off-none ws Sender es ∙ sym (off-none ws Receiver es)))
    go false q = ap (λ (m : ℕ). m % p) (off-all ws Sender vs q es) ∙ agree vs ∙ sym (ap (λ (m : ℕ). m % p) (off-all ws Receiver vs q es))

module _ {p : ℕ} (D : Domain p) where
  infixl 65 ◌⊕◌
  infixl 65 ◌⊖◌
  infixl 70 ◌⊗◌
  open D use {F, plus as ◌⊕◌, times as ◌⊗◌, negative, none, one, same, number, number-plus, plus_none, plus-negative}

  abbrev ◌⊖◌ : F → F → F
  a ⊖ b = minus D a b

  module _ (α z : F) where
    abbrev fp : List ℕ → F
    fp ws = fingerprintOf D α ws

    abbrev den : List Entry → F
    den es = denominatorOf D z (map (fraction D α) es)

    abbrev num : List Entry → F
    num es = numeratorOf D z (map (fraction D α) es)

    split_step : (ws : List ℕ) (e : Entry) (es os : List Entry) (m n : ℕ) (b : Bool) → words_test ws e.words ≡ b →
        Parts D (z ⊖ fp ws) (den es) (num es) (number m ⊖ number n) (den os) (num os) →
        Parts D (z ⊖ fp ws) (den (e ∷ es)) (num (e ∷ es)) (number (entry_share Sender ws e + m) ⊖ number (entry_share Receiver ws e + n))
        (den (cons_if (not b) e os)) (num (cons_if (not b) e os))
    unfolding denominatorOf numeratorOf
    split_step ws e es os m n true q P =
        subst (λ (c : F). Parts D (z ⊖ fp ws) (den (e ∷ es)) (num (e ∷ es)) c (den os) (num os))
        (signed-step D e.side e.multiplicity m n
        ∙ sym (ap₂ (λ (x y : ℕ). number (x + m) ⊖ number (y + n)) (share-at Sender ws e q) (share-at Receiver ws e q)))
        (subst (λ (x : F). Parts D (z ⊖ fp ws) ((z ⊖ x) ⊗ den es) (signed D e.side (number e.multiplicity) ⊗ den es ⊕ (z ⊖ x) ⊗ num es)
        (signed D e.side (number e.multiplicity) ⊕ (number m ⊖ number n)) (den os) (num os))
        (ap fp (words-sound ws e.words (T_of (words_test ws e.words) q)))
        (parts_at D (z ⊖ fp ws) (den es) (num es) (number m ⊖ number n) (den os) (num os) (signed D e.side (number e.multiplicity)) P))
    split_step ws e es os m n false q P =
        subst (λ (c : F). Parts D (z ⊖ fp ws) (den (e ∷ es)) (num (e ∷ es)) c (den (e ∷ os)) (num (e ∷ os)))
        (ap₂ (λ (x y : ℕ). number x ⊖ number y) (sym (share-off Sender ws e q m)) (sym (share-off Receiver ws e q n)))
        (parts-other D (z ⊖ fp ws) (den es) (num es) (number m ⊖ number n) (den os) (num os) (signed D e.side (number e.multiplicity)) (z ⊖ fp e.words) P)

    split-words : (ws : List ℕ) (es : List Entry) →
        Parts D (z ⊖ fp ws) (den es) (num es) (number (total Sender ws es) ⊖ number (total Receiver ws es)) (den (off ws es)) (num (off ws es))
    unfolding denominatorOf numeratorOf selected total
    split-words ws [] =
        subst (λ (c : F). Parts D (z ⊖ fp ws) one none c one none) (sym (plus-negative (number 0))) (parts-empty D (z ⊖ fp ws))
    split-words ws (e ∷ es) =
        split_step ws e es (off ws es) (total Sender ws es) (total Receiver ws es) (words_test ws e.words) refl (split-words ws es)

  -- ---- numbers mod p, where p itself is 0
  module _ (wraps : number p ≡ none) where
    number-none : number 0 ≡ none
    number-none = cancel D (number 0) (number 0) none (sym (number-plus 0 0) ∙ sym (plus_none (number 0)))

    multiple : (k : ℕ) → number (p * k) ≡ none
    multiple zero = ap number (nothing p) ∙ number-none
      where
        nothing : (n : ℕ) → n * 0 ≡ 0
        nothing n = omega arith
    multiple (suc k) = ap number (more p k) ∙ number-plus (p * k) p ∙ ap₂ ◌⊕◌ (multiple k) wraps ∙ plus_none none
      where
        more : (n k : ℕ) → n * suc k ≡ n * k + n
        more n k = omega arith

    remainder : (n : ℕ) → number n ≡ number (n % p)
    remainder n = ap number (sym (mod-add-div n p)) ∙ number-plus (n % p) (p * (n / p)) ∙ ap (λ (y : F). number (n % p) ⊕ y) (multiple (n / p)) ∙ plus_none (number (n % p))

    number_same : (m n : ℕ) → m % p ≡ n % p → number m ≡ number n
    number_same m n e = remainder m ∙ ap number e ∙ sym (remainder n)

    -- THE CHECK PASSES
    module _ (α z : F) where
      none_left : (n : ℕ) (es : List Entry) → length es ≤ n → TotalsAgree p es → All (λ e. ¬ (z ≡ fingerprintOf D α e.words)) es → num α z es ≡ none
      unfolding numeratorOf
      none_left zero [] l agree away = refl
      none_left zero (e ∷ es) l agree away = absurd (not-suc-le-zero l)
      none_left (suc n) [] l agree away = refl
      none_left (suc n) (e ∷ es) l agree away = go (split-words α z e.words (e ∷ es))
          (none_left n (off e.words (e ∷ es)) (omega (arith, off-shorter e es)) (off-agree p e.words (e ∷ es) agree)
          (kept-all (is_off e.words) (λ e. ¬ (z ≡ fingerprintOf D α e.words)) (e ∷ es) away))
        where
          go : Parts D (z ⊖ fp α z e.words) (den α z (e ∷ es)) (num α z (e ∷ es))
              (number (total Sender e.words (e ∷ es)) ⊖ number (total Receiver e.words (e ∷ es)))
              (den α z (off e.words (e ∷ es))) (num α z (off e.words (e ∷ es))) →
              num α z (off e.words (e ∷ es)) ≡ none → num α z (e ∷ es) ≡ none
          go P h =
              factor D (z ⊖ fp α z e.words) (num α z (e ∷ es))
              (P.num-is
              ∙ ap₂ (λ (x y : F). P.unit ⊗ (x ⊗ den α z (off e.words (e ∷ es)) ⊕ (z ⊖ fp α z e.words) ⊗ y))
              (ap (λ (x : F). x ⊖ number (total Receiver e.words (e ∷ es))) (number_same _ _ (agree e.words)) ∙ plus-negative (number (total Receiver e.words (e ∷ es)))) h
              ∙ ap (λ (x : F). P.unit ⊗ x) (ap₂ ◌⊕◌ (none-times D (den α z (off e.words (e ∷ es)))) (times_none D (z ⊖ fp α z e.words)) ∙ plus_none none)
              ∙ times_none D P.unit)
              (λ q. away.0 (no_difference D z (fp α z e.words) q))

    pub agree-pass : (es : List Entry) → TotalsAgree p es → (α z : F) → All (λ e. ¬ (z ≡ fingerprintOf D α e.words)) es → passes D es α z ≡ true
    unfolding passes
    agree-pass es agree α z away = is-decided (same (num α z es) none) (none_left α z (length es) es (omega arith) agree away)
