-- What the fractions at the fingerprint of some words have above: where nothing collides, what is sent of them less what is received.
--     share-at, share-off    what an entry adds to a total
--     gathered-is            the field element, from the totals
--     present                words whose totals differ are those of an entry
use mathlib.Core.Path.{◌≡◌, refl, sym, ap, ap₂, ◌∙◌, subst}
use mathlib.Core.Bool.{Bool, true, false, not, ◌&&◌, ◌||◌}
use mathlib.Core.List.{List, [], ◌∷◌, map}
use Prim.Native.Nat.{ℕ, zero, suc, ◌+◌, ◌%◌}
use native.Mathlib.Nat.{zero-add}
use Rattle.lists.specs.Tab.{pick}
use Rattle.lists.specs.Select.{words_test}
use Rattle.lists.proofs.Select.{words-sound}
use Rattle.lists.proofs.Tests.{true-not-false, and-false, T_of}
use Rattle.tuple.specs.Tuple.{same_side}
use Rattle.tuple.specs.declared.Side.{Side}
use Rattle.tuple.specs.declared.Side.TheVariants.{Sender, Receiver}
use Rattle.challenge.specs.Domain.{Domain}
use Rattle.challenge.specs.Check.{decided, Entry, Fits, AllFit, fraction, signed, entry_share, total, fingerprint as fingerprintOf, ◌⊖◌ as minus}
use Rattle.challenge.proofs.Kept.{is_not, decided-false, is-decided, not-decided}
use Rattle.challenge.proofs.Ring.{plus-left-comm, negative-sum}
use Rattle.challenge.proofs.Fractions.{gathered}
use Rattle.challenge.proofs.Collisions.{collides, collides_with_one}

-- ---- totals
pub share-at : (s : Side) (ws : List ℕ) (e : Entry) → words_test ws e.words ≡ true → entry_share s ws e ≡ pick (same_side s e.side) e.multiplicity 0
unfolding entry_share
share-at s ws e q = go (same_side s e.side) (words_test ws e.words) q
  where
    go : (a b : Bool) → b ≡ true → pick {A = ℕ} (a && b) e.multiplicity 0 ≡ pick a e.multiplicity 0
    go true b q = ap (λ (c : Bool). pick {A = ℕ} c e.multiplicity 0) q
    go false b q = refl

pub share-off : (s : Side) (ws : List ℕ) (e : Entry) → words_test ws e.words ≡ false → (n : ℕ) → entry_share s ws e + n ≡ n
unfolding entry_share
share-off s ws e q n = go (same_side s e.side) (words_test ws e.words) q
  where
    go : (a b : Bool) → b ≡ false → pick (a && b) e.multiplicity 0 + n ≡ n
    go true b q = ap (λ (c : Bool). pick {A = ℕ} c e.multiplicity 0 + n) q ∙ zero-add n
    go false b q = zero-add n

pub or-false : (a b : Bool) → (a || b) ≡ false → (a ≡ false) × (b ≡ false)
or-false true b e = absurd (true-not-false e)
or-false false b e = (refl, e)

-- words whose totals differ are those of an entry
pub present : (p : ℕ) (width : ℕ → ℕ) (K : ℕ) (ws : List ℕ) (es : List Entry) → AllFit p width K es →
    ¬ (total Sender ws es % p ≡ total Receiver ws es % p) → Fits p width K ws
unfolding total
present p width K ws [] fs n = absurd (n refl)
present p width K ws (e ∷ es) fs n = go (words_test ws e.words) refl (present p width K ws es fs.1)
  where
    go : (a : Bool) → words_test ws e.words ≡ a → (¬ (total Sender ws es % p ≡ total Receiver ws es % p) → Fits p width K ws) → Fits p width K ws
    go true q back = subst (Fits p width K) (sym (words-sound ws e.words (T_of (words_test ws e.words) q))) fs.0
    go false q back = back (λ r. n
        (ap (λ (m : ℕ). m % p) (share-off Sender ws e q (total Sender ws es)) ∙ r
        ∙ sym (ap (λ (m : ℕ). m % p) (share-off Receiver ws e q (total Receiver ws es)))))

module _ {p : ℕ} (D : Domain p) where
  infixl 65 ◌⊕◌
  infixl 65 ◌⊖◌
  open D use {F, plus as ◌⊕◌, negative, none, same, number, number-plus, plus_assoc, plus-negative}

  abbrev ◌⊖◌ : F → F → F
  a ⊖ b = minus D a b

  -- an entry more
  pub signed-step : (d : Side) (m s r : ℕ) →
      signed D d (number m) ⊕ (number s ⊖ number r) ≡ number (pick (same_side Sender d) m 0 + s) ⊖ number (pick (same_side Receiver d) m 0 + r)
  signed-step Sender m s r =
      sym (plus_assoc (number m) (number s) (negative (number r)))
      ∙ ap₂ (λ (x : F) (k : ℕ). x ⊖ number k) (sym (number-plus m s)) (sym (zero-add r))
  signed-step Receiver m s r =
      plus-left-comm D (negative (number m)) (number s) (negative (number r))
      ∙ ap₂ (λ (k : ℕ) (x : F). number k ⊕ x) (sym (zero-add s)) (sym (negative-sum D (number m) (number r)) ∙ ap negative (sym (number-plus m r)))

  module _ (ws : List ℕ) (α : F) where
    step : (e : Entry) (s r : ℕ) (a : Bool) → words_test ws e.words ≡ a → collides D ws e α ≡ false →
        pick (is_not same (fingerprintOf D α ws) (fingerprintOf D α e.words))
        (number s ⊖ number r) (signed D e.side (number e.multiplicity) ⊕ (number s ⊖ number r))
        ≡ number (entry_share Sender ws e + s) ⊖ number (entry_share Receiver ws e + r)
    unfolding collides
    step e s r true q c =
        ap (λ (a : Bool). pick (not a) (number s ⊖ number r) (signed D e.side (number e.multiplicity) ⊕ (number s ⊖ number r)))
        (is-decided (same (fingerprintOf D α e.words) (fingerprintOf D α ws))
        (ap (fingerprintOf D α) (sym (words-sound ws e.words (T_of (words_test ws e.words) q)))))
        ∙ signed-step e.side e.multiplicity s r
        ∙ sym (ap₂ (λ (x y : ℕ). number (x + s) ⊖ number (y + r)) (share-at Sender ws e q) (share-at Receiver ws e q))
    step e s r false q c =
        let apart : ¬ (fingerprintOf D α ws ≡ fingerprintOf D α e.words) =
        decided-false (same (fingerprintOf D α ws) (fingerprintOf D α e.words))
        (and-false (not (words_test ws e.words)) (decided (same (fingerprintOf D α ws) (fingerprintOf D α e.words))) c (ap not q)) in
        ap (λ (a : Bool). pick (not a) (number s ⊖ number r) (signed D e.side (number e.multiplicity) ⊕ (number s ⊖ number r)))
        (not-decided (same (fingerprintOf D α e.words) (fingerprintOf D α ws)) (λ x. apart (sym x)))
        ∙ ap₂ (λ (x y : ℕ). number x ⊖ number y) (sym (share-off Sender ws e q s)) (sym (share-off Receiver ws e q r))

    pub gathered-is : (es : List Entry) → collides_with_one D ws es α ≡ false →
        gathered D (fingerprintOf D α ws) (map (fraction D α) es) ≡ number (total Sender ws es) ⊖ number (total Receiver ws es)
    unfolding gathered total collides_with_one
    gathered-is [] c = sym (plus-negative (number 0))
    gathered-is (e ∷ es) c =
        let k = or-false (collides D ws e α) (collides_with_one D ws es α) c in
        ap (λ (g : F). pick (is_not same (fingerprintOf D α ws) (fingerprintOf D α e.words)) g (signed D e.side (number e.multiplicity) ⊕ g))
        (gathered-is es k.1)
        ∙ step e (total Sender ws es) (total Receiver ws es) (words_test ws e.words) refl k.0
