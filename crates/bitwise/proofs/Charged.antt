-- Laws of what tables charge, whatever their tuples are.
--     kind_adds                 what a tuple adds to all counters of a kind
--     kind-tuple, kind-rows    each tuple that is counted falls on one counter: what is added to a kind is the sum over the tuples
--     kind-add                 of two tables, the sum
--     kind-bytes .. kind-none  what it is of the tuples that this project's tables have
--     falls-place, charged-off a counter that no tuple can fall on
--     Low, charged-low         tuples that fall on rows with Z 0 and on kinds 3, 4, 7 and 9 alone
--     charged-at, charged-past a counter afterwards, and a word past the counters
--     charged-same .. charged-merged   charges one after the other are one charge, and merge with what was charged to zeros
use mathlib.Core.Bool.{Bool, true, false, ◌&&◌}
use mathlib.Core.List.{List, [], ◌∷◌}
use mathlib.Core.Logic.{◌⊎◌, inl, inr}
use mathlib.Core.Path.{◌≡◌, refl, sym, ap, ap₂, subst, ◌∙◌}
use Prim.Native.Nat.{ℕ, zero, suc, ◌+◌, ◌*◌, ◌/◌, ◌%◌, ◌≤◌, ◌<◌}
use native.Mathlib.Nat.{add_assoc, add_comm, add-zero, zero-add, mod-add-mod, mod-eq_of_lt}
use native.Mathlib.Omega.{arith}
use borrow.Author.Tests.{eqb-true, eqb-false, eq-eqb, ne_eqb, ltb-true}
use lib.Dec.{eqb, ltb}
use lib.ListN.{length}
use Rattle.lists.specs.Tab.{pick, word}
use Rattle.lists.specs.Sum.{sum_below}
use Rattle.lists.proofs.Laws.{tab-same}
use Rattle.lists.proofs.Sum.{sum_same, sum-zero, sum-place, sum_both, sum-swap}
use Rattle.lists.proofs.Tests.{true-not-false, and-true, not-true}
use Rattle.lists.proofs.Then.{by_le}
use Rattle.field.specs.Field.{p, fadd}
use Rattle.answer.specs.Refusal.{overwrite}
use Rattle.answer.proofs.Overwrite.{over-new, over-past, over-length}
use Rattle.tuple.specs.Tuple.{Tuple, sender, receiver, same_side}
use Rattle.tuple.specs.declared.Bus.{Bus}
use Rattle.tuple.specs.declared.Bus.TheVariants.{ByteAlu, AreBytes, IsHalfword}
use Rattle.tuple.specs.declared.Side.TheVariants.{Sender}
use Rattle.bitwise.specs.Columns.{NUM-ROWS, NUM-COUNTERS}
use Rattle.bitwise.specs.Counters.{merged}
use Rattle.bitwise.specs.Found.{are_bytes_found, half_found}
use Rattle.bitwise.specs.Charge.{place_row, place_kind, alu_operands, counted, place_counter, falls_on, charged_row, charged, charged_words, charged_counters, charged_kind, Looked}
use Rattle.bitwise.proofs.Charge.{counted-row, half-counted, bytes_counted, operands-counted, Added, added-all, charged-added}

-- what a tuple adds to all counters of kind k
unfoldable pub kind_adds : ℕ → Tuple → ℕ
kind_adds k t = pick (same_side Sender t.side && (counted t.bus t.values && eqb k (place_kind t.bus t.values))) t.multiplicity 0

-- ---- a tuple falls on one counter
-- counter `kind` of row `row`, among those of kind k
one-row : (n row kind k m : ℕ) → row < n → kind < 10 → k < 10 → sum_below n (λ r. pick (eqb (r * 10 + k) (row * 10 + kind)) m 0) ≡ pick (eqb k kind) m 0
one-row n row kind k m l lk la =
    sum-place n row (λ r. pick (eqb (r * 10 + k) (row * 10 + kind)) m 0) l
    (λ r _ d. ap (λ (t : Bool). pick t m 0) (ne_eqb (r * 10 + k) (row * 10 + kind) (λ e. d (omega (arith, e)))))
    ∙ ap (λ (t : Bool). pick t m 0) (same (eqb k kind) refl)
  where
    same : (t : Bool) → eqb k kind ≡ t → eqb (row * 10 + k) (row * 10 + kind) ≡ eqb k kind
    same true e = eq-eqb (row * 10 + k) (row * 10 + kind) (ap (λ (j : ℕ). row * 10 + j) (eqb-true k kind e)) ∙ sym e
    same false e = ne_eqb (row * 10 + k) (row * 10 + kind) (λ f. eqb-false k kind e (omega (arith, f))) ∙ sym e

none-fall : (n m : ℕ) → sum_below n (λ r. pick {A = ℕ} false m 0) ≡ 0
none-fall n m = sum-zero n (λ r. 0) (λ r l. refl)

pub kind-tuple : (k : ℕ) → k < 10 → (t : Tuple) → sum_below NUM-ROWS (λ r. pick (falls_on t (r * 10 + k)) t.multiplicity 0) ≡ kind_adds k t
unfolding falls_on kind_adds place_counter
kind-tuple k l t = go (same_side Sender t.side) (counted t.bus t.values) refl
  where
    row : ℕ
    row = place_row t.bus t.values

    kind : ℕ
    kind = place_kind t.bus t.values

    go : (s c : Bool) → counted t.bus t.values ≡ c
        → sum_below NUM-ROWS (λ r. pick (s && (c && eqb (r * 10 + k) (row * 10 + kind))) t.multiplicity 0) ≡ pick (s && (c && eqb k kind)) t.multiplicity 0
    go false c e = none-fall NUM-ROWS t.multiplicity
    go true false e = none-fall NUM-ROWS t.multiplicity
    go true true e = let a = counted-row t.bus t.values e in one-row NUM-ROWS row kind k t.multiplicity a.0 a.1 l

-- what the tuples of a row, and of h rows, add to the counters of a kind
pub kind_row : (k : ℕ) → k < 10 → (m : ℕ) (t : ℕ → Tuple) → charged_kind (charged_row m t) k ≡ sum_below m (λ i. kind_adds k (t i))
unfolding charged_kind charged_row
kind_row k l m t =
    sum-swap NUM-ROWS m (λ r i. pick (falls_on (t i) (r * 10 + k)) (t i).multiplicity 0)
    ∙ sum_same m (λ i. sum_below NUM-ROWS (λ r. pick (falls_on (t i) (r * 10 + k)) (t i).multiplicity 0)) (λ i. kind_adds k (t i)) (λ i _. kind-tuple k l (t i))

pub kind-rows : (k : ℕ) → k < 10 → (h m : ℕ) (t : ℕ → ℕ → Tuple) → charged_kind (charged h m t) k ≡ sum_below h (λ r. sum_below m (λ i. kind_adds k (t r i)))
unfolding charged_kind charged
kind-rows k l h m t =
    sum-swap NUM-ROWS h (λ c r. charged_row m (t r) (c * 10 + k))
    ∙ sum_same h (λ r. sum_below NUM-ROWS (λ c. charged_row m (t r) (c * 10 + k))) (λ r. sum_below m (λ i. kind_adds k (t r i))) (λ r _. kind_row k l m (t r))

pub kind-add : (f g : ℕ → ℕ) (k : ℕ) → charged_kind (λ c. f c + g c) k ≡ charged_kind f k + charged_kind g k
unfolding charged_kind
kind-add f g k = sum_both NUM-ROWS (λ r. f (r * 10 + k)) (λ r. g (r * 10 + k))

-- ---- of tuples that are sent m times, where they are counted if m is not 0
pick-none : (t s : Bool) → pick {A = ℕ} t 0 0 ≡ pick s 0 0
pick-none true true = refl
pick-none true false = refl
pick-none false true = refl
pick-none false false = refl

pub kind-sent : (k : ℕ) (b : Bus) (m : ℕ) (v : List ℕ) → ((m ≡ 0 → ⊥) → counted b v ≡ true) → kind_adds k (sender b m v) ≡ pick (eqb k (place_kind b v)) m 0
unfolding kind_adds
kind-sent k b zero v h = pick-none (counted b v && eqb k (place_kind b v)) (eqb k (place_kind b v))
kind-sent k b (suc m) v h = ap (λ (t : Bool). pick (t && eqb k (place_kind b v)) (suc m) 0) (h (λ e. omega arith))

-- two bytes
pub kind-bytes : (k m a b : ℕ) → ((m ≡ 0 → ⊥) → (a < 256) × (b < 256)) → kind_adds k (sender AreBytes m (a ∷ b ∷ [])) ≡ pick (eqb k 3) m 0
unfolding place_kind
kind-bytes k m a b h = kind-sent k AreBytes m (a ∷ b ∷ []) (λ n. (bytes_counted a b (h n).0 (h n).1).0)

-- a halfword
pub kind-half : (k m h : ℕ) → ((m ≡ 0 → ⊥) → h < 65536) → kind_adds k (sender IsHalfword m (h ∷ [])) ≡ pick (eqb k 4) m 0
unfolding place_kind
kind-half k m h l = kind-sent k IsHalfword m (h ∷ []) (λ n. (half-counted h (l n)).0)

-- an operation and two bytes, whatever its result
pub kind-alu : (k m op a b r : ℕ) → op < 3 → ((m ≡ 0 → ⊥) → (a < 256) × (b < 256)) → kind_adds k (sender ByteAlu m (op ∷ a ∷ b ∷ r ∷ [])) ≡ pick (eqb k (7 + op)) m 0
unfolding place_kind
kind-alu k m op a b r l h = kind-sent k ByteAlu m (op ∷ a ∷ b ∷ r ∷ []) (λ n. (operands-counted op a b r l (h n).0 (h n).1).0)

-- a tuple that is received, and one that is looked up elsewhere
pub kind-received : (k : ℕ) (b : Bus) (m : ℕ) (v : List ℕ) → kind_adds k (receiver b m v) ≡ 0
unfolding kind_adds
kind-received k b m v = refl

pub kind-none : (k : ℕ) (b : Bus) (m : ℕ) (v : List ℕ) → counted b v ≡ false → kind_adds k (sender b m v) ≡ 0
unfolding kind_adds
kind-none k b m v e = ap (λ (t : Bool). pick (t && eqb k (place_kind b v)) m 0) e

-- ---- a counter that no tuple falls on
pub falls-place : (t : Tuple) (c : ℕ) → falls_on t c ≡ true → (counted t.bus t.values ≡ true) × (c ≡ place_counter t.bus t.values)
unfolding falls_on
falls-place t c f =
    let x = counted t.bus t.values in
    let y = eqb c (place_counter t.bus t.values) in
    let a = and-true (same_side Sender t.side) (x && y) f in
    let b = and-true x y a.1 in
    (b.0, eqb-true c (place_counter t.bus t.values) b.1)

pub charged-off : (h m : ℕ) (t : ℕ → ℕ → Tuple) (c : ℕ) → ((r i : ℕ) → r < h → i < m → falls_on (t r i) c ≡ true → ⊥) → charged h m t c ≡ 0
unfolding charged charged_row
charged-off h m t c n =
    sum-zero h (λ r. sum_below m (λ i. pick (falls_on (t r i) c) (t r i).multiplicity 0))
    (λ r l. sum-zero m (λ i. pick (falls_on (t r i) c) (t r i).multiplicity 0)
    (λ i g. ap (λ (b : Bool). pick b (t r i).multiplicity 0) (not-true (falls_on (t r i) c) (n r i l g))))

-- ---- rows with Z 0, and the kinds that the core table and the round table look up
abbrev pub Low : Tuple → Type 0
Low t = counted t.bus t.values ≡ true → (place_row t.bus t.values < 65536) × Looked (place_kind t.bus t.values)

pub none-low : (b : Bus) (v : List ℕ) → counted b v ≡ false → (m : ℕ) → Low (sender b m v)
none-low b v e m c = absurd (true-not-false (sym c ∙ e))

pub bytes_low : (m a b : ℕ) → Low (sender AreBytes m (a ∷ b ∷ []))
unfolding counted are_bytes_found place_row place_kind
bytes_low m a b c = let r = and-true (ltb a 256) (ltb b 256) c in (omega (arith, ltb-true a 256 r.0, ltb-true b 256 r.1), inl refl)

pub half-low : (m h : ℕ) → Low (sender IsHalfword m (h ∷ []))
unfolding counted half_found place_row place_kind
half-low m h c = (omega (arith, ltb-true h 65536 c), inr (inl refl))

pub alu_low : (m op a b r : ℕ) → (op ≡ 0) ⊎ (op ≡ 2) → Low (sender ByteAlu m (op ∷ a ∷ b ∷ r ∷ []))
unfolding counted alu_operands place_row place_kind
alu_low m op a b r o c =
    let x = and-true (ltb op 3) (ltb a 256 && ltb b 256) c in
    let y = and-true (ltb a 256) (ltb b 256) x.1 in
    (omega (arith, ltb-true a 256 y.0, ltb-true b 256 y.1), inr (inr (kind o)))
  where
    kind : (op ≡ 0) ⊎ (op ≡ 2) → (7 + op ≡ 7) ⊎ (7 + op ≡ 9)
    kind (inl e) = inl (omega (arith, e))
    kind (inr e) = inr (omega (arith, e))

-- a counter of a row with Z above 0, or of another kind
pub charged-low : (h m : ℕ) (t : ℕ → ℕ → Tuple) → ((r i : ℕ) → r < h → i < m → Low (t r i))
    → (c : ℕ) → (65536 ≤ c / 10) ⊎ (Looked (c % 10) → ⊥) → charged h m t c ≡ 0
unfolding place_counter
charged-low h m t low c off = charged-off h m t c (λ r i lr li f. no (t r i) (low r i lr li) off f)
  where
    no : (t : Tuple) → Low t → (65536 ≤ c / 10) ⊎ (Looked (c % 10) → ⊥) → falls_on t c ≡ true → ⊥
    no t l (inl high) f =
        let e = falls-place t c f in
        let q = counted-row t.bus t.values e.0 in
        omega (arith, e.1, q.1, (l e.0).0, high)
    no t l (inr other) f =
        let e = falls-place t c f in
        let q = counted-row t.bus t.values e.0 in
        let k : c % 10 ≡ place_kind t.bus t.values = omega (arith, e.1, q.1) in
        other (subst Looked (sym k) (l e.0).1)

-- ---- the counters afterwards
pub added-again : {C D E : List ℕ} {f g : ℕ → ℕ} → Added C f D → Added D g E → Added C (λ c. f c + g c) E
added-again {C} {D} {E} {f} {g} a b =
    record {
      long = b.long ∙ a.long;
      is = λ c h. b.is c h ∙ ap (λ (n : ℕ). (n + g c) % p) (a.is c h) ∙ mod-add-mod (word C c + f c) p (g c) ∙ ap (λ (n : ℕ). n % p) (add_assoc (word C c) (f c) (g c));
      rest = b.rest ∙ a.rest;
    }

module _ (C : List ℕ) (f : ℕ → ℕ) where
  pub charged-at : (c : ℕ) → c < NUM-COUNTERS → word (charged_counters C f) c ≡ (word C c + f c) % p
  unfolding charged_counters charged_words
  charged-at c l = over-new NUM-COUNTERS (λ c. (word C c + f c) % p) C c l

  pub charged-past : (c : ℕ) → NUM-COUNTERS ≤ c → word (charged_counters C f) c ≡ word C c
  unfolding charged_counters charged_words
  charged-past c l = over-past NUM-COUNTERS (λ c. (word C c + f c) % p) C c l

  pub charged-length : NUM-COUNTERS ≤ length C → length (charged_counters C f) ≡ length C
  unfolding charged_counters charged_words
  charged-length l = over-length NUM-COUNTERS (λ c. (word C c + f c) % p) C l

  pub charged-same : (g : ℕ → ℕ) → ((c : ℕ) → c < NUM-COUNTERS → f c ≡ g c) → charged_counters C f ≡ charged_counters C g
  unfolding charged_counters charged_words
  charged-same g e =
      ap (λ (w : List ℕ). overwrite w C)
      (tab-same NUM-COUNTERS (λ c. (word C c + f c) % p) (λ c. (word C c + g c) % p) (λ c l. ap (λ (n : ℕ). (word C c + n) % p) (e c l)))

  -- one charge and then another
  pub charged-twice : (g : ℕ → ℕ) → NUM-COUNTERS ≤ length C → charged_counters (charged_counters C f) g ≡ charged_counters C (λ c. f c + g c)
  charged-twice g l =
      let a : Added C f (charged_counters C f) = charged-added C f l in
      let b : Added (charged_counters C f) g (charged_counters (charged_counters C f) g) = charged-added (charged_counters C f) g (subst (λ (k : ℕ). NUM-COUNTERS ≤ k) (sym a.long) l) in
      let s : Added C (λ c. f c + g c) (charged_counters (charged_counters C f) g) = added-again a b in
      added-all s l

-- merging with zeros that were charged is charging
pub charged-merged : (C Z : List ℕ) (g : ℕ → ℕ) → ((c : ℕ) → c < NUM-COUNTERS → word Z c ≡ 0) → merged C (charged_counters Z g) ≡ charged_counters C g
unfolding merged charged_counters charged_words
charged-merged C Z g zeros =
    ap (λ (w : List ℕ). overwrite w C)
    (tab-same NUM-COUNTERS (λ c. fadd (word C c) (word (charged_counters Z g) c)) (λ c. (word C c + g c) % p)
    (λ c l. ap (fadd (word C c)) (charged-at Z g c l ∙ ap (λ (n : ℕ). (n + g c) % p) (zeros c l) ∙ ap (λ (n : ℕ). n % p) (zero-add (g c))) ∙ fadd-mod (word C c) (g c)))
  where
    fadd-mod : (a b : ℕ) → (a + b % p) % p ≡ (a + b) % p
    fadd-mod a b = ap (λ (n : ℕ). n % p) (add_comm a (b % p)) ∙ mod-add-mod b p a ∙ ap (λ (n : ℕ). n % p) (add_comm b a)

-- what counts as nothing leaves elements as they are
pub charged-none : (C : List ℕ) (f : ℕ → ℕ) (c : ℕ) → word C c < p → f c ≡ 0 → word (charged_counters C f) c ≡ word C c
charged-none C f c l z =
    by_le NUM-COUNTERS c (charged-past C f c)
    (λ h. charged-at C f c h ∙ ap (λ (n : ℕ). (word C c + n) % p) z ∙ mod-eq_of_lt (small l) ∙ add-zero (word C c))
  where
    small : {n : ℕ} → n < p → n + 0 < p
    small b = omega arith
