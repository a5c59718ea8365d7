-- Where tuples are counted: the row and the kind that specs/Charge.antt names has the tuple, so a tuple that falls on a counter is
-- what that row receives. And a counter afterwards, word by word.
use mathlib.Core.Bool.{Bool, true, false, ◌&&◌}
use mathlib.Core.List.{List, [], ◌∷◌, ◌++◌}
use mathlib.Core.Path.{◌≡◌, refl, sym, ap, ap₂, subst, ◌∙◌}
use Prim.Native.Nat.{ℕ, zero, suc, ◌+◌, ◌-◌, ◌*◌, ◌/◌, ◌%◌, ◌^◌, ◌≤◌, ◌<◌}
use native.Mathlib.Nat.{mod-eq_of_lt, mod-add-mod}
use native.Mathlib.Omega.{arith}
use borrow.Author.Tests.{eqb-true, ltb-true, lt-ltb, eq-eqb, ne_eqb}
use lib.Dec.{T, eqb, ltb}
use lib.ListN.{length, take, drop, set, length-append, length-drop, length-set, take-append-drop, get_or-append}
use lib.Seq.{get_or-set_same, get_or-set_other, get_or-take, length-take-le, drop-set-lt, drop-append_seam}
use Rattle.lists.specs.Tab.{pick, tab, word}
use Rattle.lists.proofs.Laws.{length-tab, get_d-tab, tab-same, list-tab}
use Rattle.lists.proofs.Tests.{true-not-false, and-true, true-and}
use Rattle.lists.proofs.Then.{by_le}
use Rattle.field.specs.Field.{p, fadd}
use Rattle.field.specs.Elements.{ElementRow}
use Rattle.field.proofs.Field.{mod-p}
use Rattle.answer.specs.Refusal.{overwrite}
use Rattle.tuple.specs.Tuple.{Tuple, sender, receiver}
use Rattle.tuple.specs.declared.Bus.{Bus}
use Rattle.tuple.specs.declared.Bus.TheVariants.{ByteAlu, AreBytes, IsHalfword, IsWh, KeccakRc, Keccak, IsB20, Memw, Ecall, Msb8, Msb16, Zero, Hwsl}
use Rattle.bitwise.specs.Columns.{NUM-COUNTERS}
use Rattle.bitwise.specs.Row.{bitwise_row}
use Rattle.bitwise.specs.Tuples.{bitwise_tuple}
use Rattle.bitwise.specs.Found.{BitwiseFound, alu_op, alu_found, AluFound, AreBytesFound, are_bytes_found, HalfFound, half_found}
use Rattle.bitwise.specs.Counters.{charge}
use Rattle.bitwise.specs.Charge.{place_row, place_kind, twenty_found, found, alu_operands, counted, place_counter, falls_on, Placed, charged_words, charged_counters}
use Rattle.bitwise.proofs.Found.{alu-direct, bytes-direct, half-direct, alu-decides, bytes_decides, half-decides}
use Rattle.bitwise.proofs.Tuples.{are-bytes-tuple, is-half-tuple, is-b20-tuple, and-tuple, or-tuple, xor-tuple}

pub alu-placed : (v : List ℕ) → BitwiseFound ByteAlu v → Placed ByteAlu v
unfolding AluFound alu_op place_row place_kind
alu-placed [] f = absurd (omega (arith, (alu-direct f).0))
alu-placed (op ∷ []) f = absurd (omega (arith, (alu-direct f).0))
alu-placed (op ∷ a ∷ []) f = absurd (omega (arith, (alu-direct f).0))
alu-placed (op ∷ a ∷ b ∷ []) f = absurd (omega (arith, (alu-direct f).0))
alu-placed (zero ∷ a ∷ b ∷ c ∷ []) f =
    let g = alu-direct f in
    record { row_lt = omega (arith, g.2, g.3); kind-lt = omega arith; tuple = λ mus. and-tuple a b 0 g.2 g.3 (omega arith) mus ∙ ap (λ (d : ℕ). receiver ByteAlu (word mus 7) (0 ∷ a ∷ b ∷ d ∷ [])) (sym g.4) }
alu-placed (suc zero ∷ a ∷ b ∷ c ∷ []) f =
    let g = alu-direct f in
    record { row_lt = omega (arith, g.2, g.3); kind-lt = omega arith; tuple = λ mus. or-tuple a b 0 g.2 g.3 (omega arith) mus ∙ ap (λ (d : ℕ). receiver ByteAlu (word mus 8) (1 ∷ a ∷ b ∷ d ∷ [])) (sym g.4) }
alu-placed (suc (suc zero) ∷ a ∷ b ∷ c ∷ []) f =
    let g = alu-direct f in
    record { row_lt = omega (arith, g.2, g.3); kind-lt = omega arith; tuple = λ mus. xor-tuple a b 0 g.2 g.3 (omega arith) mus ∙ ap (λ (d : ℕ). receiver ByteAlu (word mus 9) (2 ∷ a ∷ b ∷ d ∷ [])) (sym g.4) }
alu-placed (suc (suc (suc op)) ∷ a ∷ b ∷ c ∷ []) f = absurd (omega (arith, (alu-direct f).1))
alu-placed (op ∷ a ∷ b ∷ c ∷ d ∷ v) f = absurd (omega (arith, (alu-direct f).0))

pub bytes-placed : (v : List ℕ) → BitwiseFound AreBytes v → Placed AreBytes v
unfolding AreBytesFound place_row place_kind
bytes-placed [] f = absurd (omega (arith, (bytes-direct f).0))
bytes-placed (a ∷ []) f = absurd (omega (arith, (bytes-direct f).0))
bytes-placed (a ∷ b ∷ []) f =
    let g = bytes-direct f in record { row_lt = omega (arith, g.1, g.2); kind-lt = omega arith; tuple = λ mus. are-bytes-tuple a b 0 g.1 g.2 (omega arith) mus }
bytes-placed (a ∷ b ∷ c ∷ v) f = absurd (omega (arith, (bytes-direct f).0))

pub half-placed : (v : List ℕ) → BitwiseFound IsHalfword v → Placed IsHalfword v
unfolding HalfFound place_row place_kind
half-placed [] f = absurd (omega (arith, (half-direct f).0))
half-placed (n ∷ []) f =
    let g = (half-direct f).1 in
    let y : n / 256 < 256 = omega (arith, g) in
    record {
      row_lt = omega (arith, y);
      kind-lt = omega arith;
      tuple = λ mus. is-half-tuple (n % 256) (n / 256) 0 (omega arith) y (omega arith) mus ∙ ap (λ (h : ℕ). receiver IsHalfword (word mus 4) (h ∷ [])) (whole n);
    }
  where
    whole : (n : ℕ) → n % 256 + n / 256 * 256 ≡ n
    whole n = omega arith
half-placed (a ∷ b ∷ v) f = absurd (omega (arith, (half-direct f).0))

pub twenty-placed : (n : ℕ) → n < 2 ^ 20 → Placed IsB20 (n ∷ [])
unfolding place_row place_kind
twenty-placed n l =
    record {
      row_lt = omega (arith, whole n);
      kind-lt = omega arith;
      tuple = λ mus. is-b20-tuple (n % 256) (n / 256 % 256) (n / 65536) (omega arith) (omega arith) (omega arith) mus ∙ ap (λ (h : ℕ). receiver IsB20 (word mus 5) (h ∷ [])) (whole n);
    }
  where
    whole : (n : ℕ) → n % 256 + n / 256 % 256 * 256 + n / 65536 * 65536 ≡ n
    whole n = omega arith

-- ---- what is found has its place
pub twenty-range : (v : List ℕ) → twenty_found v ≡ true → (length v ≡ 1) × (word v 0 < 2 ^ 20)
unfolding twenty_found
twenty-range v e =
    let a = and-true (eqb (length v) 1) (ltb (word v 0) (2 ^ 20)) e in (eqb-true (length v) 1 a.0, ltb-true (word v 0) (2 ^ 20) a.1)

to-true : {b : Bool} → b ≡ true → T b
to-true e = subst T (sym e) tt

twenty-at : (v : List ℕ) → twenty_found v ≡ true → Placed IsB20 v
twenty-at [] e = absurd (omega (arith, (twenty-range [] e).0))
twenty-at (n ∷ []) e = twenty-placed n (twenty-range (n ∷ []) e).1
twenty-at (a ∷ b ∷ v) e = absurd (omega (arith, (twenty-range (a ∷ b ∷ v) e).0))

-- the row and the kind of the counter that a tuple falls on has that tuple, where some row has it
pub found-placed : (b : Bus) (v : List ℕ) → found b v ≡ true → Placed b v
unfolding found
found-placed ByteAlu v e = alu-placed v ((alu-decides v).to (to-true e))
found-placed AreBytes v e = bytes-placed v ((bytes_decides v).to (to-true e))
found-placed IsHalfword v e = half-placed v ((half-decides v).to (to-true e))
found-placed IsB20 v e = twenty-at v e
found-placed IsWh v e = absurd (true-not-false (sym e))
found-placed KeccakRc v e = absurd (true-not-false (sym e))
found-placed Keccak v e = absurd (true-not-false (sym e))
found-placed Memw v e = absurd (true-not-false (sym e))
found-placed Ecall v e = absurd (true-not-false (sym e))
found-placed Msb8 v e = absurd (true-not-false (sym e))
found-placed Msb16 v e = absurd (true-not-false (sym e))
found-placed Zero v e = absurd (true-not-false (sym e))
found-placed Hwsl v e = absurd (true-not-false (sym e))

-- ---- what is counted has a counter
-- the row and the kind
abbrev pub Row : Bus → List ℕ → Type 0
Row b v = (place_row b v < 1048576) × (place_kind b v < 10)

operands-range : (v : List ℕ) → alu_operands v ≡ true → (length v ≡ 4) × (word v 0 < 3) × (word v 1 < 256) × (word v 2 < 256)
unfolding alu_operands
operands-range v e =
    let a = and-true (eqb (length v) 4) (ltb (word v 0) 3 && (ltb (word v 1) 256 && ltb (word v 2) 256)) e in
    let b = and-true (ltb (word v 0) 3) (ltb (word v 1) 256 && ltb (word v 2) 256) a.1 in
    let c = and-true (ltb (word v 1) 256) (ltb (word v 2) 256) b.1 in
    (eqb-true (length v) 4 a.0, ltb-true (word v 0) 3 b.0, ltb-true (word v 1) 256 c.0, ltb-true (word v 2) 256 c.1)

operands-row : (v : List ℕ) → alu_operands v ≡ true → Row ByteAlu v
unfolding place_row place_kind
operands-row v e = let a = operands-range v e in (omega (arith, a.2, a.3), omega (arith, a.1))

row_of : {b : Bus} {v : List ℕ} → Placed b v → Row b v
row_of a = (a.row_lt, a.kind-lt)

pub counted-row : (b : Bus) (v : List ℕ) → counted b v ≡ true → Row b v
unfolding counted found
counted-row ByteAlu v e = operands-row v e
counted-row AreBytes v e = row_of (found-placed AreBytes v e)
counted-row IsHalfword v e = row_of (found-placed IsHalfword v e)
counted-row IsB20 v e = row_of (found-placed IsB20 v e)
counted-row IsWh v e = absurd (true-not-false (sym e))
counted-row KeccakRc v e = absurd (true-not-false (sym e))
counted-row Keccak v e = absurd (true-not-false (sym e))
counted-row Memw v e = absurd (true-not-false (sym e))
counted-row Ecall v e = absurd (true-not-false (sym e))
counted-row Msb8 v e = absurd (true-not-false (sym e))
counted-row Msb16 v e = absurd (true-not-false (sym e))
counted-row Zero v e = absurd (true-not-false (sym e))
counted-row Hwsl v e = absurd (true-not-false (sym e))

pub place-lt : (b : Bus) (v : List ℕ) → counted b v ≡ true → place_counter b v < NUM-COUNTERS
unfolding place_counter
place-lt b v e = let a = counted-row b v e in omega (arith, a.0, a.1)

-- what is found is counted
pub found-counted : (b : Bus) (v : List ℕ) → found b v ≡ true → counted b v ≡ true
unfolding found counted alu_found alu_operands
found-counted ByteAlu v e =
    let r = eqb (word v 3) (alu_op (word v 0) (word v 1) (word v 2)) in
    let a = and-true (eqb (length v) 4) (ltb (word v 0) 3 && (ltb (word v 1) 256 && (ltb (word v 2) 256 && r))) e in
    let b = and-true (ltb (word v 0) 3) (ltb (word v 1) 256 && (ltb (word v 2) 256 && r)) a.1 in
    let c = and-true (ltb (word v 1) 256) (ltb (word v 2) 256 && r) b.1 in
    let d = and-true (ltb (word v 2) 256) r c.1 in
    true-and (eqb (length v) 4) (ltb (word v 0) 3 && (ltb (word v 1) 256 && ltb (word v 2) 256)) a.0
    (true-and (ltb (word v 0) 3) (ltb (word v 1) 256 && ltb (word v 2) 256) b.0
    (true-and (ltb (word v 1) 256) (ltb (word v 2) 256) c.0 d.0))
found-counted AreBytes v e = e
found-counted IsHalfword v e = e
found-counted IsB20 v e = e
found-counted IsWh v e = e
found-counted KeccakRc v e = e
found-counted Keccak v e = e
found-counted Memw v e = e
found-counted Ecall v e = e
found-counted Msb8 v e = e
found-counted Msb16 v e = e
found-counted Zero v e = e
found-counted Hwsl v e = e

-- ---- which counter
pub falls-is : (b : Bus) (m : ℕ) (v : List ℕ) (c : ℕ) → counted b v ≡ true → falls_on (sender b m v) c ≡ eqb c (place_counter b v)
unfolding falls_on
falls-is b m v c e = ap (λ (t : Bool). (t && eqb c (place_counter b v))) e

pub falls-not : (b : Bus) (m : ℕ) (v : List ℕ) (c : ℕ) → falls_on (receiver b m v) c ≡ false
unfolding falls_on
falls-not b m v c = refl

-- a halfword is counted at its own row as kind 4, 20 bits at their own row as kind 5
pub half-counted : (h : ℕ) → h < 2 ^ 16 → (counted IsHalfword (h ∷ []) ≡ true) × (place_counter IsHalfword (h ∷ []) ≡ h * 10 + 4)
unfolding counted half_found place_counter place_row place_kind
half-counted h l = (lt-ltb h 65536 l, omega arith)

-- two bytes at their row as kind 3, with an operation as that kind
pub bytes_counted : (a b : ℕ) → a < 256 → b < 256 → (counted AreBytes (a ∷ b ∷ []) ≡ true) × (place_counter AreBytes (a ∷ b ∷ []) ≡ (a + b * 256) * 10 + 3)
unfolding counted are_bytes_found place_counter place_row place_kind
bytes_counted a b la lb = (true-and (ltb a 256) (ltb b 256) (lt-ltb a 256 la) (lt-ltb b 256 lb), omega arith)

pub operands-counted : (op a b r : ℕ) → op < 3 → a < 256 → b < 256
    → (counted ByteAlu (op ∷ a ∷ b ∷ r ∷ []) ≡ true) × (place_counter ByteAlu (op ∷ a ∷ b ∷ r ∷ []) ≡ (a + b * 256) * 10 + (7 + op))
unfolding counted alu_operands place_counter place_row place_kind
operands-counted op a b r lo la lb =
    (true-and (ltb op 3) (ltb a 256 && ltb b 256) (lt-ltb op 3 lo) (true-and (ltb a 256) (ltb b 256) (lt-ltb a 256 la) (lt-ltb b 256 lb)), omega arith)

pub twenty-counted : (n : ℕ) → n < 2 ^ 20 → (counted IsB20 (n ∷ []) ≡ true) × (place_counter IsB20 (n ∷ []) ≡ n * 10 + 5)
unfolding counted twenty_found place_counter place_row place_kind
twenty-counted n l = (lt-ltb n 1048576 l, omega arith)

-- what they are is found
pub half-found : (h : ℕ) → h < 2 ^ 16 → found IsHalfword (h ∷ []) ≡ true
unfolding found half_found
half-found h l = lt-ltb h 65536 l

pub twenty-is-found : (n : ℕ) → n < 2 ^ 20 → found IsB20 (n ∷ []) ≡ true
unfolding found twenty_found
twenty-is-found n l = lt-ltb n 1048576 l

-- a tuple that is counted is found: so on every bus but ByteAlu, where its result is asked for too
abbrev pub Sound : Tuple → Type 0
Sound t = counted t.bus t.values ≡ true → found t.bus t.values ≡ true

pub half-sound : (m : ℕ) (v : List ℕ) → Sound (sender IsHalfword m v)
unfolding found counted
half-sound m v e = e

pub twenty-sound : (m : ℕ) (v : List ℕ) → Sound (sender IsB20 m v)
unfolding found counted
twenty-sound m v e = e

pub pair-sound : (m : ℕ) (v : List ℕ) → Sound (receiver IsWh m v)
unfolding found counted
pair-sound m v e = e

-- ---- the counters C afterwards, from C₀
pub record Added (C₀ : List ℕ) (added : ℕ → ℕ) (C : List ℕ) : Type 0 where
  pub long : length C ≡ length C₀
  pub is : (c : ℕ) → c < NUM-COUNTERS → word C c ≡ (word C₀ c + added c) % p
  pub rest : drop NUM-COUNTERS C ≡ drop NUM-COUNTERS C₀

pub added_none : (C : List ℕ) → ((c : ℕ) → c < NUM-COUNTERS → word C c < p) → Added C (λ c. 0) C
added_none C h = record { long = refl; is = λ c l. sym (mod-eq_of_lt (small (h c l)) ∙ omega arith); rest = refl }
  where
    small : {n : ℕ} → n < p → n + 0 < p
    small b = omega arith

module _ {C₀ C : List ℕ} {f : ℕ → ℕ} (a : Added C₀ f C) where
  pub added-below : (c : ℕ) → c < NUM-COUNTERS → word C c < p
  added-below c l = subst (λ (n : ℕ). n < p) (sym (a.is c l)) (mod-p (word C₀ c + f c))

  pub added-same : {g : ℕ → ℕ} → ((c : ℕ) → c < NUM-COUNTERS → f c ≡ g c) → Added C₀ g C
  added-same {g} e = record { long = a.long; is = λ c l. a.is c l ∙ ap (λ (n : ℕ). (word C₀ c + n) % p) (e c l); rest = a.rest }

  -- n more on counter `at`
  pub added-one : (at n : ℕ) → NUM-COUNTERS ≤ length C₀ → at < NUM-COUNTERS
      → Added C₀ (λ c. f c + pick (eqb c at) n 0) (set C at (fadd (word C at) n))
  added-one at n h l =
      record {
        long = length-set C at (fadd (word C at) n) ∙ a.long;
        is = λ c b. by-eq c at (λ e. there c e) (λ d. other c b d);
        rest = drop-set-lt NUM-COUNTERS C at (fadd (word C at) n) l ∙ a.rest;
      }
    where
      by-eq : {P : Type 0} (c k : ℕ) → (c ≡ k → P) → ((c ≡ k → ⊥) → P) → P
      by-eq c k y z = by_le k c (λ b. by_le c k (λ d. y (omega arith)) (λ d. z (λ e. omega arith))) (λ b. z (λ e. omega arith))

      there : (c : ℕ) → c ≡ at → word (set C at (fadd (word C at) n)) c ≡ (word C₀ c + (f c + pick (eqb c at) n 0)) % p
      there c e =
          ap (word (set C at (fadd (word C at) n))) e
          ∙ get_or-set_same C at (fadd (word C at) n) 0 (omega (arith, a.long))
          ∙ ap (λ (x : ℕ). (x + n) % p) (a.is at l)
          ∙ mod-add-mod (word C₀ at + f at) p n
          ∙ ap (λ (x : ℕ). x % p) (omega arith)
          ∙ ap (λ (k : ℕ). (word C₀ k + (f k + n)) % p) (sym e)
          ∙ ap (λ (t : Bool). (word C₀ c + (f c + pick t n 0)) % p) (sym (eq-eqb c at e))

      other : (c : ℕ) → c < NUM-COUNTERS → (c ≡ at → ⊥) → word (set C at (fadd (word C at) n)) c ≡ (word C₀ c + (f c + pick (eqb c at) n 0)) % p
      other c b d =
          get_or-set_other C at c (fadd (word C at) n) 0 d
          ∙ a.is c b
          ∙ ap (λ (x : ℕ). (word C₀ c + x) % p) (omega arith)
          ∙ ap (λ (t : Bool). (word C₀ c + (f c + pick t n 0)) % p) (sym (ne_eqb c at d))

  pub added-all : NUM-COUNTERS ≤ length C₀ → C ≡ charged_counters C₀ f
  unfolding charged_words charged_counters overwrite
  added-all h =
      let new = tab NUM-COUNTERS (λ c. (word C₀ c + f c) % p) in
      let k : length new ≡ NUM-COUNTERS = length-tab NUM-COUNTERS (λ c. (word C₀ c + f c) % p) in
      let front : take NUM-COUNTERS C ≡ new =
      list-tab (take NUM-COUNTERS C) NUM-COUNTERS (length-take-le NUM-COUNTERS C (omega (arith, a.long)))
      ∙ tab-same NUM-COUNTERS (λ c. word (take NUM-COUNTERS C) c) (λ c. (word C₀ c + f c) % p) (λ c l. get_or-take NUM-COUNTERS C c 0 l ∙ a.is c l) in
      sym (take-append-drop NUM-COUNTERS C) ∙ ap₂ ◌++◌ front (a.rest ∙ ap (λ (n : ℕ). drop n C₀) (sym k))

-- and back
pub charged-added : (C₀ : List ℕ) (f : ℕ → ℕ) → NUM-COUNTERS ≤ length C₀ → Added C₀ f (charged_counters C₀ f)
unfolding charged_words charged_counters overwrite
charged-added C₀ f h =
    let g : ℕ → ℕ = λ c. (word C₀ c + f c) % p in
    let new = tab NUM-COUNTERS g in
    let k : length new ≡ NUM-COUNTERS = length-tab NUM-COUNTERS g in
    record {
      long = length-append new (drop (length new) C₀) ∙ omega (arith, length-drop (length new) C₀);
      is = λ c l. get_or-append new (drop (length new) C₀) 0 c (omega arith) ∙ get_d-tab NUM-COUNTERS g c 0 l;
      rest = ap (λ (n : ℕ). drop n (new ++ drop (length new) C₀)) (sym k) ∙ drop-append_seam new (drop (length new) C₀) ∙ ap (λ (n : ℕ). drop n C₀) k;
    }

-- ---- one counter of the ones that a call is lent
-- the counters stay below p
pub elements-add : {C : List ℕ} (at n : ℕ) → ElementRow NUM-COUNTERS C → at < NUM-COUNTERS → ElementRow NUM-COUNTERS (charge C at n)
unfolding charge
elements-add {C} at n e l =
    record {
      long = subst (λ (k : ℕ). NUM-COUNTERS ≤ k) (sym (length-set C at (fadd (word C at) n))) e.long;
      below = added-below (added-one (added_none C e.below) at n e.long l);
    }

-- what adding asks for
pub may_add : {C : List ℕ} (at : ℕ) → ElementRow NUM-COUNTERS C → at < NUM-COUNTERS → (at < length C) × (word C at < p)
may_add at e l = let k = e.long in (omega arith, e.below at l)

pub charged-elements : (C₀ : List ℕ) (f : ℕ → ℕ) → NUM-COUNTERS ≤ length C₀ → ElementRow NUM-COUNTERS (charged_counters C₀ f)
charged-elements C₀ f h =
    let a = charged-added C₀ f h in
    record { long = subst (λ (k : ℕ). NUM-COUNTERS ≤ k) (sym a.long) h; below = added-below a }

-- ---- a tuple
-- what a tuple adds to counter c
abbrev pub adds : ℕ → Tuple → ℕ
adds c t = pick (falls_on t c) t.multiplicity 0

pub sent-adds : (c : ℕ) (b : Bus) (m : ℕ) (v : List ℕ) (at : ℕ) → (counted b v ≡ true) × (place_counter b v ≡ at) → adds c (sender b m v) ≡ pick (eqb c at) m 0
sent-adds c b m v at e = ap (λ (t : Bool). pick t m 0) (falls-is b m v c e.0) ∙ ap (λ (k : ℕ). pick (eqb c k) m 0) e.1

pub received-adds : (c : ℕ) (b : Bus) (m : ℕ) (v : List ℕ) → adds c (receiver b m v) ≡ 0
received-adds c b m v = ap (λ (t : Bool). pick t m 0) (falls-not b m v c)

-- after a tuple that is sent
pub added-tuple : {C₀ C : List ℕ} {f : ℕ → ℕ} {t : Tuple} → Added C₀ f C → NUM-COUNTERS ≤ length C₀
    → (b : Bus) (m : ℕ) (v : List ℕ) (at : ℕ) → t ≡ sender b m v → (counted b v ≡ true) × (place_counter b v ≡ at)
    → Added C₀ (λ c. f c + adds c t) (charge C at m)
unfolding charge
added-tuple {C₀} {C} {f} {t} a long b m v at e h =
    added-same (added-one a at m long (subst (λ (k : ℕ). k < NUM-COUNTERS) h.1 (place-lt b v h.0)))
    (λ c l. ap (λ (k : ℕ). f c + k) (sym (ap (adds c) e ∙ sent-adds c b m v at h)))
