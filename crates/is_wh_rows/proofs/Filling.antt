-- Loads in front of a slice: one key more, and all of them.
use mathlib.Core.Path.{◌≡◌, refl, sym, ap, ap₂, subst, ◌∙◌}
use mathlib.Core.Bool.{Bool, true, false, ◌&&◌}
use mathlib.Core.List.{List, [], ◌∷◌, ◌++◌, append_assoc}
use Prim.Native.Nat.{ℕ, ◌+◌, ◌-◌, ◌*◌, ◌/◌, ◌%◌, ◌≤◌, ◌<◌}
use native.Mathlib.Numerals.{add-one}
use native.Mathlib.Omega.{arith}
use borrow.Author.Tests.{ltb-true, eqb-true, lt-ltb, eq-eqb, ne_eqb}
use lib.Dec.{eqb, ltb}
use lib.ListN.{length, take, drop, set, length-append, length-set, take-append-drop}
use lib.Seq.{sets, length-sets, length-take-le, get_or-take, set-append_left, set_split, drop-append-add, drop-drop, take_at, drop_at}
use Rattle.lists.specs.Tab.{pick, word}
use Rattle.lists.proofs.Laws.{sets-front}
use Rattle.lists.proofs.Tests.{and-true, false-and}
use Rattle.sort.specs.Sorted.{sorted}
use Rattle.sort.proofs.Laws.{length-sorted}
use Rattle.is_wh_rows.specs.Rows.{key_code}
use Rattle.is_wh_rows.specs.Loads.{last_of, joins, joined, loads_of, loads}
use Rattle.is_wh_rows.proofs.Weights.{loads-long}

-- ---- the test

module _ (out : List ℕ) (m c : ℕ) (fits : m ≤ length out) where
  len : length (take m out) ≡ m
  len = length-take-le m out fits

  last-is : 0 < m → last_of (take m out) ≡ word out (m - 1)
  last-is h = ap (λ (n : ℕ). word (take m out) (n - 1)) len ∙ get_or-take m out (m - 1) 0 (omega arith)

  pub no_last : m ≡ 0 → false ≡ joins (take m out) c
  unfolding joins
  no_last e = sym (false-and (ltb 0 (length (take m out))) _ (λ t. absurd (none (ltb-true 0 (length (take m out)) t))))
    where
      none : 0 < length (take m out) → ⊥
      none h = omega (arith, len)

  module _ (h : 0 < m) where
    test-is : joins (take m out) c ≡ (eqb (word out (m - 1) / 65536) c && ltb (word out (m - 1) % 65536) 65535)
    unfolding joins
    test-is =
        ap (λ (b : Bool). (b && (eqb (last_of (take m out) / 65536) c && ltb (last_of (take m out) % 65536) 65535))) (lt-ltb 0 (length (take m out)) (omega (arith, len)))
        ∙ ap (λ (v : ℕ). (eqb (v / 65536) c && ltb (v % 65536) 65535)) (last-is h)

    pub other-code : (word out (m - 1) / 65536 ≡ c → ⊥) → false ≡ joins (take m out) c
    other-code n = sym (test-is ∙ ap (λ (b : Bool). (b && ltb (word out (m - 1) % 65536) 65535)) (ne_eqb (word out (m - 1) / 65536) c n))

    pub same_code : word out (m - 1) / 65536 ≡ c → ltb (word out (m - 1) % 65536) 65535 ≡ joins (take m out) c
    same_code e = sym (test-is ∙ ap (λ (b : Bool). (b && ltb (word out (m - 1) % 65536) 65535)) (eq-eqb (word out (m - 1) / 65536) c e))

  -- ---- what a passed test says

  pub record Joins : Type 0 where
    pub some : 0 < m
    pub code : word out (m - 1) / 65536 ≡ c
    pub free : word out (m - 1) % 65536 < 65535

  pub joins-says : true ≡ joins (take m out) c → Joins
  unfolding joins
  joins-says e =
      let l = take m out in
      let a = and-true (ltb 0 (length l)) (eqb (last_of l / 65536) c && ltb (last_of l % 65536) 65535) (sym e) in
      let s : 0 < m = subst (λ (n : ℕ). 0 < n) len (ltb-true 0 (length l) a.0) in
      let b = and-true (eqb (last_of l / 65536) c) (ltb (last_of l % 65536) 65535) a.1 in
      record {
        some = s;
        code = subst (λ (v : ℕ). v / 65536 ≡ c) (last-is s) (eqb-true (last_of l / 65536) c b.0);
        free = subst (λ (v : ℕ). v % 65536 < 65535) (last-is s) (ltb-true (last_of l % 65536) 65535 b.1);
      }

  -- ---- the stores

  pub stored-larger : true ≡ joins (take m out) c
      → (m ≡ length (joined (take m out) c)) × (set out (m - 1) (c * 65536 + (word out (m - 1) % 65536 + 1)) ≡ sets out 0 (joined (take m out) c))
  unfolding joined
  stored-larger e =
      let j = joins-says e in
      let l = take m out in
      let some = j.some in
      let v : c * 65536 + (word out (m - 1) % 65536 + 1) ≡ last_of l + 1 = omega (arith, j.code, last-is some) in
      let is : pick (joins l c) (set l (length l - 1) (last_of l + 1)) (l ++ (c * 65536 ∷ [])) ≡ set l (m - 1) (last_of l + 1) =
      ap (λ (b : Bool). pick b (set l (length l - 1) (last_of l + 1)) (l ++ (c * 65536 ∷ []))) (sym e) ∙ ap (λ (n : ℕ). set l (n - 1) (last_of l + 1)) len in
      let long : length (set l (m - 1) (last_of l + 1)) ≡ m = length-set l (m - 1) (last_of l + 1) ∙ len in
      let there : m - 1 < length l = omega (arith, len) in (
        sym (ap length is ∙ long),
        ap (λ (o : List ℕ). set o (m - 1) (c * 65536 + (word out (m - 1) % 65536 + 1))) (sym (take-append-drop m out))
            ∙ ap (set (l ++ drop m out) (m - 1)) v
            ∙ set-append_left l (drop m out) (m - 1) (last_of l + 1) there
            ∙ sym (sets-front out (set l (m - 1) (last_of l + 1)) m long fits)
            ∙ ap (sets out 0) (sym is),
      )

  pub stored-new : m < length out → false ≡ joins (take m out) c
      → (m + 1 ≡ length (joined (take m out) c)) × (set out m (c * 65536) ≡ sets out 0 (joined (take m out) c))
  unfolding joined
  stored-new b e =
      let l = take m out in
      let is : pick (joins l c) (set l (length l - 1) (last_of l + 1)) (l ++ (c * 65536 ∷ [])) ≡ l ++ (c * 65536 ∷ []) =
      ap (λ (q : Bool). pick q (set l (length l - 1) (last_of l + 1)) (l ++ (c * 65536 ∷ []))) (sym e) in
      let long : length (l ++ (c * 65536 ∷ [])) ≡ m + 1 = length-append l (c * 65536 ∷ []) ∙ ap (λ (n : ℕ). n + 1) len in
      let room : m + 1 ≤ length out = omega arith in (
        sym (ap length is ∙ long),
        set_split out m (c * 65536) b
            ∙ ap (λ (n : ℕ). l ++ c * 65536 ∷ drop n out) (sym (add-one m))
            ∙ sym (append_assoc l (c * 65536 ∷ []) (drop (m + 1) out))
            ∙ sym (sets-front out (l ++ (c * 65536 ∷ [])) (m + 1) long room)
            ∙ ap (sets out 0) (sym is),
      )

-- ---- all keys

joined-long : (l : List ℕ) (c : ℕ) → length l ≤ length (joined l c)
unfolding joined
joined-long l c = go (joins l c)
  where
    go : (b : Bool) → length l ≤ length (pick b (set l (length l - 1) (last_of l + 1)) (l ++ (c * 65536 ∷ [])))
    go true = omega (arith, length-set l (length l - 1) (last_of l + 1))
    go false = omega (arith, length-append l (c * 65536 ∷ []))

-- stores over stores, both from the front, the later ones as many or more
stored-over : (o a b : List ℕ) → length a ≤ length b → length b ≤ length o → sets (sets o 0 a) 0 b ≡ sets o 0 b
stored-over o a b h k =
    let d = length b - length a in
    let e : length b ≡ length a + d = omega arith in
    let fits : length a ≤ length o = omega arith in
    let room : length b ≤ length (sets o 0 a) = omega (arith, length-sets o 0 a) in
    sets-front (sets o 0 a) b (length b) refl room
    ∙ ap (λ (r : List ℕ). b ++ r)
    (ap (drop (length b)) (sets-front o a (length a) refl fits)
    ∙ ap (λ (n : ℕ). drop n (a ++ drop (length a) o)) e
    ∙ drop-append-add a (drop (length a) o) d
    ∙ drop-drop d (length a) o
    ∙ ap (λ (n : ℕ). drop n o) (sym e))
    ∙ sym (sets-front o b (length b) refl k)

pub record Loaded (keys o out : List ℕ) (n i m : ℕ) : Type 0 where
  pub bound : i ≤ n
  pub long : length out ≡ length o
  pub number : m ≡ length (loads_of (key_code keys) i)
  pub few : m ≤ i
  pub is : out ≡ sets o 0 (loads_of (key_code keys) i)

pub loaded-none : (keys o : List ℕ) (n : ℕ) → Loaded keys o o n 0 0
unfolding loads_of
loaded-none keys o n = record { bound = omega arith; long = refl; number = refl; few = omega arith; is = refl }

pub loaded-more : {keys o out out' : List ℕ} {n i m m' : ℕ} (c : ℕ) → Loaded keys o out n i m → n ≤ length o → i < n → c ≡ key_code keys i
    → m' ≡ length (joined (take m out) c) → out' ≡ sets out 0 (joined (take m out) c) → Loaded keys o out' n (i + 1) m'
unfolding loads_of
loaded-more {keys} {o} {out} {out'} {n} {i} {m} {m'} c s fits b q em eo =
    let f = key_code keys in
    let l = loads_of f i in
    let room : m ≤ length o = omega (arith, s.few) in
    let front : take m out ≡ l = ap (take m) (s.is ∙ sets-front o l m (sym s.number) room) ∙ take_at l (drop m o) m (sym s.number) in
    let new : joined (take m out) c ≡ loads_of f (i + 1) = ap₂ joined front q ∙ ap (loads_of f) (sym (add-one i)) in
    let short = loads-long f (i + 1) in
    let wide : length l ≤ length (loads_of f (i + 1)) = subst (λ (r : List ℕ). length l ≤ length r) (ap (joined l) q ∙ ap (loads_of f) (sym (add-one i))) (joined-long l c) in
    let whole : out' ≡ sets o 0 (loads_of f (i + 1)) =
    eo ∙ ap₂ (λ (a : List ℕ) (r : List ℕ). sets a 0 r) s.is new ∙ stored-over o l (loads_of f (i + 1)) wide (omega arith) in
    record {
      bound = omega arith;
      long = ap length whole ∙ length-sets o 0 (loads_of f (i + 1));
      number = em ∙ ap length new;
      few = omega (arith, ap length new, em);
      is = whole;
    }

pub loaded-all : {keys o out : List ℕ} {i m : ℕ} → Loaded keys o out (length keys / 2) i m → length keys / 2 ≤ i → (m ≡ length (loads keys)) × (out ≡ sets o 0 (loads keys))
unfolding loads
loaded-all {keys} {o} {out} {i} s b =
    let e : i ≡ length keys / 2 = exact s.bound b in
    (s.number ∙ ap (λ (n : ℕ). length (loads_of (key_code keys) n)) e, s.is ∙ ap (λ (n : ℕ). sets o 0 (loads_of (key_code keys) n)) e)
  where
    exact : {i n : ℕ} → i ≤ n → n ≤ i → i ≡ n
    exact a b = omega arith

-- ---- the loads in front of a slice, and then sorted

module _ (keys o out : List ℕ) (m : ℕ) (fits : length keys / 2 ≤ length o) (e : m ≡ length (loads keys)) (q : out ≡ sets o 0 (loads keys)) where
  pub loads-few : m ≤ length keys / 2
  unfolding loads
  loads-few = omega (arith, e, loads-long (key_code keys) (length keys / 2))

  loads-are : out ≡ loads keys ++ drop m o
  loads-are = q ∙ sets-front o (loads keys) m (sym e) (omega (arith, loads-few))

  pub loads-front : take m out ≡ loads keys
  loads-front = ap (take m) loads-are ∙ take_at (loads keys) (drop m o) m (sym e)

  pub front_long : m ≡ length (take m out)
  front_long = e ∙ ap length (sym loads-front)

  pub loads-sorted : {s : List ℕ} → s ≡ sorted (take m out) → s ++ drop m out ≡ sets o 0 (sorted (loads keys))
  loads-sorted {s} p =
      ap₂ (λ (a b : List ℕ). a ++ b) (p ∙ ap sorted loads-front) (ap (drop m) loads-are ∙ drop_at (loads keys) (drop m o) m (sym e))
      ∙ sym (sets-front o (sorted (loads keys)) m (length-sorted ltb (loads keys) ∙ sym e) (omega (arith, loads-few)))
