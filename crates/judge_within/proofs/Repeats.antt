-- Repeated timestamps by the arranged places of active core rows.
--     repeat-turn    the row of a place repeats a timestamp exactly where the place in front of it has the same
--     repeat-first   the row of the first place repeats none
--     repeat-place   a row that repeats one has its place in the list
use mathlib.Core.Path.{◌≡◌, refl, sym, ap, subst, ◌∙◌}
use mathlib.Core.Bool.{Bool, true, false}
use mathlib.Core.Option.{Option, none, some}
use mathlib.Core.List.{List, [], ◌∷◌}
use Prim.Native.Nat.{ℕ, ◌-◌, ◌*◌, ◌/◌, ◌%◌, ◌≤◌, ◌<◌}
use native.Mathlib.Omega.{arith}
use borrow.Author.Tests.{eqb-true, eq-eqb, ltb-true, lt-ltb}
use lib.Dec.{eqb, ltb}
use lib.ListN.{length, take}
use Rattle.lists.specs.Tab.{word}
use Rattle.lists.specs.First.{first_at, is_some, any_below}
use Rattle.lists.proofs.First.{any-clear, at-found}
use Rattle.lists.proofs.Tests.{true-not-false, not-true, and-true, true-and}
use Rattle.lists.proofs.Then.{by_le}
use Rattle.keccak.specs.Tuples.{keccak_values}
use Rattle.verdict.specs.Kind.{rows, row, active, same_stamp}
use Rattle.verdict.specs.Verdict.{same_stamp_at, repeats}
use Rattle.verdict.specs.CoreAndRound.{core_layout}
use Rattle.verdict.specs.declared.Table.TheVariants.{Core}
use Rattle.judge_scan.specs.Tables.{layout_of}
use Rattle.judge_tuples.proofs.Ports.{tuple_is}
use Rattle.sort_places.specs.Places.{core_places, place_count, port_at, place_tuple}
use Rattle.sort_places.specs.Order.{by_key, before, key_width}
use Rattle.judge_within.specs.Places.{active_place, stamp_place, wanted, arranged}
use Rattle.judge_within.proofs.Arranged.{Arranged, arranged-sorted, between, tied}
use Rattle.judge_within.proofs.Groups.{in_order}
use Rattle.judge_within.proofs.Balance.{core-place}

any_found : (t : ℕ → Bool) (n : ℕ) → any_below t n ≡ true → (k : ℕ) × (k < n) × (t k ≡ true)
unfolding any_below
any_found t n e = go (first_at t n) refl e
  where
    go : (o : Option ℕ) → first_at t n ≡ o → is_some o ≡ true → (k : ℕ) × (k < n) × (t k ≡ true)
    go none q h = absurd (true-not-false (sym h))
    go (some k) q h = let f = at-found t n k q in (k, f.0, f.1)

found-any : (t : ℕ → Bool) (n k : ℕ) → k < n → t k ≡ true → any_below t n ≡ true
found-any t n k l e = go (any_below t n) refl
  where
    go : (b : Bool) → any_below t n ≡ b → b ≡ true
    go true q = refl
    go false q = absurd (true-not-false (sym e ∙ any-clear t n k q l))

either : (a b : Bool) → (a ≡ true → b ≡ true) → (b ≡ true → a ≡ true) → a ≡ b
either true b f g = sym (f refl)
either false true f g = g refl
either false false f g = refl

-- ---- a timestamp as a key
abbrev stamp_of : List ℕ → List ℕ
stamp_of x = word x 0 ∷ word x 1 ∷ []

stamp-same : (x y : List ℕ) → stamp_of x ≡ stamp_of y → same_stamp x y ≡ true
unfolding same_stamp
stamp-same x y e =
    let a : word x 0 ≡ word y 0 = cc in
    let b : word x 1 ≡ word y 1 = cc in
    true-and (eqb (word x 0) (word y 0)) (eqb (word x 1) (word y 1)) (eq-eqb (word x 0) (word y 0) a) (eq-eqb (word x 1) (word y 1) b)

same-stamp : (x y : List ℕ) → same_stamp x y ≡ true → stamp_of x ≡ stamp_of y
unfolding same_stamp
same-stamp x y e =
    let t = and-true (eqb (word x 0) (word y 0)) (eqb (word x 1) (word y 1)) e in
    let a = eqb-true (word x 0) (word y 0) t.0 in
    let b = eqb-true (word x 1) (word y 1) t.1 in
    λ i. a i ∷ b i ∷ []

module _ (nr : ℕ) (core round xs : List ℕ) (is : xs ≡ arranged false nr core round) where
  abbrev key : ℕ → List ℕ
  key p = take (key_width false) (place_tuple nr core round p)

  abbrev N : ℕ
  N = place_count core round

  sorted-stamps : Arranged (wanted false core round) N key xs
  unfolding arranged before
  sorted-stamps = subst (Arranged (wanted false core round) N key) (sym is) (arranged-sorted (wanted false core round) N key)

  -- ---- the places that are wanted
  record Wanted (p : ℕ) : Type 0 where
    pub early : p < core_places core
    pub first : p % 2 ≡ 0
    pub on : active core_layout core (p / 2) ≡ true

  is-wanted : (p : ℕ) → wanted false core round p ≡ true → Wanted p
  unfolding wanted stamp_place layout_of
  is-wanted p e =
      let a = and-true (stamp_place core p) (active_place core round p) e in
      let b = and-true (ltb p (core_places core)) (eqb (p % 2) 0) a.0 in
      let l = ltb-true p (core_places core) b.0 in
      record { early = l; first = eqb-true (p % 2) 0 b.1; on = sym (core-place nr core round p l).on ∙ a.1 }

  wanted-is : (r : ℕ) → r < rows core_layout core → active core_layout core r ≡ true → wanted false core round (2 * r) ≡ true
  unfolding wanted stamp_place layout_of core_places
  wanted-is r l e =
      let h : 2 * r / 2 ≡ r = omega arith in
      let m : 2 * r % 2 ≡ 0 = omega arith in
      let g : 2 * r < core_places core = omega arith in
      true-and (stamp_place core (2 * r)) (active_place core round (2 * r))
      (true-and (ltb (2 * r) (core_places core)) (eqb (2 * r % 2) 0) (lt-ltb (2 * r) (core_places core) g) (eq-eqb (2 * r % 2) 0 m))
      ((core-place nr core round (2 * r) g).on ∙ ap (active core_layout core) h ∙ e)

  key-is : (p : ℕ) → p < core_places core → key p ≡ stamp_of (row core_layout core (p / 2))
  unfolding layout_of keccak_values
  key-is p l = ap (take 2) ((core-place nr core round p l).tuple ∙ tuple_is (port_at nr Core p) (row core_layout core (p / 2)))

  at-wanted : (k : ℕ) → k < length xs → Wanted (word xs k)
  at-wanted k l = is-wanted (word xs k) (sorted-stamps.inside k l).1

  pub place-row : (k : ℕ) → k < length xs → word xs k / 2 < rows core_layout core
  unfolding core_places
  place-row k l = let w = (at-wanted k l).early in omega arith

  -- a row with the timestamp of an earlier active one stands behind that one in the list
  earlier : (k : ℕ) → k < length xs → repeats core_layout core (word xs k / 2) ≡ true →
      (i : ℕ) × (i < k) × (key (word xs i) ≡ key (word xs k))
  unfolding repeats same_stamp_at core_places place_count
  earlier k l e =
      let q = word xs k in
      let a = and-true (active core_layout core (q / 2)) (any_below (same_stamp_at core_layout core (q / 2)) (q / 2)) e in
      let f = any_found (same_stamp_at core_layout core (q / 2)) (q / 2) a.1 in
      let s = f.0 in
      let ls : s < q / 2 = f.1 in
      let b = and-true (active core_layout core s) (same_stamp (row core_layout core s) (row core_layout core (q / 2))) f.2 in
      let w = (at-wanted k l).early in
      let in-core : s < rows core_layout core = omega arith in
      let j = sorted-stamps.found (2 * s) (omega arith) (wanted-is s in-core b.0) in
      let i = sorted-stamps.index (2 * s) in
      let h : 2 * s / 2 ≡ s = omega arith in
      let same : key (word xs i) ≡ key q =
      ap key j.1 ∙ key-is (2 * s) (omega arith) ∙ ap (λ (r : ℕ). stamp_of (row core_layout core r)) h ∙ same-stamp (row core_layout core s) (row core_layout core (q / 2)) b.1 ∙ sym (key-is q w) in
      (i, in_order (wanted false core round) N key xs sorted-stamps i k j.0 l same (omega (arith, j.1)), same)

  -- the place in front of place k
  module _ (k : ℕ) (g : 1 ≤ k) (l : k < length xs) where
    abbrev p : ℕ
    p = word xs (k - 1)

    abbrev q : ℕ
    q = word xs k

    front : k - 1 < length xs
    front = omega arith

    rising : (i j : ℕ) → i < j → j < length xs → by_key key (word xs i) (word xs j) ≡ true
    rising = sorted-stamps.rises

    after : same_stamp (row core_layout core (p / 2)) (row core_layout core (q / 2)) ≡ true → repeats core_layout core (q / 2) ≡ true
    unfolding repeats same_stamp_at
    after e =
        let a = at-wanted (k - 1) front in
        let b = at-wanted k l in
        let f = a.first in
        let h = b.first in
        let same : key p ≡ key q = key-is p a.early ∙ same-stamp (row core_layout core (p / 2)) (row core_layout core (q / 2)) e ∙ sym (key-is q b.early) in
        let m : p < q = tied key p q (rising (k - 1) k (omega arith) l) same in
        true-and (active core_layout core (q / 2)) (any_below (same_stamp_at core_layout core (q / 2)) (q / 2)) b.on
        (found-any (same_stamp_at core_layout core (q / 2)) (q / 2) (p / 2) (omega arith) (true-and (active core_layout core (p / 2)) (same_stamp (row core_layout core (p / 2)) (row core_layout core (q / 2))) a.on e))

    same-in-front : (i : ℕ) → i < k → key (word xs i) ≡ key q → key p ≡ key q
    same-in-front i m e =
        by_le (k - 1) i
        (λ h. let z : i ≡ k - 1 = omega arith in ap (λ (j : ℕ). key (word xs j)) (sym z) ∙ e)
        (λ h. sym (between key (word xs i) p q (rising i (k - 1) h front) (rising (k - 1) k (omega arith) l) e) ∙ e)

    because : repeats core_layout core (q / 2) ≡ true → same_stamp (row core_layout core (p / 2)) (row core_layout core (q / 2)) ≡ true
    because e =
        let i = earlier k l e in
        stamp-same (row core_layout core (p / 2)) (row core_layout core (q / 2))
        (sym (key-is p (at-wanted (k - 1) front).early) ∙ same-in-front i.0 i.1 i.2 ∙ key-is q (at-wanted k l).early)

    pub repeat-turn : same_stamp (row core_layout core (p / 2)) (row core_layout core (q / 2)) ≡ repeats core_layout core (q / 2)
    repeat-turn = either (same_stamp (row core_layout core (p / 2)) (row core_layout core (q / 2))) (repeats core_layout core (q / 2)) after because

  pub repeat-first : 0 < length xs → repeats core_layout core (word xs 0 / 2) ≡ false
  repeat-first l = not-true (repeats core_layout core (word xs 0 / 2)) (λ e. let i = earlier 0 l e in omega (arith, i.1))

  pub repeat-place : (r : ℕ) → r < rows core_layout core → repeats core_layout core r ≡ true → (i : ℕ) × (i < length xs) × (word xs i / 2 ≡ r)
  unfolding repeats place_count
  repeat-place r l e =
      let a = and-true (active core_layout core r) (any_below (same_stamp_at core_layout core r) r) e in
      let j = sorted-stamps.found (2 * r) (omega arith) (wanted-is r l a.0) in
      let h : word xs (sorted-stamps.index (2 * r)) ≡ 2 * r = j.1 in
      (sorted-stamps.index (2 * r), j.0, omega arith)
