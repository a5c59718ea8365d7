-- Each bent core row passes every rule but its own, and its lanes do not sit where they should.
use mathlib.Core.Path.{◌≡◌, refl, subst}
use mathlib.Core.Bool.{Bool, true, false, ◌&&◌, ◌||◌, not}
use mathlib.Core.List.{List}
use Prim.Native.Nat.{ℕ, ◌+◌, ◌*◌, ◌/◌, ◌%◌, ◌^◌, ◌<◌}
use native.Mathlib.Omega.{arith}
use lib.Dec.{T, eqb, ltb, eqb→eq, ltb→lt, lt→ltb, eqb_refl}
use lib.ListN.{length}
use Rattle.lists.specs.Tab.{word, followed_by}
use Rattle.lists.specs.First.{count_below}
use Rattle.lists.specs.Sum.{all_below}
use Rattle.lists.proofs.Laws.{length-row_of, row-at, each_row}
use Rattle.lists.proofs.Sum.{all-at, and_left, and_right, and_both, all_of}
use Rattle.lists.proofs.Tests.{T_of}
use Rattle.lists.proofs.Then.{then-all}
use Rattle.field.specs.Field.{p}
use Rattle.matching.specs.Matching.{Matched, matched}
use Rattle.matching.proofs.Matching.{matched-decides, of-keccak, of-memw, of-ecall}
use Rattle.keccak.specs.Columns.{MU}
use Rattle.keccak.specs.Row.{core_address, core_pointer}
use Rattle.keccak.specs.Values.{core_value}
use Rattle.keccak.specs.Tuples.{ecall_tuple, addr_memw, lane_memw, pointer_tuple, align_tuple, addr_bytes_tuple, core_tuple}
use Rattle.verdict.specs.Claims.{Addressed}
use Rattle.keccak_needed.specs.CoreNeeded.{core_needed, CoreBut, bent_address, bent_limb, bent_groups, bent_core}
use Rattle.keccak_needed.proofs.CoreTests.{Bent, values_hold, pointers_hold, address_holds, sits, values-test, pointers-test, address-test, below-test, away-test}

pub core-needed-count : count_below core_needed 136 ≡ 105
unfolding count_below core_needed followed_by
core-needed-count = refl

-- ---- what the tests say
module _ (j : ℕ) (l : j < 136) (need : core_needed j ≡ true) where
  abbrev row : List ℕ
  row = bent_core j

  holds : (test : ℕ → Bool) → Bent test → T (test j)
  holds test t = pass (core_needed j) (test j) need (all-at 136 (λ j. not (core_needed j) || test j) (T_of _ t) j l)
    where
      pass : (a b : Bool) → a ≡ true → T (not a || b) → T b
      pass a b e h = subst (λ (c : Bool). T (not c || b)) e h

  -- a rule that is not number j
  asked : (i : ℕ) (b : Bool) → (i ≡ j → ⊥) → T (eqb i j || b) → T b
  asked i b n = go (eqb i j) (λ t. n (eqb→eq i j t))
    where
      go : (a : Bool) → (T a → ⊥) → T (a || b) → T b
      go true m h = absurd (m tt)
      go false m h = h

  size : length row ≡ 486
  unfolding bent_core bent_groups
  size = length-row_of (bent_groups j)

  on : word row MU ≡ 1
  unfolding bent_core bent_groups
  on = row-at (bent_groups j) 4 0 (omega arith)

  below : (k : ℕ) → word row k < p
  unfolding bent_core bent_groups
  below =
      let t = holds (λ j. all_below 8 (λ b. ltb (bent_address j b) p) && all_below 75 (λ k. ltb (bent_limb j (k / 3) (k % 3)) p)) below-test in
      let t₀ = and_left (all_below 8 (λ b. ltb (bent_address j b) p)) (all_below 75 (λ k. ltb (bent_limb j (k / 3) (k % 3)) p)) t in
      let t₁ = and_right (all_below 8 (λ b. ltb (bent_address j b) p)) (all_below 75 (λ k. ltb (bent_limb j (k / 3) (k % 3)) p)) t in
      each_row (λ n. n < p) (bent_groups j) (omega arith) (
        (λ k g. omega arith),
        (
          (λ k g. ltb→lt (bent_address j k) p (all-at 8 (λ b. ltb (bent_address j b) p) t₀ k g)),
          (
            (λ k g. omega arith),
            (
              (λ k g. ltb→lt (bent_limb j (k / 3) (k % 3)) p (all-at 75 (λ k. ltb (bent_limb j (k / 3) (k % 3)) p) t₁ k g)),
              ((λ k g. omega arith), tt),
            ),
          ),
        ),
      )

  values : (i : ℕ) → i < 52 → (84 + i ≡ j → ⊥) → core_value row i ≡ 0
  unfolding values_hold
  values i g n =
      eqb→eq (core_value row i) 0
      (asked (84 + i) (eqb (core_value row i) 0) n (all-at 52 (λ i. eqb (84 + i) j || eqb (core_value row i) 0) (holds (λ j. values_hold j (bent_core j)) values-test) i g))

  pointer : (i : ℕ) → i < 50 → (4 + i ≡ j → ⊥) → Matched (pointer_tuple row (i / 2) (i % 2))
  unfolding pointers_hold
  pointer i g n =
      (matched-decides (pointer_tuple row (i / 2) (i % 2))).to
      (asked (4 + i) (matched (pointer_tuple row (i / 2) (i % 2))) n (all-at 50 (λ i. eqb (4 + i) j || matched (pointer_tuple row (i / 2) (i % 2))) (holds (λ j. pointers_hold j (bent_core j)) pointers-test) i g))

  address : T (eqb 54 j || matched (align_tuple row)) × T (all_below 4 (λ i. eqb (55 + i) j || matched (addr_bytes_tuple row i)))
  unfolding address_holds
  address =
      let t = holds (λ j. address_holds j (bent_core j)) address-test in (
        and_left (eqb 54 j || matched (align_tuple row)) (all_below 4 (λ i. eqb (55 + i) j || matched (addr_bytes_tuple row i))) t,
        and_right (eqb 54 j || matched (align_tuple row)) (all_below 4 (λ i. eqb (55 + i) j || matched (addr_bytes_tuple row i))) t,
      )

  lookups : (nr syscall i : ℕ) → i < 84 → (i ≡ j → ⊥) → Matched (core_tuple nr syscall row i)
  unfolding core_tuple ecall_tuple addr_memw lane_memw
  lookups nr syscall i g n =
      then-all Matched 1 _ _ i (λ a _. of-ecall _)
      (λ i₁ e₁. then-all Matched 1 _ _ i₁ (λ a _. of-memw _)
      (λ i₂ e₂. then-all Matched 1 _ _ i₂ (λ a _. of-keccak _)
      (λ i₃ e₃. then-all Matched 1 _ _ i₃ (λ a _. of-keccak _)
      (λ i₄ e₄. then-all Matched 50 _ _ i₄ (λ a. pointer i₄ a (λ q. n (omega arith)))
      (λ i₅ e₅. then-all Matched 1 _ _ i₅ (λ a. (matched-decides (align_tuple row)).to (asked 54 (matched (align_tuple row)) (λ q. n (omega arith)) address.0))
      (λ i₆ e₆. then-all Matched 4 _ _ i₆
      (λ a. (matched-decides (addr_bytes_tuple row i₆)).to
      (asked (55 + i₆) (matched (addr_bytes_tuple row i₆)) (λ q. n (omega arith)) (all-at 4 (λ i. eqb (55 + i) j || matched (addr_bytes_tuple row i)) address.1 i₆ a)))
      (λ i₇ e₇ _. of-memw _)))))))

  -- a row whose lanes sit where they should passes the test
  sits-of : Addressed row → T (sits row)
  unfolding sits
  sits-of h =
      and_both (eqb (core_address row % 8) 0) _ (eq-T (core_address row % 8) 0 h.aligned)
      (and_both (all_below 25 (λ i. eqb (core_pointer row i) (core_address row + 8 * i))) (ltb (core_address row + 8 * 24) (2 ^ 64))
      (all_of 25 (λ i. eqb (core_pointer row i) (core_address row + 8 * i)) (λ i g. eq-T (core_pointer row i) (core_address row + 8 * i) (h.lane i g)))
      (lt→ltb (core_address row + 8 * 24) (2 ^ 64) (h.below 24 (omega arith))))
    where
      eq-T : (a b : ℕ) → a ≡ b → T (eqb a b)
      eq-T a b e = subst (λ (c : ℕ). T (eqb a c)) e (eqb_refl a)

  away : Addressed row → ⊥
  away h = neither (sits row) (holds (λ j. not (sits (bent_core j))) away-test) (sits-of h)
    where
      neither : (a : Bool) → T (not a) → T a → ⊥
      neither true f t = f
      neither false f t = t

-- ---- EACH IS NEEDED
pub each-core-needed : (j : ℕ) → j < 136 → core_needed j ≡ true → (nr syscall : ℕ) → (row : List ℕ) × CoreBut j nr syscall row × (Addressed row → ⊥)
each-core-needed j l need nr syscall = (
  bent_core j,
  record { size = size j l need; below = below j l need; on = on j l need; values = values j l need; lookups = lookups j l need nr syscall },
  away j l need,
)
