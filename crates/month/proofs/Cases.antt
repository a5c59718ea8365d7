-- Months at hand: of no file, of one, and of files that tie; and no number of a month leaves 64 bits.
use mathlib.Core.Path.{◌≡◌, refl, ap, ap₂, ◌∙◌}
use mathlib.Core.Bool.{Bool, true, false}
use mathlib.Core.List.{List, [], ◌∷◌, ◌++◌}
use mathlib.Core.Option.{Option, none, some, or_else}
use Prim.Native.Nat.{ℕ, zero, suc, ◌+◌, ◌-◌, ◌*◌, ◌^◌, ◌≤◌, ◌<◌}
use native.Mathlib.Nat.{le_trans, max-eq_left, zero-mul}
use native.Mathlib.Omega.{arith}
use borrow.Author.Tests.{ne_eqb}
use lib.Dec.{eqb, ltb}
use lib.ListN.{length, replicate}
use Rattle.lists.specs.Tab.{pick, word, tab, tab_from}
use Rattle.lists.specs.First.{when, first, at_index, is_some, any_below, count_below}
use Rattle.lists.specs.Sum.{sum_below}
use Rattle.lists.proofs.First.{count-le}
use Rattle.answer.specs.Limits.{MAX-OPS}
use Rattle.answer.specs.Refusal.{refuse_if, count_refusal, not_rounds, not_floor, PowerFloor}
use Rattle.answer.specs.declared.Refusal.{Refusal}
use Rattle.answer.specs.declared.Refusal.TheVariants.{PastEnd}
use Rattle.answer.proofs.Laws.{refuse-no}
use Rattle.answer.proofs.Refusals.{floor-least, room-accepted}
use Rattle.keccak.specs.Height.{height, next-power-of-two, doubled}
use Rattle.keccak_rnd.specs.Row.{round_height, padding-are-bytes}
use Rattle.keccak_rnd.specs.Refusals.{round_count_refusal}
use Rattle.month.specs.Month.{MONTH-WORDS, HEIGHTS, height_of, used_at, total_at, fuller, unbeaten, first_unbeaten, operations_of, used_of, padding_of, fullest, emptiest, files_at, shown, month_words, month_refusal, Planned}
use Rattle.month.proofs.Fullness.{run-start, run-all, shown-best}
use Rattle.month.proofs.Heights.{used-most, total-most, product-most}
use Rattle.month.proofs.Refusals.{month-checks}
use Rattle.month.proofs.Totals.{sum-most, used-and-padding, total-sum-most}

-- "an earlier file wins a tie": 24 of 32 rows, 48 of 64 and 96 of 128 are equally full, and the first is shown. "a count of 0 is a shipped
-- table": none of 4 rows is used
pub ties : month_words 24 4 (0 ∷ 1 ∷ 2 ∷ 4 ∷ []) ≡ 4 ∷ 7 ∷ 168 ∷ 60 ∷ 24 ∷ 32 ∷ 0 ∷ 4 ∷ 1 ∷ 0 ∷ 0 ∷ 1 ∷ 1 ∷ 1 ∷ (replicate 24 0 ++ (1 ∷ []))
unfolding month_words operations_of used_of padding_of fullest emptiest files_at fuller unbeaten first_unbeaten first or_else at_index any_below sum_below count_below tab tab_from height next-power-of-two doubled
ties = refl

-- "An empty list has all sums 0 and no fullest or emptiest."
pub no-files : (nr floor : ℕ) → month_words nr floor [] ≡ replicate 39 0
unfolding month_words operations_of used_of padding_of fullest emptiest files_at first_unbeaten first sum_below count_below tab tab_from
no-files nr floor = refl

-- ---- one file of n operations
any-of-one : (t : ℕ → Bool) → any_below t 1 ≡ t 0
unfolding any_below first or_else at_index
any-of-one t = go (t 0)
  where
    go : (b : Bool) → is_some {A = ℕ} (when b 0) ≡ b
    go true = refl
    go false = refl

module _ (nr floor n : ℕ) where
  -- it is refused as its height is, but for want of room
  pub one-refused : (room : ℕ) → MONTH-WORDS ≤ room → month_refusal nr floor (n ∷ []) room ≡ round_count_refusal nr floor n
  unfolding round_count_refusal count_refusal
  one-refused room l =
      month-checks nr floor (n ∷ []) room
      ∙ ap (λ (o : Option Refusal). not_rounds nr (not_floor floor o))
      (refuse-no _ refl (ap₂ (λ (b : Bool) (o : Option Refusal). refuse_if b (PastEnd (MAX-OPS + 1)) o) (any-of-one (λ i. ltb MAX-OPS (word (n ∷ []) i))) ((room-accepted room MONTH-WORDS).1 l)))

  shown-first : (full : Bool) → pick full (fullest nr floor (n ∷ [])) (emptiest nr floor (n ∷ [])) ≡ some 0
  shown-first full = run-all full nr floor (n ∷ []) (run-start full nr floor (n ∷ [])) (omega arith) (omega arith)

  -- used rows and all rows, of the fullest and of the emptiest
  pub one-file : (word (month_words nr floor (n ∷ [])) 4 ≡ n * nr) × (word (month_words nr floor (n ∷ [])) 5 ≡ round_height nr floor n)
      × (word (month_words nr floor (n ∷ [])) 6 ≡ n * nr) × (word (month_words nr floor (n ∷ [])) 7 ≡ round_height nr floor n)
  unfolding month_words
  one-file =
      let a = shown-first true in
      let b = shown-first false in (
        ap (shown (used_at nr (n ∷ []))) a,
        ap (shown (total_at nr floor (n ∷ []))) a,
        ap (shown (used_at nr (n ∷ []))) b,
        ap (shown (total_at nr floor (n ∷ []))) b,
      )

  padding-one : word (month_words nr floor (n ∷ [])) 3 ≡ round_height nr floor n - n * nr
  unfolding month_words padding_of sum_below
  padding-one = omega arith

  pub one-padding : 1 ≤ n → word (month_words nr floor (n ∷ [])) 3 * 220 ≡ padding-are-bytes nr floor n
  unfolding padding-are-bytes
  one-padding l = rw (ne_eqb n 0 (λ e. omega (arith, e, l)), padding-one)

-- but for one that has no operation, whose table is shipped
pub one-shipped : (nr floor : ℕ) → PowerFloor floor → word (month_words nr floor (0 ∷ [])) 3 ≡ floor
unfolding height next-power-of-two doubled
one-shipped nr floor h =
    padding-one nr floor 0
    ∙ ap (λ (k : ℕ). height floor k - k) (zero-mul nr)
    ∙ ap (λ (k : ℕ). k - 0) (max-eq_left {n = floor} {m = 1} (omega (arith, floor-least floor h)))
    ∙ omega arith

-- ---- no number leaves 64 bits
abbrev Most : ℕ → List ℕ → Type 0
Most b [] = Unit {0}
Most b (x ∷ xs) = (x ≤ b) × Most b xs

most-word : (b : ℕ) (xs : List ℕ) → Most b xs → (k : ℕ) → word xs k ≤ b
most-word b [] h k = omega arith
most-word b (x ∷ xs) h zero = h.0
most-word b (x ∷ xs) h (suc k) = most-word b xs h.1 k

most-append : (b : ℕ) (xs ys : List ℕ) → Most b xs → Most b ys → Most b (xs ++ ys)
most-append b [] ys h k = k
most-append b (x ∷ xs) ys h k = (h.0, most-append b xs ys h.1 k)

most-tab : (b i n : ℕ) (f : ℕ → ℕ) → ((k : ℕ) → f k ≤ b) → Most b (tab_from i n f)
unfolding tab_from
most-tab b i zero f h = tt
most-tab b i (suc n) f h = (h i, most-tab b (suc i) n f h)

most-shown : (b : ℕ) (f : ℕ → ℕ) (o : Option ℕ) → ((i : ℕ) → o ≡ some i → f i ≤ b) → shown f o ≤ b
most-shown b f none h = omega arith
most-shown b f (some i) h = h i refl

module _ (nr floor : ℕ) (counts : List ℕ) (p : Planned nr floor counts) where
  used-each : (i : ℕ) → i < length counts → used_at nr counts i ≤ 2 ^ 31
  used-each i l = used-most nr floor (word counts i) p.most-rounds p.power (p.each i l)

  total-each : (i : ℕ) → i < length counts → total_at nr floor counts i ≤ 2 ^ 31
  total-each i l = total-most nr floor (word counts i) p.most-rounds p.power (p.each i l)

  file-most : (full : Bool) (f : ℕ → ℕ) → ((i : ℕ) → i < length counts → f i ≤ 2 ^ 31) → shown f (pick full (fullest nr floor counts) (emptiest nr floor counts)) ≤ 2 ^ 43
  file-most full f h = most-shown (2 ^ 43) f _ (λ i e. le_trans (h i ((shown-best full nr floor counts i).0 e).there) (omega arith))

  -- 4,096 files of 2^31 rows
  pub words-most : (k : ℕ) → word (month_words nr floor counts) k ≤ 2 ^ 43
  unfolding month_words files_at operations_of tab
  words-most =
      let few = p.few in
      let all = total-sum-most nr floor counts p in
      let both = used-and-padding nr floor counts in
      let files : (e : ℕ) → files_at nr floor counts (height_of e) ≤ 2 ^ 43 = λ e. omega (arith, few, count-le (λ i. eqb (total_at nr floor counts i) (height_of e)) (length counts)) in
      let heights = most-append (2 ^ 43) (tab HEIGHTS (λ e. files_at nr floor counts (height_of e))) (shown (λ i. 1) (fullest nr floor counts) ∷ [])
      (most-tab (2 ^ 43) 0 HEIGHTS (λ e. files_at nr floor counts (height_of e)) files)
      (file-most true (λ i. 1) (λ i l. omega arith), tt) in
      most-word (2 ^ 43) (month_words nr floor counts) (
        omega (arith, few),
        (
          omega (arith, few, sum-most (length counts) MAX-OPS (word counts) p.each),
          (
            omega (arith, few, all, both),
            (
              omega (arith, few, all, both),
              (
                file-most true (used_at nr counts) used-each,
                (
                  file-most true (total_at nr floor counts) total-each,
                  (
                    file-most false (used_at nr counts) used-each,
                    (file-most false (total_at nr floor counts) total-each, heights),
                  ),
                ),
              ),
            ),
          ),
        ),
      )

  pub products-most : (i j : ℕ) → i < length counts → j < length counts → used_at nr counts i * total_at nr floor counts j ≤ 2 ^ 62
  products-most i j l k = product-most nr floor (word counts i) (word counts j) p.most-rounds p.power (p.each i l) (p.each j k)
