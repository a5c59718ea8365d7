-- The rows that `dedup_is_wh_rows` writes pass the checks of `generate_is_wh_trace`, so their table is refused only for want of room.
use mathlib.Core.Path.{◌≡◌, sym, ap, subst}
use mathlib.Core.Logic.{◌↔◌}
use mathlib.Core.Bool.{Bool, true, false}
use mathlib.Core.Option.{none}
use mathlib.Core.List.{List, [], ◌∷◌}
use Prim.Native.Nat.{ℕ, zero, suc, ◌+◌, ◌*◌, ◌/◌, ◌%◌, ◌≤◌, ◌<◌}
use native.Mathlib.Omega.{arith}
use lib.Dec.{eqb, ltb}
use lib.ListN.{length}
use Rattle.lists.specs.Tab.{pick, tab, tab_from, word}
use Rattle.lists.specs.First.{first_at}
use Rattle.answer.specs.Refusal.{accepted}
use Rattle.sort.specs.Sorted.{copies}
use Rattle.keccak.specs.Height.{height}
use Rattle.is_wh_rows.specs.Rows.{Row, key_code, codes, place, distinct, mu_of, key_rows, rows_for, rows_of, flat}
use Rattle.is_wh_rows.specs.Lists.{MAX-KEYS, limit_of, bad_at, GoodList}
use Rattle.is_wh_rows.proofs.Order.{Each, each_append, each-key}
use Rattle.is_wh_rows.proofs.Flat.{length-flat}
use Rattle.is_wh_rows.proofs.Keys.{word_small, half-small}
use Rattle.is_wh_rows.proofs.Lists.{rows-accepted}
use Rattle.is_wh_rows.proofs.Refusals.{rows_few}
use Rattle.is_wh_trace.specs.Trace.{row_count, is_wh_trace_refusal}

-- ---- codes of 48 bits

abbrev Under : ℕ → List ℕ → Type 0
Under b [] = Unit {0}
Under b (x ∷ l) = (x < b) × Under b l

under-place : (b x : ℕ) (l : List ℕ) → x < b → Under b l → Under b (place x l)
unfolding place
under-place b x [] h k = (h, tt)
under-place b x (y ∷ l) h k = go (ltb x y) (eqb x y) (under-place b x l h k.1)
  where
    go : (p q : Bool) → Under b (place x l) → Under b (pick p (x ∷ y ∷ l) (pick q (y ∷ l) (y ∷ place x l)))
    go true q m = (h, k)
    go false true m = k
    go false false m = (k.0, m)

under-distinct : (b : ℕ) (l : List ℕ) → Under b l → Under b (distinct l)
unfolding distinct
under-distinct b [] h = tt
under-distinct b (x ∷ l) h = under-place b x (distinct l) h.0 (under-distinct b l h.1)

under-from : (b i n : ℕ) (f : ℕ → ℕ) → ((k : ℕ) → i ≤ k → k < i + n → f k < b) → Under b (tab_from i n f)
unfolding tab_from
under-from b i zero f h = tt
under-from b i (suc n) f h = (h i (omega arith) (omega arith), under-from b (suc i) n f (λ k l m. h k (omega arith) (omega arith)))

under_codes : (keys : List ℕ) → first_at (bad_at 2 keys) (length keys) ≡ none → Under 281474976710656 (codes keys)
unfolding codes tab key_code
under_codes keys ok =
    under-from 281474976710656 0 (length keys / 2) (key_code keys)
    (λ k l m. omega (arith, word_small keys ok k (omega arith), half-small keys ok k (omega arith)))

-- ---- rows whose words pass

abbrev Fine : Row → Type 0
Fine r = (r.word < 4294967296) × (r.half < 65536) × (r.mu < 1048576)

fine-rows : (f : ℕ → ℕ) (ks : List ℕ) → Under 281474976710656 ks → Each Fine (rows_for f ks)
unfolding rows_for
fine-rows f [] h = tt
fine-rows f (k ∷ ks) h =
    each_append Fine (key_rows k (f k)) (rows_for f ks) (each-key Fine k (f k) (λ j l. fine k (f k) j h.0)) (fine-rows f ks h.1)
  where
    fine : (c n j : ℕ) → c < 281474976710656 → (c / 65536 < 4294967296) × (c % 65536 < 65536) × (mu_of n j < 1048576)
    fine c n j l = (omega arith, omega arith, omega arith)

limit-again : (k : ℕ) → limit_of (suc (suc (suc k)) % 3) ≡ limit_of (k % 3)
limit-again k = let e : suc (suc (suc k)) % 3 ≡ k % 3 = omega arith in ap limit_of e

fine-words : (rs : List Row) → Each Fine rs → (k : ℕ) → k < length (flat rs) → word (flat rs) k < limit_of (k % 3)
unfolding flat
fine-words [] h k l = absurd (omega arith)
fine-words (r ∷ rs) h zero l = h.0.0
fine-words (r ∷ rs) h (suc zero) l = h.0.1
fine-words (r ∷ rs) h (suc (suc zero)) l = h.0.2
fine-words (r ∷ rs) h (suc (suc (suc k))) l = subst (λ (n : ℕ). word (flat rs) k < n) (sym (limit-again k)) (fine-words rs h.1 k (omega arith))

module _ (keys : List ℕ) (ok : first_at (bad_at 2 keys) (length keys) ≡ none) where
  pub rows-counted : row_count (flat (rows_of (codes keys))) ≡ length (rows_of (codes keys))
  rows-counted = omega (arith, length-flat (rows_of (codes keys)))

  pub deduped-good : length keys / 2 ≤ MAX-KEYS → GoodList 3 (flat (rows_of (codes keys)))
  unfolding rows_of
  deduped-good few =
      record {
        few = omega (arith, rows-counted, rows_few keys);
        whole = omega (arith, length-flat (rows_of (codes keys)));
        below =
            fine-words (rows_of (codes keys))
            (fine-rows (λ q. copies q (codes keys)) (distinct (codes keys)) (under-distinct 281474976710656 (codes keys) (under_codes keys ok)));
      }

  pub deduped-accepted : length keys / 2 ≤ MAX-KEYS → (room : ℕ)
      → (is_wh_trace_refusal room (flat (rows_of (codes keys))) ≡ accepted) ↔ (height 4 (length (rows_of (codes keys))) * 4 ≤ room)
  unfolding is_wh_trace_refusal
  deduped-accepted few room =
      let rows = flat (rows_of (codes keys)) in
      let e : height 4 (row_count rows) * 4 ≡ height 4 (length (rows_of (codes keys))) * 4 = ap (λ (n : ℕ). height 4 n * 4) rows-counted in
      let both = rows-accepted room (height 4 (row_count rows) * 4) rows in (
        (λ a. subst (λ (n : ℕ). n ≤ room) e (both.0 a).1),
        λ l. both.1 (deduped-good few, subst (λ (n : ℕ). n ≤ room) (sym e) l),
      )
