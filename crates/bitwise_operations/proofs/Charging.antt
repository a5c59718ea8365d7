-- The turns of the loops that go through a list of lookups: the first counter that is p or more, found before any is charged, and then
-- the charges.
use mathlib.Core.Path.{◌≡◌, sym, ap, subst, ◌∙◌}
use mathlib.Core.List.{List}
use mathlib.Core.Option.{none}
use Prim.Native.Nat.{ℕ, ◌+◌, ◌≤◌, ◌<◌}
use native.Mathlib.Omega.{arith}
use lib.ListN.{length}
use Rattle.lists.specs.Tab.{word}
use Rattle.lists.specs.First.{first, first_at, place_of}
use Rattle.field.specs.Field.{p}
use Rattle.bitwise.specs.Counters.{large_charged, lower_large}
use Rattle.bitwise.specs.Lookups.{past_at, not_byte_at, charge_each, lookup_counter, named_in}
use Rattle.bitwise.proofs.Large.{Least, least_start, least-same, least_more, least-found, least-none}
use Rattle.bitwise.proofs.Lookups.{lookups-are, lookup-lt, named_none, named_more, named-clear, each_below}
use Rattle.std.specs.Prelude.{Some, None}

module _ (ops : List ℕ) (words : ℕ → ℕ) where
  -- after i lookups
  abbrev pub Searched : ℕ → ℕ → Type 0
  Searched i least = Least (named_in ops i) words 10485760 least

  pub search-start : Searched 0 10485760
  search-start = least_start (named_in ops 0) words 10485760 (named_none ops)

  pub search-more : (i : ℕ) {least c next : ℕ} → Searched i least → c ≡ lookup_counter ops i → c < 10485760 → next ≡ lower_large (words c) c least → Searched (i + 1) next
  search-more i {least} {c} s e l q =
      subst (Searched (i + 1)) (sym (q ∙ ap (λ (k : ℕ). lower_large (words k) k least) e))
      (least-same (least_more s (lookup_counter ops i) 1 (subst (λ (k : ℕ). k < 10485760) e l) (omega arith)) (named_in ops (i + 1)) (λ k _. named_more ops i k))

  module _ (i least n : ℕ) (s : Searched i least) (a : i ≤ n) (b : n ≤ i) where
    all : Searched n least
    all = let e : i ≡ n = omega arith in subst (λ (k : ℕ). Searched k least) e s

    pub search-at : least < 10485760 → Some least ≡ place_of (first_at (large_charged (named_in ops n) words) 10485760)
    search-at l = sym (ap place_of (least-found all l))

    pub search-nowhere : 10485760 ≤ least → None ≡ place_of (first_at (large_charged (named_in ops n) words) 10485760)
    search-nowhere l = sym (ap place_of (least-none all l))

  -- where the search found nothing the counter of every lookup may be charged
  pub may-charge : (n : ℕ) → first (past_at ops) n ≡ none → first (not_byte_at ops) n ≡ none → first_at (large_charged (named_in ops n) words) 10485760 ≡ none
      → (i : ℕ) → i < n → words (lookup_counter ops i) < p
  may-charge n e f h = named-clear ops words n 10485760 (λ i l. lookup-lt ops i (lookups-are ops n e f i l)) h

-- and so it may after others were
pub still-below : (at : ℕ → ℕ) (i : ℕ) (l : List ℕ) {row : List ℕ} {k : ℕ} → row ≡ charge_each at i l → k < length l → word l k < p → word row k < p
still-below at i l {k = k} e b h = subst (λ (r : List ℕ). word r k < p) (sym e) (each_below at i l k b h)
