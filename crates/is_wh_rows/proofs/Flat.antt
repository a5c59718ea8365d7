-- Rows in a flat list, stored one after the other.
use mathlib.Core.Path.{◌≡◌, refl, sym, ap, ap₂, ◌∙◌}
use mathlib.Core.List.{List, [], ◌∷◌, ◌++◌}
use Prim.Native.Nat.{ℕ, ◌+◌, ◌*◌, ◌/◌, ◌%◌, ◌≤◌, ◌<◌}
use native.Mathlib.Numerals.{add-one, add-two}
use native.Mathlib.Omega.{arith}
use lib.ListN.{length, set}
use lib.Seq.{sets, length-sets}
use Rattle.lists.specs.Tab.{tab, tab_from}
use Rattle.lists.proofs.Laws.{sets-append, length-tab, tab-add}
use Rattle.is_wh_rows.specs.Rows.{Row, row_of, rows_needed, mu_of, key_rows, flat}

pub flat_append : (a b : List Row) → flat (a ++ b) ≡ flat a ++ flat b
unfolding flat
flat_append [] b = refl
flat_append (r ∷ a) b = ap (λ (s : List ℕ). r.word ∷ r.half ∷ r.mu ∷ s) (flat_append a b)

pub length-flat : (a : List Row) → length (flat a) ≡ 3 * length a
unfolding flat
length-flat [] = refl
length-flat (r ∷ a) = omega (arith, length-flat a)

pub stored_row : (l : List ℕ) (at code n : ℕ) → set (set (set l at (code / 65536)) (at + 1) (code % 65536)) (at + 2) n ≡ sets l at (flat (row_of code n ∷ []))
unfolding flat
stored_row l at code n = rw (add-one at, add-two at)

-- rows b behind the rows a
pub stored_more : (l : List ℕ) (at : ℕ) (a b : List Row) → sets (sets l at (flat a)) (at + 3 * length a) (flat b) ≡ sets l at (flat (a ++ b))
stored_more l at a b =
    ap (λ (k : ℕ). sets (sets l at (flat a)) (at + k) (flat b)) (sym (length-flat a))
    ∙ sets-append l at (flat a) (flat b)
    ∙ ap (sets l at) (sym (flat_append a b))

pub tab-last : {A : Type 0} (n : ℕ) (f : ℕ → A) → tab n f ++ (f n ∷ []) ≡ tab (n + 1) f
unfolding tab tab_from
tab-last n f = sym (tab-add n 1 f (λ k. f n) (λ k h. ap f (omega arith)))

-- ---- the rows of a key

pub record KeyStored (l : List ℕ) (at code n : ℕ) (rows : List ℕ) (j : ℕ) : Type 0 where
  pub bound : j ≤ rows_needed n
  pub long : length rows ≡ length l
  pub is : rows ≡ sets l at (flat (tab j (λ i. row_of code (mu_of n i))))

pub key-none : (l : List ℕ) (at code n : ℕ) → KeyStored l at code n l 0
unfolding flat tab tab_from
key-none l at code n = record { bound = omega arith; long = refl; is = refl }

pub key_more : {l : List ℕ} {at code n : ℕ} {rows rows' : List ℕ} {j m : ℕ} → KeyStored l at code n rows j → j < rows_needed n → m ≡ mu_of n j
    → rows' ≡ sets rows (at + 3 * j) (flat (row_of code m ∷ [])) → KeyStored l at code n rows' (j + 1)
key_more {l} {at} {code} {n} {rows} {rows'} {j} {m} s b q e =
    let f : ℕ → Row = λ i. row_of code (mu_of n i) in
    let whole : rows' ≡ sets l at (flat (tab (j + 1) f)) =
    e
    ∙ ap₂ (λ (r : List ℕ) (k : ℕ). sets r (at + 3 * j) (flat (row_of code k ∷ []))) s.is q
    ∙ ap (λ (k : ℕ). sets (sets l at (flat (tab j f))) (at + 3 * k) (flat (f j ∷ []))) (sym (length-tab j f))
    ∙ stored_more l at (tab j f) (f j ∷ [])
    ∙ ap (λ (r : List Row). sets l at (flat r)) (tab-last j f) in
    record { bound = omega arith; long = ap length whole ∙ length-sets l at (flat (tab (j + 1) f)); is = whole }

pub key-all : {l : List ℕ} {at code n : ℕ} {rows : List ℕ} {j : ℕ} → KeyStored l at code n rows j → rows_needed n ≤ j → rows ≡ sets l at (flat (key_rows code n))
unfolding key_rows
key-all {l} {at} {code} {n} s b = let e = s.bound in let q = exact s.bound b in s.is ∙ ap (λ (k : ℕ). sets l at (flat (tab k (λ i. row_of code (mu_of n i))))) q
  where
    exact : {j m : ℕ} → j ≤ m → m ≤ j → j ≡ m
    exact a b = omega arith
