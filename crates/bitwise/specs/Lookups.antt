-- Lookups lent as a flat list, four words each: kind, X, Y and Z; `add_ops`, which counts them into the counters, and
-- `update_multiplicities`, which counts them into the table.
use Rattle.std.specs.Prelude.{ℕ, zero, suc, ◌+◌, ◌*◌, ◌/◌, ◌%◌, ◌<◌, not, List, leb, eqb, length}
use Rattle.std.proofs.Math.Option.{Option, or_else}
use Rattle.lists.specs.Tab.{word}
use Rattle.lists.specs.First.{when, first, first_at, count_below}
use Rattle.answer.specs.Refusal.{refuse_if, refuse_at, accepted, afterwards, too_short}
use Rattle.answer.specs.declared.Refusal.{Refusal}
use Rattle.answer.specs.declared.Refusal.TheVariants.{PastEnd, NotWhole, NotElement}
use Rattle.bitwise.specs.Columns.{NUM-COLUMNS, NUM-LOOKUP-TYPES, NUM-COUNTERS, TABLE-WORDS, Z-END}
use Rattle.bitwise.specs.Tuples.{kind_at, mu-column}
use Rattle.bitwise.specs.Counters.{counter_at, charge, large_charged}

-- The words of a lookup, and how many lookups a list has.
abbrev pub LOOKUP-WORDS : ℕ
LOOKUP-WORDS = 4

abbrev pub lookup_count : List ℕ → ℕ
lookup_count ops = length ops / LOOKUP-WORDS

-- The kind, X, Y and Z of lookup i.
abbrev pub kind_of : List ℕ → ℕ → ℕ
kind_of ops i = word ops (LOOKUP-WORDS * i)

abbrev pub x_of : List ℕ → ℕ → ℕ
x_of ops i = word ops (LOOKUP-WORDS * i + 1)

abbrev pub y_of : List ℕ → ℕ → ℕ
y_of ops i = word ops (LOOKUP-WORDS * i + 2)

abbrev pub z_of : List ℕ → ℕ → ℕ
z_of ops i = word ops (LOOKUP-WORDS * i + 3)

-- What a lookup is: a kind, two bytes and a Z.
pub record Lookup (ops : List ℕ) (i : ℕ) : Type 0 where
  pub kind-below : kind_of ops i < NUM-LOOKUP-TYPES
  pub x_below : x_of ops i < 256
  pub y-below : y_of ops i < 256
  pub z-below : z_of ops i < Z-END

-- The least number refused where the kind of lookup i, or else its Z, is past its end.
unfoldable pub past_at : List ℕ → ℕ → Option ℕ
past_at ops i = or_else (when (leb NUM-LOOKUP-TYPES (kind_of ops i)) NUM-LOOKUP-TYPES) (when (leb Z-END (z_of ops i)) Z-END)

-- The place of X of lookup i, or else of its Y, where that is no byte.
unfoldable pub not_byte_at : List ℕ → ℕ → Option ℕ
not_byte_at ops i =
    or_else (when (leb 256 (x_of ops i)) (LOOKUP-WORDS * i + 1)) (when (leb 256 (y_of ops i)) (LOOKUP-WORDS * i + 2))

-- The checks of a list of lookups. 1: the first lookup with a kind or a Z past its end. 2: the list is not whole. 5: the
-- first X or Y that is no byte.
abbrev pub lookup_past : List ℕ → Option Refusal → Option Refusal
lookup_past ops later = refuse_at (first (past_at ops) (lookup_count ops)) PastEnd later

abbrev pub lookups_cut : List ℕ → Option Refusal → Option Refusal
lookups_cut ops later = refuse_if (not (eqb (length ops % LOOKUP-WORDS) 0)) (NotWhole 2) later

abbrev pub lookup_not_byte : List ℕ → Option Refusal → Option Refusal
lookup_not_byte ops later = refuse_at (first (not_byte_at ops) (lookup_count ops)) NotElement later

-- One more on the word `at` 0, then on `at` 1 .. and on `at` (n - 1), mod p.
unfoldable pub charge_each : (ℕ → ℕ) → ℕ → List ℕ → List ℕ
charge_each at zero words = words
charge_each at (suc i) words = charge (charge_each at i words) (at i) 1

-- The counter of lookup i.
abbrev pub lookup_counter : List ℕ → ℕ → ℕ
lookup_counter ops i = counter_at (kind_of ops i) (x_of ops i) (y_of ops i) (z_of ops i)

-- how many of the first n lookups counter c has
unfoldable pub named_in : List ℕ → ℕ → ℕ → ℕ
named_in ops n c = count_below (λ i. eqb c (lookup_counter ops i)) n

-- `add_ops`: "Fold a slice of lookups into the histogram."
unfoldable pub added_ops : List ℕ → List ℕ → List ℕ
added_ops counters ops = charge_each (lookup_counter ops) (lookup_count ops) counters

-- What it refuses: 1 and 2 the list; 3 too few counters; 5 the list, since no counter is charged by X or Y past a byte, then the first
-- of the counters that are charged which is p or more. A counter that no lookup has may hold any word.
unfoldable pub add_ops_refusal : List ℕ → List ℕ → Option Refusal
add_ops_refusal counters ops =
    lookup_past ops
    (lookups_cut ops
    (too_short (length counters) NUM-COUNTERS
    (lookup_not_byte ops
    (refuse_at (first_at (large_charged (named_in ops (lookup_count ops)) (word counters)) NUM-COUNTERS) NotElement
    accepted))))

-- What it leaves: the counters charged, or the old ones where it is refused.
abbrev pub add_ops_after : List ℕ → List ℕ → List ℕ
add_ops_after counters ops = afterwards (add_ops_refusal counters ops) (added_ops counters ops) counters

-- The word of the table that counter i is for: the column `mu_column` of its kind, in its row.
unfoldable pub mu_at : ℕ → ℕ
mu_at i = i / NUM-LOOKUP-TYPES * NUM-COLUMNS + mu-column (kind_at (i % NUM-LOOKUP-TYPES))

-- `update_multiplicities`: each lookup adds one to its row's column of its kind, mod p.
unfoldable pub updated_mus : List ℕ → List ℕ → List ℕ
updated_mus table ops = charge_each (λ i. mu_at (lookup_counter ops i)) (lookup_count ops) table

-- What it refuses: 1 and 2 the list; 3 a short table; 5 the list, then the first of the multiplicities that are charged which is p or
-- more.
unfoldable pub update_refusal : List ℕ → List ℕ → Option Refusal
update_refusal table ops =
    lookup_past ops
    (lookups_cut ops
    (too_short (length table) TABLE-WORDS
    (lookup_not_byte ops
    (refuse_at (first_at (large_charged (named_in ops (lookup_count ops)) (λ c. word table (mu_at c))) NUM-COUNTERS) (λ c. NotElement (mu_at c))
    accepted))))

-- What it leaves: the table with the lookups counted, or the old words where it is refused.
abbrev pub update_after : List ℕ → List ℕ → List ℕ
update_after table ops = afterwards (update_refusal table ops) (updated_mus table ops) table
