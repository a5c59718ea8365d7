-- The totals of the entries are the sums of bus_sums.
--     share-is       what a tuple adds
--     total-append, total-entries    lists of entries, and tables
--     total-all      all tables
--     length-all     how many entries there are
use mathlib.Core.Path.{◌≡◌, refl, ap}
use mathlib.Core.Bool.{Bool, true, false, ◌&&◌}
use mathlib.Core.List.{List, [], ◌∷◌, ◌++◌}
use Prim.Native.Nat.{ℕ, zero, suc, ◌+◌, ◌*◌}
use native.Mathlib.Omega.{arith}
use lib.ListN.{length, length-append}
use Rattle.lists.specs.Tab.{pick}
use Rattle.lists.specs.Sum.{sum_below}
use Rattle.lists.specs.Select.{words_test}
use Rattle.tuple.specs.Tuple.{Tuple, bus_number, same_side, same_bus}
use Rattle.tuple.specs.declared.Bus.{Bus}
use Rattle.tuple.specs.declared.Side.{Side}
use Rattle.bitwise.specs.Columns.{NUM-ROWS, NUM-LOOKUP-TYPES}
use Rattle.keccak_rc.specs.Columns.{NUM-ROWS as RC-ROWS}
use Rattle.keccak_rc.specs.Tuples.{NUM-TUPLES as RC-TUPLES}
use Rattle.verdict.specs.Kind.{rows}
use Rattle.verdict.specs.CoreAndRound.{core_kind, round_kind, core_layout, round_layout}
use Rattle.bus_sums.specs.Sums.{Fillings, share, shares, tuple_at, table_share, bitwise_at, bitwise_share, constant_at, constants_share, is_wh_kind, is_wh_layout, bus_total}
use Rattle.challenge.specs.Check.{Entry, entry_share, total}
use Rattle.challenge_sums.specs.Entries.{entry, row_entries, entries, table_entries, all_entries}

pub total-append : (s : Side) (ws : List ℕ) (xs ys : List Entry) → total s ws (xs ++ ys) ≡ total s ws xs + total s ws ys
unfolding total
total-append s ws [] ys = omega arith
total-append s ws (x ∷ xs) ys = omega (arith, total-append s ws xs ys)

module _ (s : Side) (b : Bus) (v : List ℕ) where
  abbrev ws : List ℕ
  ws = bus_number b ∷ v

  pub share-is : (t : Tuple) → entry_share s ws (entry t) ≡ share s b v t
  unfolding entry_share share words_test
  share-is t = go (same_side s t.side) (same_bus b t.bus) (words_test v t.values)
    where
      go : (x y z : Bool) → pick {A = ℕ} (x && (y && z)) t.multiplicity 0 ≡ pick z (pick (x && y) t.multiplicity 0) 0
      go true true true = refl
      go true true false = refl
      go true false true = refl
      go true false false = refl
      go false y true = refl
      go false y false = refl

  total-row : (m : ℕ) (t : ℕ → Tuple) → total s ws (row_entries m t) ≡ sum_below m (λ i. share s b v (t i))
  unfolding total row_entries sum_below
  total-row zero t = refl
  total-row (suc m) t = omega (arith, total-row m t, share-is (t m))

  pub total-entries : (n m : ℕ) (t : ℕ → ℕ → Tuple) → total s ws (entries n m t) ≡ shares s b v n m t
  unfolding total entries shares sum_below
  total-entries zero m t = refl
  total-entries (suc n) m t = omega (arith, total-append s ws (row_entries m (t n)) (entries n m t), total-row m (t n), total-entries n m t)

  five : (a b c d e f : List Entry) (k l m n o : ℕ) → total s ws a ≡ k → total s ws b ≡ l → total s ws c ≡ m → total s ws d ≡ n → total s ws e ≡ o →
      total s ws (a ++ (b ++ (c ++ (d ++ (e ++ f))))) ≡ k + l + m + n + o + total s ws f
  five a b c d e f k l m n o ha hb hc hd he =
      omega (
        arith,
        total-append s ws a (b ++ (c ++ (d ++ (e ++ f)))),
        total-append s ws b (c ++ (d ++ (e ++ f))),
        total-append s ws c (d ++ (e ++ f)),
        total-append s ws d (e ++ f),
        total-append s ws e f,
      )

  pub total-all : (nr : ℕ) (core round : List ℕ) (w : Fillings) (more : List Entry) →
      total s ws (all_entries nr core round w more) ≡ bus_total nr core round w s b v + total s ws more
  unfolding all_entries bus_total
  total-all nr core round w more =
      five (table_entries (core_kind nr) core) (table_entries round_kind round) (table_entries is_wh_kind w.is-wh)
      (entries NUM-ROWS NUM-LOOKUP-TYPES (bitwise_at w.bitwise)) (entries RC-ROWS RC-TUPLES (constant_at w.constants)) more
      (table_share s b v (core_kind nr) core) (table_share s b v round_kind round) (table_share s b v is_wh_kind w.is-wh)
      (bitwise_share s b v w.bitwise) (constants_share s b v w.constants)
      (total-entries (rows core_layout core) 84 (tuple_at (core_kind nr) core)) (total-entries (rows round_layout round) 1031 (tuple_at round_kind round))
      (total-entries (rows is_wh_layout w.is-wh) 5 (tuple_at is_wh_kind w.is-wh))
      (total-entries NUM-ROWS NUM-LOOKUP-TYPES (bitwise_at w.bitwise)) (total-entries RC-ROWS RC-TUPLES (constant_at w.constants))

length-row : (m : ℕ) (t : ℕ → Tuple) → length (row_entries m t) ≡ m
unfolding row_entries
length-row zero t = refl
length-row (suc m) t = ap suc (length-row m t)

length-entries : (n m : ℕ) (t : ℕ → ℕ → Tuple) → length (entries n m t) ≡ n * m
unfolding entries
length-entries zero m t = omega arith
length-entries (suc n) m t = omega (arith, length-append (row_entries m (t n)) (entries n m t), length-row m (t n), length-entries n m t)

five-long : (a b c d e f : List Entry) (k l m n o : ℕ) → length a ≡ k → length b ≡ l → length c ≡ m → length d ≡ n → length e ≡ o →
    length (a ++ (b ++ (c ++ (d ++ (e ++ f))))) ≡ k + l + m + n + o + length f
five-long a b c d e f k l m n o ha hb hc hd he =
    omega (
      arith,
      length-append a (b ++ (c ++ (d ++ (e ++ f)))),
      length-append b (c ++ (d ++ (e ++ f))),
      length-append c (d ++ (e ++ f)),
      length-append d (e ++ f),
      length-append e f,
    )

-- 84 tuples of a core row, 1,031 of a round row, 5 of an IS_WH row, 10 of each of 2^20 bitwise rows, 1 of each of 32 constants
pub length-all : (nr : ℕ) (core round : List ℕ) (w : Fillings) (more : List Entry) →
    length (all_entries nr core round w more)
    ≡ rows core_layout core * 84 + rows round_layout round * 1031 + rows is_wh_layout w.is-wh * 5 + 10485760 + 32 + length more
unfolding all_entries
length-all nr core round w more =
    five-long (table_entries (core_kind nr) core) (table_entries round_kind round) (table_entries is_wh_kind w.is-wh)
    (entries NUM-ROWS NUM-LOOKUP-TYPES (bitwise_at w.bitwise)) (entries RC-ROWS RC-TUPLES (constant_at w.constants)) more
    (rows core_layout core * 84) (rows round_layout round * 1031) (rows is_wh_layout w.is-wh * 5) 10485760 32
    (length-entries (rows core_layout core) 84 (tuple_at (core_kind nr) core)) (length-entries (rows round_layout round) 1031 (tuple_at round_kind round))
    (length-entries (rows is_wh_layout w.is-wh) 5 (tuple_at is_wh_kind w.is-wh))
    (length-entries NUM-ROWS NUM-LOOKUP-TYPES (bitwise_at w.bitwise)) (length-entries RC-ROWS RC-TUPLES (constant_at w.constants))
