-- No line is longer than LINE-MOST, of tables with fewer than 2^64 words: no slice in memory has more.
use Prim.Native.Nat.{ℕ, ◌+◌, ◌*◌, ◌≤◌, ◌<◌}
use mathlib.Core.Path.{◌≡◌, refl, sym, ap, subst}
use mathlib.Core.Option.{some}
use mathlib.Core.List.{List, [], ◌∷◌, ◌++◌, map}
use native.Mathlib.Nat.{div-le_self}
use native.Mathlib.Omega.{arith}
use lib.ListN.{length, length-append, get_or-eq_default}
use Rattle.lists.specs.Tab.{word}
use Rattle.lists.proofs.First.{count-le}
use Rattle.lists.proofs.Laws.{length-row_at, word-row_at}
use Rattle.lists.proofs.Then.{by_le}
use Rattle.field.specs.Field.{p}
use Rattle.text.specs.Text.{decimal_of, spaced, joined}
use Rattle.text.specs.Names.{bus_name}
use Rattle.text.proofs.Numbers.{decimal-long}
use Rattle.text.proofs.Words.{joined-append, spaced-long, joined-long, decimals-long}
use Rattle.tuple.specs.declared.Bus.{Bus}
use Rattle.tuple.specs.declared.Bus.TheVariants.{ByteAlu, AreBytes, IsHalfword, IsWh, KeccakRc, Keccak, Memw}
use Rattle.tuple.specs.declared.Bus.TheVariants.{Ecall, Msb8, Msb16, Zero, IsB20, Hwsl}
use Rattle.verdict.specs.Kind.{Layout, rows, row, active, Elements}
use Rattle.verdict.specs.CoreAndRound.{core_layout, round_layout, verdict_for}
use Rattle.verdict.specs.declared.Table.{Table}
use Rattle.verdict.specs.declared.Table.TheVariants.{Core, Round}
use Rattle.verdict.specs.declared.Verdict.{Verdict}
use Rattle.verdict.specs.declared.Verdict.TheVariants.{Refused, Value, Lookup, Repeated, Unbalanced, Holds}
use Rattle.judge_scan.proofs.Scan.{row_ends}
use Rattle.verdict_line.specs.Line.{LINE-MOST, Shown, table_name, row-name, value-name, timestamp-name, lookup-name}
use Rattle.verdict_line.specs.Line.{balance-name, holds-name, tuple_at, shown_of, shown_by, place_words, words_of, shown_words}
use Rattle.verdict_line.specs.Line.{line_of, line_at}
use Rattle.verdict_line.specs.Named.{Named}
use Rattle.verdict_line.proofs.InRange.{judged-says}
use Rattle.verdict_line.proofs.Tuples.{Small, Fits, core-fits, round-fits}

-- ---- the words of a row
row_small : (A : Layout) (ws : List ℕ) → Elements ws → (r : ℕ) → r < rows A ws → (k : ℕ) → Small (word (row A ws r) k)
row_small A ws h r l k =
    by_le A.width k
    (λ g. subst Small (sym (get_or-eq_default (row A ws r) 0 {n = k} (subst (λ (m : ℕ). m ≤ k) (sym (length-row_at A.width ws r)) g))) (omega arith))
    (λ g.
    let q : word ws (r * A.width + k) < p = h (r * A.width + k) (omega (arith, row_ends A.width ws r l)) in
    subst Small (sym (word-row_at A.width ws r k g)) (omega (arith, q)))

pub named-fits : (nr : ℕ) (core round : List ℕ) (t : Table) (r i : ℕ) → Named core round t r i → Fits (tuple_at nr core round t r i).values
unfolding tuple_at
named-fits nr core round Core r i n = core-fits (row core_layout core r) (row_small core_layout core n.core-below r n.there.0) nr i
named-fits nr core round Round r i n = round-fits (row round_layout round r) (row_small round_layout round n.round-below r n.there.0) i

-- ---- what a verdict names is there
pub lookup-named : (nr : ℕ) (core round : List ℕ) (t : Table) (r i : ℕ) → verdict_for nr core round ≡ Lookup t r i → Named core round t r i
lookup-named nr core round Core r i e =
    let s = judged-says nr core round (Lookup Core r i) tt e in
    record { core-below = s.0.0.2; round-below = s.0.0.3; there = (s.1.row-there, s.1.index-there) }
lookup-named nr core round Round r i e =
    let s = judged-says nr core round (Lookup Round r i) tt e in
    let b = s.0.0.0.0.0 in
    record { core-below = b.2; round-below = b.3; there = (s.1.row-there, s.1.index-there) }

pub unbalanced-named : (nr : ℕ) (core round : List ℕ) (t : Table) (r i : ℕ) → verdict_for nr core round ≡ Unbalanced t r i → Named core round t r i
unbalanced-named nr core round Core r i e =
    let s = judged-says nr core round (Unbalanced Core r i) tt e in
    let b = s.0.0.0.0.0.0 in
    record { core-below = b.2; round-below = b.3; there = (s.1.row-there, s.1.index-there) }
unbalanced-named nr core round Round r i e =
    let s = judged-says nr core round (Unbalanced Round r i) tt e in
    let b = s.0.0.0.0.0.0.0 in
    record { core-below = b.2; round-below = b.3; there = (s.1.row-there, s.1.index-there) }

-- ---- lengths
spaced-none : length (spaced []) ≡ 0
unfolding spaced
spaced-none = refl

none-long : length (joined []) ≡ 0
unfolding joined
none-long = refl

table-long : (t : Table) → length (table_name t) ≤ 5
table-long Core = omega arith
table-long Round = omega arith

bus-long : (b : Bus) → length (bus_name b) ≤ 10
bus-long ByteAlu = omega arith
bus-long AreBytes = omega arith
bus-long IsHalfword = omega arith
bus-long IsWh = omega arith
bus-long KeccakRc = omega arith
bus-long Keccak = omega arith
bus-long Memw = omega arith
bus-long Ecall = omega arith
bus-long Msb8 = omega arith
bus-long Msb16 = omega arith
bus-long Zero = omega arith
bus-long IsB20 = omega arith
bus-long Hwsl = omega arith

place-long : (t : Table) (r : ℕ) (what : List ℕ) (i : ℕ) → Small r → Small i → length what ≤ 9 → length (joined (place_words t r what i)) ≤ 61
unfolding place_words
place-long t r what i h g w =
    omega (
      arith,
      joined-long (table_name t) (row-name ∷ decimal_of r ∷ what ∷ decimal_of i ∷ []),
      spaced-long row-name (decimal_of r ∷ what ∷ decimal_of i ∷ []),
      spaced-long (decimal_of r) (what ∷ decimal_of i ∷ []),
      spaced-long what (decimal_of i ∷ []),
      spaced-long (decimal_of i) [],
      spaced-none,
      table-long t,
      decimal-long r h,
      decimal-long i g,
      w,
    )

shown-long : (s : Shown) → Fits s.values → length (spaced (shown_words (some s))) ≤ 4274
unfolding shown_words
shown-long s f =
    omega (arith, spaced-long (bus_name s.bus) (map decimal_of s.values), bus-long s.bus, decimals-long s.values f.short, f.few)

-- ---- the line
failure-long : (t : Table) (r : ℕ) (what : List ℕ) (i : ℕ) (s : Shown) → Small r → Small i → length what ≤ 9 → Fits s.values →
    length (joined (place_words t r what i ++ shown_words (some s))) ≤ LINE-MOST
unfolding place_words
failure-long t r what i s h g w f =
    omega (
      arith,
      ap length (joined-append (table_name t) (row-name ∷ decimal_of r ∷ what ∷ decimal_of i ∷ []) (shown_words (some s))),
      length-append (joined (place_words t r what i)) (spaced (shown_words (some s))),
      place-long t r what i h g w,
      shown-long s f,
    )

module _ (nr : ℕ) (core round : List ℕ) (core-fits : Small (length core)) (round-fits : Small (length round)) where
  in-core : (r : ℕ) → r < rows core_layout core → Small r
  in-core r l = omega (arith, div-le_self (length core) 486)

  in-round : (r : ℕ) → r < rows round_layout round → Small r
  in-round r l = omega (arith, div-le_self (length round) 1480)

  named_small : (t : Table) (r i : ℕ) → Named core round t r i → Small r × Small i
  named_small Core r i n = (in-core r n.there.0, omega (arith, n.there.1))
  named_small Round r i n = (in-round r n.there.0, omega (arith, n.there.1))

  verdict-most : (v : Verdict) → verdict_for nr core round ≡ v → length (line_of v (shown_by nr core round v)) ≤ LINE-MOST
  unfolding line_of words_of shown_by shown_words place_words
  verdict-most (Value Core r i) e =
      let s = (judged-says nr core round (Value Core r i) tt e).1 in
      omega (arith, place-long Core r value-name i (in-core r s.row-there) (omega (arith, s.index-there)) (omega arith))
  verdict-most (Value Round r i) e =
      let s = (judged-says nr core round (Value Round r i) tt e).1 in
      omega (arith, place-long Round r value-name i (in-round r s.row-there) (omega (arith, s.index-there)) (omega arith))
  verdict-most (Repeated r) e =
      let s = (judged-says nr core round (Repeated r) tt e).1 in
      omega (arith, place-long Core r timestamp-name 0 (in-core r s.there) (omega arith) (omega arith))
  verdict-most (Lookup t r i) e =
      let n = lookup-named nr core round t r i e in
      let b = named_small t r i n in
      failure-long t r lookup-name i (shown_of (tuple_at nr core round t r i)) b.0 b.1 (omega arith) (named-fits nr core round t r i n)
  verdict-most (Unbalanced t r i) e =
      let n = unbalanced-named nr core round t r i e in
      let b = named_small t r i n in
      failure-long t r balance-name i (shown_of (tuple_at nr core round t r i)) b.0 b.1 (omega arith) (named-fits nr core round t r i n)
  verdict-most (Holds n) e =
      let q = (judged-says nr core round (Holds n) tt e).4 in
      let l : Small n = omega (arith, q, count-le (active core_layout core) (rows core_layout core), div-le_self (length core) 486) in
      omega (arith, joined-long holds-name (decimal_of n ∷ []), spaced-long (decimal_of n) [], spaced-none, decimal-long n l)
  verdict-most (Refused r) e = omega (arith, none-long)

  -- for tables that fit in memory
  pub line-most : length (line_at nr core round) ≤ LINE-MOST
  line-most = verdict-most (verdict_for nr core round) refl
