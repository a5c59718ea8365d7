-- Ascending loads, run by run: what the loops that scan a run and that write the rows have after some turns.
use mathlib.Core.Path.{◌≡◌, refl, sym, ap, ap₂, subst, ◌∙◌}
use mathlib.Core.Bool.{Bool, true, false}
use mathlib.Core.List.{List, [], ◌∷◌, ◌++◌, append_assoc, append-nil}
use Prim.Native.Nat.{ℕ, zero, suc, ◌+◌, ◌-◌, ◌*◌, ◌/◌, ◌%◌, ◌^◌, ◌≤◌, ◌<◌}
use native.Mathlib.Numerals.{add-one}
use native.Mathlib.Omega.{arith}
use lib.Dec.{eqb}
use lib.ListN.{length, drop, length-append, length-drop, drop_of_length-le}
use lib.Seq.{sets, length-sets, get_or-drop, drop-cons, drop-drop}
use Rattle.lists.specs.Tab.{pick, word}
use Rattle.lists.proofs.Laws.{length-tab}
use Rattle.lists.proofs.Then.{by_le}
use Rattle.sort.specs.Sorted.{AscendsBy, Ascends, copies}
use Rattle.sort.proofs.Unique.{copies-none}
use Rattle.sort.proofs.Words.{Least, Asc, ascends-asc, copies-below}
use Rattle.is_wh_rows.specs.Rows.{Row, row_of, rows_needed, mu_of, key_rows, rows_for, distinct, flat}
use Rattle.is_wh_rows.specs.Loads.{weight, total, codes_in, rows_in}
use Rattle.is_wh_rows.proofs.Runs.{asc-drop, copies-yes, copies-le}
use Rattle.is_wh_rows.proofs.Weights.{asc-codes, weight-yes, rows-front}
use Rattle.is_wh_rows.proofs.Flat.{stored_more}

pub ascends-drop : (ws : List ℕ) (i : ℕ) → Ascends ws → Ascends (drop i ws)
unfolding AscendsBy
ascends-drop ws i h a b l m = rw (get_or-drop i ws a 0, get_or-drop i ws b 0) (h (i + a) (i + b) (omega arith) (omega (arith, length-drop i ws)))

length-key_rows : (c n : ℕ) → length (key_rows c n) ≡ rows_needed n
unfolding key_rows
length-key_rows c n = length-tab (rows_needed n) (λ j. row_of c (mu_of n j))

no_rows : (ws : List ℕ) (i : ℕ) → length ws ≤ i → rows_in (drop i ws) ≡ []
unfolding rows_in rows_for distinct codes_in
no_rows ws i b = ap rows_in (drop_of_length-le ws b)

-- ---- how much loads can weigh

pub weight-le : (k : ℕ) (l : List ℕ) → weight k l ≤ total l
unfolding weight total
weight-le k [] = omega arith
weight-le k (w ∷ l) = go (eqb k (w / 65536)) (weight-le k l)
  where
    go : (b : Bool) → weight k l ≤ total l → pick b (w % 65536 + 1) 0 + weight k l ≤ w % 65536 + 1 + total l
    go true h = omega arith
    go false h = omega arith

pub total-drop : (l : List ℕ) (i : ℕ) → total (drop i l) ≤ total l
unfolding total
total-drop [] zero = omega arith
total-drop [] (suc i) = omega arith
total-drop (w ∷ l) zero = omega arith
total-drop (w ∷ l) (suc i) = omega (arith, total-drop l i)

weight-copies : (k : ℕ) (l : List ℕ) → weight k l ≤ 65536 * copies k (codes_in l)
unfolding weight codes_in copies
weight-copies k [] = omega arith
weight-copies k (w ∷ l) = go (eqb k (w / 65536)) (weight-copies k l)
  where
    go : (b : Bool) → weight k l ≤ 65536 * copies k (codes_in l) → pick b (w % 65536 + 1) 0 + weight k l ≤ 65536 * (pick b 1 0 + copies k (codes_in l))
    go true h = omega arith
    go false h = omega arith

length-codes_in : (l : List ℕ) → length (codes_in l) ≡ length l
unfolding codes_in
length-codes_in [] = refl
length-codes_in (w ∷ l) = ap suc (length-codes_in l)

-- ---- the scan of a run that begins at `from`, with the code x

pub record Run (l : List ℕ) (from x k count : ℕ) : Type 0 where
  pub bound : k ≤ length l
  pub least : Least x (codes_in (drop k l))
  pub asc : Asc (codes_in (drop k l))
  pub is : from + copies x (codes_in (drop from l)) ≡ k + copies x (codes_in (drop k l))
  pub sum : weight x (drop from l) ≡ count + weight x (drop k l)

pub run-start : (l : List ℕ) (from : ℕ) → from < length l → Ascends (drop from l) → Run l from (word l from / 65536) from 0
unfolding codes_in
run-start l from b h =
    let a = asc-codes (drop from l) (ascends-asc (drop from l) h) in
    let e = drop-cons l from 0 b in
    let c : Asc (codes_in (word l from ∷ drop (suc from) l)) = subst (λ (r : List ℕ). Asc (codes_in r)) e a in
    record {
      bound = omega arith;
      least = subst (λ (r : List ℕ). Least (word l from / 65536) (codes_in r)) (sym e) (omega arith, c.0);
      asc = a;
      is = refl;
      sum = omega arith;
    }

module _ {l : List ℕ} {from x k count : ℕ} (r : Run l from x k count) where
  next : k < length l → drop k l ≡ word l k ∷ drop (k + 1) l
  next b = drop-cons l k 0 b ∙ ap (λ (n : ℕ). word l k ∷ drop n l) (sym (add-one k))

  pub run_small : k < length l → word l k / 65536 ≡ x → total l < 2 ^ 63 → count + (word l k % 65536 + 1) < 2 ^ 63
  run_small b q t =
      omega (arith, r.sum, ap (weight x) (next b), weight-yes x (word l k) (drop (k + 1) l) (sym q), weight-le x (drop from l), total-drop l from)

  pub run_more : {c : ℕ} → k < length l → word l k / 65536 ≡ x → c ≡ count + (word l k % 65536 + 1) → Run l from x (k + 1) c
  unfolding codes_in
  run_more b q ec =
      let e = next b in
      let a : Asc (codes_in (word l k ∷ drop (k + 1) l)) = subst (λ (s : List ℕ). Asc (codes_in s)) e r.asc in
      let t : Least x (codes_in (word l k ∷ drop (k + 1) l)) = subst (λ (s : List ℕ). Least x (codes_in s)) e r.least in
      record {
        bound = omega arith;
        least = t.1;
        asc = a.1;
        is = r.is ∙ ap (λ (s : List ℕ). k + copies x (codes_in s)) e ∙ omega (arith, copies-yes x (word l k / 65536) (codes_in (drop (k + 1) l)) (sym q));
        sum = r.sum ∙ ap (λ (s : List ℕ). count + weight x s) e ∙ omega (arith, weight-yes x (word l k) (drop (k + 1) l) (sym q));
      }

  -- nothing of the code x is left
  over : copies x (codes_in (drop k l)) ≡ 0 → (k ≡ from + copies x (codes_in (drop from l))) × (count ≡ weight x (drop from l))
  over z = let w : weight x (drop k l) ≡ 0 = omega (arith, weight-copies x (drop k l)) in (omega (arith, r.is), omega (arith, r.sum))

  pub run-stop : k < length l → (word l k / 65536 ≡ x → ⊥) → (k ≡ from + copies x (codes_in (drop from l))) × (count ≡ weight x (drop from l))
  unfolding codes_in
  run-stop b q =
      let e = next b in
      let y = word l k / 65536 in
      let a : Asc (codes_in (word l k ∷ drop (k + 1) l)) = subst (λ (s : List ℕ). Asc (codes_in s)) e r.asc in
      let t : Least x (codes_in (word l k ∷ drop (k + 1) l)) = subst (λ (s : List ℕ). Least x (codes_in s)) e r.least in
      let lt : x < y = by_le y x (λ m. absurd (q (omega (arith, t.0)))) (λ m. m) in
      over (ap (λ (s : List ℕ). copies x (codes_in s)) e ∙ copies-below x y (y ∷ codes_in (drop (k + 1) l)) lt (omega arith, a.0))

  pub run-over : length l ≤ k → (length l ≡ from + copies x (codes_in (drop from l))) × (count ≡ weight x (drop from l))
  unfolding codes_in
  run-over b =
      let a = over (ap (λ (s : List ℕ). copies x (codes_in s)) (drop_of_length-le l b) ∙ copies-none x) in
      let e : length l ≡ k = omega (arith, r.bound) in
      (e ∙ a.0, a.1)

-- ---- a turn: the run from i ends at `end` and holds n keys

module _ (ws : List ℕ) (i end n : ℕ) (h : Ascends ws) (b : i < length ws)
    (e : (end ≡ i + copies (word ws i / 65536) (codes_in (drop i ws))) × (n ≡ weight (word ws i / 65536) (drop i ws))) where
  here : drop i ws ≡ word ws i ∷ drop (suc i) ws
  here = drop-cons ws i 0 b

  pub turn-less : i < end
  unfolding codes_in
  turn-less = omega (arith, e.0, ap (λ (s : List ℕ). copies (word ws i / 65536) (codes_in s)) here, copies-yes (word ws i / 65536) (word ws i / 65536) (codes_in (drop (suc i) ws)) refl)

  pub turn_in : end ≤ length ws
  turn_in = omega (arith, e.0, copies-le (word ws i / 65536) (codes_in (drop i ws)), length-codes_in (drop i ws), length-drop i ws)

  pub turn_small : total ws < 2 ^ 63 → n < 2 ^ 63
  turn_small t = omega (arith, e.1, weight-le (word ws i / 65536) (drop i ws), total-drop ws i)

  turn-few : rows_needed n ≤ end - i
  turn-few = omega (arith, e.0, e.1, weight-copies (word ws i / 65536) (drop i ws))

  turn-rows : rows_in (drop i ws) ≡ key_rows (word ws i / 65536) n ++ rows_in (drop end ws)
  turn-rows =
      let x = word ws i / 65536 in
      subst (λ (r : List ℕ). rows_in r ≡ key_rows x (weight x r) ++ rows_in (drop (copies x (codes_in r)) r)) (sym here)
      (rows-front (word ws i) (drop (suc i) ws) (subst (λ (r : List ℕ). Asc (codes_in r)) here (asc-codes (drop i ws) (asc-drop ws i (ascends-asc ws h)))))
      ∙ ap₂ (λ (m : ℕ) (r : List ℕ). key_rows x m ++ rows_in r) (sym e.1) (drop-drop (copies x (codes_in (drop i ws))) i ws ∙ ap (λ (j : ℕ). drop j ws) (sym e.0))

-- ---- no more rows than loads

few-from : (ws : List ℕ) → Ascends ws → (fuel i : ℕ) → length ws ≤ i + fuel → length (rows_in (drop i ws)) ≤ length ws - i
few-from ws h zero i l = omega (arith, ap length (no_rows ws i (omega arith)))
few-from ws h (suc fuel) i l =
    by_le (length ws) i (λ b. omega (arith, ap length (no_rows ws i b)))
    (λ b.
    let x = word ws i / 65536 in
    let n = weight x (drop i ws) in
    let end = i + copies x (codes_in (drop i ws)) in
    let rest = rows_in (drop end ws) in
    let less = turn-less ws i end n h b (refl, refl) in
    let in_List = turn_in ws i end n h b (refl, refl) in
    let few = turn-few ws i end n h b (refl, refl) in
    let q : length (rows_in (drop i ws)) ≡ rows_needed n + length rest = ap length (turn-rows ws i end n h b (refl, refl)) ∙ length-append (key_rows x n) rest ∙ ap (λ (k : ℕ). k + length rest) (length-key_rows x n) in
    let later = few-from ws h fuel end (omega arith) in
    omega arith)

pub few-rows : (ws : List ℕ) → Ascends ws → length (rows_in ws) ≤ length ws
few-rows ws h = omega (arith, few-from ws h (length ws) 0 (omega arith))

-- ---- writing

pub record Stored (ws l rows : List ℕ) (i count : ℕ) : Type 0 where
  pub bound : i ≤ length ws
  pub long : length rows ≡ length l
  pub front : List Row
  pub all : rows_in ws ≡ front ++ rows_in (drop i ws)
  pub count-is : count ≡ length front
  pub is : rows ≡ sets l 0 (flat front)

pub stored-none : (ws l : List ℕ) → Stored ws l l 0 0
unfolding flat
stored-none ws l = record { bound = omega arith; long = refl; front = []; all = refl; count-is = refl; is = refl }

module _ {ws l rows : List ℕ} {i end n count : ℕ} (s : Stored ws l rows i count) (h : Ascends ws) (b : i < length ws) (e : (end ≡ i + copies (word ws i / 65536) (codes_in (drop i ws))) × (n ≡ weight (word ws i / 65536) (drop i ws))) where
  joined : rows_in ws ≡ (s.front ++ key_rows (word ws i / 65536) n) ++ rows_in (drop end ws)
  joined = s.all ∙ ap (λ (r : List Row). s.front ++ r) (turn-rows ws i end n h b e) ∙ sym (append_assoc s.front (key_rows (word ws i / 65536) n) (rows_in (drop end ws)))

  more : length (s.front ++ key_rows (word ws i / 65536) n) ≡ length s.front + rows_needed n
  more = length-append s.front (key_rows (word ws i / 65536) n) ∙ ap (λ (k : ℕ). length s.front + k) (length-key_rows (word ws i / 65536) n)

  pub turn-room : 3 * length (rows_in ws) ≤ length l → 3 * count + 3 * rows_needed n ≤ length rows
  turn-room r =
      let whole = ap length joined ∙ length-append (s.front ++ key_rows (word ws i / 65536) n) (rows_in (drop end ws)) in
      omega (arith, more, s.count-is, s.long)

  pub stored-turn : {rows' : List ℕ} {r : ℕ} → rows' ≡ sets rows (3 * count) (flat (key_rows (word ws i / 65536) n)) → r ≡ rows_needed n → Stored ws l rows' end (count + r)
  stored-turn {rows'} {r} q m =
      let all-is : rows' ≡ sets l 0 (flat (s.front ++ key_rows (word ws i / 65536) n)) =
      q
      ∙ ap₂ (λ (o : List ℕ) (k : ℕ). sets o k (flat (key_rows (word ws i / 65536) n))) s.is (ap (λ (k : ℕ). 3 * k) s.count-is ∙ omega arith)
      ∙ stored_more l 0 s.front (key_rows (word ws i / 65536) n) in
      record {
        bound = turn_in ws i end n h b e;
        long = ap length all-is ∙ length-sets l 0 (flat (s.front ++ key_rows (word ws i / 65536) n));
        front = s.front ++ key_rows (word ws i / 65536) n;
        all = joined;
        count-is = omega (arith, more, s.count-is);
        is = all-is;
      }

pub stored-all : {ws l rows : List ℕ} {i count : ℕ} → Stored ws l rows i count → length ws ≤ i
    → (count ≡ length (rows_in ws)) × (rows ≡ sets l 0 (flat (rows_in ws)))
stored-all {ws} {l} {rows} {i} {count} s b =
    let e : s.front ≡ rows_in ws = sym (s.all ∙ ap (λ (r : List Row). s.front ++ r) (no_rows ws i b) ∙ append-nil s.front) in
    (s.count-is ∙ ap length e, s.is ∙ ap (λ (r : List Row). sets l 0 (flat r)) e)
