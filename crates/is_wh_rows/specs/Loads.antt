-- What is sorted: keys that follow one another and are equal are one word, a load, which holds their code and, in its lowest 16 bits, how
-- many they are less one.
use Rattle.std.specs.Prelude.{ℕ, zero, suc, ◌+◌, ◌-◌, ◌*◌, ◌/◌, ◌%◌, Bool, ◌&&◌, List, [], ◌∷◌, ◌++◌, eqb, ltb, length, set}
use Rattle.lists.specs.Tab.{pick, word}
use Rattle.is_wh_rows.specs.Rows.{Row, key_code, distinct, rows_for}

abbrev pub load_code : ℕ → ℕ
load_code w = w / 65536

abbrev pub load_count : ℕ → ℕ
load_count w = w % 65536 + 1

abbrev pub last_of : List ℕ → ℕ
last_of l = word l (length l - 1)

-- whether the last load has this code and room for one more
unfoldable pub joins : List ℕ → ℕ → Bool
joins l c = ltb 0 (length l) && (eqb (load_code (last_of l)) c && ltb (last_of l % 65536) 65535)

unfoldable pub joined : List ℕ → ℕ → List ℕ
joined l c = pick (joins l c) (set l (length l - 1) (last_of l + 1)) (l ++ (c * 65536 ∷ []))

-- the loads of the codes f 0, f 1, .., f (n - 1)
unfoldable pub loads_of : (ℕ → ℕ) → ℕ → List ℕ
loads_of f zero = []
loads_of f (suc n) = joined (loads_of f n) (f n)

unfoldable pub loads : List ℕ → List ℕ
loads keys = loads_of (key_code keys) (length keys / 2)

-- ---- what loads say (these help contracts between functions)
-- how often a code occurs, how many keys there are, and the codes one by one
unfoldable pub weight : ℕ → List ℕ → ℕ
weight k [] = 0
weight k (w ∷ l) = pick (eqb k (load_code w)) (load_count w) 0 + weight k l

unfoldable pub total : List ℕ → ℕ
total [] = 0
total (w ∷ l) = load_count w + total l

unfoldable pub codes_in : List ℕ → List ℕ
codes_in [] = []
codes_in (w ∷ l) = load_code w ∷ codes_in l

unfoldable pub rows_in : List ℕ → List Row
rows_in l = rows_for (λ k. weight k l) (distinct (codes_in l))
