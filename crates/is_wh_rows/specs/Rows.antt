-- tables/is_wh.rs, dedup_is_wh_rows: the rows of a list of keys. "One row per distinct (word, half) pair, with μ counting its sends."
-- "Rows come out sorted by key"; a pair that occurs "more than IS_WH_MU_MAX times is split over several rows".
use Rattle.std.specs.Prelude.{ℕ, ◌+◌, ◌-◌, ◌*◌, ◌/◌, ◌%◌, min, List, [], ◌∷◌, ◌++◌, eqb, ltb, length}
use Rattle.lists.specs.Tab.{pick, tab, word}
use Rattle.sort.specs.Sorted.{copies}

-- `IS_WH_MU_MAX`: 2^20 - 1
abbrev pub MU-MAX : ℕ
MU-MAX = 1048575

-- ---- keys
-- Keys are lent flat, two words each: the word, below 2^32, and the half, below 2^16. A key's code is one number, and
-- the order of the codes is the order of the keys: by word, and then by half.
unfoldable pub key_code : List ℕ → ℕ → ℕ
key_code keys i = word keys (2 * i) * 65536 + word keys (2 * i + 1)

unfoldable pub codes : List ℕ → List ℕ
codes keys = tab (length keys / 2) (key_code keys)

-- a word in its place among those in ascending order, once
unfoldable pub place : ℕ → List ℕ → List ℕ
place x [] = x ∷ []
place x (y ∷ ys) = pick (ltb x y) (x ∷ y ∷ ys) (pick (eqb x y) (y ∷ ys) (y ∷ place x ys))

-- the distinct words of a list, in ascending order
unfoldable pub distinct : List ℕ → List ℕ
distinct [] = []
distinct (x ∷ xs) = place x (distinct xs)

-- ---- rows
pub record Row : Type 0 where
  pub word : ℕ
  pub half : ℕ
  pub mu : ℕ

abbrev pub row_of : ℕ → ℕ → Row
row_of code n = record { word = code / 65536; half = code % 65536; mu = n }

-- how many rows a key has that occurs n times, and what row j of them counts: all rows but the last are full
abbrev pub rows_needed : ℕ → ℕ
rows_needed n = (n + 1048574) / MU-MAX

abbrev pub mu_of : ℕ → ℕ → ℕ
mu_of n j = min MU-MAX (n - j * MU-MAX)

unfoldable pub key_rows : ℕ → ℕ → List Row
key_rows code n = tab (rows_needed n) (λ j. row_of code (mu_of n j))

-- the rows of each of the words ks, in their order, each occurring as often as f says
unfoldable pub rows_for : (ℕ → ℕ) → List ℕ → List Row
rows_for f [] = []
rows_for f (k ∷ ks) = key_rows k (f k) ++ rows_for f ks

unfoldable pub rows_of : List ℕ → List Row
rows_of cs = rows_for (λ k. copies k cs) (distinct cs)

-- rows in a flat list, three words each
unfoldable pub flat : List Row → List ℕ
flat [] = []
flat (r ∷ rs) = r.word ∷ r.half ∷ r.mu ∷ flat rs
