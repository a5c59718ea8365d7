-- What the rows of a list of keys are to be: proofs/Counts.antt and proofs/Order.antt prove it of `rows_of`.
use Rattle.std.specs.Prelude.{ℕ, ◌+◌, ◌*◌, ◌/◌, ◌≤◌, ◌<◌, ◌&&◌, ◌⊎◌, ◌≡◌, List, [], ◌∷◌, eqb, length, get_or}
use Rattle.lists.specs.Tab.{pick, word}
use Rattle.lists.specs.First.{count_below}
use Rattle.is_wh_rows.specs.Rows.{Row, row_of, MU-MAX}

-- how often the pair of a word and a half is among the keys
unfoldable pub times_sent : ℕ → ℕ → List ℕ → ℕ
times_sent w h keys = count_below (λ i. (eqb (word keys (2 * i)) w && eqb (word keys (2 * i + 1)) h)) (length keys / 2)

-- what the rows of the pair count together
unfoldable pub times_counted : ℕ → ℕ → List Row → ℕ
times_counted w h [] = 0
times_counted w h (r ∷ rs) = pick (eqb r.word w && eqb r.half h) r.mu 0 + times_counted w h rs

-- row i
abbrev pub nth : List Row → ℕ → Row
nth rows i = get_or rows i (row_of 0 0)

-- by word, and then by half
abbrev pub code_of : Row → ℕ
code_of r = r.word * 65536 + r.half

-- an earlier row has a lower key, or the same key and is full
unfoldable pub InOrder : List Row → Type 0
InOrder rows =
    (i j : ℕ) → i < j → j < length rows
    → (code_of (nth rows i) < code_of (nth rows j)) ⊎ ((code_of (nth rows i) ≡ code_of (nth rows j)) × ((nth rows i).mu ≡ MU-MAX))

-- "pins μ ∈ [0, 2^20)"; a row that is no padding counts something
unfoldable pub InRange : List Row → Type 0
InRange rows = (i : ℕ) → i < length rows → (1 ≤ (nth rows i).mu) × ((nth rows i).mu ≤ MU-MAX)
