-- tables/is_wh.rs, generate_is_wh_trace: a row of the IS_WH table.
use Rattle.std.specs.Prelude.{ℕ, ◌/◌, ◌%◌, ◌^◌, List, [], ◌∷◌}

-- the row of a pair that is sent mu times: the half, the low and the high half of the word, μ
abbrev pub pair_row : ℕ → ℕ → ℕ → List ℕ
pair_row word half mu = half ∷ word % 2 ^ 16 ∷ word / 2 ^ 16 ∷ mu ∷ []

-- "Padding rows are all zero (`value = 0`, `μ = 0`, spec `pad = 0`)."
abbrev pub pad_row : List ℕ
pad_row = 0 ∷ 0 ∷ 0 ∷ 0 ∷ []
