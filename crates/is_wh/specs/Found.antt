-- Which pairs the IsWh bus takes.
use Rattle.std.specs.Prelude.{ℕ, ◌^◌, ◌<◌, Bool, ◌&&◌, List, ◌≡◌, eqb, ltb, length, get_or}

-- "IsWh must be a 32-bit word and a 16-bit half": a statement, and the test of it
unfoldable pub IsWhFound : List ℕ → Type 0
IsWhFound vs = (length vs ≡ 2) × (get_or vs 0 0 < 2 ^ 32) × (get_or vs 1 0 < 2 ^ 16)

unfoldable pub is_wh_found : List ℕ → Bool
is_wh_found vs = eqb (length vs) 2 && (ltb (get_or vs 0 0) (2 ^ 32) && ltb (get_or vs 1 0) (2 ^ 16))
