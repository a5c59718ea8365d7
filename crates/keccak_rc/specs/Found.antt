-- When values occur among the tuples of the 32 rows of round constants.
use Rattle.std.specs.Prelude.{ℕ, suc, ◌<◌, Bool, ◌&&◌, List, [], ◌∷◌, ◌++◌, ◌≡◌, eqb, ltb, length, get_or}
use Rattle.lists.specs.Sum.{all_below}
use Rattle.bits.specs.Bits.{byte_at}
use Rattle.fips202.specs.Tables.{round_constant}
use Rattle.keccak_rc.specs.Columns.{NUM-ROWS, NUM-PRECOMPUTED-COLS}
use Rattle.keccak_rc.specs.Row.{rc_row}
use Rattle.keccak_rc.specs.Tuples.{rc_tuple}

-- Values occur among the tuples of the 32 rows, whatever their MU.
pub record RcFound (vs : List ℕ) : Type 0 where
  pub index : ℕ
  pub index-lt : index < NUM-ROWS
  pub values : (rc_tuple (rc_row index ++ (0 ∷ [])) 0).values ≡ vs

-- The test of it: nine values, a row below 32, and the eight bytes of that row's constant.
unfoldable pub rc_found : List ℕ → Bool
rc_found vs =
    eqb (length vs) NUM-PRECOMPUTED-COLS
    && (ltb (get_or vs 0 0) NUM-ROWS && all_below 8 (λ b. eqb (get_or vs (suc b) 0) (byte_at (round_constant (get_or vs 0 0)) b)))
