-- tables/keccak_rc.rs, `generate_row`: the fixed columns of a row.
use Rattle.std.specs.Prelude.{ℕ, List, ◌∷◌, length}
use Rattle.std.proofs.Math.Option.{Option}
use Rattle.lists.specs.Tab.{tab}
use Rattle.bits.specs.Bits.{byte_at}
use Rattle.fips202.specs.Tables.{round_constant}
use Rattle.answer.specs.Refusal.{accepted, overwrite, afterwards, past_end, too_short}
use Rattle.answer.specs.declared.Refusal.{Refusal}
use Rattle.keccak_rc.specs.Columns.{NUM-ROWS, NUM-PRECOMPUTED-COLS}

-- "32 rows; rows 24 to 31 have a zero constant." The nine fixed words of row r: r, then the eight bytes of its
-- constant.
unfoldable pub rc_row : ℕ → List ℕ
rc_row r = r ∷ tab 8 (byte_at (round_constant r))

-- What `generate_row` refuses: 1 a row past the last, 3 a slice shorter than the fixed columns.
unfoldable pub rc_row_refusal : ℕ → List ℕ → Option Refusal
rc_row_refusal r out =
    past_end NUM-ROWS r
    (too_short (length out) NUM-PRECOMPUTED-COLS
    accepted)

-- What it leaves in the slice that it is lent: the row, or the old words where it is refused.
abbrev pub rc_row_after : ℕ → List ℕ → List ℕ
rc_row_after r out = afterwards (rc_row_refusal r out) (overwrite (rc_row r) out) out
