-- A segment that meets all that `SumsHold` asks but for the bus IsB20: proofs/ForgedSegment.antt.
--     forged                an IS_WH table that receives a pair which is no 32-bit word and 16-bit half
--     bent_core, bent_round   a core row that sends that pair, and its 24 round rows
--     Forgery               what is so of such a segment
use Rattle.std.specs.Prelude.{List, [], ◌∷◌, ◌≡◌, ℕ, ◌-◌, ◌*◌, ◌^◌, ◌≤◌, set}
use Rattle.lists.specs.Tab.{table_of}
use Rattle.field.specs.Field.{p}
use Rattle.tuple.specs.declared.Bus.{Bus}
use Rattle.tuple.specs.declared.Bus.TheVariants.{IsB20}
use Rattle.fips202.specs.Lanes.{keccak_pl}
use Rattle.keccak.specs.Columns.{NUM-COLUMNS, state-ptr}
use Rattle.keccak.specs.Row.{core_row}
use Rattle.keccak.specs.declared.KeccakOperation.{KeccakOperation}
use Rattle.keccak_rnd.specs.Row.{round_table}
use Rattle.verdict.specs.Kind.{rows, row, Active}
use Rattle.verdict.specs.CoreAndRound.{core_layout, core_kind, round_kind}
use Rattle.verdict.specs.Claims.{Addressed}
use Rattle.verdict.specs.Honest.{flat_state}
use Rattle.bus_sums.specs.Sums.{Fillings, Constrained, InField, is_wh_layout, Ours, Agree, nobody, MAX-PAIRS}

-- columns: the half, the low and the high half of the word, MU
abbrev pub forged : List ℕ
forged =
    0 ∷ 131072 ∷ 1407374883225598 ∷ 1
    ∷ 0 ∷ 131072 ∷ (p - 2) ∷ (p - 1)
    ∷ 0 ∷ 131077 ∷ (p - 2) ∷ 1
    ∷ 0 ∷ 131077 ∷ 1407374883225598 ∷ (p - 1)
    ∷ 0 ∷ 0 ∷ 0 ∷ 2
    ∷ 0 ∷ 5 ∷ 0 ∷ (p - 1)
    ∷ 0 ∷ 65531 ∷ 65535 ∷ 24 ∷ []

-- Keccak-f[1600] of the zero state, at an address whose high word is 2^32 - 5
abbrev pub operation : KeccakOperation
operation =
    record {
      timestamp = 5;
      state_addr = (2 ^ 32 - 5) * 2 ^ 32;
      input = flat_state 0;
      output = keccak_pl 24 (flat_state 0);
      segment = 0;
    }

-- its row, but for the high limb of pointer 0: p - 5 is 2^32 - 5 less 2^32 mod p, so that the high carry is 1
unfoldable pub bent : List ℕ
bent = set (core_row operation) (state-ptr 0 2) (p - 5)

abbrev pub bent_core : List ℕ
bent_core = table_of 1 NUM-COLUMNS (λ r. bent)

abbrev pub bent_round : List ℕ
bent_round = round_table 24 1 1 (λ i. operation)

-- all that `SumsHold` and `InField` say but for the bus IsB20; and yet a row is active that is not where it should be
pub record Forgery (core round : List ℕ) (w : Fillings) : Type 0 where
  pub core-constrained : Constrained (core_kind 24) core
  pub round-constrained : Constrained round_kind round
  pub few-pairs : rows is_wh_layout w.is-wh ≤ MAX-PAIRS
  pub in_field : InField w
  pub agree : (b : Bus) → Ours b → (b ≡ IsB20 → ⊥) → (v : List ℕ) → Agree 24 core round w nobody b v
  pub active : Active core_layout core 0
  pub misplaced : Addressed (row core_layout core 0) → ⊥
