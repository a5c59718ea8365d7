-- Two lists of operations, one after the other: the round rows of both are the rows of the first and then those of the
-- second, so that parts of a list can be written into parts of one table.
use mathlib.Core.Path.{◌≡◌, ap, ap₂, ◌∙◌}
use mathlib.Core.List.{List, ◌++◌}
use Prim.Native.Nat.{ℕ, ◌+◌, ◌*◌, ◌/◌, ◌%◌, ◌<◌}
use native.Mathlib.Nat.{add_comm, add-mul, add-mul-div_right, add-mul-mod_self_right, div-lt_iff_lt-mul}
use native.Mathlib.Omega.{arith}
use lib.ListN.{length}
use Rattle.lists.specs.Tab.{table_of}
use Rattle.lists.proofs.Laws.{table-add}
use Rattle.keccak.specs.Row.{OP-WORDS, op_at}
use Rattle.keccak.specs.Refusals.{op_count}
use Rattle.keccak.specs.declared.KeccakOperation.{KeccakOperation}
use Rattle.keccak.proofs.Joined.{count-joined, op-first, op-second}
use Rattle.keccak_rnd.specs.Row.{op_row, round_rows}

module _ (nr : ℕ) (some : 0 < nr) (a b : List ℕ) (whole : length a % OP-WORDS ≡ 0) where
  pub round-rows-joined : round_rows nr (op_count (a ++ b)) (op_at (a ++ b)) ≡ round_rows nr (op_count a) (op_at a) ++ round_rows nr (op_count b) (op_at b)
  unfolding round_rows
  round-rows-joined =
      ap (λ (n : ℕ). round_rows nr n (op_at (a ++ b))) (count-joined a b whole)
      ∙ ap (λ (m : ℕ). table_of m 1480 row) (add-mul (op_count a) (op_count b) nr)
      ∙ table-add (op_count a * nr) (op_count b * nr) 1480 row (λ q. op_row nr (op_at a (q / nr)) (q % nr)) (λ q. op_row nr (op_at b (q / nr)) (q % nr)) (omega arith)
      (λ q h. ap (λ (o : KeccakOperation). op_row nr o (q % nr)) (op-first a b whole (q / nr) ((div-lt_iff_lt-mul some).1 h)))
      (λ q _. ap₂ (λ (i j : ℕ). op_row nr (op_at (a ++ b) i) j) (places (op_count a) q).0 (places (op_count a) q).1 ∙ ap (λ (o : KeccakOperation). op_row nr o (q % nr)) (op-second a b whole (q / nr)))
    where
      row : ℕ → List ℕ
      row q = op_row nr (op_at (a ++ b) (q / nr)) (q % nr)

      places : (m q : ℕ) → ((m * nr + q) / nr ≡ m + q / nr) × ((m * nr + q) % nr ≡ q % nr)
      places m q = (
        ap (λ (k : ℕ). k / nr) (add_comm (m * nr) q) ∙ add-mul-div_right q m some ∙ add_comm (q / nr) m,
        ap (λ (k : ℕ). k % nr) (add_comm (m * nr) q) ∙ add-mul-mod_self_right q m nr,
      )
