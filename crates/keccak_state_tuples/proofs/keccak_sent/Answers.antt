-- `keccak_state_tuples::keccak_sent` meets its contract: the values of INPUT, at the first round.
use mathlib.Core.Path.{ap, ◌∙◌}
use Prim.Native.Nat.{ℕ}
use Rattle.lists.specs.Tab.{word}
use Rattle.answer.specs.Refusal.{overwrite}
use Rattle.keccak.specs.Columns.{input-state}
use Rattle.keccak.specs.Tuples.{keccak_values, core_sent}
use Rattle.keccak_state_tuples.proofs.Tuples.{sent-answer}
use Rattle.keccak_state_tuples.proofs.keccak_sent.Goals as goal

pub returns : goal.returns
unfolding core_sent
returns c =
    let row = c.args.row.now in
    record {
      answer = sent-answer row c.args.nr;
      words = c.put_keccak_values.ensures
          ∙ ap (λ (r : ℕ). overwrite (keccak_values (word row 0) (word row 1) r (λ x y b. word row (input-state x y b))) c.args.out.now) c.first_round-round.ensures;
    }
