-- `keccak_tuples::address::addr_bytes_tuple` meets its contract: two columns are stored.
use mathlib.Core.Path.{◌≡◌, ap, ◌∙◌}
use Prim.Native.Nat.{ℕ, ◌+◌, ◌*◌}
use native.Mathlib.Omega.{arith}
use mathlib.Core.List.{[], ◌∷◌}
use Rattle.answer.proofs.Laws.{sets-overwrite}
use Rattle.keccak.specs.Tuples.{addr_bytes_tuple}
use Rattle.lists.specs.Tab.{word}
use Rattle.answer.specs.Refusal.{overwrite}
use Rattle.keccak_tuples.proofs.address.addr_bytes_tuple.Goals as goal

pub returns : goal.returns
unfolding addr_bytes_tuple
returns c = record {
  answer = c.sent.ensures;
  words = sets-overwrite _ (_ ∷ _ ∷ []) c.requires.2
      ∙ ap (λ (k : ℕ). overwrite (word c.args.row.now (2 + 2 * c.args.i) ∷ word c.args.row.now k ∷ []) c.args.out.now) (next c.args.i);
}
  where
    next : (i : ℕ) → 2 + 2 * i + 1 ≡ 2 + (2 * i + 1)
    next i = omega arith
