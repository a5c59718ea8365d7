-- `keccak_keys::put_key` meets its contract: the two words of the key.
use mathlib.Core.Path.{◌≡◌, ap, ◌∙◌}
use Prim.Native.Nat.{ℕ, ◌+◌}
use mathlib.Core.List.{List}
use native.Mathlib.Omega.{arith}
use lib.ListN.{length-set, set}
use lib.Seq.{sets}
use Rattle.lists.specs.Tab.{tab}
use Rattle.lists.proofs.Laws.{sets-two}
use Rattle.is_wh.specs.declared.IsWhKey.{IsWhKey}
use Rattle.is_wh.specs.Key.{of-dword}
use Rattle.keccak.specs.Row.{key_word}
use Rattle.keccak_keys.proofs.put_key.Goals as goal

two : (l : List ℕ) (at pointer : ℕ) (key : IsWhKey) → key ≡ of-dword pointer
    → set (set l at key.word) (at + 1) key.half ≡ sets l at (tab 2 (key_word (of-dword pointer)))
two l at pointer key e =
    ap (λ (k : IsWhKey). set (set l at k.word) (at + 1) k.half) e ∙ sets-two l at (key_word (of-dword pointer))

pub bounds-out-at-2 : goal.bounds-out-at-2
bounds-out-at-2 c = simp length-set (omega arith)

pub shape_of-out : goal.shape_of-out
shape_of-out c = simp length-set

pub returns : goal.returns
returns c = two c.args.out.now c.args.at _ _ c.of_dword-key.ensures
