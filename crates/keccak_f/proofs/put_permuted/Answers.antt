-- `put_permuted` meets its contract: the lanes are the first words, and what is stored is the state after the rounds.
use mathlib.Core.Path.{◌≡◌, sym, ap, ◌∙◌}
use mathlib.Core.List.{List}
use Prim.Native.Nat.{ℕ, ◌+◌}
use native.Mathlib.Nat.{zero-add}
use native.Mathlib.Omega.{arith}
use lib.ListN.{length, get_or}
use lib.Seq.{sets}
use Rattle.lists.specs.Tab.{tab, word}
use Rattle.lists.proofs.Laws.{tab-same, list-tab}
use Rattle.fips202.specs.Lanes.{keccak_pl}
use Rattle.keccak_f.specs.KeccakF.{permuted}
use Rattle.keccak_f.proofs.Permuted.{length-permuted}
use Rattle.keccak_f.proofs.put_permuted.Goals as goal

-- the lanes after the rounds, where those before them are the first words
permuted-lanes : (nr : ℕ) (s : List ℕ) {before after : List ℕ} → before ≡ tab 25 (λ k. get_or s (0 + k) 0) → after ≡ keccak_pl nr before
    → after ≡ permuted nr s
unfolding permuted
permuted-lanes nr s b e = e ∙ ap (keccak_pl nr) (b ∙ tab-same 25 (λ k. get_or s (0 + k) 0) (word s) (λ k _. ap (λ (i : ℕ). get_or s i 0) (zero-add k)))

pub put_words-requires : goal.put_words-requires
put_words-requires c =
    let a = c.args in
    let e = permuted-lanes a.nr a.state.now c.lanes_at-lanes.ensures c.keccak_p-after.ensures.lanes in
    (omega (arith, ap length e, length-permuted a.nr a.state.now), omega arith)

pub returns : goal.returns
returns c =
    let a = c.args in
    let w = c.keccak_p-after.result.lanes in
    let e = permuted-lanes a.nr a.state.now c.lanes_at-lanes.ensures c.keccak_p-after.ensures.lanes in
    let n : length w ≡ 25 = ap length e ∙ length-permuted a.nr a.state.now in
    c.put_words.ensures ∙ ap (sets a.state.now 0) (sym (list-tab w 25 n) ∙ e)
