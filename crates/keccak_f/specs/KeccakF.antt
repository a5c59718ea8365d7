-- Keccak-p[1600, nr] of FIPS 202 on a lent state, Keccak-f[1600] where nr is 24: what the call refuses, and what it leaves.
-- proofs/Permuted.antt says the same by FIPS 202's own definition, bit by bit.
use Rattle.std.specs.Prelude.{ℕ, List, length}
use Rattle.std.proofs.Math.Option.{Option}
use Rattle.lists.specs.Tab.{tab, word}
use Rattle.fips202.specs.Lanes.{keccak_pl}
use Rattle.answer.specs.Refusal.{accepted, too_short, not_rounds, overwrite, afterwards}
use Rattle.answer.specs.declared.Refusal.{Refusal}

-- the lanes of a state; lane (x, y) is word x + 5y of the slice
abbrev pub LANES : ℕ
LANES = 25

-- "Rounds run from 24 − nr to 23": the first 25 words, permuted
unfoldable pub permuted : ℕ → List ℕ → List ℕ
permuted nr s = keccak_pl nr (tab LANES (word s))

-- 8: "nr is 0 or above 24, detail nr, before 1"; 3: "a lent slice too short, detail the length needed"
unfoldable pub state_refusal : ℕ → ℕ → Option Refusal
state_refusal nr room = not_rounds nr (too_short room LANES accepted)

-- what it leaves: the lanes permuted, and past them the old words
abbrev pub state_after : ℕ → List ℕ → List ℕ
state_after nr s = afterwards (state_refusal nr (length s)) (overwrite (permuted nr s) s) s
