-- Which rules of a round row are needed, each by itself (keccak_rnd_needed/specs/Needed.antt): the 929, and no other.
--     Needed j    there is an active row of words below p, of one of the 24 rounds, all whose rules hold but rule j, and which sends a false state
-- proofs/Exactly.antt: `needed-exactly`; and of the other 243 rules, `follows`: each follows, in an active row, from the 1,171 others.
use Rattle.std.specs.Prelude.{ℕ, List}
use Rattle.keccak_rnd_needed.specs.Needed.{PassesBut, Wrong}

abbrev pub Needed : ℕ → Type 0
Needed j = (row : List ℕ) × PassesBut j row × Wrong row
