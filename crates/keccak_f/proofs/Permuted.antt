-- The call on a state, by its conditions and by FIPS 202.
--     state-accepted    it is accepted exactly where nr is 1 to 24 and 25 words are lent
--     state-rounds, state-short, state-passes   what the check of the rounds and the length say of it
--     length-permuted   25 words are written
--     state-permuted    the first 25 words are then Keccak-p[1600, nr] of FIPS 202 of what they were, bit by bit
--     state-past        and the words past them what they were
use Prim.Native.Nat.{ℕ, ◌+◌, ◌*◌, ◌^◌, ◌≤◌, ◌<◌}
use mathlib.Core.Path.{◌≡◌, sym, ap, ◌∙◌, subst}
use mathlib.Core.Logic.{◌↔◌}
use mathlib.Core.Option.{some}
use mathlib.Core.List.{List}
use native.Mathlib.Omega.{arith}
use lib.ListN.{length, drop, get_or}
use Rattle.lists.specs.Tab.{tab, word}
use Rattle.lists.proofs.Laws.{length-tab, get_d-tab}
use Rattle.bits.specs.Bits.{bit}
use Rattle.fips202.specs.Fips.{Agree, keccak_p}
use Rattle.fips202.specs.Lanes.{Lanes, bits, keccak_pl}
use Rattle.fips202.proofs.Steps.{agree_trans}
use Rattle.fips202.proofs.Rounds.{keccak_p-agree, rounds-cong, length-rounds}
use Rattle.answer.specs.Limits.{MAX-ROUNDS}
use Rattle.answer.specs.Refusal.{accepted, not_rounds}
use Rattle.answer.specs.declared.Refusal.{Refusal}
use Rattle.answer.specs.declared.Refusal.TheVariants.{TooShort}
use Rattle.answer.proofs.Laws.{new_word, old-words}
use Rattle.answer.proofs.Refusals.{rounds-passed, rounds-later, rounds-still, rounds-accepted, room-accepted, room-refused}
use Rattle.keccak_f.specs.KeccakF.{LANES, permuted, state_refusal, state_after}

pub state-accepted : (nr room : ℕ) → (state_refusal nr room ≡ accepted) ↔ ((1 ≤ nr) × (nr ≤ MAX-ROUNDS) × (LANES ≤ room))
unfolding state_refusal
state-accepted nr room = (
  (λ e. let h = rounds-passed nr _ e in (h.0, h.1, (room-accepted room LANES).0 h.2)),
  (λ h. rounds-later nr _ h.0 h.1 ∙ (room-accepted room LANES).1 h.2),
)

module _ (nr room : ℕ) where
  pub state-rounds : {r : Refusal} → not_rounds nr accepted ≡ some r → state_refusal nr room ≡ some r
  unfolding state_refusal
  state-rounds e = rounds-still nr _ e

  pub state-short : not_rounds nr accepted ≡ accepted → room < LANES → state_refusal nr room ≡ some (TooShort LANES)
  unfolding state_refusal
  state-short e h = let k = (rounds-accepted nr).0 e in rounds-later nr _ k.0 k.1 ∙ room-refused room LANES _ h

  pub state-passes : not_rounds nr accepted ≡ accepted → LANES ≤ room → state_refusal nr room ≡ accepted
  state-passes e h = let k = (rounds-accepted nr).0 e in (state-accepted nr room).1 (k.0, k.1, h)

pub length-permuted : (nr : ℕ) (s : List ℕ) → length (permuted nr s) ≡ 25
unfolding permuted
length-permuted nr s = length-rounds _ nr (tab LANES (word s)) (length-tab LANES (word s))

-- the first 25 words as lanes
front-lane : (s : List ℕ) (i : ℕ) → i < 25 → get_or (tab LANES (word s)) i 0 ≡ get_or s i 0
front-lane s i h = get_d-tab LANES (word s) i 0 h

same-lanes : (s t : List ℕ) → ((i : ℕ) → i < 25 → get_or s i 0 ≡ get_or t i 0) → Agree (bits s) (bits t)
unfolding bits
same-lanes s t e x y z hx hy hz = ap (λ (l : ℕ). bit l z) (e (x + 5 * y) (omega (arith, hx, hy)))

module _ (nr : ℕ) (s : List ℕ) (passed : state_refusal nr (length s) ≡ accepted) where
  pub state-permuted : Lanes s → Agree (bits (state_after nr s)) (keccak_p nr (bits s))
  unfolding permuted
  state-permuted lanes =
      let front = tab LANES (word s) in
      let most : nr ≤ 24 = ((state-accepted nr (length s)).0 passed).1 in
      let ok : Lanes front = λ i h. subst (λ (n : ℕ). n < 2 ^ 64) (sym (front-lane s i h)) (lanes i h) in
      agree_trans
      (same-lanes (state_after nr s) (keccak_pl nr front)
      (λ i h. new_word (permuted nr s) s passed i (omega (arith, h, length-permuted nr s))))
      (agree_trans (keccak_p-agree nr most front ok) (rounds-cong _ nr (bits front) (bits s) (same-lanes front s (front-lane s))))

  pub state-past : drop (length (permuted nr s)) (state_after nr s) ≡ drop (length (permuted nr s)) s
  state-past = old-words (permuted nr s) s passed
