-- Which round rows pass: an active row that is the written one for its own timestamp, ROUND and START, and a row whose MU is 0 and that is idle; no other.
--     mu-is            MU of a row that passes is 0 or 1
--     passes-idle      a row that passes and whose MU is 0 is idle (the other way: `idle-passes`, Completeness.antt)
--     passes-exactly   a row passes exactly where it is worked or idle
--     free-words       a row whose MU is 0 passes whatever stands in the columns that are not held
use mathlib.Core.Path.{◌≡◌, refl, sym, ap, subst, ◌∙◌}
use mathlib.Core.Logic.{◌⊎◌, inl, inr, ◌↔◌}
use mathlib.Core.List.{List}
use Prim.Native.Nat.{ℕ, ◌+◌, ◌*◌, ◌/◌, ◌%◌, ◌<◌}
use native.Mathlib.Omega.{arith}
use lib.ListN.{length}
use Rattle.lists.specs.Tab.{word}
use Rattle.lists.proofs.Then.{by_le, then-past}
use Rattle.field.specs.Field.{p}
use Rattle.templates.specs.Templates.{is_bit}
use Rattle.templates.proofs.Bit.{bit_is}
use Rattle.fips202.specs.Lanes.{Lanes}
use Rattle.matching.proofs.Matching.{bytes_of}
use Rattle.keccak.specs.Columns.{lane_column}
use Rattle.keccak.specs.Row.{state_lanes}
use Rattle.keccak.proofs.State.{state-lanes}
use Rattle.keccak_rnd.specs.Columns.{ROUND, START, MU, cxz-left, cxz-right-bit, rot-left, rot-right}
use Rattle.keccak_rnd.specs.Values.{round_value}
use Rattle.keccak_rnd.specs.Passes.{RoundPasses, Worked, Idle, Held}
use Rattle.keccak_rnd.proofs.Active.{lane-column, carry-column, f-left, f-rot, v-carry}
use Rattle.keccak_rnd.proofs.Cells.{written-cells}
use Rattle.keccak_rnd.proofs.Completeness.{round-written, idle-passes}
use Rattle.keccak_rnd.proofs.Soundness.{round-sound, round-unique}

-- the last value
pub round-bit : (row : List ℕ) → round_value row 140 ≡ is_bit (word row MU)
unfolding round_value
round-bit row = then-past 20 140 _ _ (omega arith) ∙ then-past 20 120 _ _ (omega arith) ∙ then-past 100 100 _ _ (omega arith)

module _ (row : List ℕ) (small : (k : ℕ) → word row k < p) (ok : RoundPasses row) where
  pub mu-is : (word row MU ≡ 0) ⊎ (word row MU ≡ 1)
  mu-is = by_le (word row MU) 0 (λ l. inl (omega arith)) (λ l. inr (omega (arith, bit_is (word row MU) (small MU) (sym (round-bit row) ∙ ok.values 140 (omega arith)))))

  pub passes-idle : word row MU ≡ 0 → Idle row
  passes-idle e =
      record {
        off = e;
        left-bytes = left;
        right-bits = λ k l. subst (λ (j : ℕ). word row j < 2) (sym (carry-column k)) (bit_is _ (small (cxz-right-bit (k / 4) (k % 4))) (v-carry row ok (k / 4) (k % 4) (omega arith) (omega arith)));
        rot-left-bytes = λ k l. subst (λ (j : ℕ). word row j < 256) (sym (lane-column 663 k l)) (rot k l).0;
        rot-right-bytes = λ k l. subst (λ (j : ℕ). word row j < 256) (sym (lane-column 863 k l)) (rot k l).1;
      }
    where
      even : (k : ℕ) → k % 2 ≡ 0 → cxz-left (k / 8) (2 * (k / 2 % 4)) ≡ 363 + k
      even k h = omega arith

      odd : (k : ℕ) → k % 2 ≡ 1 → cxz-left (k / 8) (2 * (k / 2 % 4) + 1) ≡ 363 + k
      odd k h = omega arith

      left : (k : ℕ) → k < 40 → word row (363 + k) < 256
      left k l =
          let b = bytes_of _ _ (f-left row ok (k / 8) (k / 2 % 4) (omega arith) (omega arith)) in
          by_le (k % 2) 0 (λ h. subst (λ (j : ℕ). word row j < 256) (even k (omega arith)) b.0) (λ h. subst (λ (j : ℕ). word row j < 256) (odd k (omega arith)) b.1)

      rot : (k : ℕ) → k < 200 → (word row (rot-left (k / 8 % 5) (k / 40) (k % 8)) < 256) × (word row (rot-right (k / 8 % 5) (k / 40) (k % 8)) < 256)
      rot k l = bytes_of _ _ (f-rot row ok (k / 8 % 5) (k / 40) (k % 8) (omega arith) (omega arith) (omega arith))

  pub passes-worked : length row ≡ 1480 → word row MU ≡ 1 → Worked row
  passes-worked size on =
      let s = round-sound row small ok on in
      record {
        round-below = s.round;
        start-bytes = λ k l. subst (λ (j : ℕ). word row j < 256) (sym (lane-column 3 k l)) (s.bytes (k / 8 % 5) (k / 40) (k % 8) (omega arith) (omega arith) (omega arith));
        same = round-unique row small ok on size;
      }

module _ (row : List ℕ) (w : Worked row) where
  worked-lanes : Lanes (state_lanes START row)
  worked-lanes = state-lanes START row (λ x y b hx hy hb. subst (λ (j : ℕ). word row j < 256) (e x y b) (w.start-bytes ((x + 5 * y) * 8 + b) (omega arith)))
    where
      e : (x y b : ℕ) → 3 + ((x + 5 * y) * 8 + b) ≡ lane_column START x y b
      e x y b = omega arith

  pub worked-passes : RoundPasses row
  worked-passes = subst RoundPasses (sym w.same) (round-written (word row) (word row ROUND) (state_lanes START row) worked-lanes w.round-below)

  pub worked-on : word row MU ≡ 1
  worked-on = ap (λ (x : List ℕ). word x MU) w.same ∙ (written-cells (word row) (word row ROUND) (state_lanes START row)).mu-is

-- THE ROWS THAT PASS
pub passes-exactly : (row : List ℕ) → length row ≡ 1480 → ((k : ℕ) → word row k < p) → RoundPasses row ↔ (Worked row ⊎ Idle row)
passes-exactly row size small = (there, back)
  where
    there : RoundPasses row → Worked row ⊎ Idle row
    there ok = elim (mu-is row small ok) [ inl e ↦ inr (passes-idle row small ok e) | inr e ↦ inl (passes-worked row small ok size e) ]

    back : Worked row ⊎ Idle row → RoundPasses row
    back (inl w) = worked-passes row w
    back (inr i) = idle-passes row i

-- ---- what is free in a row whose MU is 0
held-idle : (row other : List ℕ) → ((k : ℕ) → Held k → word other k ≡ word row k) → Idle row → Idle other
held-idle row other same h =
    record {
      off = same 1479 (inr (inr refl)) ∙ h.off;
      left-bytes = λ k l. subst (λ (n : ℕ). n < 256) (sym (same (363 + k) (inl (omega arith, omega arith)))) (h.left-bytes k l);
      right-bits = λ k l. subst (λ (n : ℕ). n < 2) (sym (same (403 + k) (inl (omega arith, omega arith)))) (h.right-bits k l);
      rot-left-bytes = λ k l. subst (λ (n : ℕ). n < 256) (sym (same (663 + k) (inr (inl (omega arith, omega arith))))) (h.rot-left-bytes k l);
      rot-right-bytes = λ k l. subst (λ (n : ℕ). n < 256) (sym (same (863 + k) (inr (inl (omega arith, omega arith))))) (h.rot-right-bytes k l);
    }

pub free-words : (row other : List ℕ) → ((k : ℕ) → word row k < p) → word row MU ≡ 0 → ((k : ℕ) → Held k → word other k ≡ word row k) → RoundPasses row → RoundPasses other
free-words row other small off same ok = idle-passes other (held-idle row other same (passes-idle row small ok off))
