-- Which rows pass the kept tuples: an active row that is the written one for its own timestamp, ROUND and START, and a row whose MU is 0 and that is idle in the sense of
-- `LeanIdle`; no other. And which tuples are not kept.
use mathlib.Core.Path.{◌≡◌, refl, sym, ap, subst, ◌∙◌}
use mathlib.Core.Logic.{◌⊎◌, inl, inr, ◌↔◌}
use mathlib.Core.Bool.{true, false}
use mathlib.Core.List.{List}
use Prim.Native.Nat.{ℕ, ◌+◌, ◌-◌, ◌*◌, ◌/◌, ◌%◌, ◌≤◌, ◌<◌}
use native.Mathlib.Omega.{arith}
use borrow.Author.Tests.{leb-true}
use lib.Dec.{leb}
use lib.ListN.{length}
use Rattle.lists.specs.Tab.{word}
use Rattle.lists.proofs.Then.{by_le, then-lt, then-past, then-all}
use Rattle.lists.proofs.Tests.{true-not-false, not-true}
use Rattle.field.specs.Field.{p, fmul}
use Rattle.field.proofs.Field.{fmul-zero}
use Rattle.bits.proofs.BitLaws.{by_bit}
use Rattle.templates.specs.Templates.{is_bit}
use Rattle.templates.proofs.Bit.{bit_is}
use Rattle.matching.specs.Matching.{Matched}
use Rattle.matching.proofs.Matching.{bytes_of, of-bytes, of-keccak}
use Rattle.keccak.specs.Columns.{lane_column}
use Rattle.keccak_rnd.specs.Columns.{MU, cxz-right-bit, rot-left, rot-right}
use Rattle.keccak_rnd.specs.Values.{round_value}
use Rattle.keccak_rnd.specs.Tuples.{round_tuple}
use Rattle.keccak_rnd.specs.Passes.{Worked}
use Rattle.keccak_rnd.proofs.Active.{lane-column, carry-column}
use Rattle.keccak_rnd.proofs.Passing.{round-bit, passes-worked, worked-passes}
use Rattle.keccak_rnd_lean.specs.Lean.{kept, LeanPasses, LeanIdle}
use Rattle.keccak_rnd_lean.proofs.Enough.{kept-below, kept-middle, kept-rot, kept_above, f-kept, v-carry, lean-enough, lean-less}

-- ---- which are not kept
dropped-left : (i : ℕ) → 163 ≤ i → i < 183 → kept i ≡ false
unfolding kept
dropped-left i l h = then-past 163 i _ _ l ∙ then-lt 20 (i - 163) _ _ (omega arith)

rot-test : (i : ℕ) → 423 ≤ i → i < 623 → kept i ≡ leb 2 ((i - 163 - 20 - 240) % 8 % 4)
unfolding kept
rot-test i l h =
    then-past 163 i _ _ (omega arith) ∙ then-past 20 (i - 163) _ _ (omega arith) ∙ then-past 240 (i - 163 - 20) _ _ (omega arith) ∙ then-lt 200 (i - 163 - 20 - 240) _ _ (omega arith)

kept_byte_lem : (i : ℕ) → 423 ≤ i → i < 623 → kept i ≡ true → 2 ≤ (i - 423) % 4
kept_byte_lem i l h e = omega (arith, leb-true 2 ((i - 163 - 20 - 240) % 8 % 4) (sym (rot-test i l h) ∙ e))

-- tuples 163 to 182, and those of 423 to 622 of byte 0, 1, 4 or 5
abbrev pub Dropped : ℕ → Type 0
Dropped i = ((163 ≤ i) × (i < 183)) ⊎ ((423 ≤ i) × (i < 623) × ((i - 423) % 4 < 2))

pub kept-exactly : (i : ℕ) → (kept i ≡ false) ↔ Dropped i
kept-exactly i = (there, back)
  where
    no : {A : Type 0} → kept i ≡ false → kept i ≡ true → A
    no e f = absurd (true-not-false (sym f ∙ e))

    there : kept i ≡ false → Dropped i
    there e =
        by_le 163 i
        (λ a. by_le 183 i
        (λ b. by_le 423 i
        (λ c. by_le 623 i
        (λ d. no e (kept_above i d))
        (λ d. by_le 2 ((i - 423) % 4) (λ f. no e (kept-rot i c d f)) (λ f. inr (c, d, f))))
        (λ c. no e (kept-middle i b c)))
        (λ b. inl (a, b)))
        (λ a. no e (kept-below i a))

    back : Dropped i → kept i ≡ false
    back (inl h) = dropped-left i h.0 h.1
    back (inr h) = not-true (kept i) (λ e. omega (arith, h.2, kept_byte_lem i h.0 h.1 e))

-- ---- a row whose MU is 0
module _ (row : List ℕ) (small : (k : ℕ) → word row k < p) (ok : LeanPasses row) where
  pub lean-mu : (word row MU ≡ 0) ⊎ (word row MU ≡ 1)
  lean-mu = by_le (word row MU) 0 (λ l. inl (omega arith)) (λ l. inr (omega (arith, bit_is (word row MU) (small MU) (sym (round-bit row) ∙ ok.values 140 (omega arith)))))

  pub lean-idle : word row MU ≡ 0 → LeanIdle row
  lean-idle e =
      record {
        off = e;
        right-bits = λ k l. subst (λ (j : ℕ). word row j < 2) (sym (carry-column k)) (bit_is _ (small (cxz-right-bit (k / 4) (k % 4))) (v-carry row ok (k / 4) (k % 4) (omega arith) (omega arith)));
        rot-left-bytes = λ k l h. subst (λ (j : ℕ). word row j < 256) (sym (lane-column 663 k l)) (rot k l h).0;
        rot-right-bytes = λ k l h. subst (λ (j : ℕ). word row j < 256) (sym (lane-column 863 k l)) (rot k l h).1;
      }
    where
      rot : (k : ℕ) → k < 200 → 2 ≤ k % 4 → (word row (rot-left (k / 8 % 5) (k / 40) (k % 8)) < 256) × (word row (rot-right (k / 8 % 5) (k / 40) (k % 8)) < 256)
      rot k l h = bytes_of _ _ (f-kept row ok (k / 8 % 5) (k / 40) (k % 8) (omega arith) (omega arith) (omega arith) (omega arith))

module _ (row : List ℕ) (h : LeanIdle row) where
  no_value : (n : ℕ) → fmul (word row MU) n ≡ 0
  no_value n = ap (λ (m : ℕ). fmul m n) h.off ∙ fmul-zero n

  idle-values : (i : ℕ) → i < 141 → round_value row i ≡ 0
  unfolding round_value
  idle-values i l =
      then-all (λ n. n ≡ 0) 20 _ _ i (λ a. by_bit (λ n. is_bit n ≡ 0) refl refl _ (subst (λ (k : ℕ). word row k < 2) (carry-column i) (h.right-bits i a)))
      (λ i e₁. then-all (λ n. n ≡ 0) 20 _ _ i (λ a. no_value _)
      (λ i e₂. then-all (λ n. n ≡ 0) 100 _ _ i (λ a. no_value _)
      (λ i e₃. ap is_bit h.off)))

  rot-bytes : (x y b : ℕ) → x < 5 → y < 5 → b < 8 → 2 ≤ b % 4 → (word row (rot-left x y b) < 256) × (word row (rot-right x y b) < 256)
  rot-bytes x y b hx hy hb g =
      let k : ℕ = (x + 5 * y) * 8 + b in (
        subst (λ (j : ℕ). word row j < 256) (e 663 x y b) (h.rot-left-bytes k (omega arith) (omega arith)),
        subst (λ (j : ℕ). word row j < 256) (e 863 x y b) (h.rot-right-bytes k (omega arith) (omega arith)),
      )
    where
      e : (base x y b : ℕ) → base + ((x + 5 * y) * 8 + b) ≡ lane_column base x y b
      e base x y b = omega arith

  quiet : {A : Type 0} → (word row MU ≡ 0 → ⊥) → A
  quiet n = absurd (n h.off)

  gone : {A : Type 0} (i : ℕ) → 163 ≤ i → i < 183 → kept i ≡ true → A
  gone i l g e = absurd (true-not-false (sym e ∙ dropped-left i l g))

  idle-lookups : (i : ℕ) → i < 1031 → kept i ≡ true → Matched (round_tuple row i)
  unfolding round_tuple
  idle-lookups i l k =
      then-all Matched 1 _ _ i (λ a n. of-keccak _)
      (λ i₁ e₁. then-all Matched 1 _ _ i₁ (λ a n. of-keccak _)
      (λ i₂ e₂. then-all Matched 1 _ _ i₂ (λ a n. quiet n)
      (λ i₃ e₃. then-all Matched 40 _ _ i₃ (λ a n. quiet n)
      (λ i₄ e₄. then-all Matched 120 _ _ i₄ (λ a n. quiet n)
      (λ i₅ e₅. then-all Matched 20 _ _ i₅ (λ a n. gone i (omega arith) (omega arith) k)
      (λ i₆ e₆. then-all Matched 40 _ _ i₆ (λ a n. quiet n)
      (λ i₇ e₇. then-all Matched 200 _ _ i₇ (λ a n. quiet n)
      (λ i₈ e₈. then-all Matched 200 _ _ i₈
      (λ a n. let r = rot-bytes (i₈ / 40) (i₈ / 8 % 5) (i₈ % 8) (omega arith) (omega arith) (omega arith) (omega (arith, kept_byte_lem i (omega arith) (omega arith) k)) in of-bytes _ _ r.0 r.1)
      (λ i₉ e₉. then-all Matched 200 _ _ i₉ (λ a n. quiet n)
      (λ i₁₀ e₁₀. then-all Matched 200 _ _ i₁₀ (λ a n. quiet n)
      (λ i₁₁ e₁₁ n. quiet n)))))))))))

  pub idle-lean : LeanPasses row
  idle-lean = record { values = idle-values; lookups = idle-lookups }

-- THE ROWS THAT PASS
pub lean-exactly : (row : List ℕ) → length row ≡ 1480 → ((k : ℕ) → word row k < p) → LeanPasses row ↔ (Worked row ⊎ LeanIdle row)
lean-exactly row size small = (there, back)
  where
    there : LeanPasses row → Worked row ⊎ LeanIdle row
    there ok = elim (lean-mu row small ok) [ inl e ↦ inr (lean-idle row small ok e) | inr e ↦ inl (passes-worked row small (lean-enough row small ok e) size e) ]

    back : Worked row ⊎ LeanIdle row → LeanPasses row
    back (inl w) = lean-less row (worked-passes row w)
    back (inr i) = idle-lean row i
