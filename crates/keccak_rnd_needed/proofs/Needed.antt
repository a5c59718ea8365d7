-- Each of the 929 rules is needed: KeccakRc, each ByteAlu tuple and each shift identity.
use mathlib.Core.Path.{◌≡◌, refl, sym, ap, ap₂, ◌∙◌, subst}
use mathlib.Core.Bool.{true, false}
use mathlib.Core.List.{List}
use Prim.Native.Nat.{ℕ, suc, ◌+◌, ◌-◌, ◌*◌, ◌/◌, ◌%◌, ◌<◌}
use native.Mathlib.Omega.{arith}
use lib.ListN.{length, get_or}
use Rattle.lists.specs.Tab.{word, tab, followed_by}
use Rattle.lists.specs.First.{count_below}
use Rattle.lists.proofs.Laws.{get_d-tab, length-tab}
use Rattle.lists.proofs.Tests.{true-not-false}
use Rattle.lists.proofs.Then.{by_le, then-all, at-three}
use Rattle.field.specs.Field.{p, fadd}
use Rattle.bits.specs.Bits.{lane_of}
use Rattle.bits.proofs.Bytes.{lane-same}
use Rattle.fips202.specs.Fips.{Agree, rnd}
use Rattle.fips202.specs.Lanes.{lane, Lanes, bits, rnd_l}
use Rattle.fips202.proofs.Steps.{lane-grid, lanes-ext, agree-sym, agree_trans}
use Rattle.fips202.proofs.Rounds.{rnd-lanes, rnd-agree}
use Rattle.tuple.specs.Tuple.{Tuple, receiver}
use Rattle.tuple.specs.declared.Bus.TheVariants.{Keccak}
use Rattle.keccak.specs.Columns.{by_xyb}
use Rattle.keccak.specs.Row.{state_lanes}
use Rattle.keccak.specs.Tuples.{keccak_values}
use Rattle.keccak.proofs.Reading.{keccak-same}
use Rattle.keccak.proofs.State.{state-is}
use Rattle.keccak_rnd.specs.Columns.{TIMESTAMP-0, TIMESTAMP-1, ROUND, START, MU, start}
use Rattle.keccak_rnd.specs.Row.{round_row}
use Rattle.keccak_rnd.specs.Tuples.{out, out_lanes, round_received, round_sent, round_tuple}
use Rattle.keccak_rnd.proofs.Cells.{written-cells}
use Rattle.keccak_rnd.proofs.Cells.{read-t0 as written-t0, read-t1 as written-t1}
use Rattle.keccak_rnd.proofs.Step.{round-step}
use Rattle.keccak_rnd_needed.specs.Needed.{NUM-NEEDED, needed, PassesBut, Wrong, Forges}
use Rattle.keccak_rnd_needed.specs.Bent.{bent_row}
use Rattle.keccak_rnd_needed.proofs.Cells.{read-t0, read-t1, read-round, read-start, read-mu}
use Rattle.keccak_rnd_needed.proofs.Passing.{bent-passes}
use Rattle.keccak_rnd_needed.proofs.Falsity.{sent-lanes, no-iota, no-rc, no-chi, no-ands, no-theta, no-rho, no-d, no-sum-1, no-sum, no_shift}

pub needed-count : count_below needed 1172 ≡ NUM-NEEDED
unfolding count_below needed followed_by
needed-count = refl

-- a Keccak tuple is known by its words, and has them
values-byte : (lo hi k : ℕ) (f : ℕ → ℕ → ℕ → ℕ) (x y b : ℕ) → x < 5 → y < 5 → b < 8 → get_or (keccak_values lo hi k f) (suc (suc (suc (40 * x + 8 * y + b)))) 0 ≡ f x y b
unfolding keccak_values
values-byte lo hi k f x y b hx hy hb =
    let e₀ : (40 * x + 8 * y + b) / 40 ≡ x = omega arith in
    let e₁ : (40 * x + 8 * y + b) / 8 % 5 ≡ y = omega arith in
    let e₂ : (40 * x + 8 * y + b) % 8 ≡ b = omega arith in
    get_d-tab 200 (by_xyb f) (40 * x + 8 * y + b) 0 (omega arith) ∙ at-three f e₀ e₁ e₂

tuple-0 : (row : List ℕ) → round_tuple row 0 ≡ receiver Keccak (word row MU) (round_received row)
unfolding round_tuple followed_by
tuple-0 row = refl

tuple-1 : (row : List ℕ) → (round_tuple row 1).values ≡ round_sent row
unfolding round_tuple followed_by
tuple-1 row = refl

-- rows that send the same values send the same lanes
sent-bytes : (row other : List ℕ) → round_sent row ≡ round_sent other → (x y b : ℕ) → x < 5 → y < 5 → b < 8 → word row (out x y b) ≡ word other (out x y b)
unfolding round_sent
sent-bytes row other e x y b hx hy hb =
    sym (values-byte (word row TIMESTAMP-0) (word row TIMESTAMP-1) (fadd (word row ROUND) 1) (λ x y b. word row (out x y b)) x y b hx hy hb)
    ∙ ap (λ (l : List ℕ). get_or l (suc (suc (suc (40 * x + 8 * y + b)))) 0) e
    ∙ values-byte (word other TIMESTAMP-0) (word other TIMESTAMP-1) (fadd (word other ROUND) 1) (λ x y b. word other (out x y b)) x y b hx hy hb

sent-lane-same : (row other : List ℕ) → round_sent row ≡ round_sent other → (x y : ℕ) → x < 5 → y < 5 → lane (out_lanes row) x y ≡ lane (out_lanes other) x y
unfolding out_lanes
sent-lane-same row other e x y hx hy =
    lane-grid (λ x y. lane_of (λ b. word row (out x y b))) x y hx hy ∙ lane-same (λ b. word row (out x y b)) (λ b. word other (out x y b)) (λ b hb. sent-bytes row other e x y b hx hy hb)
    ∙ sym (lane-grid (λ x y. lane_of (λ b. word other (out x y b))) x y hx hy)

module _ (j : ℕ) (stamp : ℕ → ℕ) (r : ℕ) (s : List ℕ) (hs : Lanes s) (hr : r < 24) where
  abbrev row : List ℕ
  row = bent_row j stamp r s

  -- the lanes that are sent are not all the round's
  pub sends-false : needed j ≡ true → ((x y : ℕ) → x < 5 → y < 5 → lane (out_lanes row) x y ≡ lane (rnd_l s r) x y) → ⊥
  unfolding needed
  sends-false n e =
      then-all (λ t. t ≡ true → ⊥) 2 _ _ j (λ a. none)
      (λ i₁ q₁. then-all (λ t. t ≡ true → ⊥) 161 _ _ i₁ (λ a _. sums i₁ q₁ a)
      (λ i₂ q₂. then-all (λ t. t ≡ true → ⊥) 20 _ _ i₂ (λ a. none)
      (λ i₃ q₃. then-all (λ t. t ≡ true → ⊥) 240 _ _ i₃ (λ a _. d-theta i₃ (omega arith) a)
      (λ i₄ q₄. then-all (λ t. t ≡ true → ⊥) 200 _ _ i₄ (λ a. none)
      (λ i₅ q₅. then-all (λ t. t ≡ true → ⊥) 408 _ _ i₅ (λ a _. chi-iota i₅ (omega arith) a)
      (λ i₆ q₆. then-all (λ t. t ≡ true → ⊥) 20 _ _ i₆ (λ a. none)
      (λ i₇ q₇. then-all (λ t. t ≡ true → ⊥) 120 _ _ i₇ (λ a _. shifts i₇ (omega arith) a) (λ i₈ q₈. none)))))))) n
    where
      none : false ≡ true → ⊥
      none q = true-not-false (sym q)

      sums : (i : ℕ) → 2 + i ≡ j → i < 161 → ⊥
      sums i q a =
          by_le i 0 (λ l. no-rc j stamp r s hs hr e (omega arith))
          (λ l. by_le i 40 (λ m. no-sum-1 j stamp r s hs hr e ((i - 1) / 8) ((i - 1) % 8) (omega arith) (omega arith) (omega arith))
          (λ m. no-sum j stamp r s hs hr e ((i - 41) / 24) ((i - 41) / 8 % 3) ((i - 41) % 8) (omega arith) (omega arith) (omega arith) (omega arith)))

      d-theta : (i : ℕ) → 183 + i ≡ j → i < 240 → ⊥
      d-theta i q a =
          by_le i 39 (λ l. no-d j stamp r s hs hr e (i / 8) (i % 8) (omega arith) (omega arith) (omega arith))
          (λ l. no-theta j stamp r s hs hr e ((i - 40) / 40) ((i - 40) / 8 % 5) ((i - 40) % 8) (omega arith) (omega arith) (omega arith) (omega arith))

      chi-iota : (i : ℕ) → 623 + i ≡ j → i < 408 → ⊥
      chi-iota i q a =
          by_le i 199 (λ l. no-ands j stamp r s hs hr e (i / 40) (i / 8 % 5) (i % 8) (omega arith) (omega arith) (omega arith) (omega arith))
          (λ l. by_le i 399 (λ m. no-chi j stamp r s hs hr e ((i - 200) / 40) ((i - 200) / 8 % 5) ((i - 200) % 8) (omega arith) (omega arith) (omega arith) (omega arith))
          (λ m. no-iota j stamp r s hs hr e (i - 400) (omega arith) (omega arith)))

      shifts : (i : ℕ) → 1051 + i ≡ j → i < 120 → ⊥
      shifts i q a =
          by_le i 19 (λ l. no_shift j stamp r s hs hr e (i / 4) (i % 4) (omega arith) (omega arith) (omega arith))
          (λ l. no-rho j stamp r s hs hr e ((i - 20) / 20) ((i - 20) / 4 % 5) ((i - 20) % 4) (omega arith) (omega arith) (omega arith) (omega arith))

  same_received : round_received row ≡ round_received (round_row stamp r s)
  unfolding round_received
  same_received =
      keccak-same (λ x y b. word row (start x y b)) (λ x y b. word (round_row stamp r s) (start x y b)) (read-t0 j stamp r s ∙ sym (written-t0 stamp r s)) (read-t1 j stamp r s ∙ sym (written-t1 stamp r s))
      (read-round j stamp r s ∙ sym (written-cells stamp r s).round_is)
      (λ x y b hx hy hb. read-start j stamp r s x y b hx hy hb ∙ sym ((written-cells stamp r s).start_is x y b hx hy hb))

  pub each-forged : needed j ≡ true → length s ≡ 25 → stamp 0 < p → stamp 1 < p → Forges j stamp r s row
  each-forged n l h0 h1 =
      record {
        passes = bent-passes j stamp r s hs (omega arith) h0 h1;
        start = start_is;
        round = read-round j stamp r s;
        wrong =
            record {
              round = subst (λ (k : ℕ). k < 24) (sym (read-round j stamp r s)) hr;
              state = λ a. sends-false n (by-lanes (subst (λ (t : List ℕ). Agree (bits (out_lanes row)) (rnd (bits t) r)) start_is
                  (subst (λ (k : ℕ). Agree (bits (out_lanes row)) (rnd (bits (state_lanes START row)) k)) (read-round j stamp r s) a)));
            };
        received = tuple-0 row ∙ ap₂ (λ (m : ℕ) (v : List ℕ). receiver Keccak m v) (read-mu j stamp r s ∙ sym (written-cells stamp r s).mu-is) same_received ∙ sym (tuple-0 (round_row stamp r s));
        sent = λ e. sends-false n (λ x y hx hy.
            sent-lane-same row (round_row stamp r s) (sym (tuple-1 row) ∙ ap (λ (t : Tuple). t.values) e ∙ tuple-1 (round_row stamp r s)) x y hx hy
            ∙ ap (λ (t : List ℕ). lane t x y) (round-step (round_row stamp r s) r s hs (written-cells stamp r s) hr));
      }
    where
      start_is : state_lanes START row ≡ s
      start_is = state-is START row s hs l (read-start j stamp r s)

      by-lanes : Agree (bits (out_lanes row)) (rnd (bits s) r) → (x y : ℕ) → x < 5 → y < 5 → lane (out_lanes row) x y ≡ lane (rnd_l s r) x y
      by-lanes a x y hx hy =
          lanes-ext (out_lanes row) (rnd_l s r) (sent-lanes j stamp r s hs hr) (rnd-lanes r hr s hs) (agree_trans a (agree-sym (rnd-agree r hr s hs))) (x + 5 * y) (omega arith)

-- in short: for each needed rule there is a row that passes all others and is wrong. Here round 0 of the zero state, at timestamp 0.
pub each_needed : (j : ℕ) → needed j ≡ true → (row : List ℕ) × PassesBut j row × Wrong row
each_needed j n =
    let f = each-forged j (λ k. 0) 0 (tab 25 (λ k. 0)) zero-lanes (omega arith) n (length-tab 25 (λ k. 0)) (omega arith) (omega arith) in
    (bent_row j (λ k. 0) 0 (tab 25 (λ k. 0)), f.passes, f.wrong)
  where
    zero-lanes : Lanes (tab 25 (λ k. 0))
    zero-lanes i l = rw (get_d-tab {A = ℕ} 25 (λ k. 0) i 0 l) (omega arith)
