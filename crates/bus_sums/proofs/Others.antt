-- What other tables of a prover send. The bounds are met: tables that have fillings have fillings beside any other tables' lookups in the
-- bitwise table, up to 2^62 of one list of values, with all words below p.
--     with-others      fillings beside other tables
--     at_bound          a table that looks up one pair of zero bytes 2^62 times
--     witness-others   so the tables of one operation pass beside it
use mathlib.Core.Bool.{Bool, true, false, ◌&&◌}
use mathlib.Core.List.{List, [], ◌∷◌, ◌++◌}
use mathlib.Core.Path.{◌≡◌, refl, sym, ap, ap₂, subst, ◌∙◌}
use Prim.Native.Nat.{ℕ, zero, suc, ◌+◌, ◌%◌, ◌^◌, ◌≤◌, ◌<◌}
use native.Mathlib.Nat.{add-zero, add_comm, mod-mod, mod-add-mod}
use native.Mathlib.Omega.{arith}
use lib.Seq.{get_or-append-add}
use Rattle.lists.specs.Tab.{word, tab, pick}
use Rattle.lists.specs.Select.{words_test}
use Rattle.lists.specs.Sum.{sum_below}
use Rattle.lists.proofs.Laws.{get_d-tab}
use Rattle.lists.proofs.Select.{words-sound}
use Rattle.lists.proofs.Sum.{sum_both, and_left, and_right}
use Rattle.field.specs.Field.{p}
use Rattle.field.proofs.Field.{mod-p}
use Rattle.tuple.specs.Tuple.{Tuple, receiver, same_side, same_bus}
use Rattle.tuple.specs.declared.Bus.{Bus}
use Rattle.tuple.specs.declared.Bus.TheVariants.{AreBytes, Keccak}
use Rattle.tuple.specs.declared.Side.{Side}
use Rattle.tuple.specs.declared.Side.TheVariants.{Sender, Receiver}
use Rattle.tuple.proofs.Buses.{bus-decides}
use Rattle.bitwise.specs.Row.{bitwise_row, row_of_xyz}
use Rattle.bitwise.specs.Tuples.{kind_at, kind_bus, kind_values}
use Rattle.bitwise.specs.Found.{are_bytes_found}
use Rattle.bitwise.specs.Charge.{found, Placed}
use Rattle.bitwise.proofs.Charge.{found-placed}
use Rattle.bitwise.proofs.Numbers.{mu-column-at}
use Rattle.verdict.specs.Honest.{witness, one_core, one_round}
use Rattle.verdict.specs.CoreAndRound.{core_kind, round_kind}
use Rattle.bus_sums.specs.Sums.{Fillings, share, shares, bitwise_at, bitwise_share, constants_share, table_share, is_wh_kind, bus_total, Ours, InField, SumsHold, Filled, MAX-SENDS}
use Rattle.bus_sums.proofs.Shares.{pick_some, pick-le}
use Rattle.bus_sums.proofs.Rows.{fixed}
use Rattle.bus_sums.proofs.Buses.{no-bitwise}
use Rattle.bus_sums.proofs.Charged.{charged, charged-received}
use Rattle.bus_sums.proofs.Receipt.{witness-sums}

-- ---- sums mod p
same-mod : (a b c : ℕ) → a % p ≡ b % p → (a + c) % p ≡ (b + c) % p
same-mod a b c e = sym (mod-add-mod a p c) ∙ ap (λ (n : ℕ). (n + c) % p) e ∙ mod-add-mod b p c

sum-mod : (n : ℕ) (f g : ℕ → ℕ) → ((k : ℕ) → k < n → f k % p ≡ g k % p) → sum_below n f % p ≡ sum_below n g % p
unfolding sum_below
sum-mod zero f g h = refl
sum-mod (suc n) f g h =
    same-mod (sum_below n f) (sum_below n g) (f n) (sum-mod n f g (λ k l. h k (omega arith)))
    ∙ ap (λ (k : ℕ). k % p) (add_comm (sum_below n g) (f n))
    ∙ same-mod (f n) (g n) (sum_below n g) (h n (omega arith))
    ∙ ap (λ (k : ℕ). k % p) (add_comm (g n) (sum_below n g))

-- ---- the bitwise table with more in its multiplicities, mod p
-- tuple k of row i
at-kind : (mu : ℕ → ℕ → ℕ) (i k : ℕ) → k < 10 → bitwise_at mu i k ≡ receiver (kind_bus (kind_at k)) (mu i k) (kind_values (bitwise_row i) (kind_at k))
unfolding bitwise_at bitwise_row row_of_xyz
at-kind mu i k l =
    ap₂ (λ (m : ℕ) (v : List ℕ). receiver (kind_bus (kind_at k)) m v)
    (ap (word (bitwise_row i ++ tab 10 (mu i))) (mu-column-at k l) ∙ get_or-append-add (bitwise_row i) (tab 10 (mu i)) k 0 ∙ get_d-tab 10 (mu i) k 0 l)
    (fixed mu i (tab 10 (mu i)) (kind_at k))

module _ (s : Side) (b : Bus) (v : List ℕ) where
  more_of : (c : Bus) (u : List ℕ) (m n : ℕ) → share s b v (receiver c ((m + n) % p) u) % p ≡ (share s b v (receiver c m u) + share s b v (receiver c n u)) % p
  unfolding share
  more_of c u m n = go (words_test v u) (same_side s Receiver && same_bus b c)
    where
      go : (x y : Bool) → pick x (pick y ((m + n) % p) 0) 0 % p ≡ (pick x (pick y m 0) 0 + pick x (pick y n 0) 0) % p
      go true true = mod-mod (m + n) p
      go true false = refl
      go false y = refl

  module _ (mu nu : ℕ → ℕ → ℕ) where
    -- both together
    abbrev both : ℕ → ℕ → ℕ
    both i k = (mu i k + nu i k) % p

    more-at : (i k : ℕ) → k < 10 → share s b v (bitwise_at both i k) % p ≡ (share s b v (bitwise_at mu i k) + share s b v (bitwise_at nu i k)) % p
    more-at i k l =
        ap (λ (t : Tuple). share s b v t % p) (at-kind both i k l)
        ∙ more_of (kind_bus (kind_at k)) (kind_values (bitwise_row i) (kind_at k)) (mu i k) (nu i k)
        ∙ sym (ap₂ (λ (t u : Tuple). (share s b v t + share s b v u) % p) (at-kind mu i k l) (at-kind nu i k l))

    more-row : (i : ℕ) → sum_below 10 (λ k. share s b v (bitwise_at both i k)) % p
        ≡ (sum_below 10 (λ k. share s b v (bitwise_at mu i k)) + sum_below 10 (λ k. share s b v (bitwise_at nu i k))) % p
    more-row i =
        sum-mod 10 (λ k. share s b v (bitwise_at both i k)) (λ k. share s b v (bitwise_at mu i k) + share s b v (bitwise_at nu i k)) (more-at i)
        ∙ ap (λ (n : ℕ). n % p) (sum_both 10 (λ k. share s b v (bitwise_at mu i k)) (λ k. share s b v (bitwise_at nu i k)))

    more : bitwise_share s b v both % p ≡ (bitwise_share s b v mu + bitwise_share s b v nu) % p
    unfolding shares
    more =
        sum-mod 1048576 (λ i. sum_below 10 (λ k. share s b v (bitwise_at both i k)))
        (λ i. sum_below 10 (λ k. share s b v (bitwise_at mu i k)) + sum_below 10 (λ k. share s b v (bitwise_at nu i k))) (λ i l. more-row i)
        ∙ ap (λ (n : ℕ). n % p)
        (sum_both 1048576 (λ i. sum_below 10 (λ k. share s b v (bitwise_at mu i k))) (λ i. sum_below 10 (λ k. share s b v (bitwise_at nu i k))))

-- ---- other tables' lookups
-- what they send on the buses that are supposed to agree stands in the bitwise table
module _ (nr : ℕ) (core round : List ℕ) (f : Filled nr core round) (others : Bus → List ℕ → ℕ) (few : (b : Bus) (v : List ℕ) → others b v ≤ MAX-SENDS)
    (apart : (v : List ℕ) → others Keccak v ≡ 0) (stands : (b : Bus) → Ours b → (v : List ℕ) → 1 ≤ others b v → Placed b v) where
  abbrev old : Fillings
  old = f.0

  abbrev new : Fillings
  new = record { bitwise = λ i k. (old.bitwise i k + charged others i k) % p; constants = old.constants; is-wh = old.is-wh }

  grown : (s : Side) (b : Bus) (v : List ℕ) → bus_total nr core round new s b v % p ≡ (bus_total nr core round old s b v + bitwise_share s b v (charged others)) % p
  unfolding bus_total
  grown s b v =
      turned (table_share s b v (core_kind nr) core + table_share s b v round_kind round + table_share s b v is_wh_kind old.is-wh)
      (bitwise_share s b v new.bitwise) (bitwise_share s b v old.bitwise) (bitwise_share s b v (charged others)) (constants_share s b v old.constants)
      (more s b v old.bitwise (charged others))
    where
      turned : (a x y z c : ℕ) → x % p ≡ (y + z) % p → (a + x + c) % p ≡ (a + y + c + z) % p
      turned a x y z c e =
          let l : a + x + c ≡ x + (a + c) = omega arith in
          let r : y + z + (a + c) ≡ a + y + c + z = omega arith in
          ap (λ (n : ℕ). n % p) l ∙ same-mod x (y + z) (a + c) e ∙ ap (λ (n : ℕ). n % p) r

  agree-more : (b : Bus) → Ours b → (v : List ℕ) → (bus_total nr core round new Sender b v + others b v) % p ≡ bus_total nr core round new Receiver b v % p
  agree-more b o v =
      let s = bus_total nr core round old Sender b v in
      let r = bus_total nr core round old Receiver b v in
      let none : bitwise_share Sender b v (charged others) ≡ 0 = no-bitwise Sender b v (λ mu. refl) (charged others) in
      let all : bitwise_share Receiver b v (charged others) ≡ others b v = charged-received others b v (stands b o v) in
      same-mod (bus_total nr core round new Sender b v) s (others b v)
      (grown Sender b v ∙ ap (λ (n : ℕ). (s + n) % p) none ∙ ap (λ (n : ℕ). n % p) (add-zero s))
      ∙ same-mod s r (others b v) (sym (ap (λ (n : ℕ). n % p) (add-zero s)) ∙ f.2.agree b o v)
      ∙ ap (λ (n : ℕ). (r + n) % p) (sym all)
      ∙ sym (grown Receiver b v)

  pub with-others : (w : Fillings) × InField w × SumsHold nr core round w others
  with-others = (
    new,
    record {
      bitwise-below = λ i k. mod-p (old.bitwise i k + charged others i k);
      constants-below = f.1.constants-below;
      is-wh-whole = f.1.is-wh-whole;
      is-wh-below = f.1.is-wh-below;
    },
    record {
      core-constrained = f.2.core-constrained;
      round-constrained = f.2.round-constrained;
      few-pairs = f.2.few-pairs;
      few-others = few;
      no-others = apart;
      agree = agree-more;
    },
  )

-- ---- at the bound
unfoldable pub at_bound : Bus → List ℕ → ℕ
at_bound b v = pick (same_bus AreBytes b && words_test (0 ∷ 0 ∷ []) v) (2 ^ 62) 0

bound-few : (b : Bus) (v : List ℕ) → at_bound b v ≤ MAX-SENDS
unfolding at_bound
bound-few b v = let a = pick-le (same_bus AreBytes b && words_test (0 ∷ 0 ∷ []) v) (2 ^ 62) in omega arith

bound-apart : (v : List ℕ) → at_bound Keccak v ≡ 0
unfolding at_bound
bound-apart v = refl

bound-stands : (b : Bus) (v : List ℕ) → 1 ≤ at_bound b v → Placed b v
unfolding at_bound found are_bytes_found
bound-stands b v l =
    let x = same_bus AreBytes b in
    let y = words_test (0 ∷ 0 ∷ []) v in
    let t = (pick_some (x && y) (2 ^ 62) l).0 in
    subst (λ (c : Bus). Placed c v) ((bus-decides AreBytes b).to (and_left x y t))
    (subst (Placed AreBytes) (words-sound (0 ∷ 0 ∷ []) v (and_right x y t)) (found-placed AreBytes (0 ∷ 0 ∷ []) refl))

pub at_bound_lem : at_bound AreBytes (0 ∷ 0 ∷ []) ≡ 2 ^ 62
unfolding at_bound words_test
at_bound_lem = refl

pub witness-others : (w : Fillings) × InField w × SumsHold 24 (one_core witness) (one_round witness) w at_bound
witness-others = with-others 24 (one_core witness) (one_round witness) witness-sums at_bound bound-few bound-apart (λ b o v. bound-stands b v)
