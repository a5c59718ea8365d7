-- Why there must be fewer than p lookups: registers 0 and 1 charge tables without operations that are shipped, each time 880 AreBytes of 0
-- and 0. The counter of that pair returns to zero at p, and neither ledger does.
--     empty_charge, too_much   such a charge; it made n times through register 0 and then once through register 1
--     Spent                  counters and ledgers after so many such calls of each register
--     fewer-needed           with n the most for which 880 n is below p, the counters of AreBytes add up to 559, and the ledgers to p + 559
--     zero_state, zero_is     a state that it starts from
use mathlib.Core.Bool.{Bool, true, false}
use mathlib.Core.List.{List, [], ◌∷◌, ◌++◌}
use mathlib.Core.Option.{Option, none}
use mathlib.Core.Path.{◌≡◌, refl, sym, ap, ap₂, subst, ◌∙◌}
use Prim.Native.Nat.{ℕ, zero, suc, ◌+◌, ◌*◌, ◌%◌, ◌≤◌, ◌<◌}
use native.Mathlib.Nat.{zero-add, mod-add-mod, mod-lt}
use native.Mathlib.Omega.{arith}
use borrow.Author.Tests.{ne_eqb, le-ltb}
use lib.Dec.{eqb}
use lib.ListN.{length, replicate}
use Rattle.lists.specs.Tab.{pick, tab, word}
use Rattle.lists.specs.Sum.{sum_below}
use Rattle.lists.proofs.Laws.{length-row_at, word-row_at, length-tab, get_d-tab}
use Rattle.lists.proofs.Sum.{sum-place}
use Rattle.lists.proofs.Kept.{by-eq}
use Rattle.field.specs.Field.{p}
use Rattle.field.proofs.NotElement.{none_found}
use Rattle.answer.specs.Refusal.{too_short, PowerFloor}
use Rattle.answer.specs.declared.Refusal.{Refusal}
use Rattle.answer.specs.declared.Refusal.TheVariants.{NotElement}
use Rattle.answer.proofs.Laws.{refuse-no, at-no}
use Rattle.bitwise.specs.Columns.{NUM-ROWS, NUM-COUNTERS}
use Rattle.bitwise.specs.Charge.{charged_kind, charged_counters}
use Rattle.bitwise.proofs.Charged.{charged-at, charged-length}
use Rattle.keccak.specs.Row.{op_at}
use Rattle.segment_counts.proofs.Sums.{empty-shipped}
use Rattle.segment_counts.proofs.Segments.{empty-counter}
use Rattle.segment_counts.proofs.Refusals.{empty-later}
use Rattle.registers.specs.Registers.{in_use, charged_ledgers}
use Rattle.registers.specs.History.{Charge, Call, through, State, refusal_of, step_after, history_after, lookups_of, unless_refused, lookups_in, counter_sum, ledger_sum, Zero, OnlyThrough}
use Rattle.registers.proofs.Ledgers.{in-use-is, ledgers-length, charged-own, charged-other}
use Rattle.registers.proofs.Refusals.{through-accepted}
use Rattle.registers.proofs.Steps.{added_by, step-counters, through-ledgers}

abbrev pub empty_charge : Charge
empty_charge = record { nr = 24; floor = 4; shipped = true; ops = [] }

abbrev pub too_much : ℕ → List Call
too_much n = replicate n (through 0 empty_charge) ++ through 1 empty_charge ∷ []

-- ---- what it adds
four : PowerFloor 4
four = (2, omega arith, omega arith, refl)

adds : (c : ℕ) → added_by empty_charge c ≡ pick (eqb c 3) 880 0
adds c = empty-counter 24 4 four c

adds-kind : (k : ℕ) → k < 10 → charged_kind (added_by empty_charge) k ≡ pick (eqb k 3) 880 0
adds-kind k l = empty-shipped 24 4 (omega arith) four (op_at []) k l

lookups : lookups_of empty_charge ≡ 880
unfolding lookups_of
lookups =
    sum-place 10 3 (charged_kind (added_by empty_charge)) (omega arith)
    (λ k l d. adds-kind k l ∙ ap (λ (t : Bool). pick t 880 0) (ne_eqb k 3 d))
    ∙ adds-kind 3 (omega arith)

-- a word of a kind after x, and after 880 more
below : (t : Bool) (x : ℕ) → pick t (x % p) 0 < p
below true x = mod-lt x (omega arith)
below false x = omega arith

grows : (t : Bool) (x y : ℕ) → y ≡ x + 880 → (pick t (x % p) 0 + pick t 880 0) % p ≡ pick t (y % p) 0
grows true x y e = mod-add-mod x p 880 ∙ ap (λ (n : ℕ). n % p) (sym e)
grows false x y e = refl

-- ---- counters and ledgers after n 0 calls through register 0 and n 1 through register 1
record Spent (n : ℕ → ℕ) (s : State) : Type 0 where
  counts : NUM-COUNTERS ≤ length s.counters
  room : length s.ledgers ≡ 20
  counter : (c : ℕ) → c < NUM-COUNTERS → word s.counters c ≡ pick (eqb c 3) ((n 0 + n 1) * 880 % p) 0
  sum : (q k : ℕ) → q < 2 → k < 10 → word s.ledgers (q * 10 + k) ≡ pick (eqb k 3) (n q * 880 % p) 0

module _ (n : ℕ → ℕ) (s : State) (h : Spent n s) (q : ℕ) (two : q < 2) where
  in_use_lem : q < in_use (length s.ledgers)
  in_use_lem = (in-use-is (length s.ledgers) q).1 (omega (arith, h.room, two), omega (arith, two))

  taken : refusal_of s (through q empty_charge) ≡ none
  unfolding refusal_of
  taken =
      (through-accepted (too_short (length s.counters) NUM-COUNTERS) 24 4 q [] s.counters s.ledgers).1 (
        (omega arith, omega arith, four),
        in_use_lem,
        empty-later (too_short (length s.counters) NUM-COUNTERS) s.counters
            ∙ refuse-no _ (le-ltb (length s.counters) NUM-COUNTERS h.counts)
            (at-no NotElement (none_found s.counters NUM-COUNTERS (λ c l. subst (λ (w : ℕ). w < p) (sym (h.counter c l)) (below (eqb c 3) ((n 0 + n 1) * 880)))) refl),
        record {
          long = omega (arith, length-row_at 10 s.ledgers q);
          below = λ k l. subst (λ (w : ℕ). w < p) (sym (word-row_at 10 s.ledgers q k l ∙ h.sum q k two l)) (below (eqb k 3) (n q * 880));
        },
      )

  abbrev after : State
  after = step_after s (through q empty_charge)

  C : after.counters ≡ charged_counters s.counters (added_by empty_charge)
  C = step-counters s (through q empty_charge) taken

  L : after.ledgers ≡ charged_ledgers q s.ledgers (added_by empty_charge)
  L = through-ledgers s q empty_charge taken

  spent-more : (m : ℕ → ℕ) → m q ≡ n q + 1 → ((r : ℕ) → r < 2 → (r ≡ q → ⊥) → m r ≡ n r) → m 0 + m 1 ≡ n 0 + n 1 + 1 → Spent m after
  spent-more m own others all =
      record {
        counts = omega (arith, ap length C, charged-length s.counters (added_by empty_charge) h.counts, h.counts);
        room = ap length L ∙ ledgers-length q s.ledgers (added_by empty_charge) ∙ h.room;
        counter = λ c l.
            ap (λ (w : List ℕ). word w c) C
            ∙ charged-at s.counters (added_by empty_charge) c l
            ∙ ap₂ (λ (a b : ℕ). (a + b) % p) (h.counter c l) (adds c)
            ∙ grows (eqb c 3) ((n 0 + n 1) * 880) ((m 0 + m 1) * 880) (omega (arith, all));
        sum = λ r k b l. by-eq r q (λ e. mine r k b l e) (λ d. other r k b l d);
      }
    where
      mine : (r k : ℕ) → r < 2 → k < 10 → r ≡ q → word after.ledgers (r * 10 + k) ≡ pick (eqb k 3) (m r * 880 % p) 0
      mine r k b l e =
          ap (λ (r : ℕ). word after.ledgers (r * 10 + k)) e
          ∙ ap (λ (w : List ℕ). word w (q * 10 + k)) L
          ∙ charged-own q s.ledgers (added_by empty_charge) (omega (arith, h.room, two)) k l
          ∙ ap₂ (λ (a b : ℕ). (a + b) % p) (h.sum q k two l) (adds-kind k l)
          ∙ grows (eqb k 3) (n q * 880) (m q * 880) (omega (arith, own))
          ∙ ap (λ (r : ℕ). pick (eqb k 3) (m r * 880 % p) 0) (sym e)

      other : (r k : ℕ) → r < 2 → k < 10 → (r ≡ q → ⊥) → word after.ledgers (r * 10 + k) ≡ pick (eqb k 3) (m r * 880 % p) 0
      other r k b l d =
          ap (λ (w : List ℕ). word w (r * 10 + k)) L
          ∙ charged-other q s.ledgers (added_by empty_charge) (r * 10 + k) (λ e. d (omega (arith, l, e)))
          ∙ h.sum r k b l
          ∙ ap (λ (x : ℕ). pick (eqb k 3) (x * 880 % p) 0) (sym (others r b d))

-- ---- the calls
abbrev pair : ℕ → ℕ → ℕ → ℕ
pair a b q = pick (eqb q 0) a b

module _ (a b : ℕ) (s : State) (h : Spent (pair a b) s) where
  through-first : Spent (pair (a + 1) b) (step_after s (through 0 empty_charge))
  through-first =
      spent-more (pair a b) s h 0 (omega arith) (pair (a + 1) b) refl
      (λ r l d. ap (λ (t : Bool). pick t (a + 1) b) (ne_eqb r 0 d) ∙ sym (ap (λ (t : Bool). pick t a b) (ne_eqb r 0 d)))
      (omega arith)

  through-second : Spent (pair a (b + 1)) (step_after s (through 1 empty_charge))
  through-second = spent-more (pair a b) s h 1 (omega arith) (pair a (b + 1)) refl same (omega arith)
    where
      same : (r : ℕ) → r < 2 → (r ≡ 1 → ⊥) → pair a (b + 1) r ≡ pair a b r
      same zero l d = refl
      same (suc zero) l d = absurd (d refl)
      same (suc (suc r)) l d = absurd (omega arith)

spent-calls : (n a b : ℕ) (s : State) → Spent (pair a b) s → Spent (pair (a + n) (b + 1)) (history_after s (too_much n))
unfolding history_after
spent-calls zero a b s h = subst (λ (m : ℕ). Spent (pair m (b + 1)) (step_after s (through 1 empty_charge))) (omega arith) (through-second a b s h)
spent-calls (suc n) a b s h =
    subst (λ (m : ℕ). Spent (pair m (b + 1)) (history_after (step_after s (through 0 empty_charge)) (too_much n))) (omega arith)
    (spent-calls n (a + 1) b (step_after s (through 0 empty_charge)) (through-first a b s h))

spent-lookups : (n a b : ℕ) (s : State) → Spent (pair a b) s → lookups_in s (too_much n) ≡ (n + 1) * 880
unfolding lookups_in
spent-lookups zero a b s h = ap₂ (λ (o : Option Refusal) (m : ℕ). unless_refused o m + 0) (taken (pair a b) s h 1 (omega arith)) lookups
spent-lookups (suc n) a b s h =
    ap₂ (λ (o : Option Refusal) (m : ℕ). unless_refused o m + lookups_in (step_after s (through 0 empty_charge)) (too_much n)) (taken (pair a b) s h 0 (omega arith)) lookups
    ∙ omega (arith, spent-lookups n (a + 1) b (step_after s (through 0 empty_charge)) (through-first a b s h))

-- what they add up to
spent-counters : (a b : ℕ) (s : State) → Spent (pair a b) s → counter_sum s 3 ≡ (a + b) * 880 % p
unfolding counter_sum
spent-counters a b s h =
    sum-place NUM-ROWS 0 (λ r. word s.counters (r * 10 + 3)) (omega arith)
    (λ r l d. h.counter (r * 10 + 3) (omega arith) ∙ ap (λ (t : Bool). pick t ((a + b) * 880 % p) 0) (ne_eqb (r * 10 + 3) 3 (λ e. d (omega arith))))
    ∙ h.counter 3 (omega arith)

spent-ledgers : (a b : ℕ) (s : State) → Spent (pair a b) s → ledger_sum s 3 ≡ a * 880 % p + b * 880 % p
unfolding ledger_sum sum_below in_use
spent-ledgers a b s h =
    ap (λ (w : ℕ). sum_below (in_use w) (λ q. word s.ledgers (q * 10 + 3))) h.room
    ∙ ap₂ (λ (x y : ℕ). 0 + x + y) (h.sum 0 3 (omega arith) (omega arith)) (h.sum 1 3 (omega arith) (omega arith))
    ∙ ap (λ (x : ℕ). x + b * 880 % p) (zero-add (a * 880 % p))

-- from zero
none-spent : (s : State) → Zero s → NUM-COUNTERS ≤ length s.counters → length s.ledgers ≡ 20 → Spent (pair 0 0) s
none-spent s z counts room =
    record {
      counts = counts;
      room = room;
      counter = λ c l. z.no-counts c l ∙ sym (nothing (eqb c 3));
      sum = λ q k b l. z.no-sums (q * 10 + k) (omega (arith, (in-use-is (length s.ledgers) 1).1 (omega (arith, room), omega arith))) ∙ sym (ap (λ (x : ℕ). pick (eqb k 3) (x * 880 % p) 0) (nothing (eqb q 0)) ∙ nothing (eqb k 3));
    }
  where
    nothing : (t : Bool) → pick {A = ℕ} t 0 0 ≡ 0
    nothing true = refl
    nothing false = refl

pub too-much-through : (n : ℕ) → OnlyThrough (too_much n)
too-much-through zero = tt
too-much-through (suc n) = too-much-through n

pub fewer-needed : (s : State) → Zero s → NUM-COUNTERS ≤ length s.counters → length s.ledgers ≡ 20
    → (lookups_in s (too_much 20962209169789300) ≡ p + 559)
    × (counter_sum (history_after s (too_much 20962209169789300)) 3 ≡ 559)
    × (ledger_sum (history_after s (too_much 20962209169789300)) 3 ≡ p + 559)
fewer-needed s z counts room =
    let h = none-spent s z counts room in
    let g = spent-calls 20962209169789300 0 0 s h in (
      spent-lookups 20962209169789300 0 0 s h,
      spent-counters (0 + 20962209169789300) (0 + 1) (history_after s (too_much 20962209169789300)) g,
      spent-ledgers (0 + 20962209169789300) (0 + 1) (history_after s (too_much 20962209169789300)) g,
    )

-- such a start
abbrev pub zero_state : State
zero_state = record { counters = tab NUM-COUNTERS (λ c. 0); ledgers = tab 20 (λ j. 0) }

pub zero_is : Zero zero_state × (NUM-COUNTERS ≤ length zero_state.counters) × (length zero_state.ledgers ≡ 20)
unfolding in_use
zero_is =
    let c : length zero_state.counters ≡ NUM-COUNTERS = length-tab {A = ℕ} NUM-COUNTERS (λ c. 0) in
    let w : length zero_state.ledgers ≡ 20 = length-tab {A = ℕ} 20 (λ j. 0) in
    let e : in_use (length zero_state.ledgers) ≡ 2 = ap in_use w in (
      record {
        no-counts = λ c l. get_d-tab {A = ℕ} NUM-COUNTERS (λ c. 0) c 0 l;
        no-sums = λ j l. get_d-tab {A = ℕ} 20 (λ j. 0) j 0 (omega (arith, l, e));
      },
      omega (arith, c),
      w,
    )
