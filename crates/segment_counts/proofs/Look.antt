-- "This look must equal charging a copy and reading it, refusals included": what a look leaves in its copy and in its answer.
--     look-copy, look-start    the copy afterwards is the counters, copied there and charged
--     look-sum, look-largest   its words are the sums charged, and the largest counters of the charged table
--     largest-most, largest-one   the largest is one of a kind's counters, and none of them is above it
use mathlib.Core.Bool.{Bool}
use mathlib.Core.List.{List, ◌++◌}
use mathlib.Core.Path.{◌≡◌, sym, ap, ap₂, subst, ◌∙◌}
use Prim.Native.Nat.{ℕ, ◌+◌, ◌*◌, ◌/◌, ◌%◌, ◌≤◌, ◌<◌}
use native.Mathlib.Omega.{arith}
use lib.Dec.{eqb}
use lib.ListN.{length, take, drop, length-append, length-drop, get_or-append}
use lib.Seq.{get_or-take, length-take-le, take-append_seam, drop-append_seam}
use Rattle.lists.specs.Tab.{pick, word}
use Rattle.lists.proofs.Laws.{length-tab, get_d-tab, tab-same}
use Rattle.lists.proofs.Sum.{largest-same, largest-ge, largest-is}
use Rattle.field.specs.Field.{p}
use Rattle.answer.specs.Refusal.{accepted, overwrite}
use Rattle.answer.proofs.Overwrite.{over-new, left}
use Rattle.bitwise.specs.Columns.{NUM-ROWS, NUM-COUNTERS}
use Rattle.bitwise.specs.Charge.{charged_words, charged_counters, charged_kind}
use Rattle.bitwise.proofs.Charged.{charged-at}
use Rattle.keccak.proofs.Refusals.{other-room}
use Rattle.segment_counts.specs.Segment.{list_charged, charge_refusal, charge_after, largest, LOOK-WORDS, look_words, look_refusal, look_copy_after, look_out_after}
use Rattle.segment_counts.proofs.Accepted.{charge-accepted, look-refused}

-- ---- the largest counter of a kind
pub largest-most : (counters : List ℕ) (k r : ℕ) → r < NUM-ROWS → word counters (r * 10 + k) ≤ largest counters k
unfolding largest
largest-most counters k r l = largest-ge NUM-ROWS (λ r. word counters (r * 10 + k)) r l

pub largest-one : (counters : List ℕ) (k : ℕ) → (r : ℕ) × (r < NUM-ROWS) × (largest counters k ≡ word counters (r * 10 + k))
unfolding largest
largest-one counters k = largest-is NUM-ROWS (λ r. word counters (r * 10 + k)) (omega arith)

-- ---- the look
module _ (nr floor : ℕ) (shipped : Bool) (ops counters copy out : List ℕ) (room : NUM-COUNTERS ≤ length copy) (twenty : LOOK-WORDS ≤ length out) where
  -- the counters, copied to the lent words
  abbrev pub copied : List ℕ
  copied = overwrite (take NUM-COUNTERS counters) copy

  module _ (ok : charge_refusal nr floor ops counters ≡ accepted) where
    abbrev added : ℕ → ℕ
    added = list_charged nr floor shipped ops

    taken : look_refusal nr floor ops counters (length copy) (length out) ≡ accepted
    taken = look-refused nr floor ops counters (length copy) (length out) room twenty ∙ ok

    long : NUM-COUNTERS ≤ length counters
    long = ((charge-accepted nr floor ops counters).0 ok).4.long

    size : length (take NUM-COUNTERS counters) ≡ NUM-COUNTERS
    size = length-take-le NUM-COUNTERS counters long

    copied_at : (c : ℕ) → c < NUM-COUNTERS → word copied c ≡ word counters c
    unfolding overwrite
    copied_at c l =
        get_or-append (take NUM-COUNTERS counters) (drop (length (take NUM-COUNTERS counters)) copy) 0 c (omega (arith, size))
        ∙ get_or-take NUM-COUNTERS counters c 0 l

    copied-length : length copied ≡ length copy
    unfolding overwrite
    copied-length =
        length-append (take NUM-COUNTERS counters) (drop (length (take NUM-COUNTERS counters)) copy)
        ∙ omega (arith, size, length-drop (length (take NUM-COUNTERS counters)) copy)

    -- a charge of the copy is accepted too
    pub copied-taken : charge_refusal nr floor ops copied ≡ accepted
    copied-taken =
        let a = (charge-accepted nr floor ops counters).0 ok in
        let far : NUM-COUNTERS ≤ length copied = omega (arith, copied-length, room) in
        (charge-accepted nr floor ops copied).1 (
          a.0,
          a.1,
          a.2,
          other-room a.3 (length copied) NUM-COUNTERS far,
          record { long = far; below = λ c l. subst (λ (n : ℕ). n < p) (sym (copied_at c l)) (a.4.below c l) },
        )

    words-at : (c : ℕ) → c < NUM-COUNTERS → word (charged_words counters added) c ≡ (word counters c + added c) % p
    unfolding charged_words
    words-at c l = get_d-tab NUM-COUNTERS (λ c. (word counters c + added c) % p) c 0 l

    copied-words : charged_words copied added ≡ charged_words counters added
    unfolding charged_words
    copied-words = tab-same NUM-COUNTERS (λ c. (word copied c + added c) % p) (λ c. (word counters c + added c) % p) (λ c l. ap (λ (n : ℕ). (n + added c) % p) (copied_at c l))

    words-length : (C : List ℕ) → length (charged_words C added) ≡ NUM-COUNTERS
    unfolding charged_words
    words-length C = length-tab NUM-COUNTERS (λ c. (word C c + added c) % p)

    -- the words past the counters are those of the lent copy
    past : drop NUM-COUNTERS copied ≡ drop NUM-COUNTERS copy
    unfolding overwrite
    past =
        ap (λ (n : ℕ). drop n copied) (sym size)
        ∙ drop-append_seam (take NUM-COUNTERS counters) (drop (length (take NUM-COUNTERS counters)) copy)
        ∙ ap (λ (n : ℕ). drop n copy) size

    pub look-copy : look_copy_after nr floor shipped ops counters copy (length out) ≡ charge_after nr floor shipped ops copied
    unfolding charged_counters overwrite
    look-copy =
        left (overwrite (charged_words counters added) copy) copy taken
        ∙ ap (λ (l : List ℕ). charged_words counters added ++ l)
        (ap (λ (n : ℕ). drop n copy) (words-length counters) ∙ sym past ∙ ap (λ (n : ℕ). drop n copied) (sym (words-length copied)))
        ∙ ap (λ (w : List ℕ). w ++ drop (length (charged_words copied added)) copied) (sym copied-words)
        ∙ sym (left (charged_counters copied added) copied copied-taken)

    -- and its first words those of the charged counters
    pub look-start : take NUM-COUNTERS (look_copy_after nr floor shipped ops counters copy (length out)) ≡ take NUM-COUNTERS (charge_after nr floor shipped ops counters)
    unfolding charged_counters overwrite
    look-start =
        ap (take NUM-COUNTERS) (left (overwrite (charged_words counters added) copy) copy taken)
        ∙ start copy ∙ sym (start counters)
        ∙ ap (take NUM-COUNTERS) (sym (left (charged_counters counters added) counters ok))
      where
        start : (l : List ℕ) → take NUM-COUNTERS (overwrite (charged_words counters added) l) ≡ charged_words counters added
        start l = ap (λ (n : ℕ). take n (overwrite (charged_words counters added) l)) (sym (words-length counters)) ∙ take-append_seam (charged_words counters added) (drop (length (charged_words counters added)) l)

    -- ---- its answer
    at-word : (j : ℕ) → j < LOOK-WORDS → word (look_out_after nr floor shipped ops counters (length copy) out) j
        ≡ pick (eqb (j % 2) 0) (charged_kind added (j / 2)) (largest (charged_words counters added) (j / 2))
    unfolding look_words
    at-word j l =
        ap (λ (w : List ℕ). word w j) (left (overwrite (look_words counters added) out) out taken)
        ∙ over-new LOOK-WORDS (λ j. pick (eqb (j % 2) 0) (charged_kind added (j / 2)) (largest (charged_words counters added) (j / 2))) out j l

    pub look-sum : (k : ℕ) → k < 10 → word (look_out_after nr floor shipped ops counters (length copy) out) (2 * k) ≡ charged_kind added k
    look-sum k l =
        at-word (2 * k) (omega arith)
        ∙ ap₂ (λ (a b : ℕ). pick (eqb a 0) (charged_kind added b) (largest (charged_words counters added) b)) (even k) (half k)
      where
        even : (k : ℕ) → 2 * k % 2 ≡ 0
        even k = omega arith

        half : (k : ℕ) → 2 * k / 2 ≡ k
        half k = omega arith

    pub look-largest : (k : ℕ) → k < 10 → word (look_out_after nr floor shipped ops counters (length copy) out) (2 * k + 1) ≡ largest (charge_after nr floor shipped ops counters) k
    unfolding largest
    look-largest k l =
        at-word (2 * k + 1) (omega arith)
        ∙ ap₂ (λ (a b : ℕ). pick (eqb a 0) (charged_kind added b) (largest (charged_words counters added) b)) (odd k) (half k)
        ∙ largest-same NUM-ROWS (λ r. word (charged_words counters added) (r * 10 + k)) (λ r. word (charge_after nr floor shipped ops counters) (r * 10 + k)) (λ r h. same (r * 10 + k) (omega arith))
      where
        odd : (k : ℕ) → (2 * k + 1) % 2 ≡ 1
        odd k = omega arith

        half : (k : ℕ) → (2 * k + 1) / 2 ≡ k
        half k = omega arith

        same : (c : ℕ) → c < NUM-COUNTERS → word (charged_words counters added) c ≡ word (charge_after nr floor shipped ops counters) c
        same c h = words-at c h ∙ sym (charged-at counters added c h) ∙ ap (λ (w : List ℕ). word w c) (sym (left (charged_counters counters added) counters ok))
