-- "The look of Item 3 shows a register its own ledger as it would then stand", and so "must equal charging a copy and reading it, refusals
-- included" (register-look-refused, Accepted.antt): what a look of a register leaves in its copy and in its answer.
--     copies-taken, register-look-copy   the copy afterwards is the counters, copied there and charged through the register
--     register-look-first                its first words are those of a look without a register
--     register-look-ledger               and the last ten the register's ledger after the charge
use mathlib.Core.Bool.{Bool}
use mathlib.Core.List.{List, ◌++◌}
use mathlib.Core.Path.{◌≡◌, sym, ap, ◌∙◌}
use Prim.Native.Nat.{ℕ, ◌+◌, ◌*◌, ◌≤◌, ◌<◌}
use native.Mathlib.Omega.{arith}
use lib.ListN.{length, take, drop, length-append, get_or-append}
use lib.Seq.{get_or-append-add}
use Rattle.lists.specs.Tab.{word}
use Rattle.lists.proofs.Laws.{length-tab}
use Rattle.answer.specs.Refusal.{accepted, too_short, overwrite}
use Rattle.answer.proofs.Overwrite.{left}
use Rattle.bitwise.specs.Columns.{NUM-COUNTERS}
use Rattle.bitwise.specs.Charge.{charged_words, charged_counters, charged_kind}
use Rattle.segment_counts.specs.Segment.{list_charged, charge_refusal, LOOK-WORDS, look_words, look_refusal, largest, look_out_after}
use Rattle.segment_counts.proofs.Accepted.{look-refused}
use Rattle.segment_counts.proofs.Refusals.{charge-later}
use Rattle.segment_counts.proofs.Look.{copied-taken, look-copy, look-sum, look-largest}
use Rattle.registers.specs.Registers.{REGISTER-LOOK-WORDS, charged_ledger, charged_ledgers, register_look_words, register_refusal, register_counters_after, register_ledgers_after, register_look_refusal, register_look_copy_after, register_look_out_after}
use Rattle.registers.proofs.Ledgers.{in-use-is, ledger-size, ledger-word, charged-own}
use Rattle.registers.proofs.Refusals.{through-accepted}
use Rattle.registers.proofs.Accepted.{through-charged, through-used, register-look-refused}

module _ (nr floor : ℕ) (shipped : Bool) (register : ℕ) (ops counters ledgers copy out : List ℕ) (room : NUM-COUNTERS ≤ length copy) (thirty : REGISTER-LOOK-WORDS ≤ length out)
    (ok : register_refusal nr floor register ops counters ledgers ≡ accepted) where
  abbrev f : ℕ → ℕ
  f = list_charged nr floor shipped ops

  twenty : LOOK-WORDS ≤ length out
  twenty = omega (arith, thirty)

  free : charge_refusal nr floor ops counters ≡ accepted
  free = through-charged nr floor register ops counters ledgers ok

  taken : register_look_refusal nr floor register ops counters ledgers (length copy) (length out) ≡ accepted
  taken = register-look-refused nr floor register ops counters ledgers (length copy) (length out) room thirty ∙ ok

  -- a look without a register is accepted too, and so is a charge of the copy
  plain-taken : look_refusal nr floor ops counters (length copy) (length out) ≡ accepted
  plain-taken = look-refused nr floor ops counters (length copy) (length out) room twenty ∙ free

  abbrev twin : List ℕ
  twin = overwrite (take NUM-COUNTERS counters) copy

  pub copies-taken : register_refusal nr floor register ops twin ledgers ≡ accepted
  copies-taken =
      let a = (through-accepted (too_short (length counters) NUM-COUNTERS) nr floor register ops counters ledgers).0 ok in
      (through-accepted (too_short (length twin) NUM-COUNTERS) nr floor register ops twin ledgers).1
      (a.0, a.1, sym (charge-later nr floor ops twin a.0) ∙ copied-taken nr floor shipped ops counters copy out room twenty free, a.3)

  -- ---- the copy
  pub register-look-copy : register_look_copy_after nr floor shipped register ops counters ledgers copy (length out) ≡ register_counters_after nr floor shipped register ops twin ledgers
  register-look-copy =
      left (overwrite (charged_words counters f) copy) copy taken
      ∙ sym (left (overwrite (charged_words counters f) copy) copy plain-taken)
      ∙ look-copy nr floor shipped ops counters copy out room twenty free
      ∙ left (charged_counters twin f) twin (copied-taken nr floor shipped ops counters copy out room twenty free)
      ∙ sym (left (charged_counters twin f) twin copies-taken)

  -- ---- its answer
  abbrev answer : List ℕ
  answer = register_look_out_after nr floor shipped register ops counters ledgers (length copy) out

  all : answer ≡ (look_words counters f ++ charged_ledger register ledgers f) ++ drop (length (look_words counters f ++ charged_ledger register ledgers f)) out
  unfolding register_look_words overwrite
  all = left (overwrite (register_look_words register counters ledgers f) out) out taken

  front : length (look_words counters f) ≡ 20
  unfolding look_words
  front = length-tab 20 _

  both : length (look_words counters f ++ charged_ledger register ledgers f) ≡ 30
  both = length-append (look_words counters f) (charged_ledger register ledgers f) ∙ omega (arith, front, ledger-size register ledgers f)

  pub register-look-first : (j : ℕ) → j < 20 → word answer j ≡ word (look_out_after nr floor shipped ops counters (length copy) out) j
  unfolding overwrite
  register-look-first j l =
      ap (λ (w : List ℕ). word w j) all
      ∙ get_or-append (look_words counters f ++ charged_ledger register ledgers f) _ 0 j (omega (arith, both))
      ∙ get_or-append (look_words counters f) (charged_ledger register ledgers f) 0 j (omega (arith, front))
      ∙ sym (get_or-append (look_words counters f) (drop (length (look_words counters f)) out) 0 j (omega (arith, front)))
      ∙ ap (λ (w : List ℕ). word w j) (sym (left (overwrite (look_words counters f) out) out plain-taken))

  pub register-look-sum : (k : ℕ) → k < 10 → word answer (2 * k) ≡ charged_kind f k
  register-look-sum k l = register-look-first (2 * k) (omega arith) ∙ look-sum nr floor shipped ops counters copy out room twenty free k l

  pub register-look-largest : (k : ℕ) → k < 10 → word answer (2 * k + 1) ≡ largest (register_counters_after nr floor shipped register ops counters ledgers) k
  register-look-largest k l =
      register-look-first (2 * k + 1) (omega arith)
      ∙ look-largest nr floor shipped ops counters copy out room twenty free k l
      ∙ ap (λ (w : List ℕ). largest w k) (left (charged_counters counters f) counters free ∙ sym (left (charged_counters counters f) counters ok))

  pub register-look-ledger : (k : ℕ) → k < 10 → word answer (20 + k) ≡ word (register_ledgers_after nr floor shipped register ops counters ledgers) (register * 10 + k)
  register-look-ledger k l =
      ap (λ (w : List ℕ). word w (20 + k)) all
      ∙ get_or-append (look_words counters f ++ charged_ledger register ledgers f) _ 0 (20 + k) (omega (arith, both))
      ∙ ap (λ (n : ℕ). word (look_words counters f ++ charged_ledger register ledgers f) (n + k)) (sym front)
      ∙ get_or-append-add (look_words counters f) (charged_ledger register ledgers f) k 0
      ∙ ledger-word register ledgers f k l
      ∙ sym (charged-own register ledgers f ((in-use-is (length ledgers) register).0 (through-used nr floor register ops counters ledgers ok)).0 k l)
      ∙ ap (λ (w : List ℕ). word w (register * 10 + k)) (sym (left (charged_ledgers register ledgers f) ledgers ok))
