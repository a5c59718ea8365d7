-- The judge's answer: the test decides, and an empty list, or one of another length, is not a message's.
use mathlib.Core.Path.{◌≡◌, refl, sym, ap, ◌∙◌}
use mathlib.Core.Bool.{Bool, true, false, not}
use mathlib.Core.Logic.{◌↔◌}
use mathlib.Core.Option.{Option, none, some}
use mathlib.Core.List.{List, []}
use Prim.Native.Nat.{ℕ, ◌+◌, ◌-◌, ◌*◌, ◌^◌, ◌<◌}
use native.Mathlib.Omega.{arith}
use borrow.Author.Tests.{lt-leb, leb-false, not-true}
use lib.ListN.{length}
use Rattle.lists.specs.Decides.{Decides}
use Rattle.lists.specs.Select.{words_test}
use Rattle.lists.proofs.Select.{words-sound}
use Rattle.lists.proofs.Tests.{true-not-false, true-and, false-and, and-true, T_of}
use Rattle.lists.proofs.Then.{T_true}
use Rattle.sha3.specs.Sha3.{blocks}
use Rattle.answer.specs.Refusal.{accepted}
use Rattle.answer.specs.declared.Refusal.{Refusal}
use Rattle.keccak.specs.Row.{OP-WORDS, op_at}
use Rattle.keccak.specs.Refusals.{address_at}
use Rattle.message.specs.Message.{is_late, message_list, judged_refusal, IsMessage, is_message, judged_of}
use Rattle.std.specs.Prelude.{Ok, Err}
use Rattle.message.proofs.Message.{test-same, test-apart, length-list}

-- ---- the answer, once the checks are known
pub judge-refused : {o : Option Refusal} {r : Refusal} (b : Bool) → o ≡ some r → Err r ≡ judged_of o b
unfolding judged_of
judge-refused b e = rw e

pub judge-says : {o : Option Refusal} {b : Bool} (t : Bool) → o ≡ none → b ≡ t → Ok t ≡ judged_of o b
unfolding judged_of
judge-says t e q = rw (e, q)

-- ---- the test
module _ (m ops : List ℕ) where
  abbrev first : ℕ
  first = (op_at ops 0).timestamp

  abbrev L : List ℕ
  L = message_list m (address_at ops 0) first

  pub not_late : is_late m first ≡ false → first + (blocks m - 1) < 2 ^ 64
  unfolding is_late
  not_late e = leb-false (2 ^ 64) (first + (blocks m - 1)) e

  -- late timestamps, another length, other words, and none of them
  pub late-no : is_late m first ≡ true → is_message m ops ≡ false
  unfolding is_message
  late-no e = false-and (not (is_late m first)) (words_test ops L) (λ q. absurd (true-not-false (sym q ∙ ap not e)))

  pub words-no : words_test ops L ≡ false → is_message m ops ≡ false
  unfolding is_message
  words-no e = false-and (not (is_late m first)) (words_test ops L) (λ q. e)

  pub length-no : (length ops ≡ blocks m * OP-WORDS → ⊥) → is_message m ops ≡ false
  length-no ne = words-no (test-apart ops L (λ e. ne (ap length e ∙ length-list m (address_at ops 0) first)))

  pub message-yes : is_late m first ≡ false → words_test ops L ≡ true → is_message m ops ≡ true
  unfolding is_message
  message-yes e q = true-and (not (is_late m first)) (words_test ops L) (ap not e) q

  -- where they are not late, the words decide
  pub words-say : is_late m first ≡ false → is_message m ops ≡ words_test ops L
  unfolding is_message
  words-say e = rw e

  pub message-decides : Decides (is_message m ops) (IsMessage m ops)
  unfolding is_message is_late
  message-decides =
      record {
        to = λ t.
            let b = and-true (not (is_late m first)) (words_test ops L) (T_true _ t) in
            record { list = words-sound ops L (T_of _ b.1); stamps = not_late (not-true _ b.0) };
        from = λ h. T_of _ (message-yes (lt-leb (2 ^ 64) (first + (blocks m - 1)) h.stamps) (test-same ops L h.list));
      }

-- ---- "yes exactly when it is that list for its own first address and timestamp", and no for every other list that is not refused
module _ (m ops : List ℕ) where
  pub judge-yes : (judged_of (judged_refusal m ops) (is_message m ops) ≡ Ok true) ↔ ((judged_refusal m ops ≡ accepted) × IsMessage m ops)
  unfolding judged_of
  judge-yes = (go (judged_refusal m ops) refl (is_message m ops) refl, λ h. sym (judge-says true h.0 (T_true _ ((message-decides m ops).from h.1))))
    where
      go : (o : Option Refusal) → judged_refusal m ops ≡ o → (b : Bool) → is_message m ops ≡ b → judged_of o b ≡ Ok true → (judged_refusal m ops ≡ accepted) × IsMessage m ops
      go none e true q y = (e, (message-decides m ops).to (T_of _ q))
      go none e false q y = let z : ◌≡◌ {A = ℕ} 0 1 = cc in absurd (omega arith)
      go (some r) e b q y = let z : ◌≡◌ {A = ℕ} 0 1 = cc in absurd (omega arith)

  pub judge-no : (judged_of (judged_refusal m ops) (is_message m ops) ≡ Ok false) ↔ ((judged_refusal m ops ≡ accepted) × (IsMessage m ops → ⊥))
  unfolding judged_of
  judge-no = (go (judged_refusal m ops) refl (is_message m ops) refl, λ h. sym (judge-says false h.0 (not-message (is_message m ops) refl h.1)))
    where
      not-message : (b : Bool) → is_message m ops ≡ b → (IsMessage m ops → ⊥) → b ≡ false
      not-message true q other = absurd (other ((message-decides m ops).to (T_of _ q)))
      not-message false q other = refl

      go : (o : Option Refusal) → judged_refusal m ops ≡ o → (b : Bool) → is_message m ops ≡ b → judged_of o b ≡ Ok false → (judged_refusal m ops ≡ accepted) × (IsMessage m ops → ⊥)
      go none e true q y = let z : ◌≡◌ {A = ℕ} 0 1 = cc in absurd (omega arith)
      go none e false q y = (e, λ h. true-not-false (sym (T_true _ ((message-decides m ops).from h)) ∙ q))
      go (some r) e b q y = let z : ◌≡◌ {A = ℕ} 0 1 = cc in absurd (omega arith)

-- "an empty list gets no"
pub empty-no : (m : List ℕ) → is_message m [] ≡ false
empty-no m = length-no m [] (λ e. omega arith)
