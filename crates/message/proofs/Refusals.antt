-- The refusals of `message_operations` and `judge_message`, each with its detail, and where a call is accepted.
--     message-accepted         `message_operations` is accepted exactly where none of its five conditions holds
--     long-refused, late-refused, short-refused, high-refused, unaligned-refused   its refusals, in their order
--     number-told              what an answer that is a number says
--     judged-many, judged-long, judged-rest   those of `judge_message`: 1, 12, and then those of every call that takes a list
use mathlib.Core.Path.{◌≡◌, refl, sym, ap}
use mathlib.Core.Logic.{◌↔◌}
use mathlib.Core.Bool.{not}
use mathlib.Core.Option.{Option, none, some}
use mathlib.Core.List.{List}
use Prim.Native.Nat.{ℕ, ◌+◌, ◌-◌, ◌*◌, ◌%◌, ◌^◌, ◌≤◌, ◌<◌}
use native.Mathlib.Omega.{arith}
use borrow.Author.Tests.{leb-false, ltb-false, eqb-true, lt-ltb, le-ltb, le-leb, lt-leb, eq-eqb, ne_eqb, not-false}
use lib.ListN.{length}
use Rattle.sha3.specs.Sha3.{blocks}
use Rattle.answer.specs.Limits.{MAX-OPS}
use Rattle.answer.specs.Refusal.{refuse_if, accepted, too_short, number_of}
use Rattle.answer.specs.declared.Refusal.{Refusal}
use Rattle.answer.specs.declared.Refusal.TheVariants.{PastEnd, TooShort, HighAddress, Unaligned, LongMessage, LateTimestamp}
use Rattle.answer.proofs.Laws.{refuse-yes, refuse-no, passed-if}
use Rattle.keccak.specs.Row.{OP-WORDS, LAST-ADDRESS}
use Rattle.keccak.specs.Refusals.{op_count, operations_refusal}
use Rattle.message.specs.Message.{MAX-MESSAGE, is_late, too_late, bad_place, Hashable, message_refusal, judged_refusal}
use Rattle.std.specs.Prelude.{Ok}

module _ (room : ℕ) (m : List ℕ) (address timestamp : ℕ) where
  pub long-refused : MAX-MESSAGE < length m → message_refusal room m address timestamp ≡ some (LongMessage (length m))
  unfolding message_refusal
  long-refused h = refuse-yes _ _ (lt-ltb MAX-MESSAGE (length m) h)

  module _ (few : length m ≤ MAX-MESSAGE) where
    past-long : {o : Option Refusal} → too_late m timestamp (too_short room (blocks m * OP-WORDS) (bad_place address accepted)) ≡ o → message_refusal room m address timestamp ≡ o
    unfolding message_refusal
    past-long e = refuse-no _ (le-ltb MAX-MESSAGE (length m) few) e

    pub late-refused : 2 ^ 64 ≤ timestamp + (blocks m - 1) → message_refusal room m address timestamp ≡ some (LateTimestamp timestamp)
    unfolding is_late
    late-refused h = past-long (refuse-yes _ _ (le-leb (2 ^ 64) (timestamp + (blocks m - 1)) h))

    module _ (stamps : timestamp + (blocks m - 1) < 2 ^ 64) where
      past-late : {o : Option Refusal} → too_short room (blocks m * OP-WORDS) (bad_place address accepted) ≡ o → message_refusal room m address timestamp ≡ o
      unfolding is_late
      past-late e = past-long (refuse-no _ (lt-leb (2 ^ 64) (timestamp + (blocks m - 1)) stamps) e)

      pub short-refused : room < blocks m * OP-WORDS → message_refusal room m address timestamp ≡ some (TooShort (blocks m * OP-WORDS))
      short-refused h = past-late (refuse-yes _ _ (lt-ltb room (blocks m * OP-WORDS) h))

      module _ (long : blocks m * OP-WORDS ≤ room) where
        past-short : {o : Option Refusal} → bad_place address accepted ≡ o → message_refusal room m address timestamp ≡ o
        past-short e = past-late (refuse-no _ (le-ltb room (blocks m * OP-WORDS) long) e)

        pub high-refused : LAST-ADDRESS < address → message_refusal room m address timestamp ≡ some (HighAddress address)
        high-refused h = past-short (refuse-yes _ _ (lt-ltb LAST-ADDRESS address h))

        module _ (low : address ≤ LAST-ADDRESS) where
          pub unaligned-refused : (address % 8 ≡ 0 → ⊥) → message_refusal room m address timestamp ≡ some (Unaligned address)
          unaligned-refused h = past-short (refuse-no _ (le-ltb LAST-ADDRESS address low) (refuse-yes _ _ (ap not (ne_eqb (address % 8) 0 h))))

          none-refused : address % 8 ≡ 0 → message_refusal room m address timestamp ≡ accepted
          none-refused h = past-short (refuse-no _ (le-ltb LAST-ADDRESS address low) (refuse-no _ (ap not (eq-eqb (address % 8) 0 h)) refl))

  pub message-accepted : (message_refusal room m address timestamp ≡ accepted) ↔ Hashable room m address timestamp
  unfolding message_refusal is_late
  message-accepted = (
    (λ e.
        let a = passed-if _ _ _ e in
        let b = passed-if _ _ _ a.1 in
        let c = passed-if _ _ _ b.1 in
        let d = passed-if _ _ _ c.1 in
        let f = passed-if _ _ _ d.1 in
        record {
          few = ltb-false MAX-MESSAGE (length m) a.0;
          stamps = leb-false (2 ^ 64) (timestamp + (blocks m - 1)) b.0;
          long = ltb-false room (blocks m * OP-WORDS) c.0;
          low = ltb-false LAST-ADDRESS address d.0;
          aligned = eqb-true (address % 8) 0 (not-false _ f.0);
        }),
    λ h. none-refused h.few h.stamps h.long h.low h.aligned,
  )

  -- what an answer that is a number says
  pub number-told : {n : ℕ} → Ok n ≡ number_of (blocks m) (message_refusal room m address timestamp) → (n ≡ blocks m) × Hashable room m address timestamp
  unfolding number_of
  number-told {n} e = go (message_refusal room m address timestamp) refl e
    where
      go : (o : Option Refusal) → message_refusal room m address timestamp ≡ o → Ok n ≡ number_of (blocks m) o → (n ≡ blocks m) × Hashable room m address timestamp
      go none q e = (cc, message-accepted.0 q)
      go (some r) q e = let z : ◌≡◌ {A = ℕ} 0 1 = cc in absurd (omega arith)

-- ---- the judge
module _ (m ops : List ℕ) where
  pub judged-many : MAX-OPS < op_count ops → judged_refusal m ops ≡ some (PastEnd 89478486)
  unfolding judged_refusal
  judged-many h = refuse-yes _ _ (lt-ltb MAX-OPS (op_count ops) h)

  pub judged-long : op_count ops ≤ MAX-OPS → MAX-MESSAGE < length m → judged_refusal m ops ≡ some (LongMessage (length m))
  unfolding judged_refusal
  judged-long few h = refuse-no _ (le-ltb MAX-OPS (op_count ops) few) (refuse-yes _ _ (lt-ltb MAX-MESSAGE (length m) h))

  -- then 2, 4, 7 and 11, as every call that takes a list refuses it; 3 and 13 are none of them
  pub judged-rest : op_count ops ≤ MAX-OPS → length m ≤ MAX-MESSAGE → judged_refusal m ops ≡ operations_refusal 0 0 ops
  unfolding judged_refusal operations_refusal refuse_if
  judged-rest few short = refuse-no _ (le-ltb MAX-OPS (op_count ops) few) (refuse-no _ (le-ltb MAX-MESSAGE (length m) short) (sym (refuse-no _ (le-ltb MAX-OPS (op_count ops) few) refl)))
