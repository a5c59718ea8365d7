-- More statements of Item 13, from message to operations (message/specs/Message.antt; Statements.antt has the others): each refusal with its
-- detail, and the digest that `sha3_256` answers.
use mathlib.Core.Path.{◌≡◌, refl, ap, ◌∙◌}
use mathlib.Core.List.{List}
use mathlib.Core.Option.{some}
use Prim.Native.Nat.{ℕ, ◌+◌, ◌*◌, ◌/◌, ◌%◌, ◌^◌, ◌≤◌, ◌<◌}
use native.Mathlib.Omega.{arith}
use lib.ListN.{length}
use Rattle.answer.specs.Limits.{MAX-OPS}
use Rattle.answer.specs.Refusal.{refusal_number}
use Rattle.answer.specs.declared.Refusal.{Refusal}
use Rattle.answer.specs.declared.Refusal.TheVariants.{PastEnd, TooShort, HighAddress, Unaligned, LongMessage}
use Rattle.sha3.specs.Sha3.{sha3-256}
use Rattle.sha3.specs.Sponge.{sha3-256-bits, bits_of, OnlyBytes}
use Rattle.keccak.specs.Row.{OP-WORDS, LAST-ADDRESS}
use Rattle.keccak.specs.Refusals.{op_count, address_at}
use Rattle.keccak.proofs.Refusals as list
use Rattle.message.specs.Message.{message_list, last_digest, message_refusal, judged_refusal, is_message, judged_of}
use Rattle.std.specs.Prelude.{Err}
use Rattle.message.proofs.Refusals as refusals
use Rattle.message.proofs.Tied.{Hashed, hashed-digest, hashed-bits, some-hashed}

-- "Refused: the address by 4 or 7; 12, .. and 13, .. both after 1 and before 2, in this order": of `message_operations`, where 12 and 13 do not
-- refuse (`message-by-12`, `message-by-13`), 3 with the words that the list needs, then 4 and 7 with the address
module _ (room : ℕ) (m : List ℕ) (address timestamp : ℕ) (few : length m ≤ 65536) (stamps : timestamp + length m / 136 < 2 ^ 64) where
  pub message-by-3 : room < (length m / 136 + 1) * OP-WORDS → message_refusal room m address timestamp ≡ some (TooShort ((length m / 136 + 1) * OP-WORDS))
  message-by-3 = refusals.short-refused room m address timestamp few (omega arith)

  module _ (long : (length m / 136 + 1) * OP-WORDS ≤ room) where
    pub message-by-4 : LAST-ADDRESS < address → message_refusal room m address timestamp ≡ some (HighAddress address)
    message-by-4 = refusals.high-refused room m address timestamp few (omega arith) long

    pub message-by-7 : address ≤ LAST-ADDRESS → (address % 8 ≡ 0 → ⊥) → message_refusal room m address timestamp ≡ some (Unaligned address)
    message-by-7 = refusals.unaligned-refused room m address timestamp few (omega arith) long

-- of `judge_message`: what its checks refuse, it answers
module _ (m ops : List ℕ) where
  pub judged-refused : {r : Refusal} → judged_refusal m ops ≡ some r → judged_of (judged_refusal m ops) (is_message m ops) ≡ Err r
  unfolding judged_of
  judged-refused e = ap (λ o. judged_of o (is_message m ops)) e

  -- 1 of the list, and then 12, "message too long, detail its length"
  pub judged-by-1 : MAX-OPS < op_count ops → judged_refusal m ops ≡ some (PastEnd 89478486)
  judged-by-1 = refusals.judged-many m ops

  pub judged-by-12 : op_count ops ≤ MAX-OPS → 65536 < length m → judged_refusal m ops ≡ some (LongMessage (length m))
  judged-by-12 = refusals.judged-long m ops

  -- then as every call that takes a list (`judged-as-lists`): "the address by 4 or 7", the first such address of the list
  module _ (few : op_count ops ≤ MAX-OPS) (short : length m ≤ 65536) (whole : length ops % OP-WORDS ≡ 0) where
    pub judged-by-4 : (i : ℕ) → i < op_count ops → LAST-ADDRESS < address_at ops i → ((j : ℕ) → j < i → address_at ops j ≤ LAST-ADDRESS) →
        judged_refusal m ops ≡ some (HighAddress (address_at ops i))
    judged-by-4 i l high lower = refusals.judged-rest m ops few short ∙ list.high-refused 0 0 ops few whole (omega arith) i l high lower

    pub judged-by-7 : ((j : ℕ) → j < op_count ops → address_at ops j ≤ LAST-ADDRESS) →
        (i : ℕ) → i < op_count ops → (address_at ops i % 8 ≡ 0 → ⊥) → ((j : ℕ) → j < i → address_at ops j % 8 ≡ 0) →
        judged_refusal m ops ≡ some (Unaligned (address_at ops i))
    judged-by-7 low i l odd lower = refusals.judged-rest m ops few short ∙ list.unaligned-refused 0 0 ops few whole (omega arith) low i l odd lower

pub cases-by-1-3 : (refusal_number (PastEnd 89478486) ≡ 1) × (refusal_number (TooShort 53) ≡ 3)
cases-by-1-3 = (refl, refl)

-- "The last output's first 32 bytes are the digest of FIPS 202.": they are what `sha3_256` answers for the message, which is SHA3-256 by FIPS 202
-- on bits. `Hashed` (message/proofs/Tied.antt) is a call of it, known by its contract
pub digest-answered : {m d : List ℕ} → Hashed m d → (address timestamp : ℕ) → last_digest (message_list m address timestamp) ≡ d
digest-answered = hashed-digest

pub digest-answered-bits : {m d : List ℕ} → Hashed m d → OnlyBytes m → bits_of d ≡ sha3-256-bits (bits_of m)
digest-answered-bits = hashed-bits

pub some-digest : (m : List ℕ) → Hashed m (sha3-256 m)
some-digest = some-hashed
