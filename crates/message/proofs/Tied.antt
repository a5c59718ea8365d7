-- The digest that `sha3_256` answers, of which nothing is known but its contract: `Learnt` is what the `ensures` clause in `src/` tells a
-- caller.
--     Hashed            a call of `sha3_256` on a message, and the bytes that it answers
--     hashed-digest     they are the digest that the message's list ends with
--     hashed-bits       and SHA3-256 of FIPS 202 on bits
--     any-hashed        it asks nothing of a message
--     some-hashed       and nothing else is asked of a call
use mathlib.Core.Path.{◌≡◌, refl, sym, ap, ◌∙◌}
use mathlib.Core.List.{List, []}
use Prim.Native.Nat.{ℕ}
use contract.Lifetimes.{Lfts}
use denote.Triple.Clauses.{AtExit}
use borrow.Fn.Kinds.{Dens, ended_of}
use Rattle.sha3.specs.Sha3.{sha3-256}
use Rattle.sha3.specs.Sponge.{OnlyBytes, bits_of, sha3-256-bits}
use Rattle.sha3.proofs.Sponge.{sha3-bits}
use Rattle.sha3.proofs.sha3_256.Kinds as kinds
use Rattle.sha3.proofs.sha3_256.Reads as reads
use Rattle.message.specs.Message.{message_list, last_digest}
use Rattle.message.proofs.Digest.{chained-digest, list-chained, list-output}

pub record Hashed (m d : List ℕ) : Type 0 where
  pub lifetimes : Lfts 1
  pub lent : Dens lifetimes kinds.ps
  pub ended : AtExit (ended_of 1 kinds.ps kinds.r) lifetimes
  pub message-is : lent.0.now ≡ m
  pub says : reads.Learnt lifetimes lent d ended

module _ {m d : List ℕ} (c : Hashed m d) where
  hashed : d ≡ sha3-256 m
  hashed = c.says ∙ ap sha3-256 c.message-is

  pub hashed-digest : (address timestamp : ℕ) → last_digest (message_list m address timestamp) ≡ d
  hashed-digest address timestamp =
      chained-digest m (message_list m address timestamp) (list-chained m address timestamp) (list-output m address timestamp) ∙ sym hashed

  pub hashed-bits : OnlyBytes m → bits_of d ≡ sha3-256-bits (bits_of m)
  hashed-bits small = ap bits_of hashed ∙ sha3-bits m small

pub any-hashed : (lifetimes : Lfts 1) (lent : Dens lifetimes kinds.ps) → reads.Asked lifetimes lent
any-hashed lifetimes lent = tt

pub some-hashed : (m : List ℕ) → Hashed m (sha3-256 m)
some-hashed m =
    record {
      lifetimes = ([], tt);
      lent = (record { ref_ptr = (0, 0); now = m }, tt);
      ended = (record { ref_ptr = (0, 0); now = m }, tt);
      message-is = refl;
      says = refl;
    }
