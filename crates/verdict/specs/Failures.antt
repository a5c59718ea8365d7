-- What each answer of the verdict says, with no search in it. proofs/Failures.antt: the verdict on two tables is an
-- answer exactly where `Says` has it. So the order of the failures, and the table, row and index of each, are those of
-- the scope. What the call answers for any number of rounds is said by `SaysFor`.
use Rattle.std.specs.Prelude.{◌≡◌, ◌⊎◌, List, ℕ, zero, suc, ◌≤◌, ◌<◌, length}
use Rattle.lists.specs.Tab.{word}
use Rattle.lists.specs.Failure.{FirstAt, FirstIn}
use Rattle.field.specs.Field.{p}
use Rattle.tuple.specs.declared.Bus.TheVariants.{Keccak}
use Rattle.answer.specs.declared.Refusal.TheVariants.{PastEnd, NotWhole, TooShort, HighAddress, NotElement, BadRecord, Unaligned, Rounds, Floor, Register, Segment, LongMessage, LateTimestamp, Files}
use Rattle.answer.specs.Limits.{MAX-ROUNDS}
use Rattle.verdict.specs.Kind.{Layout, Kind, rows, row, actives, Active, SameTimestamp, DistinctTimestamps}
use Rattle.verdict.specs.Kind.{Whole, Elements, ZeroAt, MatchedAt, Values, Lookups, Passes, BalancedAt, Balanced}
use Rattle.verdict.specs.CoreAndRound.{core_kind, round_kind}
use Rattle.verdict.specs.declared.Table.TheVariants.{Core, Round}
use Rattle.verdict.specs.declared.Verdict.{Verdict}
use Rattle.verdict.specs.declared.Verdict.TheVariants.{Refused, Value, Lookup, Repeated, Unbalanced, Holds}

-- ---- a table
module _ (A : Layout) (ws : List ℕ) where
  -- "an active core row whose timestamp an earlier active one has"
  pub record RepeatsAt (r : ℕ) : Type 0 where
    pub active : Active A ws r
    pub earlier : ℕ
    pub before : earlier < r
    pub earlier-active : Active A ws earlier
    pub same : SameTimestamp (row A ws earlier) (row A ws r)

  -- row r is no such row: where it is active, no earlier active row has its timestamp
  abbrev pub NewAt : ℕ → Type 0
  NewAt r = Active A ws r → (q : ℕ) → q < r → Active A ws q → SameTimestamp (row A ws q) (row A ws r) → ⊥

  -- the lowest such row
  abbrev pub FirstRepeat : ℕ → Type 0
  FirstRepeat = FirstAt RepeatsAt NewAt (rows A ws)

-- word k is the first that is p or more
abbrev pub FirstNotElement : List ℕ → ℕ → Type 0
FirstNotElement ws = FirstAt (λ k. p ≤ word ws k) (λ k. word ws k < p) (length ws)

-- ---- a table of a kind
module _ (K : Kind) (ws : List ℕ) where
  -- value i of row r is the first that is not 0: "lowest row, then lowest index"
  abbrev pub FirstValue : ℕ → ℕ → Type 0
  FirstValue = FirstIn (λ r i. ZeroAt K ws r i → ⊥) (ZeroAt K ws) K.values (rows K.layout ws)

  -- tuple i of row r is the first that is not matched, likewise
  abbrev pub FirstLookup : ℕ → ℕ → Type 0
  FirstLookup = FirstIn (λ r i. MatchedAt K ws r i → ⊥) (MatchedAt K ws) K.tuples (rows K.layout ws)

-- ---- a core table of the kind K and a round table of the kind L
module _ (K L : Kind) (core round : List ℕ) where
  -- Tuple i of row r of the table ws, which is one of the two, is unbalanced: its row is active, it is on the Keccak
  -- bus, and "its sends and receives differ in number".
  pub record UnevenAt (M : Kind) (ws : List ℕ) (r i : ℕ) : Type 0 where
    pub active : Active M.layout ws r
    pub on-bus : (M.tuple (row M.layout ws r) i).bus ≡ Keccak
    pub differ : BalancedAt K L core round (M.tuple (row M.layout ws r) i).values → ⊥

  -- it is no such tuple: where its row is active and it is on the Keccak bus, it is sent as often as received
  abbrev pub EvenAt : Kind → List ℕ → ℕ → ℕ → Type 0
  EvenAt M ws r i =
      Active M.layout ws r → (M.tuple (row M.layout ws r) i).bus ≡ Keccak →
      BalancedAt K L core round (M.tuple (row M.layout ws r) i).values

  -- Tuple i of row r is the first unbalanced one of a table. proofs/Failures.antt: on the Keccak bus are tuples 2 and 3
  -- of a core row, "send before its receive", and 0 and 1 of a round row, "receive before its send".
  abbrev pub FirstUnbalanced : Kind → List ℕ → ℕ → ℕ → Type 0
  FirstUnbalanced M ws = FirstIn (UnevenAt M ws) (EvenAt M ws) M.tuples (rows M.layout ws)

  -- no tuple of a table is unbalanced
  abbrev pub EachEven : Kind → List ℕ → Type 0
  EachEven M ws = (r i : ℕ) → r < rows M.layout ws → i < M.tuples → EvenAt M ws r i

  -- What is passed before each failure, "in this order: core value, core lookup, an active core row whose timestamp an
  -- earlier active one has, round value, round lookup, unbalanced tuple". Up to the core values: nothing is refused.
  abbrev pub ToCoreValue : Type 0
  ToCoreValue = Whole K.layout core × Whole L.layout round × Elements core × Elements round

  -- and every core value is 0
  abbrev pub ToCoreLookup : Type 0
  ToCoreLookup = ToCoreValue × Values K core

  -- and every core tuple is matched
  abbrev pub ToRepeat : Type 0
  ToRepeat = ToCoreLookup × Lookups K core

  -- and the timestamps of the active core rows all differ
  abbrev pub ToRoundValue : Type 0
  ToRoundValue = ToRepeat × DistinctTimestamps K.layout core

  -- and every round value is 0
  abbrev pub ToRoundLookup : Type 0
  ToRoundLookup = ToRoundValue × Values L round

  -- and every round tuple is matched
  abbrev pub ToCoreBalance : Type 0
  ToCoreBalance = ToRoundLookup × Lookups L round

  -- and no tuple of a core row is unbalanced: "core rows come before round rows"
  abbrev pub ToRoundBalance : Type 0
  ToRoundBalance = ToCoreBalance × EachEven K core

  -- what an answer says
  abbrev pub Says : Verdict → Type 0
  -- refusal 2: a table that is not whole rows, detail 0 core, 1 round, in argument order
  Says (Refused (NotWhole zero)) = Whole K.layout core → ⊥
  Says (Refused (NotWhole (suc zero))) = Whole K.layout core × (Whole L.layout round → ⊥)
  -- refusal 5, after 2: any word is p or more, detail its place in that table, core before round
  Says (Refused (NotElement k)) =
      Whole K.layout core × Whole L.layout round
      × (FirstNotElement core k ⊎ (Elements core × FirstNotElement round k))
  -- the failures, each after those before it in the scope's order
  Says (Value Core r i) = ToCoreValue × FirstValue K core r i
  Says (Lookup Core r i) = ToCoreLookup × FirstLookup K core r i
  Says (Repeated r) = ToRepeat × FirstRepeat K.layout core r
  Says (Value Round r i) = ToRoundValue × FirstValue L round r i
  Says (Lookup Round r i) = ToRoundLookup × FirstLookup L round r i
  Says (Unbalanced Core r i) = ToCoreBalance × FirstUnbalanced K core r i
  Says (Unbalanced Round r i) = ToRoundBalance × FirstUnbalanced L round r i
  -- "'holds' with the active core count"
  Says (Holds n) =
      Passes K core × DistinctTimestamps K.layout core × Passes L round × Balanced K L core round
      × (n ≡ actives K.layout core)
  -- the verdict on two tables has no other refusal
  Says (Refused (NotWhole (suc (suc d)))) = ⊥
  Says (Refused (PastEnd d)) = ⊥
  Says (Refused (TooShort d)) = ⊥
  Says (Refused (HighAddress d)) = ⊥
  Says (Refused (BadRecord d)) = ⊥
  Says (Refused (Unaligned d)) = ⊥
  Says (Refused (Rounds d)) = ⊥
  Says (Refused (Floor d)) = ⊥
  Says (Refused (Register d)) = ⊥
  Says (Refused (Segment d)) = ⊥
  Says (Refused (LongMessage d)) = ⊥
  Says (Refused (LateTimestamp d)) = ⊥
  Says (Refused (Files d)) = ⊥

-- ---- the core table and the round table, for any number of rounds
-- "nr is 0 or above 24"
abbrev pub NoRounds : ℕ → Type 0
NoRounds nr = (nr ≡ 0) ⊎ (MAX-ROUNDS < nr)

-- what an answer of the call says: refusal 8 with its detail, or nr is 1 to 24 and the answer is that on the two tables
abbrev pub SaysFor : ℕ → List ℕ → List ℕ → Verdict → Type 0
SaysFor nr core round v =
    (NoRounds nr × (v ≡ Refused (Rounds nr)))
    ⊎ ((1 ≤ nr) × (nr ≤ MAX-ROUNDS) × Says (core_kind nr) round_kind core round v)
