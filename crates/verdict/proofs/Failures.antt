-- The verdict on two tables is an answer exactly where specs/Failures.antt says so.
--     verdict-iff       judged K L core round ≡ v ↔ Says K L core round v, for each answer v
--     says, says-one    so one answer can be said of two tables, and no other
--     verdict-says      the same of the core table and the round table
--     core-places       a core row's tuples on the Keccak bus: 2, which it sends, and 3, which it receives
--     round-places      a round row's: 0, which it receives, and 1, which it sends
--     timestamp-twice   where a timestamp stands twice, the verdict names one
--     by-balance        where both tables pass and timestamps differ, the verdict holds or names an unbalanced tuple
--     out-of-balance    where only the bus is wrong, the verdict names an unbalanced tuple
use mathlib.Core.Path.{◌≡◌, refl, sym, ap, subst, ◌∙◌}
use mathlib.Core.Bool.{Bool, true, false}
use mathlib.Core.Logic.{◌↔◌, ◌⊎◌, inl, inr}
use mathlib.Core.Option.{Option, none, some}
use mathlib.Core.List.{List}
use Prim.Native.Nat.{ℕ, zero, suc, ◌+◌, ◌≤◌, ◌<◌}
use native.Mathlib.Omega.{arith}
use lib.Dec.{eqb}
use lib.ListN.{length}
use Rattle.lists.specs.Tab.{pick, word}
use Rattle.lists.specs.First.{any_below}
use Rattle.lists.specs.Failure.{Separates}
use Rattle.lists.proofs.Then.{by_le, T_true}
use Rattle.lists.proofs.Decides.{decides_eq, decides-map}
use Rattle.lists.proofs.Failure.{at-none-iff, at-some-iff, in-none-iff, in-some-iff, separates-map, separates-no, separates-yes, separates-le, separates-and, separates-any}
use Rattle.field.specs.Field.{p}
use Rattle.field.specs.Elements.{not_element, first_not_element}
use Rattle.field.proofs.NotElement.{all-elements, none_found}
use Rattle.tuple.specs.Tuple.{Tuple}
use Rattle.tuple.specs.declared.Bus.TheVariants.{Keccak}
use Rattle.tuple.specs.declared.Side.{Side}
use Rattle.tuple.specs.declared.Side.TheVariants.{Sender, Receiver}
use Rattle.keccak.specs.Tuples.{core_tuple}
use Rattle.keccak_rnd.specs.Tuples.{round_tuple}
use Rattle.tuple.proofs.Buses.{bus-decides}
use Rattle.matching.specs.Matching.{matched}
use Rattle.matching.proofs.Matching.{matched-decides}
use Rattle.answer.specs.declared.Refusal.TheVariants.{PastEnd, NotWhole, TooShort, HighAddress, NotElement, BadRecord, Unaligned, Rounds, Floor, Register, Segment, LongMessage, LateTimestamp, Files}
use Rattle.keccak.specs.Columns.{TIMESTAMP-0, TIMESTAMP-1}
use Rattle.verdict.specs.Kind.{Layout, Kind, rows, row, is_active, active, actives, Active, SameTimestamp, same_stamp, DistinctTimestamps, Passes, on_keccak, sent, received, OnBus, BalancedAt, Balanced}
use Rattle.verdict.specs.Verdict.{ragged, bad_value, first_value, bad_lookup, first_lookup, same_stamp_at, repeats, first_repeat, uneven, uneven_tuple, bad_tuple, first_unbalanced, stage, from_round_balance, from_core_balance, from_round_lookup, from_round_value, from_repeat, from_core_lookup, from_core_value, from_round_words, from_core_words, judged}
use Rattle.verdict.specs.CoreAndRound.{core_kind, round_kind, verdict_at}
use Rattle.verdict.specs.Kind.{Whole, Elements, ZeroAt, MatchedAt, Values, Lookups}
use Rattle.verdict.specs.Failures.{RepeatsAt, NewAt, FirstValue, FirstLookup, FirstRepeat, FirstNotElement, UnevenAt, EvenAt, FirstUnbalanced, EachEven, ToCoreValue, ToCoreLookup, ToRepeat, ToRoundValue, ToRoundLookup, ToCoreBalance, ToRoundBalance, Says}
use Rattle.verdict.specs.declared.Table.TheVariants.{Core, Round}
use Rattle.verdict.specs.declared.Verdict.{Verdict}
use Rattle.verdict.specs.declared.Verdict.TheVariants.{Refused, Value, Lookup, Repeated, Unbalanced, Holds}
use Rattle.verdict.proofs.Judge.{even-balanced}
use Rattle.verdict.proofs.Stages.{passes, answers, whole-separates, core-refused, round-refused, both-whole}
use Rattle.verdict.proofs.Tuples.{place, at_place, core-bus, round-bus}

-- ---- each test separates what fails from what holds
equal-separates : (a b : ℕ) → Separates (eqb a b) (a ≡ b) (a ≡ b → ⊥)
equal-separates a b = separates-yes (eqb a b) (decides_eq a b)

module _ (A : Layout) (ws : List ℕ) where
  active-separates : (r : ℕ) → r < rows A ws → Separates (active A ws r) (Active A ws r) (Active A ws r → ⊥)
  unfolding is_active
  active-separates r l =
      separates-yes (eqb (word (row A ws r) A.mu) 1) (decides-map (λ e. record { there = l; on = e }) (λ a. a.on) (decides_eq (word (row A ws r) A.mu) 1))

  stamp-separates : (x y : List ℕ) → Separates (same_stamp x y) (SameTimestamp x y) (SameTimestamp x y → ⊥)
  unfolding same_stamp
  stamp-separates x y =
      separates-map ((λ s. s), λ s. s) ((λ h s. h s.0 s.1), λ h a b. h (a, b))
      (separates-and (eqb (word x TIMESTAMP-0) (word y TIMESTAMP-0)) (eqb (word x TIMESTAMP-1) (word y TIMESTAMP-1))
      (equal-separates (word x TIMESTAMP-0) (word y TIMESTAMP-0)) (equal-separates (word x TIMESTAMP-1) (word y TIMESTAMP-1)))

  repeat-separates : (r : ℕ) → r < rows A ws → Separates (repeats A ws r) (RepeatsAt A ws r) (NewAt A ws r)
  unfolding repeats same_stamp_at
  repeat-separates r l =
      separates-map (
        (λ x. record { active = x.0; earlier = x.1.0; before = x.1.1; earlier-active = x.1.2.0; same = x.1.2.1 }),
        λ x. (x.active, (x.earlier, x.before, (x.earlier-active, x.same))),
      ) ((λ h. h), λ h. h)
      (separates-and (active A ws r) (any_below (same_stamp_at A ws r) r) (active-separates r l) (separates-any (same_stamp_at A ws r) r (λ q g.
      separates-and (active A ws q) (same_stamp (row A ws q) (row A ws r)) (active-separates q (omega arith)) (stamp-separates (row A ws q) (row A ws r)))))

module _ (K : Kind) (ws : List ℕ) where
  value-separates : (r i : ℕ) → r < rows K.layout ws → i < K.values → Separates (bad_value K ws r i) (ZeroAt K ws r i → ⊥) (ZeroAt K ws r i)
  unfolding bad_value
  value-separates r i l g = separates-no (eqb (K.value (row K.layout ws r) i) 0) (decides_eq (K.value (row K.layout ws r) i) 0)

  lookup-separates : (r i : ℕ) → r < rows K.layout ws → i < K.tuples → Separates (bad_lookup K ws r i) (MatchedAt K ws r i → ⊥) (MatchedAt K ws r i)
  unfolding bad_lookup
  lookup-separates r i l g = separates-no (matched (K.tuple (row K.layout ws r) i)) (matched-decides (K.tuple (row K.layout ws r) i))

element-separates : (ws : List ℕ) (k : ℕ) → k < length ws → Separates (not_element ws k) (p ≤ word ws k) (word ws k < p)
unfolding not_element
element-separates ws k l = separates-le p (word ws k)

-- ---- what each scan finds
module _ (K : Kind) (ws : List ℕ) where
  no_value : (first_value K ws ≡ none) ↔ Values K ws
  no_value = in-none-iff (bad_value K ws) K.values (rows K.layout ws) (value-separates K ws)

  a-value : (r i : ℕ) → (first_value K ws ≡ some (r, i)) ↔ FirstValue K ws r i
  a-value = in-some-iff (bad_value K ws) K.values (rows K.layout ws) (value-separates K ws)

  no-lookup : (first_lookup K ws ≡ none) ↔ Lookups K ws
  no-lookup = in-none-iff (bad_lookup K ws) K.tuples (rows K.layout ws) (lookup-separates K ws)

  a-lookup : (r i : ℕ) → (first_lookup K ws ≡ some (r, i)) ↔ FirstLookup K ws r i
  a-lookup = in-some-iff (bad_lookup K ws) K.tuples (rows K.layout ws) (lookup-separates K ws)

module _ (A : Layout) (ws : List ℕ) where
  pub no-repeat : (first_repeat A ws ≡ none) ↔ DistinctTimestamps A ws
  unfolding DistinctTimestamps
  no-repeat =
      let e = at-none-iff (repeats A ws) (rows A ws) (repeat-separates A ws) in (
        (λ n q r l a b. e.0 n r b.there b q l a),
        λ d. e.1 (λ r l b q g a. d q r g a b),
      )

  a-repeat : (r : ℕ) → (first_repeat A ws ≡ some r) ↔ FirstRepeat A ws r
  a-repeat = at-some-iff (repeats A ws) (rows A ws) (repeat-separates A ws)

a-big : (ws : List ℕ) (k : ℕ) → (first_not_element ws (length ws) ≡ some k) ↔ FirstNotElement ws k
a-big ws = at-some-iff (not_element ws) (length ws) (element-separates ws)

-- ---- the answer of a stage
module _ (P : Verdict → Type 0) where
  stage-says : {A : Type 0} (o : Option A) (f : A → Verdict) (v : Verdict) → ((a : A) → o ≡ some a → P (f a)) → (o ≡ none → P v) → P (stage o f v)
  unfolding stage
  stage-says none f v h g = g refl
  stage-says (some a) f v h g = h a refl

  pick-says : (b : Bool) (v w : Verdict) → (b ≡ true → P v) → (b ≡ false → P w) → P (pick b v w)
  pick-says true v w h g = h refl
  pick-says false v w h g = g refl

module _ (K L : Kind) (core round : List ℕ) where
  uneven-separates : (y : List ℕ) → Separates (uneven K L core round y) (BalancedAt K L core round y → ⊥) (BalancedAt K L core round y)
  unfolding uneven
  uneven-separates y =
      separates-no (eqb (sent K core y + sent L round y) (received K core y + received L round y)) (decides_eq (sent K core y + sent L round y) (received K core y + received L round y))

  tuple-separates : (M : Kind) (ws : List ℕ) (r i : ℕ) → r < rows M.layout ws → i < M.tuples →
      Separates (bad_tuple K L core round M ws r i) (UnevenAt K L core round M ws r i) (EvenAt K L core round M ws r i)
  unfolding bad_tuple uneven_tuple
  tuple-separates M ws r i l g =
      let x : Tuple = M.tuple (row M.layout ws r) i in
      separates-map
      ((λ y. record { active = y.0; on-bus = y.1.0; differ = y.1.1 }), λ y. (y.active, (y.on-bus, y.differ)))
      ((λ h. h), λ h. h)
      (separates-and (active M.layout ws r) (uneven_tuple K L core round x) (active-separates M.layout ws r l)
      (separates-and (on_keccak x) (uneven K L core round x.values) (separates-yes (on_keccak x) (bus-decides x.bus Keccak)) (uneven-separates x.values)))

  -- what each scan finds
  module _ (M : Kind) (ws : List ℕ) where
    no-uneven : (first_unbalanced K L core round M ws ≡ none) ↔ EachEven K L core round M ws
    no-uneven = in-none-iff (bad_tuple K L core round M ws) M.tuples (rows M.layout ws) (tuple-separates M ws)

    an-uneven : (r i : ℕ) → (first_unbalanced K L core round M ws ≡ some (r, i)) ↔ FirstUnbalanced K L core round M ws r i
    an-uneven = in-some-iff (bad_tuple K L core round M ws) M.tuples (rows M.layout ws) (tuple-separates M ws)

    each-even : Balanced K L core round → EachEven K L core round M ws
    unfolding Balanced
    each-even b r i l g a k = b (M.tuple (row M.layout ws r) i).values

    pub balanced-scan : Balanced K L core round → first_unbalanced K L core round M ws ≡ none
    balanced-scan b = no-uneven.1 (each-even b)

  -- ---- the verdict says what it answers, from each stage on
  abbrev Say : Verdict → Type 0
  Say = Says K L core round

  core-passes : ToCoreBalance K L core round → Passes K core
  core-passes h = let c = h.0.0.0 in let w = c.0.0 in record { whole = w.0; below = w.2; values = c.0.1; lookups = c.1 }

  pub round-passes : ToCoreBalance K L core round → Passes L round
  round-passes h = let w = h.0.0.0.0.0 in record { whole = w.1; below = w.3; values = h.0.1; lookups = h.1 }

  from-round-balance : ToRoundBalance K L core round → Say (from_round_balance K L core round)
  unfolding from_round_balance
  from-round-balance h =
      stage-says Say (first_unbalanced K L core round L round) (λ x. Unbalanced Round x.0 x.1) (Holds (actives K.layout core))
      (λ a e. (h, (an-uneven L round a.0 a.1).0 e))
      (λ e. (
        core-passes h.0,
        h.0.0.0.1,
        round-passes h.0,
        even-balanced K L core round h.1 ((no-uneven L round).0 e),
        refl,
      ))

  from-core-balance : ToCoreBalance K L core round → Say (from_core_balance K L core round)
  unfolding from_core_balance
  from-core-balance h =
      stage-says Say (first_unbalanced K L core round K core) (λ x. Unbalanced Core x.0 x.1) (from_round_balance K L core round)
      (λ a e. (h, (an-uneven K core a.0 a.1).0 e)) (λ e. from-round-balance (h, (no-uneven K core).0 e))

  from-round-lookup : ToRoundLookup K L core round → Say (from_round_lookup K L core round)
  unfolding from_round_lookup
  from-round-lookup h =
      stage-says Say (first_lookup L round) (λ x. Lookup Round x.0 x.1) (from_core_balance K L core round)
      (λ a e. (h, (a-lookup L round a.0 a.1).0 e)) (λ e. from-core-balance (h, (no-lookup L round).0 e))

  from-round-value : ToRoundValue K L core round → Say (from_round_value K L core round)
  unfolding from_round_value
  from-round-value h =
      stage-says Say (first_value L round) (λ x. Value Round x.0 x.1) (from_round_lookup K L core round)
      (λ a e. (h, (a-value L round a.0 a.1).0 e)) (λ e. from-round-lookup (h, (no_value L round).0 e))

  from-repeat : ToRepeat K L core round → Say (from_repeat K L core round)
  unfolding from_repeat
  from-repeat h =
      stage-says Say (first_repeat K.layout core) (λ r. Repeated r) (from_round_value K L core round)
      (λ r e. (h, (a-repeat K.layout core r).0 e)) (λ e. from-round-value (h, (no-repeat K.layout core).0 e))

  from-core-lookup : ToCoreLookup K L core round → Say (from_core_lookup K L core round)
  unfolding from_core_lookup
  from-core-lookup h =
      stage-says Say (first_lookup K core) (λ x. Lookup Core x.0 x.1) (from_repeat K L core round)
      (λ a e. (h, (a-lookup K core a.0 a.1).0 e)) (λ e. from-repeat (h, (no-lookup K core).0 e))

  from-core-value : ToCoreValue K L core round → Say (from_core_value K L core round)
  unfolding from_core_value
  from-core-value h =
      stage-says Say (first_value K core) (λ x. Value Core x.0 x.1) (from_core_lookup K L core round)
      (λ a e. (h, (a-value K core a.0 a.1).0 e)) (λ e. from-core-lookup (h, (no_value K core).0 e))

  from-words : Whole K.layout core → Whole L.layout round → Say (from_core_words K L core round)
  unfolding from_core_words from_round_words
  from-words w v =
      stage-says Say (first_not_element core (length core)) (λ k. Refused (NotElement k)) (from_round_words K L core round)
      (λ k e. (w, v, inl ((a-big core k).0 e)))
      (λ n. stage-says Say (first_not_element round (length round)) (λ k. Refused (NotElement k)) (from_core_value K L core round)
      (λ k e. (w, v, inr (all-elements core (length core) n, (a-big round k).0 e)))
      (λ m. from-core-value (w, v, all-elements core (length core) n, all-elements round (length round) m)))

  pub says : Say (judged K L core round)
  unfolding judged
  says =
      pick-says Say (ragged K.layout core) (Refused (NotWhole 0)) (pick (ragged L.layout round) (Refused (NotWhole 1)) (from_core_words K L core round))
      (λ e. (whole-separates K.layout core).fails e)
      (λ n. pick-says Say (ragged L.layout round) (Refused (NotWhole 1)) (from_core_words K L core round)
      (λ e. ((whole-separates K.layout core).holds n, (whole-separates L.layout round).fails e))
      (λ m. from-words ((whole-separates K.layout core).holds n) ((whole-separates L.layout round).holds m)))

  -- ---- where what comes before is passed, the verdict is that from the next stage on
  at-round-words : Whole K.layout core → Whole L.layout round → Elements core → judged K L core round ≡ from_round_words K L core round
  unfolding from_core_words
  at-round-words w v h = both-whole K L core round w v ∙ passes (first_not_element core (length core)) _ _ (none_found core (length core) h)

  at-core-value : ToCoreValue K L core round → judged K L core round ≡ from_core_value K L core round
  unfolding from_round_words
  at-core-value h = at-round-words h.0 h.1 h.2 ∙ passes (first_not_element round (length round)) _ _ (none_found round (length round) h.3)

  at-core-lookup : ToCoreLookup K L core round → judged K L core round ≡ from_core_lookup K L core round
  unfolding from_core_value
  at-core-lookup h = at-core-value h.0 ∙ passes (first_value K core) _ _ ((no_value K core).1 h.1)

  at-repeat : ToRepeat K L core round → judged K L core round ≡ from_repeat K L core round
  unfolding from_core_lookup
  at-repeat h = at-core-lookup h.0 ∙ passes (first_lookup K core) _ _ ((no-lookup K core).1 h.1)

  at-round-value : ToRoundValue K L core round → judged K L core round ≡ from_round_value K L core round
  unfolding from_repeat
  at-round-value h = at-repeat h.0 ∙ passes (first_repeat K.layout core) _ _ ((no-repeat K.layout core).1 h.1)

  at-round-lookup : ToRoundLookup K L core round → judged K L core round ≡ from_round_lookup K L core round
  unfolding from_round_value
  at-round-lookup h = at-round-value h.0 ∙ passes (first_value L round) _ _ ((no_value L round).1 h.1)

  at-core-balance : ToCoreBalance K L core round → judged K L core round ≡ from_core_balance K L core round
  unfolding from_round_lookup
  at-core-balance h = at-round-lookup h.0 ∙ passes (first_lookup L round) _ _ ((no-lookup L round).1 h.1)

  at-round-balance : ToRoundBalance K L core round → judged K L core round ≡ from_round_balance K L core round
  unfolding from_core_balance
  at-round-balance h = at-core-balance h.0 ∙ passes (first_unbalanced K L core round K core) _ _ ((no-uneven K core).1 h.1)

  -- ---- so each answer comes where it says
  pub of-passes : {n : ℕ} → Say (Holds n) → ToCoreBalance K L core round
  of-passes h =
      let (c, d, r, b, e) = h in
      ((((((c.whole, r.whole, c.below, r.below), c.values), c.lookups), d), r.values), r.lookups)

  said : (v : Verdict) → Say v → judged K L core round ≡ v
  unfolding from_core_words from_round_words from_core_value from_core_lookup from_repeat from_round_value from_round_lookup from_core_balance from_round_balance
  said (Refused (NotWhole zero)) h = core-refused K L core round h
  said (Refused (NotWhole (suc zero))) h = round-refused K L core round h.0 h.1
  said (Refused (NotElement k)) h = elim h.2 [
    | inl f ↦ both-whole K L core round h.0 h.1 ∙ answers (first_not_element core (length core)) _ _ k ((a-big core k).1 f)
    | inr f ↦ at-round-words h.0 h.1 f.0 ∙ answers (first_not_element round (length round)) _ _ k ((a-big round k).1 f.1)
  ]
  said (Value Core r i) h = at-core-value h.0 ∙ answers (first_value K core) _ _ (r, i) ((a-value K core r i).1 h.1)
  said (Lookup Core r i) h = at-core-lookup h.0 ∙ answers (first_lookup K core) _ _ (r, i) ((a-lookup K core r i).1 h.1)
  said (Repeated r) h = at-repeat h.0 ∙ answers (first_repeat K.layout core) _ _ r ((a-repeat K.layout core r).1 h.1)
  said (Value Round r i) h = at-round-value h.0 ∙ answers (first_value L round) _ _ (r, i) ((a-value L round r i).1 h.1)
  said (Lookup Round r i) h = at-round-lookup h.0 ∙ answers (first_lookup L round) _ _ (r, i) ((a-lookup L round r i).1 h.1)
  said (Unbalanced Core r i) h = at-core-balance h.0 ∙ answers (first_unbalanced K L core round K core) _ _ (r, i) ((an-uneven K core r i).1 h.1)
  said (Unbalanced Round r i) h = at-round-balance h.0 ∙ answers (first_unbalanced K L core round L round) _ _ (r, i) ((an-uneven L round r i).1 h.1)
  said (Holds n) h =
      at-round-balance (of-passes h, each-even K core h.3)
      ∙ passes (first_unbalanced K L core round L round) _ _ (balanced-scan L round h.3)
      ∙ ap Holds (sym h.4)
  said (Refused (NotWhole (suc (suc d)))) h = absurd h
  said (Refused (PastEnd d)) h = absurd h
  said (Refused (TooShort d)) h = absurd h
  said (Refused (HighAddress d)) h = absurd h
  said (Refused (BadRecord d)) h = absurd h
  said (Refused (Unaligned d)) h = absurd h
  said (Refused (Rounds d)) h = absurd h
  said (Refused (Floor d)) h = absurd h
  said (Refused (Register d)) h = absurd h
  said (Refused (Segment d)) h = absurd h
  said (Refused (LongMessage d)) h = absurd h
  said (Refused (LateTimestamp d)) h = absurd h
  said (Refused (Files d)) h = absurd h

  pub verdict-iff : (v : Verdict) → (judged K L core round ≡ v) ↔ Say v
  verdict-iff v = ((λ e. subst Say e says), said v)

  -- no two answers can be said of the same tables; `says` is that one can
  pub says-one : (v w : Verdict) → Say v → Say w → v ≡ w
  says-one v w h g = sym (said v h) ∙ said w g

  -- ---- cases
  -- a timestamp stands twice in a core table that passes: the verdict names a row that repeats one, whatever the outputs are and
  -- whatever the round table holds
  pub timestamp-twice : ToRepeat K L core round → (q r : ℕ) → q < r → Active K.layout core q → Active K.layout core r →
      SameTimestamp (row K.layout core q) (row K.layout core r) →
      (s : ℕ) × (s ≤ r) × RepeatsAt K.layout core s × (judged K L core round ≡ Repeated s)
  unfolding DistinctTimestamps
  timestamp-twice h q r l a b e = go (first_repeat K.layout core) refl
    where
      go : (o : Option ℕ) → first_repeat K.layout core ≡ o → (s : ℕ) × (s ≤ r) × RepeatsAt K.layout core s × (judged K L core round ≡ Repeated s)
      go none n = absurd ((no-repeat K.layout core).0 n q r l a b e)
      go (some s) n =
          let f = (a-repeat K.layout core s).0 n in
          by_le s r (λ k. (s, k, f.fails, said (Repeated s) (h, f))) (λ k. absurd (f.lower r k b q l a e))

  -- both tables pass and the timestamps differ: the verdict holds, or it names an unbalanced tuple
  pub by-balance : ToCoreBalance K L core round →
      (judged K L core round ≡ Holds (actives K.layout core))
      ⊎ ((r i : ℕ) × ((judged K L core round ≡ Unbalanced Core r i) ⊎ (judged K L core round ≡ Unbalanced Round r i)))
  by-balance h = go (first_unbalanced K L core round K core) (first_unbalanced K L core round L round) refl refl
    where
      go : (o o' : Option (ℕ × ℕ)) → first_unbalanced K L core round K core ≡ o → first_unbalanced K L core round L round ≡ o' →
          (judged K L core round ≡ Holds (actives K.layout core))
          ⊎ ((r i : ℕ) × ((judged K L core round ≡ Unbalanced Core r i) ⊎ (judged K L core round ≡ Unbalanced Round r i)))
      go (some a) o' e f = inr (a.0, a.1, inl (said (Unbalanced Core a.0 a.1) (h, (an-uneven K core a.0 a.1).0 e)))
      go none (some a) e f =
          inr (a.0, a.1, inr (said (Unbalanced Round a.0 a.1) ((h, (no-uneven K core).0 e), (an-uneven L round a.0 a.1).0 f)))
      go none none e f =
          inl (said (Holds (actives K.layout core))
          (core-passes h, h.0.0.1, round-passes h, even-balanced K L core round ((no-uneven K core).0 e) ((no-uneven L round).0 f), refl))

  -- so where the bus is not balanced, it names an unbalanced tuple
  pub out-of-balance : ToCoreBalance K L core round → (Balanced K L core round → ⊥) →
      (r i : ℕ) × ((judged K L core round ≡ Unbalanced Core r i) ⊎ (judged K L core round ≡ Unbalanced Round r i))
  out-of-balance h n = elim (by-balance h) [
    | inl e ↦ absurd (n ((verdict-iff (Holds (actives K.layout core))).0 e).3)
    | inr x ↦ x
  ]

-- ---- the core table and the round table
pub verdict-says : (nr : ℕ) (core round : List ℕ) (v : Verdict) → (verdict_at nr core round ≡ v) ↔ Says (core_kind nr) round_kind core round v
verdict-says nr = verdict-iff (core_kind nr) round_kind

-- "a core row's send before its receive, a round row's receive before its send": which index an unbalanced tuple has
keccak-places : (M : Kind) (S R : ℕ) → OnBus M S R → (x : List ℕ) (i : ℕ) → (M.tuple x i).bus ≡ Keccak →
    ((i ≡ S) × ((M.tuple x i).side ≡ Sender)) ⊎ ((i ≡ R) × ((M.tuple x i).side ≡ Receiver))
keccak-places M S R bus x i k = go (M.tuple x i).side refl (at_place bus x i (T_true (on_keccak (M.tuple x i)) ((bus-decides (M.tuple x i).bus Keccak).from k)))
  where
    go : (s : Side) → (M.tuple x i).side ≡ s → i ≡ place bus (M.tuple x i).side → ((i ≡ S) × ((M.tuple x i).side ≡ Sender)) ⊎ ((i ≡ R) × ((M.tuple x i).side ≡ Receiver))
    go Sender e q = inl (q ∙ ap (place bus) e, e)
    go Receiver e q = inr (q ∙ ap (place bus) e, e)

pub core-places : (nr : ℕ) (x : List ℕ) (i : ℕ) → (core_tuple nr 0 x i).bus ≡ Keccak →
    ((i ≡ 2) × ((core_tuple nr 0 x i).side ≡ Sender)) ⊎ ((i ≡ 3) × ((core_tuple nr 0 x i).side ≡ Receiver))
core-places nr = keccak-places (core_kind nr) 2 3 (core-bus nr)

pub round-places : (x : List ℕ) (i : ℕ) → (round_tuple x i).bus ≡ Keccak →
    ((i ≡ 1) × ((round_tuple x i).side ≡ Sender)) ⊎ ((i ≡ 0) × ((round_tuple x i).side ≡ Receiver))
round-places = keccak-places round_kind 1 0 round-bus
