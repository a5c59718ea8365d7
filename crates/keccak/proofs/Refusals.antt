-- What the refusal of a list of operations says, what an operation's words say, and the highest address and segment number.
--     each-later, each-passed, each-still   the checks of each operation before those that follow: they pass, what is known where they
--                                       passed, and a refusal by them stands
--     many-refused, ragged-refused, short-refused, high-refused, unaligned-refused, segment-refused   each refusal with its detail,
--                                       where no earlier one comes
--     accepted-is                       the call is accepted exactly where none of the six conditions holds
--     other-room                        and so with every slice that is long enough
--     told-unaligned, told-segment      what a refusal by 7 or 11 says: of which operation, and that none by an earlier check comes
--     row-accepted, index-past          the same of `keccak_row`, which takes an index too
--     op-words                          operation i of a list is what its words say
--     highest-accepted, next-refused    P: address 18446744073709551416 is accepted, the next multiple of 8 is refused by 4
--     last-unaligned                    18446744073709551423, which is not above the limit, is refused by 7
--     last-segment, next-segment        2^32 - 1 is accepted, 2^32 is refused by 11
use mathlib.Core.Path.{◌≡◌, refl, sym, ap, subst, ◌∙◌}
use mathlib.Core.Logic.{◌↔◌}
use mathlib.Core.Bool.{true, not}
use mathlib.Core.Option.{Option, none, some}
use mathlib.Core.List.{List, [], ◌∷◌, ◌++◌, append-nil}
use Prim.Native.Nat.{ℕ, suc, ◌+◌, ◌*◌, ◌%◌, ◌≤◌, ◌<◌}
use native.Mathlib.Omega.{arith}
use borrow.Author.Tests.{leb-false, ltb-false, ltb-true, le-leb, lt-leb, lt-ltb, le-ltb, eqb-true, eq-eqb, ne_eqb, not-false}
use lib.Dec.{eqb}
use lib.ListN.{length, get_or, length-append, get_or-append}
use lib.Seq.{get_or-append-add}
use Rattle.lists.specs.First.{first_at}
use Rattle.lists.specs.Tab.{tab}
use Rattle.lists.proofs.First.{at_clear, at-found, at-hit, at-nothing}
use Rattle.lists.proofs.Laws.{tab-same, list-tab}
use Rattle.lists.proofs.Tests.{true-not-false}
use Rattle.answer.specs.Limits.{MAX-OPS}
use Rattle.answer.specs.Refusal.{refusal_number, refusal_detail, accepted, too_short}
use Rattle.answer.specs.declared.Refusal.{Refusal}
use Rattle.answer.proofs.Laws.{refuse-yes, refuse-no, at-yes, at-no, passed-if, passed-at, unlike, later-if, later-at, told_at, still-at, none_told_lem}
use Rattle.answer.specs.declared.Refusal.TheVariants.{PastEnd, NotWhole, TooShort, HighAddress, Unaligned, Segment}
use Rattle.keccak.specs.Row.{OP-WORDS, SEGMENT-WORD, op_at, LAST-ADDRESS, LAST-SEGMENT}
use Rattle.keccak.specs.Refusals.{op_count, address_at, high_at, unaligned_at, segment_at, wide_at}
use Rattle.keccak.specs.Refusals.{unaligned, bad_address, bad_segment, bad_operation, not_whole}
use Rattle.keccak.specs.Refusals.{Acceptable, operations_refusal, core_row_refusal}
use Rattle.keccak.specs.SegmentNumbers.{ShortSegments}
use Rattle.keccak.specs.declared.KeccakOperation.{KeccakOperation}

-- ---- the checks of each operation
module _ (ops : List ℕ) where
  abbrev pub Low : Type 0
  Low = (i : ℕ) → i < op_count ops → address_at ops i ≤ LAST-ADDRESS

  abbrev pub Aligned : Type 0
  Aligned = (i : ℕ) → i < op_count ops → address_at ops i % 8 ≡ 0

  none-high : (n : ℕ) → ((i : ℕ) → i < n → address_at ops i ≤ LAST-ADDRESS) → first_at (high_at ops) n ≡ none
  unfolding high_at
  none-high n low = at-nothing (high_at ops) n (λ j g. le-ltb LAST-ADDRESS (address_at ops j) (low j g))

  none-unaligned : (n : ℕ) → ((i : ℕ) → i < n → address_at ops i % 8 ≡ 0) → first_at (unaligned_at ops) n ≡ none
  unfolding unaligned_at
  none-unaligned n even = at-nothing (unaligned_at ops) n (λ j g. ap not (eq-eqb (address_at ops j % 8) 0 (even j g)))

  pub none-wide : (n : ℕ) → ((i : ℕ) → i < n → segment_at ops i ≤ LAST-SEGMENT) → first_at (wide_at ops) n ≡ none
  unfolding wide_at
  none-wide n short = at-nothing (wide_at ops) n (λ j g. le-ltb LAST-SEGMENT (segment_at ops j) (short j g))

  low_of : first_at (high_at ops) (op_count ops) ≡ none → Low
  unfolding high_at
  low_of e i l = ltb-false LAST-ADDRESS (address_at ops i) (at_clear (high_at ops) (op_count ops) i e l)

  aligned-of : first_at (unaligned_at ops) (op_count ops) ≡ none → Aligned
  unfolding unaligned_at
  aligned-of e i l = eqb-true (address_at ops i % 8) 0 (not-false _ (at_clear (unaligned_at ops) (op_count ops) i e l))

  short-of : first_at (wide_at ops) (op_count ops) ≡ none → ShortSegments ops
  unfolding wide_at
  short-of e i l = ltb-false LAST-SEGMENT (segment_at ops i) (at_clear (wide_at ops) (op_count ops) i e l)

  pub each-later : {later o : Option Refusal} → Low → Aligned → ShortSegments ops → later ≡ o → bad_operation ops later ≡ o
  each-later low even short e =
      at-no _ (none-high (op_count ops) low) (at-no _ (none-unaligned (op_count ops) even) (at-no _ (none-wide (op_count ops) short) e))

  pub each-passed : (later : Option Refusal) → bad_operation ops later ≡ accepted → Low × Aligned × ShortSegments ops × (later ≡ accepted)
  each-passed later e =
      let a = passed-at _ _ _ e in
      let b = passed-at _ _ _ a.1 in
      let c = passed-at _ _ _ b.1 in
      (low_of a.0, aligned-of b.0, short-of c.0, c.1)

  -- the addresses' by themselves, of which a refusal stands, and which else leave it to what follows
  pub addresses-still : {q : Refusal} (later : Option Refusal) → bad_address ops accepted ≡ some q → bad_address ops later ≡ some q
  addresses-still later = still-at _ _ (still-at _ _ (λ e. absurd (none_told_lem e)))

  pub addresses-later : (later : Option Refusal) → bad_address ops accepted ≡ accepted → bad_address ops later ≡ later
  addresses-later later e = let a = passed-at _ _ _ e in at-no _ a.0 (at-no _ (passed-at _ _ _ a.1).0 refl)

  pub each-still : {q : Refusal} (later : Option Refusal) → bad_operation ops accepted ≡ some q → bad_operation ops later ≡ some q
  each-still later = still-at _ _ (still-at _ _ (still-at _ _ (λ e. absurd (none_told_lem e))))

module _ (room needed : ℕ) (ops : List ℕ) where
  -- ---- the refusals, in their order
  pub many-refused : MAX-OPS < op_count ops → operations_refusal room needed ops ≡ some (PastEnd 89478486)
  unfolding operations_refusal
  many-refused h = refuse-yes _ _ (lt-ltb MAX-OPS (op_count ops) h)

  module _ (few : op_count ops ≤ MAX-OPS) where
    past-many : {o : Option Refusal} → not_whole ops (too_short room needed (bad_operation ops accepted)) ≡ o → operations_refusal room needed ops ≡ o
    unfolding operations_refusal
    past-many e = refuse-no _ (le-ltb MAX-OPS (op_count ops) few) e

    pub ragged-refused : (length ops % OP-WORDS ≡ 0 → ⊥) → operations_refusal room needed ops ≡ some (NotWhole 2)
    ragged-refused h = past-many (refuse-yes _ _ (ap not (ne_eqb (length ops % OP-WORDS) 0 h)))

    module _ (whole : length ops % OP-WORDS ≡ 0) where
      past-ragged : {o : Option Refusal} → too_short room needed (bad_operation ops accepted) ≡ o → operations_refusal room needed ops ≡ o
      past-ragged e = past-many (refuse-no _ (ap not (eq-eqb (length ops % OP-WORDS) 0 whole)) e)

      pub short-refused : room < needed → operations_refusal room needed ops ≡ some (TooShort needed)
      short-refused h = past-ragged (refuse-yes _ _ (lt-ltb room needed h))

      module _ (long : needed ≤ room) where
        past-short : {o : Option Refusal} → bad_operation ops accepted ≡ o → operations_refusal room needed ops ≡ o
        past-short e = past-ragged (refuse-no _ (le-ltb room needed long) e)

        -- operation i is the first whose address is too high
        pub high-refused : (i : ℕ) → i < op_count ops → LAST-ADDRESS < address_at ops i → ((j : ℕ) → j < i → address_at ops j ≤ LAST-ADDRESS) →
            operations_refusal room needed ops ≡ some (HighAddress (address_at ops i))
        unfolding high_at
        high-refused i l h low =
            past-short (at-yes (λ j. HighAddress (address_at ops j)) (unaligned ops (bad_segment ops accepted))
            (at-hit (high_at ops) i (op_count ops) l (none-high ops i low) (lt-ltb LAST-ADDRESS (address_at ops i) h)))

        module _ (low : Low ops) where
          past-high : {o : Option Refusal} → unaligned ops (bad_segment ops accepted) ≡ o → operations_refusal room needed ops ≡ o
          past-high e = past-short (at-no _ (none-high ops (op_count ops) low) e)

          -- no address is too high, and operation i is the first whose address is no multiple of 8
          pub unaligned-refused : (i : ℕ) → i < op_count ops → (address_at ops i % 8 ≡ 0 → ⊥) → ((j : ℕ) → j < i → address_at ops j % 8 ≡ 0) →
              operations_refusal room needed ops ≡ some (Unaligned (address_at ops i))
          unfolding unaligned_at
          unaligned-refused i l h even =
              past-high (at-yes (λ j. Unaligned (address_at ops j)) (bad_segment ops accepted)
              (at-hit (unaligned_at ops) i (op_count ops) l (none-unaligned ops i even) (ap not (ne_eqb (address_at ops i % 8) 0 h))))

          -- no address is too high or no multiple of 8, and operation i is the first whose segment word is 2^32 or more
          pub segment-refused : Aligned ops → (i : ℕ) → i < op_count ops → LAST-SEGMENT < segment_at ops i → ((j : ℕ) → j < i → segment_at ops j ≤ LAST-SEGMENT) →
              operations_refusal room needed ops ≡ some (Segment (segment_at ops i))
          unfolding wide_at
          segment-refused even i l h short =
              past-high (at-no _ (none-unaligned ops (op_count ops) even) (at-yes (λ j. Segment (segment_at ops j)) accepted
              (at-hit (wide_at ops) i (op_count ops) l (none-wide ops i short) (lt-ltb LAST-SEGMENT (segment_at ops i) h))))

          pub none-bad : Aligned ops → ShortSegments ops → operations_refusal room needed ops ≡ accepted
          none-bad even short = past-short (each-later ops low even short refl)

  -- ---- accepted
  pub accepted-is : (operations_refusal room needed ops ≡ accepted) ↔ Acceptable room needed ops
  unfolding operations_refusal
  accepted-is = (
    (λ e.
        let a = passed-if _ _ _ e in
        let b = passed-if _ _ _ a.1 in
        let c = passed-if _ _ _ b.1 in
        let d = each-passed ops accepted c.1 in
        record {
          few = ltb-false MAX-OPS (op_count ops) a.0;
          whole = eqb-true (length ops % OP-WORDS) 0 (not-false _ b.0);
          long = ltb-false room needed c.0;
          low = d.0;
          aligned = d.1;
          segments = d.2;
        }),
    λ h. none-bad h.few h.whole h.long h.low h.aligned h.segments,
  )

  -- a refusal that is not by 1, 2 or 3 is of an operation
  told-each : (x : Refusal) → 3 < refusal_number x → operations_refusal room needed ops ≡ some x → bad_operation ops accepted ≡ some x
  unfolding operations_refusal
  told-each x h e =
      later-if _ _ (unlike (TooShort needed) x (λ z. omega (arith, z)))
      (later-if _ _ (unlike (NotWhole 2) x (λ z. omega (arith, z)))
      (later-if _ _ (unlike (PastEnd 89478486) x (λ z. omega (arith, z))) e))

  -- ---- refused by 7: the address is that of an operation, and is no multiple of 8
  pub told-unaligned : {a : ℕ} → operations_refusal room needed ops ≡ some (Unaligned a) →
      (i : ℕ) × (i < op_count ops) × (address_at ops i ≡ a) × (a % 8 ≡ 0 → ⊥) × Low ops
  unfolding unaligned_at
  told-unaligned e =
      let d = later-at _ _ (λ k. unlike _ _ (λ z. omega arith)) (told-each (Unaligned _) (omega arith) e) in
      let f = told_at _ (λ q. none_told_lem (later-at _ _ (λ k. unlike _ _ (λ z. omega arith)) q).1) d.1 in
      let g = at-found (unaligned_at ops) (op_count ops) f.0 f.1 in
      let same = address-told f.2 in (
        f.0,
        g.0,
        same,
        (λ z. odd (address_at ops f.0) (ap (λ (n : ℕ). n % 8) same ∙ z) g.1),
        low_of ops d.0,
      )
    where
      address-told : {m n : ℕ} → Unaligned m ≡ Unaligned n → m ≡ n
      address-told q = ap refusal_detail q

      odd : (n : ℕ) → n % 8 ≡ 0 → not (eqb (n % 8) 0) ≡ true → ⊥
      odd n z t = true-not-false (sym t ∙ ap not (eq-eqb (n % 8) 0 z))

  -- ---- refused by 11: the word is the first of 2^32 or more, and no address is refused
  pub told-segment : {w : ℕ} → operations_refusal room needed ops ≡ some (Segment w) →
      (i : ℕ) × (i < op_count ops) × (segment_at ops i ≡ w) × (LAST-SEGMENT < w) × Low ops × Aligned ops
  unfolding wide_at
  told-segment e =
      let d = later-at _ _ (λ k. unlike _ _ (λ z. omega arith)) (told-each (Segment _) (omega arith) e) in
      let h = later-at _ _ (λ k. unlike _ _ (λ z. omega arith)) d.1 in
      let f = told_at _ none_told_lem h.1 in
      let g = at-found (wide_at ops) (op_count ops) f.0 f.1 in
      let same = word-told f.2 in
      (f.0, g.0, same, omega (arith, same, ltb-true LAST-SEGMENT (segment_at ops f.0) g.1), low_of ops d.0, aligned-of ops h.0)
    where
      word-told : {m n : ℕ} → Segment m ≡ Segment n → m ≡ n
      word-told q = ap refusal_detail q

-- a list that is accepted with one slice is accepted with every slice that is long enough
pub other-room : {room needed : ℕ} {ops : List ℕ} → Acceptable room needed ops → (other wanted : ℕ) → wanted ≤ other → Acceptable other wanted ops
other-room a other wanted fits =
    record { few = a.few; whole = a.whole; long = fits; low = a.low; aligned = a.aligned; segments = a.segments }

-- ---- `keccak_row`: those six, and the index
module _ (room : ℕ) (ops : List ℕ) (index : ℕ) where
  pub row-accepted : (core_row_refusal room ops index ≡ accepted) ↔ (Acceptable room 486 ops × (index < op_count ops))
  unfolding core_row_refusal operations_refusal
  row-accepted = (
    (λ e.
        let a = passed-if _ _ _ e in
        let b = passed-if _ _ _ a.1 in
        ((accepted-is room 486 ops).0 (refuse-no _ a.0 b.1), leb-false (op_count ops) index b.0)),
    λ h.
        let a = passed-if _ _ _ ((accepted-is room 486 ops).1 h.0) in
        refuse-no _ a.0 (refuse-no _ (lt-leb (op_count ops) index h.1) a.1),
  )

  -- the detail is the number of operations
  pub index-past : op_count ops ≤ MAX-OPS → op_count ops ≤ index → core_row_refusal room ops index ≡ some (PastEnd (op_count ops))
  unfolding core_row_refusal
  index-past few h = refuse-no _ (le-ltb MAX-OPS (op_count ops) few) (refuse-yes _ _ (le-leb (op_count ops) index h))

-- ---- the words of an operation
module _ (timestamp address : ℕ) (input output : List ℕ) (segment : ℕ) (in_size : length input ≡ 25) (out-size : length output ≡ 25) where
  -- in their order
  abbrev pub words : List ℕ
  words = timestamp ∷ address ∷ (input ++ (output ++ (segment ∷ [])))

  abbrev pub operation : KeccakOperation
  operation = record { timestamp = timestamp; state_addr = address; input = input; output = output; segment = segment }

  pub words_size : length words ≡ OP-WORDS
  words_size = omega (arith, length-append input (output ++ (segment ∷ [])), length-append output (segment ∷ []))

  -- operation i of a list is what its words say, whatever stands before and after them
  pub op-words : (before after : List ℕ) (i : ℕ) → length before ≡ OP-WORDS * i → op_at (before ++ (words ++ after)) i ≡ operation
  unfolding op_at
  op-words before after i e = λ p. record { timestamp = stamp p; state_addr = addr p; input = ins p; output = outs p; segment = seg p }
    where
      ws : List ℕ
      ws = before ++ (words ++ after)

      word_at : (k n : ℕ) → n ≡ length before + k → k < OP-WORDS → get_or ws n 0 ≡ get_or words k 0
      word_at k n q l =
          ap (λ (m : ℕ). get_or ws m 0) q ∙ get_or-append-add before (words ++ after) k 0 ∙ get_or-append words after 0 k (omega (arith, words_size))

      stamp : get_or ws (OP-WORDS * i) 0 ≡ timestamp
      stamp = word_at 0 (OP-WORDS * i) (omega arith) (omega arith)

      addr : get_or ws (OP-WORDS * i + 1) 0 ≡ address
      addr = word_at 1 (OP-WORDS * i + 1) (omega arith) (omega arith)

      -- what follows the address
      rest : List ℕ
      rest = output ++ (segment ∷ [])

      past : (k : ℕ) → get_or words (2 + k) 0 ≡ get_or (input ++ rest) k 0
      past k = let q : 2 + k ≡ suc (suc k) = omega arith in ap (λ (m : ℕ). get_or words m 0) q

      ins : tab 25 (λ k. get_or ws (OP-WORDS * i + 2 + k) 0) ≡ input
      ins =
          tab-same 25 (λ k. get_or ws (OP-WORDS * i + 2 + k) 0) (λ k. get_or input k 0) (λ k l.
          word_at (2 + k) (OP-WORDS * i + 2 + k) (omega arith) (omega arith) ∙ past k ∙ get_or-append input rest 0 k (omega arith))
          ∙ sym (list-tab input 25 in_size)

      past-input : (k : ℕ) → k < 26 → get_or ws (OP-WORDS * i + 27 + k) 0 ≡ get_or rest k 0
      past-input k l =
          let q : 25 + k ≡ length input + k = omega arith in
          word_at (2 + (25 + k)) (OP-WORDS * i + 27 + k) (omega arith) (omega arith) ∙ past (25 + k) ∙ ap (λ (m : ℕ). get_or (input ++ rest) m 0) q
          ∙ get_or-append-add input rest k 0

      outs : tab 25 (λ k. get_or ws (OP-WORDS * i + 27 + k) 0) ≡ output
      outs =
          tab-same 25 (λ k. get_or ws (OP-WORDS * i + 27 + k) 0) (λ k. get_or output k 0) (λ k l.
          past-input k (omega arith) ∙ get_or-append output (segment ∷ []) 0 k (omega arith))
          ∙ sym (list-tab output 25 out-size)

      seg : get_or ws (OP-WORDS * i + SEGMENT-WORD) 0 ≡ segment
      seg =
          let p : OP-WORDS * i + SEGMENT-WORD ≡ OP-WORDS * i + 27 + 25 = omega arith in
          let q : 25 ≡ length output + 0 = omega arith in
          ap (λ (m : ℕ). get_or ws m 0) p ∙ past-input 25 (omega arith) ∙ ap (λ (m : ℕ). get_or rest m 0) q ∙ get_or-append-add output (segment ∷ []) 0 0

  -- ---- a list of one operation
  one-count : op_count words ≡ 1
  one-count = omega (arith, words_size)

  one-whole : length words % OP-WORDS ≡ 0
  one-whole = omega (arith, words_size)

  one_address : address_at words 0 ≡ address
  unfolding op_at
  one_address = refl

  one-segment : segment_at words 0 ≡ segment
  one-segment = ap (λ (l : List ℕ). segment_at l 0) (sym (append-nil words)) ∙ ap (λ (o : KeccakOperation). o.segment) (op-words [] [] 0 (omega arith))

  module _ (room needed : ℕ) (fits : needed ≤ room) where
    -- what is so of its word is so of that word of every operation of the list
    each-one : (at : List ℕ → ℕ → ℕ) (P : ℕ → Type 0) → P (at words 0) → (i : ℕ) → i < op_count words → P (at words i)
    each-one at P h i l = let e : i ≡ 0 = omega (arith, one-count) in subst (λ (j : ℕ). P (at words j)) (sym e) h

    low-one : address ≤ LAST-ADDRESS → Low words
    low-one h = each-one address_at (λ a. a ≤ LAST-ADDRESS) (omega (arith, one_address, h))

    aligned-one : address % 8 ≡ 0 → Aligned words
    aligned-one h = each-one address_at (λ a. a % 8 ≡ 0) (ap (λ (a : ℕ). a % 8) one_address ∙ h)

    short-one : segment ≤ LAST-SEGMENT → ShortSegments words
    short-one h = each-one segment_at (λ s. s ≤ LAST-SEGMENT) (omega (arith, one-segment, h))

    pub one-accepted : address ≤ LAST-ADDRESS → address % 8 ≡ 0 → segment ≤ LAST-SEGMENT → operations_refusal room needed words ≡ accepted
    one-accepted h even short = none-bad room needed words (omega (arith, one-count)) one-whole fits (low-one h) (aligned-one even) (short-one short)

    pub one-unaligned : address ≤ LAST-ADDRESS → (address % 8 ≡ 0 → ⊥) → operations_refusal room needed words ≡ some (Unaligned address)
    one-unaligned h odd =
        unaligned-refused room needed words (omega (arith, one-count)) one-whole fits (low-one h) 0 (omega (arith, one-count))
        (λ e. odd (ap (λ (a : ℕ). a % 8) (sym one_address) ∙ e)) (λ j g. absurd (omega arith))
        ∙ ap (λ (a : ℕ). some (Unaligned a)) one_address

    pub one-refused : LAST-ADDRESS < address → operations_refusal room needed words ≡ some (HighAddress address)
    one-refused h =
        high-refused room needed words (omega (arith, one-count)) one-whole fits 0 (omega (arith, one-count)) (omega (arith, one_address)) (λ j g. absurd (omega arith))
        ∙ ap (λ (a : ℕ). some (HighAddress a)) one_address

    pub one-wide : address ≤ LAST-ADDRESS → address % 8 ≡ 0 → LAST-SEGMENT < segment → operations_refusal room needed words ≡ some (Segment segment)
    one-wide h even wide =
        segment-refused room needed words (omega (arith, one-count)) one-whole fits (low-one h) (aligned-one even) 0 (omega (arith, one-count)) (omega (arith, one-segment))
        (λ j g. absurd (omega arith))
        ∙ ap (λ (s : ℕ). some (Segment s)) one-segment

-- "the highest accepted address in the cases becomes 18446744073709551416, the next multiple of eight being refused by 4." Where 4 or 7
-- refuses, the segment number may be any.
module _ (timestamp : ℕ) (input output : List ℕ) (segment : ℕ) (in_size : length input ≡ 25) (out-size : length output ≡ 25)
    (room needed : ℕ) (fits : needed ≤ room) where
  pub highest-accepted : segment ≤ LAST-SEGMENT
      → operations_refusal room needed (timestamp ∷ 18446744073709551416 ∷ (input ++ (output ++ (segment ∷ [])))) ≡ accepted
  highest-accepted = one-accepted timestamp 18446744073709551416 input output segment in_size out-size room needed fits (omega arith) refl

  pub next-refused : operations_refusal room needed (timestamp ∷ 18446744073709551424 ∷ (input ++ (output ++ (segment ∷ [])))) ≡ some (HighAddress 18446744073709551424)
  next-refused = one-refused timestamp 18446744073709551424 input output segment in_size out-size room needed fits (omega arith)

  pub last-unaligned : operations_refusal room needed (timestamp ∷ 18446744073709551423 ∷ (input ++ (output ++ (segment ∷ [])))) ≡ some (Unaligned 18446744073709551423)
  last-unaligned = one-unaligned timestamp 18446744073709551423 input output segment in_size out-size room needed fits (omega arith) (λ e. omega arith)

-- the last segment number, and the word after it
module _ (timestamp address : ℕ) (input output : List ℕ) (in_size : length input ≡ 25) (out-size : length output ≡ 25)
    (room needed : ℕ) (fits : needed ≤ room) (low : address ≤ LAST-ADDRESS) (even : address % 8 ≡ 0) where
  pub last-segment : operations_refusal room needed (timestamp ∷ address ∷ (input ++ (output ++ (4294967295 ∷ [])))) ≡ accepted
  last-segment = one-accepted timestamp address input output 4294967295 in_size out-size room needed fits low even (omega arith)

  pub next-segment : operations_refusal room needed (timestamp ∷ address ∷ (input ++ (output ++ (4294967296 ∷ [])))) ≡ some (Segment 4294967296)
  next-segment = one-wide timestamp address input output 4294967296 in_size out-size room needed fits low even (omega arith)
