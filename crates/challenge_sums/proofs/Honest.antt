-- The other way: where SumsHold, no lookup is counted that is not sent, and other tables answer the Memw and Ecall tuples of the core rows, what
-- is sent and what is received of all words agree mod p; so the check passes at all pairs of challenges but a few (`most-pass`).
--     all-agree      they agree
--     mirror         there are such other tables
use mathlib.Core.Path.{◌≡◌, refl, sym, ap, ap₂, ◌∙◌, subst}
use mathlib.Core.Bool.{Bool, true, false, ◌&&◌}
use mathlib.Core.List.{List, [], ◌∷◌, ◌++◌}
use mathlib.Core.Logic.{◌⊎◌, inl, inr}
use Prim.Native.Nat.{ℕ, zero, suc, ◌+◌, ◌%◌, ◌<◌}
use native.Mathlib.Decide.{ℕ_discrete}
use native.Mathlib.Nat.{add_comm, add-zero, zero-add}
use native.Mathlib.Omega.{arith}
use borrow.Author.Tests.{ne_eqb}
use Rattle.lists.specs.Tab.{pick}
use Rattle.lists.specs.Select.{cons_if, selected, words_test}
use Rattle.lists.proofs.Select.{words-sound}
use Rattle.lists.proofs.Tests.{T_of, true-not-false}
use Rattle.field.specs.Field.{p}
use Rattle.field.proofs.Field.{add-c}
use Rattle.tuple.specs.Tuple.{Tuple, bus_number, same_side}
use Rattle.tuple.specs.declared.Bus.{Bus}
use Rattle.tuple.specs.declared.Bus.TheVariants.{ByteAlu, AreBytes, IsHalfword, IsWh, KeccakRc, Keccak, Memw}
use Rattle.tuple.specs.declared.Bus.TheVariants.{Ecall, Msb8, Msb16, Zero, IsB20, Hwsl}
use Rattle.tuple.specs.declared.Side.{Side}
use Rattle.tuple.specs.declared.Side.TheVariants.{Sender, Receiver}
use Rattle.verdict.specs.Kind.{rows}
use Rattle.verdict.specs.CoreAndRound.{core_kind, core_layout}
use Rattle.bitwise.specs.Columns.{NUM-ROWS}
use Rattle.bus_sums.specs.Buses.{core_line, round_line, is_wh_line, bitwise_line, constant_line}
use Rattle.bus_sums.specs.Sums.{Fillings, SumsHold, nobody, Ours, bus_total, table_share, tuple_at, bitwise_share, bitwise_at}
use Rattle.bus_sums.proofs.Shares.{no_line}
use Rattle.bus_sums.proofs.Buses.{no-core, no-round, no-is-wh, no-bitwise, no-constants, bitwise-line}
use Rattle.challenge.specs.Check.{All, Entry, TotalsAgree, entry_share, total}
use Rattle.challenge.proofs.Gathered.{share-off}
use Rattle.challenge_sums.specs.Entries.{row_entries, entries, table_entries, all_entries}
use Rattle.challenge_sums.specs.Outside.{outward, outside, Answers, other_side, mirrored, Idle}
use Rattle.challenge_sums.proofs.Totals.{total-append, total-entries, total-all}

-- ---- entries selected by their words
selected-total : (t : List ℕ → Bool) (s : Side) (ws : List ℕ) (es : List Entry) →
    total s ws (selected (λ e. t e.words) es) ≡ pick (t ws) (total s ws es) 0
unfolding selected total
selected-total t s ws [] = go (t ws)
  where
    go : (b : Bool) → 0 ≡ pick {A = ℕ} b 0 0
    go true = refl
    go false = refl
selected-total t s ws (e ∷ es) = go (words_test ws e.words) refl (t e.words) refl (t ws) refl (selected-total t s ws es)
  where
    kept : List Entry
    kept = selected (λ e. t e.words) es

    alike : words_test ws e.words ≡ true → t ws ≡ t e.words
    alike q = ap t (words-sound ws e.words (T_of (words_test ws e.words) q))

    never : {A : Type 0} {x y : Bool} → x ≡ y → x ≡ true → y ≡ false → A
    never e a b = absurd (true-not-false (sym a ∙ e ∙ b))

    go : (x : Bool) → words_test ws e.words ≡ x → (y : Bool) → t e.words ≡ y → (z : Bool) → t ws ≡ z → total s ws kept ≡ pick z (total s ws es) 0 →
        total s ws (cons_if y e kept) ≡ pick z (entry_share s ws e + total s ws es) 0
    go x qx true qy true qz h = ap (λ (n : ℕ). entry_share s ws e + n) h
    go x qx false qy false qz h = h
    go true qx true qy false qz h = never (sym (alike qx)) qy qz
    go true qx false qy true qz h = never (alike qx) qz qy
    go false qx true qy false qz h = share-off s ws e qx (total s ws kept) ∙ h
    go false qx false qy true qz h = h ∙ sym (share-off s ws e qx (total s ws es))

-- ---- words that are no tuple's
module _ (s : Side) (ws : List ℕ) (strange : (b : Bus) (v : List ℕ) → words_test ws (bus_number b ∷ v) ≡ false) where
  strange-row : (m : ℕ) (t : ℕ → Tuple) → total s ws (row_entries m t) ≡ 0
  unfolding total row_entries
  strange-row zero t = refl
  strange-row (suc m) t =
      share-off s ws (record { side = (t m).side; multiplicity = (t m).multiplicity; words = bus_number (t m).bus ∷ (t m).values }) (strange (t m).bus (t m).values) (total s ws (row_entries m t))
      ∙ strange-row m t

  strange-entries : (n m : ℕ) (t : ℕ → ℕ → Tuple) → total s ws (entries n m t) ≡ 0
  unfolding total entries
  strange-entries zero m t = refl
  strange-entries (suc n) m t = omega (arith, total-append s ws (row_entries m (t n)) (entries n m t), strange-row m (t n), strange-entries n m t)

  after : (n m : ℕ) (t : ℕ → ℕ → Tuple) (es : List Entry) (k : ℕ) → total s ws es ≡ k → total s ws (entries n m t ++ es) ≡ k
  after n m t es k e = omega (arith, total-append s ws (entries n m t) es, strange-entries n m t)

  strange-all : (nr : ℕ) (core round : List ℕ) (w : Fillings) (more : List Entry) → total s ws (all_entries nr core round w more) ≡ total s ws more
  unfolding all_entries
  strange-all nr core round w more =
      after _ _ _ _ _ (after _ _ _ _ _ (after _ _ _ _ _ (after _ _ _ _ _ (after _ _ _ _ _ refl))))

-- ---- which bus a number is
abbrev buses : List Bus
buses = ByteAlu ∷ AreBytes ∷ IsHalfword ∷ IsWh ∷ KeccakRc ∷ Keccak ∷ Memw ∷ Ecall ∷ Msb8 ∷ Msb16 ∷ Zero ∷ IsB20 ∷ Hwsl ∷ []

search : (n : ℕ) (bs : List Bus) → ((b : Bus) × (bus_number b ≡ n)) ⊎ All (λ b. ¬ (n ≡ bus_number b)) bs
search n [] = inr tt
search n (b ∷ bs) = go (ℕ_discrete n (bus_number b)) (search n bs)
  where
    go : Dec (n ≡ bus_number b) → ((b : Bus) × (bus_number b ≡ n)) ⊎ All (λ b. ¬ (n ≡ bus_number b)) bs →
        ((b : Bus) × (bus_number b ≡ n)) ⊎ All (λ b. ¬ (n ≡ bus_number b)) (b ∷ bs)
    go (yes e) h = inl (b, sym e)
    go (no d) (inl h) = inl h
    go (no d) (inr h) = inr (d, h)

each : (n : ℕ) → All (λ b. ¬ (n ≡ bus_number b)) buses → (b : Bus) → ¬ (n ≡ bus_number b)
each n h ByteAlu = h.0
each n h AreBytes = h.1.0
each n h IsHalfword = h.1.1.0
each n h IsWh = h.1.1.1.0
each n h KeccakRc = h.1.1.1.1.0
each n h Keccak = h.1.1.1.1.1.0
each n h Memw = h.1.1.1.1.1.1.0
each n h Ecall = h.1.1.1.1.1.1.1.0
each n h Msb8 = h.1.1.1.1.1.1.1.1.0
each n h Msb16 = h.1.1.1.1.1.1.1.1.1.0
each n h Zero = h.1.1.1.1.1.1.1.1.1.1.0
each n h IsB20 = h.1.1.1.1.1.1.1.1.1.1.1.0
each n h Hwsl = h.1.1.1.1.1.1.1.1.1.1.1.1.0

no_words : (b : Bus) (v : List ℕ) → words_test [] (bus_number b ∷ v) ≡ false
unfolding words_test
no_words b v = refl

no-bus : (n : ℕ) (us : List ℕ) → ((b : Bus) → ¬ (n ≡ bus_number b)) → (b : Bus) (v : List ℕ) → words_test (n ∷ us) (bus_number b ∷ v) ≡ false
unfolding words_test
no-bus n us h b v = ap (λ (t : Bool). t && words_test us v) (ne_eqb n (bus_number b) (h b))

-- ---- the five tables and others
add-both : (a b c d : ℕ) → a % p ≡ b % p → c % p ≡ d % p → (a + c) % p ≡ (b + d) % p
add-both a b c d e f = add-c a b c e ∙ ap (λ (n : ℕ). n % p) (add_comm b c) ∙ add-c c d b f ∙ ap (λ (n : ℕ). n % p) (add_comm d b)

module _ (nr : ℕ) (core round : List ℕ) (w : Fillings) (more : List Entry) (answers : Answers nr core more) where
  abbrev es : List Entry
  es = all_entries nr core round w more

  abbrev Even : List ℕ → Type 0
  Even ws = total Sender ws es % p ≡ total Receiver ws es % p

  outside-total : (s : Side) (ws : List ℕ) → total s ws (outside nr core ++ more) ≡ pick (outward ws) (total s ws (table_entries (core_kind nr) core)) 0 + total s ws more
  unfolding outside
  outside-total s ws =
      total-append s ws (selected (λ e. outward e.words) (table_entries (core_kind nr) core)) more
      ∙ ap (λ (n : ℕ). n + total s ws more) (selected-total outward s ws (table_entries (core_kind nr) core))

  -- words of which the core rows say nothing outward: other tables agree on them by themselves
  inward : (ws : List ℕ) → ((s : Side) → pick (outward ws) (total s ws (table_entries (core_kind nr) core)) 0 ≡ 0) → total Sender ws more % p ≡ total Receiver ws more % p
  inward ws h = sym (alone Sender) ∙ answers ws ∙ alone Receiver
    where
      alone : (s : Side) → total s ws (outside nr core ++ more) % p ≡ total s ws more % p
      alone s = ap (λ (n : ℕ). n % p) (outside-total s ws ∙ ap (λ (n : ℕ). n + total s ws more) (h s) ∙ zero-add (total s ws more))

  strange-even : (ws : List ℕ) → ((b : Bus) (v : List ℕ) → words_test ws (bus_number b ∷ v) ≡ false) → Even ws
  strange-even ws strange =
      ap (λ (n : ℕ). n % p) (strange-all Sender ws strange nr core round w more)
      ∙ inward ws (λ s. ap (λ (n : ℕ). pick (outward ws) n 0) (strange-entries s ws strange (rows core_layout core) 84 (tuple_at (core_kind nr) core)) ∙ nothing (outward ws))
      ∙ sym (ap (λ (n : ℕ). n % p) (strange-all Receiver ws strange nr core round w more))
    where
      nothing : (b : Bool) → pick {A = ℕ} b 0 0 ≡ 0
      nothing true = refl
      nothing false = refl

  module _ (b : Bus) (v : List ℕ) where
    -- a bus between the five tables, on which they agree
    inner : outward (bus_number b ∷ v) ≡ false → bus_total nr core round w Sender b v % p ≡ bus_total nr core round w Receiver b v % p → Even (bus_number b ∷ v)
    inner q e =
        ap (λ (n : ℕ). n % p) (total-all Sender b v nr core round w more)
        ∙ add-both (bus_total nr core round w Sender b v) (bus_total nr core round w Receiver b v) (total Sender (bus_number b ∷ v) more) (total Receiver (bus_number b ∷ v) more) e
        (inward (bus_number b ∷ v) (λ s. ap (λ (t : Bool). pick {A = ℕ} t (total s (bus_number b ∷ v) (table_entries (core_kind nr) core)) 0) q))
        ∙ sym (ap (λ (n : ℕ). n % p) (total-all Receiver b v nr core round w more))

    -- a bus on which of the five only the core table has tuples
    outer : outward (bus_number b ∷ v) ≡ true → ((s : Side) → bus_total nr core round w s b v ≡ table_share s b v (core_kind nr) core) → Even (bus_number b ∷ v)
    outer q e = sym (is Sender) ∙ answers (bus_number b ∷ v) ∙ is Receiver
      where
        is : (s : Side) → total s (bus_number b ∷ v) (outside nr core ++ more) % p ≡ total s (bus_number b ∷ v) es % p
        is s =
            ap (λ (n : ℕ). n % p)
            (outside-total s (bus_number b ∷ v)
            ∙ ap (λ (t : Bool). pick {A = ℕ} t (total s (bus_number b ∷ v) (table_entries (core_kind nr) core)) 0 + total s (bus_number b ∷ v) more) q
            ∙ ap (λ (n : ℕ). n + total s (bus_number b ∷ v) more) (total-entries s b v (rows core_layout core) 84 (tuple_at (core_kind nr) core) ∙ sym (e s))
            ∙ sym (total-all s b v nr core round w more))

    -- neither round rows, nor IS_WH rows, nor constants have a tuple on a side of the bus
    abbrev Aside : Side → Type 0
    Aside s = ((m : ℕ) → round_line s b m ≡ 0) × ((m : ℕ) → is_wh_line s b m ≡ 0) × ((m : ℕ) → constant_line s b m ≡ 0)

    core-only : (s : Side) → Aside s → bitwise_share s b v w.bitwise ≡ 0 → bus_total nr core round w s b v ≡ table_share s b v (core_kind nr) core
    unfolding bus_total
    core-only s h t = omega (arith, no-round s b v h.0 round, no-is-wh s b v h.1 w.is-wh, no-constants s b v h.2 w.constants)

    none-on : (s : Side) → Aside s → ((m : ℕ) → core_line s b m ≡ 0) → ((i : ℕ) → i < NUM-ROWS → bitwise_line s b (w.bitwise i) ≡ 0) → bus_total nr core round w s b v ≡ 0
    none-on s h k t = core-only s h (no_line s b v 1048576 10 (bitwise_at w.bitwise) (λ i l. bitwise-line s b w.bitwise i ∙ t i l)) ∙ no-core s b v k nr core

    -- a bus on which none of them sends, and the bitwise rows count nothing
    unused : outward (bus_number b ∷ v) ≡ false → bus_total nr core round w Sender b v ≡ 0 → bus_total nr core round w Receiver b v ≡ 0 → Even (bus_number b ∷ v)
    unused q e f = inner q (ap (λ (n : ℕ). n % p) (e ∙ sym f))

  -- ---- bus by bus
  memw : (v : List ℕ) (s : Side) → bus_total nr core round w s Memw v ≡ table_share s Memw v (core_kind nr) core
  memw v Sender = core-only Memw v Sender ((λ m. refl), (λ m. refl), (λ m. refl)) (no-bitwise Sender Memw v (λ m. refl) w.bitwise)
  memw v Receiver = core-only Memw v Receiver ((λ m. refl), (λ m. refl), (λ m. refl)) (no-bitwise Receiver Memw v (λ m. refl) w.bitwise)

  ecall : (v : List ℕ) (s : Side) → bus_total nr core round w s Ecall v ≡ table_share s Ecall v (core_kind nr) core
  ecall v Sender = core-only Ecall v Sender ((λ m. refl), (λ m. refl), (λ m. refl)) (no-bitwise Sender Ecall v (λ m. refl) w.bitwise)
  ecall v Receiver = core-only Ecall v Receiver ((λ m. refl), (λ m. refl), (λ m. refl)) (no-bitwise Receiver Ecall v (λ m. refl) w.bitwise)

  module _ (holds : SumsHold nr core round w nobody) (idle : Idle w.bitwise) where
    ours : (b : Bus) → Ours b → (v : List ℕ) → bus_total nr core round w Sender b v % p ≡ bus_total nr core round w Receiver b v % p
    ours b o v = ap (λ (n : ℕ). n % p) (sym (add-zero (bus_total nr core round w Sender b v))) ∙ holds.agree b o v

    on-bus : (b : Bus) (v : List ℕ) → Even (bus_number b ∷ v)
    on-bus ByteAlu v = inner ByteAlu v refl (ours ByteAlu tt v)
    on-bus AreBytes v = inner AreBytes v refl (ours AreBytes tt v)
    on-bus IsHalfword v = inner IsHalfword v refl (ours IsHalfword tt v)
    on-bus IsWh v = inner IsWh v refl (ours IsWh tt v)
    on-bus KeccakRc v = inner KeccakRc v refl (ours KeccakRc tt v)
    on-bus Keccak v = inner Keccak v refl (ours Keccak tt v)
    on-bus IsB20 v = inner IsB20 v refl (ours IsB20 tt v)
    on-bus Memw v = outer Memw v refl (memw v)
    on-bus Ecall v = outer Ecall v refl (ecall v)
    on-bus Msb8 v = unused Msb8 v refl (none-on Msb8 v Sender ((λ m. refl), (λ m. refl), (λ m. refl)) (λ m. refl) (λ i l. refl))
        (none-on Msb8 v Receiver ((λ m. refl), (λ m. refl), (λ m. refl)) (λ m. refl) (λ i l. omega (arith, idle.msb8 i l)))
    on-bus Msb16 v = unused Msb16 v refl (none-on Msb16 v Sender ((λ m. refl), (λ m. refl), (λ m. refl)) (λ m. refl) (λ i l. refl))
        (none-on Msb16 v Receiver ((λ m. refl), (λ m. refl), (λ m. refl)) (λ m. refl) (λ i l. omega (arith, idle.msb16 i l)))
    on-bus Zero v = unused Zero v refl (none-on Zero v Sender ((λ m. refl), (λ m. refl), (λ m. refl)) (λ m. refl) (λ i l. refl))
        (none-on Zero v Receiver ((λ m. refl), (λ m. refl), (λ m. refl)) (λ m. refl) (λ i l. omega (arith, idle.zeros i l)))
    on-bus Hwsl v = unused Hwsl v refl (none-on Hwsl v Sender ((λ m. refl), (λ m. refl), (λ m. refl)) (λ m. refl) (λ i l. refl))
        (none-on Hwsl v Receiver ((λ m. refl), (λ m. refl), (λ m. refl)) (λ m. refl) (λ i l. omega (arith, idle.hwsl i l)))

    pub all-agree : TotalsAgree p es
    all-agree [] = strange-even [] no_words
    all-agree (n ∷ v) = go (search n buses)
      where
        go : ((b : Bus) × (bus_number b ≡ n)) ⊎ All (λ b. ¬ (n ≡ bus_number b)) buses → Even (n ∷ v)
        go (inl h) = subst (λ (k : ℕ). Even (k ∷ v)) h.1 (on-bus h.0 v)
        go (inr h) = strange-even (n ∷ v) (no-bus n v (each n h))

-- ---- other tables that answer: the same tuples on the other side
mirrored-total : (s : Side) (ws : List ℕ) (es : List Entry) → total s ws (mirrored es) ≡ total (other_side s) ws es
unfolding total entry_share
mirrored-total s ws [] = refl
mirrored-total s ws (e ∷ es) = ap₂ ◌+◌ (ap (λ (t : Bool). pick {A = ℕ} (t && words_test ws e.words) e.multiplicity 0) (turned s e.side)) (mirrored-total s ws es)
  where
    turned : (s t : Side) → same_side s (other_side t) ≡ same_side (other_side s) t
    turned Sender Sender = refl
    turned Sender Receiver = refl
    turned Receiver Sender = refl
    turned Receiver Receiver = refl

pub mirror : (nr : ℕ) (core : List ℕ) → Answers nr core (mirrored (outside nr core))
mirror nr core ws =
    ap (λ (n : ℕ). n % p)
    (total-append Sender ws xs (mirrored xs)
    ∙ ap (λ (n : ℕ). total Sender ws xs + n) (mirrored-total Sender ws xs)
    ∙ add_comm (total Sender ws xs) (total Receiver ws xs)
    ∙ sym (total-append Receiver ws xs (mirrored xs) ∙ ap (λ (n : ℕ). total Receiver ws xs + n) (mirrored-total Receiver ws xs)))
  where
    xs : List Entry
    xs = outside nr core
