-- "Two lines are equal exactly when the verdicts and the shown tuples are equal": a line is read back, its words between
-- the spaces, then the verdict and the tuple from the words.
use Prim.Native.Nat.{ℕ}
use mathlib.Core.Path.{◌≡◌, refl, sym, ap, ◌∙◌}
use mathlib.Core.Bool.{true}
use mathlib.Core.Logic.{◌↔◌}
use mathlib.Core.Option.{Option, none, some}
use mathlib.Core.List.{List, [], ◌∷◌, ◌++◌, map, append_cancel_left, cons≢nil}
use lib.Dec.{eqb}
use lib.ListN.{get_or}
use Rattle.lists.specs.Tab.{pick, word}
use Rattle.lists.specs.Select.{words_test}
use Rattle.text.specs.Text.{decimal_of, joined, number_in}
use Rattle.text.specs.Names.{bus_name}
use Rattle.text.proofs.Numbers.{decimal-back}
use Rattle.text.proofs.Words.{no_space, NoSpaces, decimal-no-space, decimals-no-space, no-spaces-append, words_in, words_back}
use Rattle.tuple.specs.declared.Bus.{Bus}
use Rattle.tuple.specs.declared.Bus.TheVariants.{ByteAlu, AreBytes, IsHalfword, IsWh, KeccakRc, Keccak, Memw}
use Rattle.tuple.specs.declared.Bus.TheVariants.{Ecall, Msb8, Msb16, Zero, IsB20, Hwsl}
use Rattle.verdict.specs.Verdict.{verdict_words}
use Rattle.verdict.specs.CoreAndRound.{verdict_for}
use Rattle.verdict.specs.declared.Table.{Table}
use Rattle.verdict.specs.declared.Table.TheVariants.{Core, Round}
use Rattle.verdict.specs.declared.Verdict.{Verdict}
use Rattle.verdict.specs.declared.Verdict.TheVariants.{Refused, Value, Lookup, Repeated, Unbalanced, Holds}
use Rattle.verdict.proofs.VerdictWords.{words-tell}
use Rattle.verdict_line.specs.Line.{Shown, place_words, words_of, shown_words, line_of, shown_at, line_at, Judged}

-- ---- no word has a space in it
bus-no-space : (b : Bus) → no_space (bus_name b) ≡ true
unfolding no_space
bus-no-space ByteAlu = refl
bus-no-space AreBytes = refl
bus-no-space IsHalfword = refl
bus-no-space IsWh = refl
bus-no-space KeccakRc = refl
bus-no-space Keccak = refl
bus-no-space Memw = refl
bus-no-space Ecall = refl
bus-no-space Msb8 = refl
bus-no-space Msb16 = refl
bus-no-space Zero = refl
bus-no-space IsB20 = refl
bus-no-space Hwsl = refl

shown-no-space : (s : Option Shown) → NoSpaces (shown_words s)
unfolding shown_words
shown-no-space none = tt
shown-no-space (some s) = (bus-no-space s.bus, decimals-no-space s.values)

place-no-space : (t : Table) (r : ℕ) (what : List ℕ) (i : ℕ) → no_space what ≡ true → NoSpaces (place_words t r what i)
unfolding place_words no_space
place-no-space Core r what i h = (refl, (refl, (decimal-no-space r, (h, (decimal-no-space i, tt)))))
place-no-space Round r what i h = (refl, (refl, (decimal-no-space r, (h, (decimal-no-space i, tt)))))

words-no-space : (v : Verdict) → NoSpaces (words_of v)
unfolding words_of no_space
words-no-space (Value t r i) = place-no-space t r _ i refl
words-no-space (Repeated r) = place-no-space Core r _ 0 refl
words-no-space (Lookup t r i) = place-no-space t r _ i refl
words-no-space (Unbalanced t r i) = place-no-space t r _ i refl
words-no-space (Holds n) = (refl, (decimal-no-space n, tt))
words-no-space (Refused r) = tt

-- ---- the words of a line, read back
all_back : (ws : List (List ℕ)) (vs : List (List ℕ)) → (ws ≡ [] → ⊥) → NoSpaces ws → NoSpaces vs → words_in (joined (ws ++ vs)) ≡ ws ++ vs
all_back [] vs n h g = absurd (n refl)
all_back (w ∷ ws) vs n h g = words_back w (ws ++ vs) (no-spaces-append (w ∷ ws) vs h g)

has_words : (v : Verdict) → Judged v → words_of v ≡ [] → ⊥
unfolding words_of place_words
has_words (Value t r i) j e = cons≢nil e
has_words (Repeated r) j e = cons≢nil e
has_words (Lookup t r i) j e = cons≢nil e
has_words (Unbalanced t r i) j e = cons≢nil e
has_words (Holds n) j e = cons≢nil e
has_words (Refused r) j e = absurd j

line-back : (v : Verdict) (s : Option Shown) → Judged v → words_in (line_of v s) ≡ words_of v ++ shown_words s
unfolding line_of
line-back v s j = all_back (words_of v) (shown_words s) (has_words v j) (words-no-space v) (shown-no-space s)

-- ---- the verdict from the words: names are told apart by their first letters
initial : List (List ℕ) → ℕ → ℕ
initial ws k = word (get_or ws k []) 0

number : List (List ℕ) → ℕ → ℕ
number ws k = number_in (get_or ws k [])

-- 0 core, 1 round
table_in : List (List ℕ) → ℕ
table_in ws = pick (eqb (initial ws 0) 99) 0 1

-- the failure's place in the order
kind_in : List (List ℕ) → ℕ
kind_in ws =
    pick (eqb (initial ws 3) 118) (pick (eqb (initial ws 0) 99) 1 4)
    (pick (eqb (initial ws 3) 108) (pick (eqb (initial ws 0) 99) 2 5)
    (pick (eqb (initial ws 3) 116) 3 6))

-- the four words of the verdict
verdict_in : List (List ℕ) → List ℕ
verdict_in ws =
    pick (eqb (initial ws 0) 104) (0 ∷ number ws 1 ∷ 0 ∷ 0 ∷ [])
    (kind_in ws ∷ table_in ws ∷ number ws 2 ∷ number ws 4 ∷ [])

verdict-back : (v : Verdict) (vs : List (List ℕ)) → Judged v → verdict_in (words_of v ++ vs) ≡ verdict_words v
unfolding verdict_in kind_in table_in number initial words_of place_words
verdict-back (Value Core r i) vs j = λ t. 1 ∷ 0 ∷ decimal-back r t ∷ decimal-back i t ∷ []
verdict-back (Value Round r i) vs j = λ t. 4 ∷ 1 ∷ decimal-back r t ∷ decimal-back i t ∷ []
verdict-back (Repeated r) vs j = λ t. 3 ∷ 0 ∷ decimal-back r t ∷ decimal-back 0 t ∷ []
verdict-back (Lookup Core r i) vs j = λ t. 2 ∷ 0 ∷ decimal-back r t ∷ decimal-back i t ∷ []
verdict-back (Lookup Round r i) vs j = λ t. 5 ∷ 1 ∷ decimal-back r t ∷ decimal-back i t ∷ []
verdict-back (Unbalanced Core r i) vs j = λ t. 6 ∷ 0 ∷ decimal-back r t ∷ decimal-back i t ∷ []
verdict-back (Unbalanced Round r i) vs j = λ t. 6 ∷ 1 ∷ decimal-back r t ∷ decimal-back i t ∷ []
verdict-back (Holds n) vs j = λ t. 0 ∷ decimal-back n t ∷ 0 ∷ 0 ∷ []
verdict-back (Refused r) vs j = absurd j

-- ---- the tuple from the words
bus_in : List ℕ → Bus
bus_in w =
    pick (words_test w (bus_name ByteAlu)) ByteAlu
    (pick (words_test w (bus_name AreBytes)) AreBytes
    (pick (words_test w (bus_name IsHalfword)) IsHalfword
    (pick (words_test w (bus_name IsWh)) IsWh
    (pick (words_test w (bus_name KeccakRc)) KeccakRc
    (pick (words_test w (bus_name Keccak)) Keccak
    (pick (words_test w (bus_name Memw)) Memw
    (pick (words_test w (bus_name Ecall)) Ecall
    (pick (words_test w (bus_name Msb8)) Msb8
    (pick (words_test w (bus_name Msb16)) Msb16
    (pick (words_test w (bus_name Zero)) Zero
    (pick (words_test w (bus_name IsB20)) IsB20
    Hwsl)))))))))))

bus-back : (b : Bus) → bus_in (bus_name b) ≡ b
unfolding bus_in words_test
bus-back ByteAlu = refl
bus-back AreBytes = refl
bus-back IsHalfword = refl
bus-back IsWh = refl
bus-back KeccakRc = refl
bus-back Keccak = refl
bus-back Memw = refl
bus-back Ecall = refl
bus-back Msb8 = refl
bus-back Msb16 = refl
bus-back Zero = refl
bus-back IsB20 = refl
bus-back Hwsl = refl

values-back : (ns : List ℕ) → map number_in (map decimal_of ns) ≡ ns
values-back [] = refl
values-back (n ∷ ns) = λ t. decimal-back n t ∷ values-back ns t

shown_in : List (List ℕ) → Option Shown
shown_in [] = none
shown_in (w ∷ ws) = some (record { bus = bus_in w; values = map number_in ws })

shown-back : (s : Option Shown) → shown_in (shown_words s) ≡ s
unfolding shown_in shown_words
shown-back none = refl
shown-back (some s) = λ t. some (record { bus = bus-back s.bus t; values = values-back s.values t })

-- ---- so a line tells its verdict and its tuple
pub line-tells : (v w : Verdict) (s u : Option Shown) → Judged v → Judged w → line_of v s ≡ line_of w u → (v ≡ w) × (s ≡ u)
line-tells v w s u j k e =
    let same : words_of v ++ shown_words s ≡ words_of w ++ shown_words u = sym (line-back v s j) ∙ ap words_in e ∙ line-back w u k in
    let one : v ≡ w = words-tell v w (sym (verdict-back v (shown_words s) j) ∙ ap verdict_in same ∙ verdict-back w (shown_words u) k) in
    let rest : shown_words s ≡ shown_words u =
    append_cancel_left (words_of v) (shown_words s) (shown_words u) (same ∙ ap (λ (x : Verdict). words_of x ++ shown_words u) (sym one)) in
    (one, sym (shown-back s) ∙ ap shown_in rest ∙ shown-back u)

module _ (nr mr : ℕ) (core round core' round' : List ℕ) where
  pub lines-tell : Judged (verdict_for nr core round) → Judged (verdict_for mr core' round') →
      (line_at nr core round ≡ line_at mr core' round')
      ↔ ((verdict_for nr core round ≡ verdict_for mr core' round') × (shown_at nr core round ≡ shown_at mr core' round'))
  unfolding shown_at
  lines-tell j k = (
    line-tells _ _ _ _ j k,
    λ e. λ t. line_of (e.0 t) (e.1 t),
  )
