-- Equal cells, as the code finds them.
--     first-cells     the cells of a record are those of the bytes that begin with it
--     low-apart, high-apart, by_bytes     a record against a row: the halves of the timestamp, then the bytes
--     bytes-test      a record against a record, by bytes
--     rows-test       a row against a row
--     held-no, held_by     whether a row is active and has some cells
use mathlib.Core.Path.{◌≡◌, refl, sym, ap, subst, ◌∙◌}
use mathlib.Core.Bool.{Bool, true, false, not, ◌&&◌}
use mathlib.Core.List.{List}
use Prim.Native.Nat.{ℕ, zero, suc, ◌+◌, ◌*◌, ◌-◌, ◌/◌, ◌%◌, ◌^◌, ◌<◌}
use native.Mathlib.Omega.{arith}
use borrow.Author.Tests.{eqb-true, eq-eqb, not-false, not-true}
use lib.Dec.{T}
use lib.ListN.{take, drop, get_or}
use lib.Seq.{get_or-take, get_or-drop}
use Rattle.lists.specs.Tab.{tab, word, row_at}
use Rattle.lists.specs.First.{any_below}
use Rattle.lists.specs.Select.{words_test, words_differ}
use Rattle.lists.proofs.First.{any-clear, any-nothing}
use Rattle.lists.proofs.Laws.{get_d-tab, tab-same, word-row_at}
use Rattle.lists.proofs.Select.{words_same_lem, words-sound}
use Rattle.lists.proofs.Tests.{T_of, false-and}
use Rattle.lists.proofs.Tests as tests
use Rattle.lists.proofs.Then.{by_le, T_true}
use Rattle.bits.specs.Bits.{pack}
use Rattle.bits.proofs.Bytes.{pack-by}
use Rattle.op_file.specs.File.{is_marked, size_of}
use Rattle.op_file.proofs.Steps.{size-least, upper-half}
use Rattle.verdict.specs.Kind.{row, active}
use Rattle.verdict.specs.CoreAndRound.{core_layout}
use Rattle.partners.specs.Partners.{holds_at}
use Rattle.same_operations.specs.Same.{record_cell, record_cells, row_cells, core_run}
use Rattle.same_operations.proofs.Cells.{stamp-cell, byte-cell}

-- ---- equal tests
pub either : (a b : Bool) → (a ≡ true → b ≡ true) → (b ≡ true → a ≡ true) → a ≡ b
either true b f g = sym (f refl)
either false true f g = g refl
either false false f g = refl

-- ---- tabulations
module _ (n : ℕ) (f g : ℕ → ℕ) where
  pub cells_same : ((k : ℕ) → k < n → f k ≡ g k) → words_test (tab n f) (tab n g) ≡ true
  cells_same h = T_true _ (subst (λ (v : List ℕ). T (words_test (tab n f) v)) (tab-same n f g h) (words_same_lem (tab n f)))

  pub same-cells : words_test (tab n f) (tab n g) ≡ true → (k : ℕ) → k < n → f k ≡ g k
  same-cells e k l =
      sym (get_d-tab n f k 0 l) ∙ ap (λ (v : List ℕ). get_or v k 0) (words-sound (tab n f) (tab n g) (T_of _ e)) ∙ get_d-tab n g k 0 l

  pub cells-apart : (k : ℕ) → k < n → (f k ≡ g k → ⊥) → words_test (tab n f) (tab n g) ≡ false
  cells-apart k l h = tests.not-true _ (λ e. h (same-cells e k l))

-- words of two lists
module _ (a : List ℕ) (i : ℕ) (b : List ℕ) (j n : ℕ) where
  pub words-differ : not (any_below (words_differ a i b j) n) ≡ true → (k : ℕ) → k < n → word a (i + k) ≡ word b (j + k)
  unfolding words_differ
  words-differ e k l = eqb-true _ _ (not-false _ (any-clear (words_differ a i b j) n k (not-true _ e) l))

  pub none-differs : ((k : ℕ) → k < n → word a (i + k) ≡ word b (j + k)) → not (any_below (words_differ a i b j) n) ≡ true
  unfolding words_differ
  none-differs h = ap not (any-nothing _ n (λ k l. ap not (eq-eqb _ _ (h k l))))

-- ---- bytes
-- four bytes are the lower half of the eight that they begin
pub lower-half : (k : ℕ) (f : ℕ → ℕ) → ((b : ℕ) → f b < 256) → pack 8 k f % 2 ^ 32 ≡ pack 4 k f
unfolding pack
lower-half k f h = omega (arith, h k, h (suc k), h (suc (suc k)), h (suc (suc (suc k))))

-- equal numbers have equal bytes
digits_same : (n i j : ℕ) (f g : ℕ → ℕ) → ((b : ℕ) → f b < 256) → ((b : ℕ) → g b < 256) → pack n i f ≡ pack n j g → (b : ℕ) → b < n → f (i + b) ≡ g (j + b)
unfolding pack
digits_same zero i j f g hf hg e b l = absurd (omega arith)
digits_same (suc n) i j f g hf hg e zero l =
    let z : i + 0 ≡ i = omega arith in
    let w : j ≡ j + 0 = omega arith in
    let d : f i ≡ g j = omega (arith, hf i, hg j, e) in
    ap f z ∙ d ∙ ap g w
digits_same (suc n) i j f g hf hg e (suc b) l =
    let z : i + suc b ≡ suc i + b = omega arith in
    let w : suc j + b ≡ j + suc b = omega arith in
    let d : pack n (suc i) f ≡ pack n (suc j) g = omega (arith, hf i, hg j, e) in
    ap f z ∙ digits_same n (suc i) (suc j) f g hf hg d b (omega arith) ∙ ap g w

-- ---- the cells of the record that begins at byte `from`
module _ (file : List ℕ) (from : ℕ) where
  pub half_at : (k : ℕ) → k < 2 → record_cell (drop from file) k ≡ pack 4 (from + 2 + 4 * k) (word file)
  half_at k l =
      stamp-cell (drop from file) k l
      ∙ pack-by 4 (2 + 4 * k) (from + 2 + 4 * k) (word (drop from file)) (word file) (λ b h. get_or-drop from file (2 + 4 * k + b) 0 ∙ ap (word file) (e b))
    where
      e : (b : ℕ) → from + (2 + 4 * k + b) ≡ from + 2 + 4 * k + b
      e b = omega arith

  pub byte_at : (k : ℕ) → record_cell (drop from file) (2 + k) ≡ word file (from + 10 + k)
  byte_at k = let e : from + (8 + (2 + k)) ≡ from + 10 + k = omega arith in byte-cell (drop from file) (2 + k) (omega arith) ∙ get_or-drop from file (8 + (2 + k)) 0 ∙ ap (word file) e

-- the cells of a record are those of the bytes that begin with it
first_cell : (s : List ℕ) (k : ℕ) → k < 410 → record_cell (take (size_of s) s) k ≡ record_cell s k
first_cell s k l =
    by_le 2 k
    (λ h.
    byte-cell (take (size_of s) s) k h
    ∙ get_or-take (size_of s) s (8 + k) 0 (omega (arith, size-least (is_marked s)))
    ∙ sym (byte-cell s k h))
    (λ h.
    stamp-cell (take (size_of s) s) k h
    ∙ pack-by 4 (2 + 4 * k) (2 + 4 * k) (word (take (size_of s) s)) (word s) (λ b m. get_or-take (size_of s) s (2 + 4 * k + b) 0 (omega (arith, size-least (is_marked s))))
    ∙ sym (stamp-cell s k h))

pub first-cells : (s : List ℕ) → record_cells (take (size_of s) s) ≡ record_cells s
unfolding record_cells
first-cells s = tab-same 410 (record_cell (take (size_of s) s)) (record_cell s) (first_cell s)

-- ---- a record against a row
row-cell : (core : List ℕ) (r k : ℕ) → k < 410 → word (row_at 486 core r) k ≡ word core (r * 486 + k)
row-cell core r k l = word-row_at 486 core r k (omega arith)

module _ (core : List ℕ) (r : ℕ) (file : List ℕ) (from : ℕ) where
  abbrev Test : Bool
  Test = words_test (record_cells (drop from file)) (row_cells (row_at 486 core r))

  abbrev Cell : ℕ → ℕ
  Cell k = word core (r * 486 + k)

  apart-at : (k : ℕ) → k < 410 → (Cell k ≡ record_cell (drop from file) k → ⊥) → Test ≡ false
  unfolding record_cells row_cells
  apart-at k l h = cells-apart 410 (record_cell (drop from file)) (word (row_at 486 core r)) k l (λ e. h (sym (row-cell core r k l) ∙ sym e))

  all-cells : ((k : ℕ) → k < 410 → record_cell (drop from file) k ≡ Cell k) → Test ≡ true
  unfolding record_cells row_cells
  all-cells h = cells_same 410 (record_cell (drop from file)) (word (row_at 486 core r)) (λ k l. h k l ∙ sym (row-cell core r k l))

  cells-all : Test ≡ true → (k : ℕ) → k < 410 → record_cell (drop from file) k ≡ Cell k
  unfolding record_cells row_cells
  cells-all e k l = same-cells 410 (record_cell (drop from file)) (word (row_at 486 core r)) e k l ∙ row-cell core r k l

  module _ (stamp : ℕ) (es : stamp ≡ pack 8 (from + 2) (word file)) (bytes : (b : ℕ) → word file b < 256) where
    low-is : stamp % 2 ^ 32 ≡ record_cell (drop from file) 0
    low-is =
        let z : from + 2 + 4 * 0 ≡ from + 2 = omega arith in
        ap (λ (n : ℕ). n % 2 ^ 32) es ∙ lower-half (from + 2) (word file) bytes ∙ ap (λ (k : ℕ). pack 4 k (word file)) (sym z) ∙ sym (half_at file from 0 (omega arith))

    high_is : stamp / 2 ^ 32 ≡ record_cell (drop from file) 1
    high_is =
        let z : from + 2 + 4 * 1 ≡ from + 2 + 4 = omega arith in
        ap (λ (n : ℕ). n / 2 ^ 32) es ∙ upper-half (from + 2) (word file) bytes ∙ ap (λ (k : ℕ). pack 4 k (word file)) (sym z) ∙ sym (half_at file from 1 (omega arith))

    -- what the code finds, one test after the other
    pub low-apart : (word core (r * 486) ≡ stamp % 2 ^ 32 → ⊥) → false ≡ Test
    low-apart h = let z : r * 486 ≡ r * 486 + 0 = omega arith in sym (apart-at 0 (omega arith) (λ e. h (ap (word core) z ∙ e ∙ sym low-is)))

    pub high-apart : (word core (r * 486 + 1) ≡ stamp / 2 ^ 32 → ⊥) → false ≡ Test
    high-apart h = sym (apart-at 1 (omega arith) (λ e. h (e ∙ sym high_is)))

    pub by_bytes : word core (r * 486) ≡ stamp % 2 ^ 32 → word core (r * 486 + 1) ≡ stamp / 2 ^ 32 →
        not (any_below (words_differ core (r * 486 + 2) file (from + 10)) 408) ≡ Test
    by_bytes low high = either _ Test (λ e. all_same (words-differ core (r * 486 + 2) file (from + 10) 408 e)) (λ e. none-differs core (r * 486 + 2) file (from + 10) 408 (bytes_same e))
      where
        cells : ((k : ℕ) → k < 408 → word core (r * 486 + 2 + k) ≡ word file (from + 10 + k)) → (k : ℕ) → k < 410 → record_cell (drop from file) k ≡ Cell k
        cells h zero l = let z : r * 486 ≡ r * 486 + 0 = omega arith in sym low-is ∙ sym low ∙ ap (word core) z
        cells h (suc zero) l = sym high_is ∙ sym high
        cells h (suc (suc k)) l =
            let z : suc (suc k) ≡ 2 + k = omega arith in
            let w : r * 486 + 2 + k ≡ r * 486 + suc (suc k) = omega arith in
            ap (record_cell (drop from file)) z ∙ byte_at file from k ∙ sym (h k (omega arith)) ∙ ap (word core) w

        all_same : ((k : ℕ) → k < 408 → word core (r * 486 + 2 + k) ≡ word file (from + 10 + k)) → Test ≡ true
        all_same h = all-cells (cells h)

        bytes_same : Test ≡ true → (k : ℕ) → k < 408 → word core (r * 486 + 2 + k) ≡ word file (from + 10 + k)
        bytes_same e k l =
            let w : r * 486 + 2 + k ≡ r * 486 + (2 + k) = omega arith in
            ap (word core) w ∙ sym (cells-all e (2 + k) (omega arith)) ∙ byte_at file from k

-- ---- a record against a record
module _ (file : List ℕ) (a b : ℕ) (bytes : (k : ℕ) → word file k < 256) where
  abbrev SameBytes : Type 0
  SameBytes = (k : ℕ) → k < 416 → word file (a + 2 + k) ≡ word file (b + 2 + k)

  bytes-cell : SameBytes → (k : ℕ) → k < 410 → record_cell (drop a file) k ≡ record_cell (drop b file) k
  bytes-cell h k l =
      by_le 2 k
      (λ g.
      let e : k ≡ 2 + (k - 2) = omega arith in
      let z : a + 10 + (k - 2) ≡ a + 2 + (6 + k) = omega arith in
      let w : b + 2 + (6 + k) ≡ b + 10 + (k - 2) = omega arith in
      ap (record_cell (drop a file)) e ∙ byte_at file a (k - 2) ∙ ap (word file) z ∙ h (6 + k) (omega arith) ∙ ap (word file) w
      ∙ sym (ap (record_cell (drop b file)) e ∙ byte_at file b (k - 2)))
      (λ g.
      half_at file a k g
      ∙ pack-by 4 (a + 2 + 4 * k) (b + 2 + 4 * k) (word file) (word file)
      (λ c m. ap (word file) (up a c) ∙ h (4 * k + c) (omega arith) ∙ sym (ap (word file) (up b c)))
      ∙ sym (half_at file b k g))
    where
      up : (n c : ℕ) → n + 2 + 4 * k + c ≡ n + 2 + (4 * k + c)
      up n c = omega arith

  cell-bytes : ((k : ℕ) → k < 410 → record_cell (drop a file) k ≡ record_cell (drop b file) k) → SameBytes
  cell-bytes h k l =
      by_le 8 k
      (λ g.
      let z : a + 2 + k ≡ a + 10 + (k - 8) = omega arith in
      let w : b + 10 + (k - 8) ≡ b + 2 + k = omega arith in
      ap (word file) z ∙ sym (byte_at file a (k - 8)) ∙ h (2 + (k - 8)) (omega arith) ∙ byte_at file b (k - 8) ∙ ap (word file) w)
      (λ g.
      let d : k ≡ 4 * (k / 4) + k % 4 = omega arith in
      let z : a + 2 + k ≡ a + 2 + 4 * (k / 4) + k % 4 = omega arith in
      let w : b + 2 + 4 * (k / 4) + k % 4 ≡ b + 2 + k = omega arith in
      let m : k / 4 < 2 = omega arith in
      ap (word file) z
      ∙ digits_same 4 (a + 2 + 4 * (k / 4)) (b + 2 + 4 * (k / 4)) (word file) (word file) bytes bytes
      (sym (half_at file a (k / 4) m) ∙ h (k / 4) (omega arith) ∙ half_at file b (k / 4) m) (k % 4) (omega arith)
      ∙ ap (word file) w)

  pub bytes-test : not (any_below (words_differ file (a + 2) file (b + 2)) 416) ≡ words_test (record_cells (drop a file)) (record_cells (drop b file))
  unfolding record_cells
  bytes-test =
      either _ _
      (λ e. cells_same 410 (record_cell (drop a file)) (record_cell (drop b file)) (bytes-cell (words-differ file (a + 2) file (b + 2) 416 e)))
      (λ e. none-differs file (a + 2) file (b + 2) 416 (cell-bytes (same-cells 410 (record_cell (drop a file)) (record_cell (drop b file)) e)))

-- ---- a row against a row
module _ (core : List ℕ) (r q : ℕ) where
  pub rows-test : not (any_below (words_differ core (r * 486) core (q * 486)) 410) ≡ words_test (row_cells (row_at 486 core r)) (row_cells (row_at 486 core q))
  unfolding row_cells
  rows-test =
      either _ _
      (λ e. cells_same 410 (word (row_at 486 core r)) (word (row_at 486 core q)) (λ k l. row-cell core r k l ∙ words-differ core (r * 486) core (q * 486) 410 e k l ∙ sym (row-cell core q k l)))
      (λ e. none-differs core (r * 486) core (q * 486) 410 (λ k l. sym (row-cell core r k l) ∙ same-cells 410 (word (row_at 486 core r)) (word (row_at 486 core q)) e k l ∙ row-cell core q k l))

-- ---- whether a row of the run holds something: its cells, then MU
pub held-no : (core x : List ℕ) (r : ℕ) {b : Bool} → b ≡ words_test x (row_cells (row core_layout core r)) → b ≡ false → false ≡ holds_at (core_run core) x r
unfolding holds_at core_run
held-no core x r e f = sym (false-and (active core_layout core r) _ (λ z. sym e ∙ f))

pub held_by : (core x : List ℕ) (r : ℕ) {b c : Bool} → b ≡ words_test x (row_cells (row core_layout core r)) → b ≡ true → c ≡ active core_layout core r → c ≡ holds_at (core_run core) x r
unfolding holds_at core_run
held_by core x r e f g = go (active core_layout core r) _ g (sym e ∙ f)
  where
    go : (a t : Bool) {c : Bool} → c ≡ a → t ≡ true → c ≡ (a && t)
    go true t h k = h ∙ sym k
    go false t h k = h
