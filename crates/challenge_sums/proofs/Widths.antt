-- Every tuple of the five tables has as many values as its bus, all words below p.
--     core-fits, round-fits, is-wh-fits      by the words of the row
--     bitwise-fits, constant-fits            whatever the multiplicities are
--     all_fit                                all entries
use mathlib.Core.Path.{◌≡◌, refl, sym, ap, ◌∙◌, subst}
use mathlib.Core.Bool.{Bool, true, false, ◌&&◌}
use mathlib.Core.List.{List, [], ◌∷◌, ◌++◌}
use Prim.Native.Nat.{ℕ, zero, suc, ◌+◌, ◌-◌, ◌*◌, ◌/◌, ◌%◌, ◌^◌, ◌≤◌, ◌<◌, suc-le-suc}
use native.Mathlib.Nat.{mod-lt, pow-le-pow_right, div-le_of_le-mul, mul-le-mul_left}
use native.Mathlib.Omega.{arith}
use lib.Bits.{bit_and, bit_or, bit_xor, or_lt, and_lt, xor_lt}
use lib.Dec.{eqb}
use lib.ListN.{length, get_or}
use Rattle.lists.specs.Tab.{pick, word, tab, tab_from, row_at, followed_by}
use Rattle.lists.proofs.Laws.{length-tab}
use Rattle.lists.proofs.Then.{then-all}
use Rattle.field.specs.Field.{p, fadd, fsub, fmul}
use Rattle.field.proofs.Field.{mod-p}
use Rattle.tuple.specs.Tuple.{Tuple, bus_number, sender, receiver}
use Rattle.tuple.specs.declared.Bus.{Bus}
use Rattle.tuple.specs.declared.Bus.TheVariants.{ByteAlu, AreBytes, IsHalfword, IsWh, KeccakRc, Keccak, Memw}
use Rattle.tuple.specs.declared.Bus.TheVariants.{Ecall, Msb8, Msb16, Zero, IsB20, Hwsl}
use Rattle.is_wh.specs.Tuples.{is_wh_tuple, is-whh}
use Rattle.bitwise.specs.Columns.{NUM-ROWS, NUM-LOOKUP-TYPES}
use Rattle.bitwise.specs.Row.{bitwise_row, row_of_xyz}
use Rattle.bitwise.specs.Tuples.{kind_at, kind_bus, kind_values}
use Rattle.bitwise.specs.declared.BitwiseOperationType.{BitwiseOperationType}
use Rattle.bitwise.proofs.Numbers.{by_kind}
use Rattle.bits.specs.Bits.{byte_at, hwsl_carry}
use Rattle.fips202.specs.Tables.{round_constant}
use Rattle.keccak_rc.specs.Columns.{NUM-ROWS as RC-ROWS}
use Rattle.keccak_rc.specs.Row.{rc_row}
use Rattle.keccak_rc.specs.Tuples.{rc_tuple, NUM-TUPLES as RC-TUPLES}
use Rattle.keccak_rc.proofs.Found.{rc-values, rc-length}
use Rattle.keccak.specs.Columns.{state-ptr}
use Rattle.keccak.specs.Tuples.{core_tuple, ecall_tuple, addr_memw, keccak_values, core_sent, core_received, pointer_tuple, align_tuple, addr_bytes_tuple, lane_memw}
use Rattle.keccak_rnd.specs.Tuples.{round_tuple, round_received, round_sent, rotated_c_at}
use Rattle.verdict.specs.Kind.{Kind, Elements, rows, row}
use Rattle.verdict.specs.CoreAndRound.{core_kind, round_kind, core_layout, round_layout}
use Rattle.bus_sums.specs.Sums.{Fillings, tuple_at, bitwise_at, constant_at, is_wh_kind, is_wh_layout}
use Rattle.bus_sums.proofs.Rows.{fixed}
use Rattle.challenge.specs.Check.{All, Entry, Fits, AllFit}
use Rattle.challenge_sums.specs.Entries.{entry, row_entries, entries, table_entries, all_entries, bus_width}

-- ---- words below p
abbrev Below : List ℕ → Type 0
Below ws = All (λ w. w < p) ws

all-word : (ws : List ℕ) → Below ws → (k : ℕ) → word ws k < p
all-word [] h k = omega arith
all-word (x ∷ xs) h zero = h.0
all-word (x ∷ xs) h (suc k) = all-word xs h.1 k

elements-all : (ws : List ℕ) → Elements ws → Below ws
elements-all [] h = tt
elements-all (x ∷ xs) h = (h 0 (omega arith), elements-all xs (λ k l. h (suc k) (suc-le-suc l)))

all-tab_from : (P : ℕ → Type 0) (i n : ℕ) (f : ℕ → ℕ) → ((k : ℕ) → P (f k)) → All P (tab_from i n f)
unfolding tab_from
all-tab_from P i zero f h = tt
all-tab_from P i (suc n) f h = (h i, all-tab_from P (suc i) n f h)

all-tab : (n : ℕ) (f : ℕ → ℕ) → ((k : ℕ) → f k < p) → Below (tab n f)
unfolding tab
all-tab n f h = all-tab_from (λ w. w < p) 0 n f h

all_append : {A : Type 0} (P : A → Type 0) (xs ys : List A) → All P xs → All P ys → All P (xs ++ ys)
all_append P [] ys h k = k
all_append P (x ∷ xs) ys h k = (h.0, all_append P xs ys h.1 k)

-- the words of a row of a table of words below p
row_words : (w : ℕ) (ws : List ℕ) → Elements ws → (r k : ℕ) → word (row_at w ws r) k < p
unfolding row_at
row_words w ws h r k = all-word (tab w (λ k. get_or ws (r * w + k) 0)) (all-tab w (λ k. get_or ws (r * w + k) 0) (λ k. all-word ws (elements-all ws h) (r * w + k))) k

-- ---- tuples
-- a tuple of these tables: its values are as many as its bus has, and below p
record Right (t : Tuple) : Type 0 where
  as_many : length t.values ≡ bus_width t.bus
  below : Below t.values

both : (P : Tuple → Type 0) (n : ℕ) (f g : ℕ → Tuple) → ((i : ℕ) → P (f i)) → ((i : ℕ) → P (g i)) → (i : ℕ) → P (followed_by n f g i)
both P n f g hf hg i = then-all P n f g i (λ l. hf i) (λ j e. hg j)

pick-below : (b : Bool) (m n : ℕ) → m < p → n < p → pick b m n < p
pick-below true m n k l = k
pick-below false m n k l = l

module _ (x : List ℕ) (h : (k : ℕ) → word x k < p) where
  ecall-right : Right (ecall_tuple 0 x)
  unfolding ecall_tuple
  ecall-right = record { as_many = refl; below = (h _, (h _, (omega arith, (omega arith, tt)))) }

  addr-right : Right (addr_memw x)
  unfolding addr_memw
  addr-right = record { as_many = refl; below = (mod-p _, (mod-p _, (omega arith, (omega arith, (omega arith, (omega arith, (omega arith, (omega arith, (omega arith, (omega arith, (omega arith, (mod-p _, (mod-p _, (omega arith, (omega arith, (omega arith, (omega arith, (omega arith, (omega arith, (h _, (h _, (omega arith, (omega arith, (omega arith, tt)))))))))))))))))))))))) }

  sent-right : (nr : ℕ) → Right (sender Keccak (word x 485) (core_sent nr x))
  unfolding core_sent keccak_values
  sent-right nr = record { as_many = ap (λ (n : ℕ). suc (suc (suc n))) (length-tab 200 _); below = (h _, (h _, (omega arith, all-tab 200 _ (λ k. h _)))) }

  received-right : Right (receiver Keccak (word x 485) (core_received x))
  unfolding core_received keccak_values
  received-right = record { as_many = ap (λ (n : ℕ). suc (suc (suc n))) (length-tab 200 _); below = (h _, (h _, (omega arith, all-tab 200 _ (λ k. h _)))) }

  whh-right : (k c j : ℕ) → Right (is-whh x k c j)
  whh-right k c zero = record { as_many = refl; below = (h _, (h _, tt)) }
  whh-right k c (suc j) = record { as_many = refl; below = (h _, tt) }

  pointer-right : (i j : ℕ) → Right (pointer_tuple x i j)
  unfolding pointer_tuple
  pointer-right i j = whh-right (state-ptr i 0) (word x 485) j

  align-right : Right (align_tuple x)
  unfolding align_tuple
  align-right = record { as_many = refl; below = (omega arith, (h _, (omega arith, (omega arith, tt)))) }

  bytes-right : (i : ℕ) → Right (addr_bytes_tuple x i)
  unfolding addr_bytes_tuple
  bytes-right i = record { as_many = refl; below = (h _, (h _, tt)) }

  lane-right : (i : ℕ) → Right (lane_memw x i)
  unfolding lane_memw tab tab_from
  lane-right i = record { as_many = refl; below = (h _, (h _, (h _, (h _, (h _, (h _, (h _, (h _, (omega arith, (mod-p _, (h _, (h _, (h _, (h _, (h _, (h _, (h _, (h _, (h _, (h _, (h _, (omega arith, (omega arith, (omega arith, tt)))))))))))))))))))))))) }

  core-right : (nr i : ℕ) → Right (core_tuple nr 0 x i)
  unfolding core_tuple
  core-right nr =
      both Right 1 _ _ (λ i. ecall-right)
      (both Right 1 _ _ (λ i. addr-right)
      (both Right 1 _ _ (λ i. sent-right nr)
      (both Right 1 _ _ (λ i. received-right)
      (both Right 50 _ _ (λ i. pointer-right (i / 2) (i % 2))
      (both Right 1 _ _ (λ i. align-right)
      (both Right 4 _ _ bytes-right
      lane-right))))))

  round-received-right : Right (receiver Keccak (word x 1479) (round_received x))
  unfolding round_received keccak_values
  round-received-right = record { as_many = ap (λ (n : ℕ). suc (suc (suc n))) (length-tab 200 _); below = (h _, (h _, (h _, all-tab 200 _ (λ k. h _)))) }

  round-sent-right : Right (sender Keccak (word x 1479) (round_sent x))
  unfolding round_sent keccak_values
  round-sent-right = record { as_many = ap (λ (n : ℕ). suc (suc (suc n))) (length-tab 200 _); below = (h _, (h _, (mod-p _, all-tab 200 _ (λ k. h _)))) }

  rotated-below : (y b : ℕ) → rotated_c_at x y b < p
  rotated-below y b = pick-below (eqb (b % 2) 0) _ _ (mod-p _) (h _)

  round-right : (i : ℕ) → Right (round_tuple x i)
  unfolding round_tuple
  round-right =
      both Right 1 _ _ (λ i. round-received-right)
      (both Right 1 _ _ (λ i. round-sent-right)
      (both Right 1 _ _ (λ i. record { as_many = ap suc (length-tab 8 _); below = (h _, all-tab 8 _ (λ k. h _)) })
      (both Right 40 _ _ (λ i. record { as_many = refl; below = (omega arith, (h _, (h _, (h _, tt)))) })
      (both Right 120 _ _ (λ i. record { as_many = refl; below = (omega arith, (h _, (h _, (h _, tt)))) })
      (both Right 20 _ _ (λ i. record { as_many = refl; below = (h _, (h _, tt)) })
      (both Right 40 _ _ (λ i. record { as_many = refl; below = (omega arith, (h _, (rotated-below ((i / 8 + 1) % 5) (i % 8), (h _, tt)))) })
      (both Right 200 _ _ (λ i. record { as_many = refl; below = (omega arith, (h _, (h _, (h _, tt)))) })
      (both Right 200 _ _ (λ i. record { as_many = refl; below = (h _, (h _, tt)) })
      (both Right 200 _ _ (λ i. record { as_many = refl; below = (omega arith, (mod-p _, (mod-p _, (h _, tt)))) })
      (both Right 200 _ _ (λ i. record { as_many = refl; below = (omega arith, (mod-p _, (h _, (h _, tt)))) })
      (λ i. record { as_many = refl; below = (omega arith, (h _, (h _, (h _, tt)))) })))))))))))

  is-wh-right : (i : ℕ) → Right (is_wh_tuple x i)
  unfolding is_wh_tuple
  is-wh-right =
      both Right 1 _ _ (λ i. record { as_many = refl; below = (h _, tt) })
      (both Right 3 _ _ (λ i. record { as_many = refl; below = (h _, tt) })
      (λ i. record { as_many = refl; below = (mod-p _, (h _, tt)) }))

  kind-below : (k : BitwiseOperationType) → Below (kind_values x k)
  kind-below =
      by_kind (λ k. Below (kind_values x k))
      (h _, (h _, tt)) (mod-p _, (h _, tt)) (mod-p _, (h _, tt)) (h _, (h _, tt)) (mod-p _, tt) (mod-p _, tt) (mod-p _, (h _, (h _, (h _, tt))))
      (omega arith, (h _, (h _, (h _, tt)))) (omega arith, (h _, (h _, (h _, tt)))) (omega arith, (h _, (h _, (h _, tt))))

kind-many : (x : List ℕ) (k : BitwiseOperationType) → length (kind_values x k) ≡ bus_width (kind_bus k)
kind-many x = by_kind (λ k. length (kind_values x k) ≡ bus_width (kind_bus k)) refl refl refl refl refl refl refl refl refl refl

-- ---- the fixed columns of the bitwise table
carry-few : (n z : ℕ) → n < 65536 → z < 16 → hwsl_carry n z < p
carry-few n z l k =
    let q : 2 ^ z ≤ 65536 = pow-le-pow_right {n = 2} (omega arith) {i = z} {j = 16} (omega arith) in
    let r : n * 2 ^ z ≤ 65536 * n = omega (arith, mul-le-mul_left n q) in
    omega (arith, div-le_of_le-mul 65536 r)

xyz-below : (x y z : ℕ) → x < 256 → y < 256 → z < 16 → Below (row_of_xyz x y z)
unfolding row_of_xyz
xyz-below x y z hx hy hz = (
  omega arith,
  (
    omega arith,
    (
      omega arith,
      (
        byte-few (and_lt 8 x y hx hy),
        (
          byte-few (or_lt 8 x y hx hy),
          (
            byte-few (xor_lt 8 x y hx hy),
            (
              omega arith,
              (
                omega arith,
                (
                  pick-below (eqb x 0 && (eqb y 0 && eqb z 0)) 1 0 (omega arith) (omega arith),
                  (omega (arith, mod-lt ((x + y * 256) * 2 ^ z) {m = 65536} (omega arith)), (carry-few (x + y * 256) z (omega arith) hz, tt)),
                ),
              ),
            ),
          ),
        ),
      ),
    ),
  ),
)
  where
    byte-few : {n : ℕ} → n < 256 → n < p
    byte-few l = omega arith

row_below : (i : ℕ) → Below (bitwise_row i)
unfolding bitwise_row
row_below i = xyz-below (i % 256) (i / 256 % 256) (i / 65536 % 16) (omega arith) (omega arith) (omega arith)

bitwise-right : (mu : ℕ → ℕ → ℕ) (i j : ℕ) → Right (bitwise_at mu i j)
unfolding bitwise_at
bitwise-right mu i j = record {
  as_many = kind-many (bitwise_row i ++ tab 10 (mu i)) (kind_at j);
  below = subst Below (sym (fixed mu i (tab 10 (mu i)) (kind_at j))) (kind-below (bitwise_row i) (all-word (bitwise_row i) (row_below i)) (kind_at j));
}

-- ---- the constants
rc-below : (r : ℕ) → r < 32 → Below (rc_row r)
unfolding rc_row
rc-below r l = (omega arith, all-tab 8 (byte_at (round_constant r)) (λ b. omega (arith, mod-lt (round_constant r / 2 ^ (8 * b)) {m = 256} (omega arith))))

constant-right : (mu : ℕ → ℕ) (r j : ℕ) → r < 32 → Right (constant_at mu r j)
unfolding constant_at rc_tuple
constant-right mu r j l = record {
  as_many = ap length (rc-values r (mu r)) ∙ rc-length r;
  below = subst Below (sym (rc-values r (mu r))) (rc-below r l);
}

-- ---- entries
bus-few : (b : Bus) → (bus_number b < p) × (bus_width b ≤ 203)
bus-few ByteAlu = (omega arith, omega arith)
bus-few AreBytes = (omega arith, omega arith)
bus-few IsHalfword = (omega arith, omega arith)
bus-few IsWh = (omega arith, omega arith)
bus-few KeccakRc = (omega arith, omega arith)
bus-few Keccak = (omega arith, omega arith)
bus-few Memw = (omega arith, omega arith)
bus-few Ecall = (omega arith, omega arith)
bus-few Msb8 = (omega arith, omega arith)
bus-few Msb16 = (omega arith, omega arith)
bus-few Zero = (omega arith, omega arith)
bus-few IsB20 = (omega arith, omega arith)
bus-few Hwsl = (omega arith, omega arith)

module _ (width : ℕ → ℕ) (K : ℕ) (ours : (b : Bus) → width (bus_number b) ≡ bus_width b) (long : 203 ≤ K) where
  fits : (t : Tuple) → Right t → Fits p width K (entry t).words
  fits t r = record {
    as_many = ap suc (r.as_many ∙ sym (ours t.bus));
    few = let l : length t.values ≤ K = omega (arith, r.as_many, (bus-few t.bus).1, long) in suc-le-suc l;
    below = ((bus-few t.bus).0, r.below);
  }

  row_fits : (m : ℕ) (t : ℕ → Tuple) → ((i : ℕ) → Right (t i)) → AllFit p width K (row_entries m t)
  unfolding row_entries
  row_fits zero t h = tt
  row_fits (suc m) t h = (fits (t m) (h m), row_fits m t h)

  entries_fit : (n m : ℕ) (t : ℕ → ℕ → Tuple) → ((r i : ℕ) → r < n → Right (t r i)) → AllFit p width K (entries n m t)
  unfolding entries
  entries_fit zero m t h = tt
  entries_fit (suc n) m t h =
      all_append (λ e. Fits p width K e.words) (row_entries m (t n)) (entries n m t) (row_fits m (t n) (λ i. h n i (omega arith)))
      (entries_fit n m t (λ r i l. h r i (omega arith)))

  join : (xs ys : List Entry) → AllFit p width K xs → AllFit p width K ys → AllFit p width K (xs ++ ys)
  join xs ys h k = all_append (λ e. Fits p width K e.words) xs ys h k

  five : (a b c d e f : List Entry) → AllFit p width K a → AllFit p width K b → AllFit p width K c → AllFit p width K d → AllFit p width K e →
      AllFit p width K f → AllFit p width K (a ++ (b ++ (c ++ (d ++ (e ++ f)))))
  five a b c d e f ha hb hc hd he hf =
      join a (b ++ (c ++ (d ++ (e ++ f)))) ha (join b (c ++ (d ++ (e ++ f))) hb (join c (d ++ (e ++ f)) hc (join d (e ++ f) hd (join e f he hf))))

  pub all_fit : (nr : ℕ) (core round : List ℕ) (w : Fillings) (more : List Entry) → Elements core → Elements round → Elements w.is-wh →
      AllFit p width K more → AllFit p width K (all_entries nr core round w more)
  unfolding all_entries tuple_at
  all_fit nr core round w more hc hr hw hm =
      five (table_entries (core_kind nr) core) (table_entries round_kind round) (table_entries is_wh_kind w.is-wh)
      (entries NUM-ROWS NUM-LOOKUP-TYPES (bitwise_at w.bitwise)) (entries RC-ROWS RC-TUPLES (constant_at w.constants)) more
      (entries_fit (rows core_layout core) 84 (tuple_at (core_kind nr) core)
      (λ r i l. core-right (row_at 486 core r) (row_words 486 core hc r) nr i))
      (entries_fit (rows round_layout round) 1031 (tuple_at round_kind round)
      (λ r i l. round-right (row_at 1480 round r) (row_words 1480 round hr r) i))
      (entries_fit (rows is_wh_layout w.is-wh) 5 (tuple_at is_wh_kind w.is-wh)
      (λ r i l. is-wh-right (row_at 4 w.is-wh r) (row_words 4 w.is-wh hw r) i))
      (entries_fit NUM-ROWS NUM-LOOKUP-TYPES (bitwise_at w.bitwise) (λ r i l. bitwise-right w.bitwise r i))
      (entries_fit RC-ROWS RC-TUPLES (constant_at w.constants) (λ r i l. constant-right w.constants r i l))
      hm
