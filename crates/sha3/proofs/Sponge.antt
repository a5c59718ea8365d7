-- SHA3-256 in bytes is FIPS 202's on bits: `sha3-bits`. Bytes are known by their bits: `bits-known`. And what the standard says
-- of its Algorithms 8 and 9: `sponge-length`, `blocks-joined`, `blocks-unique`, `pad-multiple`.
use mathlib.Core.Path.{◌≡◌, refl, sym, ap, ap₂, ◌∙◌}
use mathlib.Core.Bool.{Bool, true, false}
use mathlib.Core.List.{List, [], ◌∷◌, ◌++◌, append_assoc}
use Prim.Native.Nat.{ℕ, zero, suc, ◌+◌, ◌-◌, ◌*◌, ◌/◌, ◌%◌, ◌^◌, ◌≤◌, ◌<◌}
use native.Mathlib.Nat.{zero-div, add-zero, mod-lt, mod_self, mod-eq_of_lt, mul-mod_left, mul-le-mul_right, div-add-mod', div-lt_iff_lt-mul}
use native.Mathlib.Omega.{arith}
use borrow.Author.Tests.{le-leb, leb-true}
use lib.Bits.{bit_xor, xor_lt}
use lib.Dec.{T, eqb, leb, eqb→eq}
use lib.ListN.{length, get_or, drop, replicate, length-append, length-drop, length-replicate, get_or-replicate, get_or-append}
use lib.Seq.{get_or-append-add, get_or_at, get_or-take, get_or-drop, length-take-le, take-take, ext_get_or}
use Rattle.lists.specs.Tab.{pick, tab, word, table_of}
use Rattle.lists.specs.Sum.{all_below}
use Rattle.lists.proofs.Laws.{length-tab, get_d-tab, table_at, length-table}
use Rattle.lists.proofs.Kept.{by-eq}
use Rattle.lists.proofs.Sum.{all-at}
use Rattle.lists.proofs.Then.{by_le}
use Rattle.bits.specs.Bits.{bit, lane_byte}
use Rattle.bits.proofs.BitLaws.{bit-xor, bit-ext}
use Rattle.bits.proofs.Bytes.{lane-bit, lane-lt64, byte-bit}
use Rattle.fips202.specs.Fips.{State, Agree, xor_bit, keccak_p}
use Rattle.fips202.specs.Lanes.{Lanes, bits, keccak_pl}
use Rattle.fips202.proofs.Steps.{lane-of}
use Rattle.fips202.proofs.Rounds.{rounds-cong, rounds-lanes, keccak_p-agree}
use Rattle.sha3.specs.Sha3.{RATE, blocks, padded_byte, block_lane, added, absorbed, sha3-256}
use Rattle.sha3.specs.Sponge.{Trunc, zeros, xor_string, state_of, lane_string, plane_string, string_of, keccak_ps, pad_zeros, pad10*1, padded, block, absorbing, squeezing, sponge, keccak_c, sha3-256-bits, byte_bits, bits_of, OnlyBytes}
use Rattle.sha3.proofs.Padding.{in-message, only-byte, first_byte, last_byte, between, block-below, block-past}

-- ---- bytes as bits
pub length-bits : (bytes : List ℕ) → length (bits_of bytes) ≡ length bytes * 8
unfolding bits_of
length-bits bytes = length-table (length bytes) 8 (λ i. byte_bits (word bytes i))

pub bits_at : (bytes : List ℕ) (k b : ℕ) → k < length bytes → b < 8 → word (bits_of bytes) (k * 8 + b) ≡ bit (word bytes k) b
unfolding bits_of byte_bits
bits_at bytes k b l h = table_at (length bytes) 8 (λ i. byte_bits (word bytes i)) k b l h ∙ get_d-tab 8 (bit (word bytes k)) b 0 h

-- two lists of bytes with the same bits are the same
pub bits-known : (a b : List ℕ) → OnlyBytes a → OnlyBytes b → bits_of a ≡ bits_of b → a ≡ b
bits-known a b ha hb e =
    let n : length a ≡ length b = omega (arith, length-bits a, length-bits b, ap length e) in
    ext_get_or 0 a b n
    (λ k l. bit-ext 8 (word a k) (word b k) (ha k) (hb k)
    (λ z h. sym (bits_at a k z l h) ∙ ap (λ (x : List ℕ). word x (k * 8 + z)) e ∙ bits_at b k z (omega arith) h))

-- ---- what the standard says of Algorithms 8 and 9
-- "Output: string P such that m + len(P) is a positive multiple of x."
length-pad : (x m : ℕ) → length (pad10*1 x m) ≡ 2 + pad_zeros x m
unfolding pad10*1
length-pad x m = omega (arith, length-append (zeros (pad_zeros x m)) (1 ∷ []), length-replicate {A = ℕ} (pad_zeros x m) 0)

pub pad-multiple : (x m : ℕ) → 0 < x → ((m + length (pad10*1 x m)) % x ≡ 0) × (0 < m + length (pad10*1 x m))
pad-multiple x m h =
    let l : (m + 2) % x < x = mod-lt (m + 2) h in
    let d : (m + 2) / x * x + (m + 2) % x ≡ m + 2 = div-add-mod' (m + 2) x in
    let n : m + length (pad10*1 x m) ≡ m + 2 + pad_zeros x m = omega (arith, length-pad x m) in (
      ap (λ (k : ℕ). k % x) n
          ∙ by-eq ((m + 2) % x) 0
          (λ e.
          let z : x - (m + 2) % x ≡ x = omega arith in
          ap (λ (k : ℕ). (m + 2 + k % x) % x) z ∙ ap (λ (k : ℕ). (m + 2 + k) % x) (mod_self x) ∙ ap (λ (k : ℕ). k % x) (add-zero (m + 2)) ∙ e)
          (λ e.
          let z : (x - (m + 2) % x) % x ≡ x - (m + 2) % x = mod-eq_of_lt (omega arith) in
          let q : m + 2 + (x - (m + 2) % x) ≡ ((m + 2) / x + 1) * x = omega arith in
          ap (λ (k : ℕ). (m + 2 + k) % x) z ∙ ap (λ (k : ℕ). k % x) q ∙ mul-mod_left ((m + 2) / x + 1) x),
      omega (arith, length-pad x m),
    )

-- "the unique sequence of strings of length r such that P = P_0 ∥ .. ∥ P_(n - 1)"
module _ (r n : ℕ) (P : List ℕ) (long : length P ≡ n * r) where
  pub block-length : (i : ℕ) → i < n → length (block r P i) ≡ r
  block-length i l =
      let b : suc i * r ≤ n * r = mul-le-mul_right r l in
      length-take-le r (drop (i * r) P) (omega (arith, length-drop (i * r) P))

  pub block_at : (i k : ℕ) → k < r → word (block r P i) k ≡ word P (i * r + k)
  block_at i k l = get_or-take r (drop (i * r) P) k 0 l ∙ get_or-drop (i * r) P k 0

  pub blocks-joined : 0 < r → table_of n r (block r P) ≡ P
  blocks-joined h =
      ext_get_or 0 (table_of n r (block r P)) P (length-table n r (block r P) ∙ sym long) (λ k l.
      let e : k / r * r + k % r ≡ k = div-add-mod' k r in
      let q : k / r < n = (div-lt_iff_lt-mul h).1 (omega (arith, length-table n r (block r P))) in
      let m : k % r < r = mod-lt k h in
      ap (word (table_of n r (block r P))) (sym e) ∙ table_at n r (block r P) (k / r) (k % r) q m ∙ block_at (k / r) (k % r) m ∙ ap (word P) e)

  pub blocks-unique : (Q : ℕ → List ℕ) → ((i : ℕ) → i < n → length (Q i) ≡ r) → table_of n r Q ≡ P → (i : ℕ) → i < n → Q i ≡ block r P i
  blocks-unique Q size e i l =
      ext_get_or 0 (Q i) (block r P i) (size i l ∙ sym (block-length i l)) (λ k h.
      let m : k < r = omega (arith, size i l) in
      sym (table_at n r Q i k l m) ∙ ap (λ (t : List ℕ). word t (i * r + k)) e ∙ sym (block_at i k m))

absorbing-length : (b : ℕ) (f : List ℕ → List ℕ) (r : ℕ) (P : List ℕ) → ((X : List ℕ) → length X ≡ b → length (f X) ≡ b) → (n : ℕ) → length (absorbing b f r P n) ≡ b
unfolding absorbing xor_string
absorbing-length b f r P keeps zero = length-replicate {A = ℕ} b 0
absorbing-length b f r P keeps (suc n) =
    keeps (xor_string (absorbing b f r P n) (block r P n ++ zeros (b - r)))
    (length-tab (length (absorbing b f r P n)) (λ k. xor_bit (get_or (absorbing b f r P n) k 0) (get_or (block r P n ++ zeros (b - r)) k 0)) ∙ absorbing-length b f r P keeps n)

-- "Output: string Z such that len(Z) = d.", where f keeps the length and r is positive
squeezed-length : (f : List ℕ → List ℕ) (b r d left : ℕ) (Z S : List ℕ) → ((X : List ℕ) → length X ≡ b → length (f X) ≡ b) → 0 < r → r ≤ b → length S ≡ b → d ≤ length Z + left →
    length (squeezing f r d left Z S) ≡ d
unfolding squeezing
squeezed-length f b r d zero Z S keeps some most size l = length-take-le d Z (omega arith)
squeezed-length f b r d (suc left) Z S keeps some most size l =
    go (leb d (length (Z ++ Trunc r S))) refl (squeezed-length f b r d left (Z ++ Trunc r S) (f S) keeps some most (keeps S size))
  where
    more : length (Z ++ Trunc r S) ≡ length Z + r
    more = length-append Z (Trunc r S) ∙ ap (λ (k : ℕ). length Z + k) (length-take-le r S (omega arith))

    go : (t : Bool) → leb d (length (Z ++ Trunc r S)) ≡ t → (d ≤ length (Z ++ Trunc r S) + left → length (squeezing f r d left (Z ++ Trunc r S) (f S)) ≡ d) → length (pick t (Trunc d (Z ++ Trunc r S)) (squeezing f r d left (Z ++ Trunc r S) (f S))) ≡ d
    go true e again = length-take-le d (Z ++ Trunc r S) (leb-true d (length (Z ++ Trunc r S)) e)
    go false e again = again (omega (arith, more))

pub sponge-length : (b : ℕ) (f : List ℕ → List ℕ) (pad : ℕ → ℕ → List ℕ) (r : ℕ) (N : List ℕ) (d : ℕ) → ((X : List ℕ) → length X ≡ b → length (f X) ≡ b) → 0 < r → r ≤ b →
    length (sponge b f pad r N d) ≡ d
unfolding sponge
sponge-length b f pad r N d keeps some most =
    let P = padded pad r N in
    squeezed-length f b r d d [] (absorbing b f r P (length P / r)) keeps some most (absorbing-length b f r P keeps (length P / r)) (omega arith)

-- ---- the padded message
-- the bits behind the message: the suffix 01 and the padding
abbrev behind : ℕ → List ℕ
behind j = 0 ∷ 1 ∷ 1 ∷ (zeros j ++ (1 ∷ []))

behind-zero : (j t : ℕ) → t < j → word (behind j) (3 + t) ≡ 0
behind-zero j t l =
    ap (word (behind j)) (next t) ∙ get_or-append (zeros j) (1 ∷ []) 0 t (omega (arith, length-replicate {A = ℕ} j 0)) ∙ get_or-replicate j t 0 0 l
  where
    next : (t : ℕ) → 3 + t ≡ suc (suc (suc t))
    next t = omega arith

behind-last : (j : ℕ) → word (behind j) (3 + j) ≡ 1
behind-last j = ap (word (behind j)) (next j) ∙ get_or_at (zeros j) 1 [] 0 j (length-replicate j 0)
  where
    next : (t : ℕ) → 3 + t ≡ suc (suc (suc t))
    next t = omega arith

-- its first eight bits, where they are all and where they are not
only-test : T (all_below 8 (λ b. eqb (word (behind 4) b) (bit 0x86 b)))
unfolding all_below
only-test = tt

abbrev more : ℕ → ℕ
more j = suc (suc (suc (suc (suc j))))

first-test : (j : ℕ) → T (all_below 8 (λ b. eqb (word (behind (more j)) b) (bit 0x06 b)))
unfolding all_below
first-test j = tt

last-test : T (all_below 7 (λ b. eqb 0 (bit 0x80 b)))
unfolding all_below
last-test = tt

bit-zero : (z : ℕ) → bit 0 z ≡ 0
bit-zero z = ap (λ (n : ℕ). n % 2) (zero-div (2 ^ z))

module _ (m : List ℕ) where
  -- as many zeros as the padding has, and how long the padded message is
  abbrev N : List ℕ
  N = bits_of m ++ (0 ∷ 1 ∷ [])

  abbrev P : List ℕ
  P = padded pad10*1 1088 N

  abbrev j : ℕ
  j = pad_zeros 1088 (length N)

  length-N : length N ≡ 8 * length m + 2
  length-N = omega (arith, length-append (bits_of m) (0 ∷ 1 ∷ []), length-bits m)

  zeros-are : 8 * length m + 4 + j ≡ 1088 * blocks m
  zeros-are = omega (arith, length-N)

  P-is : P ≡ bits_of m ++ behind j
  unfolding padded pad10*1
  P-is = append_assoc (bits_of m) (0 ∷ 1 ∷ []) (1 ∷ zeros j ++ (1 ∷ []))

  length-behind : length (behind j) ≡ 4 + j
  length-behind = omega (arith, length-append (zeros j) (1 ∷ []), length-replicate {A = ℕ} j 0)

  length-P : length P ≡ 1088 * blocks m
  length-P = ap length P-is ∙ length-append (bits_of m) (behind j) ∙ omega (arith, length-bits m, length-behind, zeros-are)

  -- a bit of the message, and one behind it
  P-front : (k b : ℕ) → k < length m → b < 8 → word P (k * 8 + b) ≡ bit (word m k) b
  P-front k b l h =
      ap (λ (x : List ℕ). word x (k * 8 + b)) P-is ∙ get_or-append (bits_of m) (behind j) 0 (k * 8 + b) (omega (arith, length-bits m)) ∙ bits_at m k b l h

  P-behind : (q : ℕ) → word P (8 * length m + q) ≡ word (behind j) q
  P-behind q =
      let e : 8 * length m + q ≡ length (bits_of m) + q = omega (arith, length-bits m) in
      ap₂ (λ (x : List ℕ) (i : ℕ). word x i) P-is e ∙ get_or-append-add (bits_of m) (behind j) q 0

  -- bit b of byte k of the padded message
  P-at : (k b : ℕ) → k < 136 * blocks m → b < 8 → word P (k * 8 + b) ≡ bit (padded_byte m k) b
  P-at k b l h =
      by_le (length m) k
      (λ g. by-eq k (length m) (at-end g) (past_end_lem g))
      (λ g. P-front k b g h ∙ ap (λ (v : ℕ). bit v b) (in-message m k g))
    where
      at-end : length m ≤ k → k ≡ length m → word P (k * 8 + b) ≡ bit (padded_byte m k) b
      at-end g e =
          let i : k * 8 + b ≡ 8 * length m + b = omega arith in
          ap (word P) i ∙ P-behind b
          ∙ by-eq k (length m / 136 * 136 + 135)
          (λ f.
          let q : j ≡ 4 = omega (arith, zeros-are) in
          ap (λ (x : ℕ). word (behind x) b) q ∙ eqb→eq _ _ (all-at 8 (λ b. eqb (word (behind 4) b) (bit 0x86 b)) only-test b h) ∙ ap (λ (v : ℕ). bit v b) (only-byte m k e f))
          (λ f.
          let q : j ≡ more (j - 5) = omega (arith, zeros-are) in
          ap (λ (x : ℕ). word (behind x) b) q
          ∙ eqb→eq _ _ (all-at 8 (λ b. eqb (word (behind (more (j - 5))) b) (bit 0x06 b)) (first-test (j - 5)) b h)
          ∙ ap (λ (v : ℕ). bit v b) (first_byte m k e f))

      past_end_lem : length m ≤ k → (k ≡ length m → ⊥) → word P (k * 8 + b) ≡ bit (padded_byte m k) b
      past_end_lem g e =
          let t = (k - length m) * 8 + b - 3 in
          let i : k * 8 + b ≡ 8 * length m + (3 + t) = omega arith in
          ap (word P) i ∙ P-behind (3 + t)
          ∙ by-eq k (length m / 136 * 136 + 135)
          (λ f. by_le 7 b
          (λ s.
          let q : t ≡ j = omega (arith, zeros-are) in
          let z : b ≡ 7 = omega arith in
          ap (λ (x : ℕ). word (behind j) (3 + x)) q ∙ behind-last j ∙ ap₂ (λ (v z : ℕ). bit v z) (last_byte m k g e f) (sym z))
          (λ s.
          behind-zero j t (omega (arith, zeros-are)) ∙ eqb→eq _ _ (all-at 7 (λ b. eqb 0 (bit 0x80 b)) last-test b s) ∙ ap (λ (v : ℕ). bit v b) (last_byte m k g e f)))
          (λ f. behind-zero j t (omega (arith, zeros-are)) ∙ sym (bit-zero b) ∙ ap (λ (v : ℕ). bit v b) (between m k g e f))

-- every byte of it is one
pub padded-lt : (m : List ℕ) → OnlyBytes m → (k : ℕ) → padded_byte m k < 256
padded-lt m h k =
    by_le (length m) k
    (λ g. by-eq k (length m)
    (λ e. by-eq k (length m / 136 * 136 + 135) (λ f. omega (arith, only-byte m k e f)) (λ f. omega (arith, first_byte m k e f)))
    (λ e. by-eq k (length m / 136 * 136 + 135) (λ f. omega (arith, last_byte m k g e f)) (λ f. omega (arith, between m k g e f))))
    (λ g. omega (arith, in-message m k g, h k))

-- ---- a string of 1600 bits, and the 25 lanes of the same state
pub record Same (S s : List ℕ) : Type 0 where
  pub size : length S ≡ 1600
  pub lanes : Lanes s
  pub at : (i z : ℕ) → i < 25 → z < 64 → word S (64 * i + z) ≡ bit (word s i) z

same-zero : Same (zeros 1600) (replicate 25 0)
same-zero =
    record {
      size = length-replicate {A = ℕ} 1600 0;
      lanes = λ i l. rw (get_or-replicate {A = ℕ} 25 i 0 0 l) (omega arith);
      at = λ i z l h. get_or-replicate {A = ℕ} 1600 (64 * i + z) 0 0 (omega arith) ∙ sym (bit-zero z) ∙ ap (λ (n : ℕ). bit n z) (sym (get_or-replicate {A = ℕ} 25 i 0 0 l));
    }

-- Keccak-p
string-at : (A : State) (x y z : ℕ) → x < 5 → y < 5 → z < 64 → word (string_of A) (64 * (x + 5 * y) + z) ≡ A x y z
unfolding string_of plane_string
string-at A x y z hx hy hz =
    let e : 64 * (x + 5 * y) + z ≡ y * 320 + (x * 64 + z) = omega arith in
    ap (word (string_of A)) e ∙ table_at 5 320 (plane_string A) y (x * 64 + z) hy (omega arith)
    ∙ table_at 5 64 (λ i. lane_string A i y) x z hx hz ∙ get_d-tab 64 (A x y) z 0 hz

string-length : (A : State) → length (string_of A) ≡ 1600
unfolding string_of
string-length A = length-table 5 320 (plane_string A)

state-agrees : {S s : List ℕ} → Same S s → Agree (state_of S) (bits s)
unfolding state_of bits
state-agrees {S} {s} h x y z hx hy hz =
    let e : 64 * (5 * y + x) + z ≡ 64 * (x + 5 * y) + z = omega arith in
    ap (word S) e ∙ h.at (x + 5 * y) z (omega arith) hz

same-keccak : {S s : List ℕ} → Same S s → Same (keccak_ps 24 S) (keccak_pl 24 s)
unfolding keccak_ps bits
same-keccak {S} {s} h =
    record {
      size = size;
      lanes = rounds-lanes 0 24 (omega arith) s h.lanes;
      at = λ i z l hz.
          let e : 64 * i + z ≡ 64 * (i % 5 + 5 * (i / 5)) + z = omega arith in
          ap (word (keccak_ps 24 S)) e ∙ string-at (keccak_p 24 (state_of S)) (i % 5) (i / 5) z (omega arith) (omega arith) hz
          ∙ rounds-cong 0 24 (state_of S) (bits s) (state-agrees h) (i % 5) (i / 5) z (omega arith) (omega arith) hz
          ∙ sym (keccak_p-agree 24 (omega arith) s h.lanes (i % 5) (i / 5) z (omega arith) (omega arith) hz)
          ∙ ap (λ (n : ℕ). bit n z) (sym (lane-of (keccak_pl 24 s) i));
    }
  where
    size : length (string_of (keccak_p 24 (state_of S))) ≡ 1600
    size = string-length (keccak_p 24 (state_of S))

-- a string added
same-xor : {S s : List ℕ} (X : List ℕ) (f : ℕ → ℕ) → Same S s → length X ≡ 1600 → ((i : ℕ) → i < 25 → f i < 2 ^ 64) → ((i z : ℕ) → i < 25 → z < 64 → word X (64 * i + z) ≡ bit (f i) z) →
    Same (xor_string S X) (tab 25 (λ i. bit_xor (get_or s i 0) (f i)))
unfolding xor_string
same-xor {S} {s} X f h n small e =
    record {
      size = length-tab (length S) (λ k. xor_bit (get_or S k 0) (get_or X k 0)) ∙ h.size;
      lanes = λ i l. rw (get_d-tab 25 (λ i. bit_xor (get_or s i 0) (f i)) i 0 l) (xor_lt 64 (get_or s i 0) (f i) (h.lanes i l) (small i l));
      at = λ i z l hz. get_d-tab (length S) (λ k. xor_bit (get_or S k 0) (get_or X k 0)) (64 * i + z) 0 (omega (arith, h.size))
          ∙ ap₂ xor_bit (h.at i z l hz) (e i z l hz) ∙ sym (bit-xor (get_or s i 0) (f i) z)
          ∙ ap (λ (n : ℕ). bit n z) (sym (get_d-tab 25 (λ i. bit_xor (get_or s i 0) (f i)) i 0 l));
    }

-- where d is at most r, the string is squeezed once
squeeze-once : (f : List ℕ → List ℕ) (r d left : ℕ) (S : List ℕ) → d ≤ r → r ≤ length S → squeezing f r d (suc left) [] S ≡ Trunc d S
unfolding squeezing
squeeze-once f r d left S l h =
    ap (λ (b : Bool). pick b (Trunc d (Trunc r S)) (squeezing f r d left (Trunc r S) (f S))) (le-leb d (length (Trunc r S)) (omega (arith, length-take-le r S h)))
    ∙ take-take d r S l

-- ---- the sponge absorbs the same blocks
module _ (m : List ℕ) (small : OnlyBytes m) where
  abbrev X : ℕ → List ℕ
  X i = block 1088 (P m) i ++ zeros 512

  module _ (i : ℕ) (l : i < blocks m) where
    length-block : length (block 1088 (P m) i) ≡ 1088
    length-block = length-take-le 1088 (drop (i * 1088) (P m)) (omega (arith, length-drop (i * 1088) (P m), length-P m))

    length_x : length (X i) ≡ 1600
    length_x = omega (arith, length-append (block 1088 (P m) i) (zeros 512), length-block, length-replicate {A = ℕ} 512 0)

    lane-small : (j : ℕ) → block_lane m i j < 2 ^ 64
    lane-small j =
        by_le 17 j (λ g. omega (arith, block-past m i j g))
        (λ g. rw (← block-below m i j g) (lane-lt64 (λ b. padded_byte m (RATE * i + 8 * j + b)) (λ b h. padded-lt m small (RATE * i + 8 * j + b))))

    X-at : (j z : ℕ) → j < 25 → z < 64 → word (X i) (64 * j + z) ≡ bit (block_lane m i j) z
    X-at j z h hz =
        by_le 17 j
        (λ g.
        let e : 64 * j + z ≡ length (block 1088 (P m) i) + (64 * j + z - 1088) = omega (arith, length-block) in
        ap (word (X i)) e ∙ get_or-append-add (block 1088 (P m) i) (zeros 512) (64 * j + z - 1088) 0 ∙ get_or-replicate 512 (64 * j + z - 1088) 0 0 (omega arith)
        ∙ sym (bit-zero z) ∙ ap (λ (n : ℕ). bit n z) (block-past m i j g))
        (λ g.
        let e : i * 1088 + (64 * j + z) ≡ (RATE * i + 8 * j + z / 8) * 8 + z % 8 = omega arith in
        get_or-append (block 1088 (P m) i) (zeros 512) 0 (64 * j + z) (omega (arith, length-block))
        ∙ get_or-take 1088 (drop (i * 1088) (P m)) (64 * j + z) 0 (omega arith) ∙ get_or-drop (i * 1088) (P m) (64 * j + z) 0
        ∙ ap (word (P m)) e ∙ P-at m (RATE * i + 8 * j + z / 8) (z % 8) (omega arith) (omega arith)
        ∙ sym (lane-bit (λ b. padded_byte m (RATE * i + 8 * j + b)) (λ b h. padded-lt m small (RATE * i + 8 * j + b)) z hz)
        ∙ ap (λ (n : ℕ). bit n z) (block-below m i j g))

  absorbed-same : (n : ℕ) → n ≤ blocks m → Same (absorbing 1600 (keccak_ps 24) 1088 (P m) n) (absorbed m n)
  unfolding absorbing absorbed added
  absorbed-same zero l = same-zero
  absorbed-same (suc n) l =
      same-keccak (same-xor (X n) (block_lane m n) (absorbed-same n (omega arith)) (length_x n (omega arith)) (λ i h. lane-small n (omega arith) i) (X-at n (omega arith)))

  -- all lanes on the way are below 2^64
  pub absorbed-lanes : (n : ℕ) → n ≤ blocks m → Lanes (absorbed m n)
  absorbed-lanes n l = (absorbed-same n l).lanes

  pub added-lanes : (n : ℕ) → n < blocks m → Lanes (added m n (absorbed m n))
  unfolding added
  added-lanes n l = (same-xor (X n) (block_lane m n) (absorbed-same n (omega arith)) (length_x n l) (λ i h. lane-small n l i) (X-at n l)).lanes

  abbrev S : List ℕ
  S = absorbing 1600 (keccak_ps 24) 1088 (P m) (blocks m)

  S-same : Same S (absorbed m (blocks m))
  S-same = absorbed-same (blocks m) (omega arith)

  -- the first 32 bytes of the lanes are the first 256 bits of the string
  digest-at : (k b : ℕ) → k < 32 → b < 8 → word (bits_of (sha3-256 m)) (k * 8 + b) ≡ word S (k * 8 + b)
  unfolding sha3-256 lane_byte
  digest-at k b l h =
      let s = absorbed m (blocks m) in
      let e : 64 * (k / 8) + (8 * (k % 8) + b) ≡ k * 8 + b = omega arith in
      bits_at (sha3-256 m) k b (omega (arith, length-tab 32 (lane_byte s))) h
      ∙ ap (λ (n : ℕ). bit n b) (get_d-tab 32 (lane_byte s) k 0 l)
      ∙ byte-bit (get_or s (k / 8) 0) (k % 8) b h
      ∙ sym (S-same.at (k / 8) (8 * (k % 8) + b) (omega arith) (omega arith)) ∙ ap (word S) e

  digest-is : bits_of (sha3-256 m) ≡ Trunc 256 S
  unfolding sha3-256
  digest-is =
      let n : length (bits_of (sha3-256 m)) ≡ 256 = omega (arith, length-bits (sha3-256 m), length-tab 32 (lane_byte (absorbed m (blocks m)))) in
      ext_get_or 0 (bits_of (sha3-256 m)) (Trunc 256 S) (n ∙ sym (length-take-le 256 S (omega (arith, S-same.size)))) (λ i l.
      let e : i / 8 * 8 + i % 8 ≡ i = omega arith in
      ap (word (bits_of (sha3-256 m))) (sym e) ∙ digest-at (i / 8) (i % 8) (omega arith) (omega arith) ∙ ap (word S) e ∙ sym (get_or-take 256 S i 0 (omega arith)))

  -- SHA3-256 IN BYTES IS SHA3-256 ON BITS
  pub sha3-bits : bits_of (sha3-256 m) ≡ sha3-256-bits (bits_of m)
  unfolding sha3-256-bits keccak_c sponge
  sha3-bits =
      let n : length (P m) / 1088 ≡ blocks m = omega (arith, length-P m) in
      digest-is ∙ sym (squeeze-once (keccak_ps 24) 1088 256 255 S (omega arith) (omega (arith, S-same.size)))
      ∙ ap (λ (k : ℕ). squeezing (keccak_ps 24) 1088 256 256 [] (absorbing 1600 (keccak_ps 24) 1088 (P m) k)) (sym n)
