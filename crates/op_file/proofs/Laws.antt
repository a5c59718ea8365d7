-- Reading in pieces is reading at once, and what a reader says at the end is what the file's records say.
--     reads-file   `finish` after the whole file is `tally_of`, for every floor
--     reads-pieces the same of a file that is cut anywhere
--     feed-go      one turn of the loop over a piece
--     fewer-left   every byte that is not refused brings a reader nearer to the end of what it may be given
use Prim.Native.Nat.{ℕ, zero, suc, ◌+◌, ◌*◌, ◌-◌, ◌%◌, ◌<◌, ◌≤◌, min, max}
use mathlib.Core.Path.{◌≡◌, refl, sym, ap, ◌∙◌, subst}
use mathlib.Core.Bool.{Bool, true, false, not}
use mathlib.Core.List.{List, [], ◌∷◌, ◌++◌}
use mathlib.Core.Option.{Option, none, some, or_else}
use native.Mathlib.Nat.{add-zero}
use native.Mathlib.Omega.{arith}
use lib.Dec.{ltb, leb, eqb}
use lib.ListN.{length, take, drop, get_or, length-take, length-drop, drop_of_length-le}
use lib.Seq.{take_all, take-take, drop-drop, get_or-take}
use borrow.Author.Tests.{le-ltb, le-leb, lt-leb, lt-ltb, ne_eqb, leb-true, leb-false}
use Rattle.lists.specs.Tab.{pick}
use Rattle.lists.specs.Select.{selected}
use Rattle.lists.proofs.Tests.{true-not-false}
use Rattle.lists.proofs.Then.{by_le}
use Rattle.answer.specs.Limits.{MAX-OPS}
use Rattle.answer.specs.Refusal.{refuse_if, accepted, is_floor, not_floor}
use Rattle.answer.specs.declared.Refusal.{Refusal}
use Rattle.answer.specs.declared.Refusal.TheVariants.{PastEnd, BadRecord, Floor}
use Rattle.keccak.specs.Row.{LAST-ADDRESS, LAST-SEGMENT, op_at}
use Rattle.op_file.specs.File.{SEGMENT-RECORD-BYTES, MAX-FILE-BYTES, FIRST-MARK, SEGMENT-MARK, is_mark, is_marked, record_size, size_of, split, records_of, is_whole, segment_of, address_of, fault_of, first_fault, is_aligned, is_unaligned, records_words, any_marked, least_of, greatest_of, told, segments_of, unless, tally_of}
use Rattle.op_file.specs.Reader.{wrong, has_segment, taken, none_begun, counted, no_segments, no_records, record_read, record_count, reading, step_of, feed_of, file_start, counts_of, end_of, checked, finish_of, after, Advanced}
use Rattle.op_file.specs.declared.Segments.{Segments}
use Rattle.op_file.specs.declared.Whole.{Whole}
use Rattle.op_file.specs.declared.Begun.{Begun}
use Rattle.op_file.specs.declared.Reading.{Reading}
use Rattle.op_file.specs.declared.Sums.{Sums}
use Rattle.op_file.proofs.Totals.{counts-are-sums}
use Rattle.op_file.proofs.Steps.{begun, size-least, size-most, feed-append, feed-refused, feed-split, first-wrong, first-right, second-wrong, marked-right, cut_on, fault-bad, Next, Then, whole}
use Rattle.std.specs.Prelude.{Result, Ok, Err, is_err}

-- ---- how many records are read
pub count-is : (w : Whole) → w.start ≤ MAX-FILE-BYTES → record_count w ≡ w.n + w.unaligned
unfolding record_count
count-is w l = simp (le-ltb MAX-FILE-BYTES w.start l)

pub count-far : (w : Whole) → MAX-FILE-BYTES < w.start → record_count w ≡ MAX-OPS + 1
unfolding record_count
count-far w l = simp (lt-ltb MAX-FILE-BYTES w.start l)

-- where they are none too many, their number is that of both kinds, and the next starts within a file
pub count_room : (w : Whole) → record_count w ≤ MAX-OPS → (w.n + w.unaligned ≡ record_count w) × (w.start ≤ MAX-FILE-BYTES)
count_room w l =
    by_le w.start MAX-FILE-BYTES
    (λ (m : w.start ≤ MAX-FILE-BYTES). (sym (count-is w m), m))
    (λ (m : MAX-FILE-BYTES < w.start). absurd (omega (arith, count-far w m)))

-- those of an honest reader, which has not too many, and knows where the next starts
pub record Right (w : Whole) : Type 0 where
  pub few : w.n + w.unaligned ≤ MAX-OPS
  pub starts : w.start ≤ SEGMENT-RECORD-BYTES * (w.n + w.unaligned)
  pub narrow : w.segments.least ≤ LAST-SEGMENT

pub right-count : (w : Whole) → Right w → record_count w ≡ w.n + w.unaligned
right-count w h = count-is w (omega (arith, h.few, h.starts))

-- one more record, at a multiple of 8 or not
pub read-aligned : (w : Whole) (a : ℕ) (m : Bool) (s : ℕ) → eqb (a % 8) 0 ≡ true →
    record_read w a m s ≡ record { n = w.n + 1; unaligned = w.unaligned; start = w.start + record_size m; segments = counted w.segments m s }
unfolding record_read
read-aligned w a m s e = rw e refl

pub read-unaligned : (w : Whole) (a : ℕ) (m : Bool) (s : ℕ) → eqb (a % 8) 0 ≡ false →
    record_read w a m s ≡ record { n = w.n; unaligned = w.unaligned + 1; start = w.start + record_size m; segments = w.segments }
unfolding record_read
read-unaligned w a m s e = rw e refl

right-read : (w : Whole) (a : ℕ) (m : Bool) (s : ℕ) → w.n + w.unaligned < MAX-OPS → Right w → Right (record_read w a m s)
unfolding counted
right-read w a m s l h = by (eqb (a % 8) 0) refl
  where
    by : (b : Bool) → eqb (a % 8) 0 ≡ b → Right (record_read w a m s)
    by true e = rw (read-aligned w a m s e) (record { few = omega arith; starts = omega (arith, h.starts, size-most m); narrow = omega (arith, h.narrow) })
    by false e = rw (read-unaligned w a m s e) (record { few = omega arith; starts = omega (arith, h.starts, size-most m); narrow = h.narrow })

-- ---- their segment numbers, with those of the records that follow
unfoldable joined : Segments → List (List ℕ) → Segments
joined s rs = record { shown = pick (any_marked rs) 1 s.shown; least = min s.least (least_of rs); greatest = max s.greatest (greatest_of rs) }

joined-none : (s : Segments) → s.least ≤ LAST-SEGMENT → s ≡ joined s []
unfolding joined any_marked least_of greatest_of
joined-none s l = (λ i. record { shown = s.shown; least = low i; greatest = high i })
  where
    low : s.least ≡ min s.least LAST-SEGMENT
    low = omega arith

    high : s.greatest ≡ max s.greatest 0
    high = omega arith

joined-more : (s : Segments) (r : List ℕ) (rs : List (List ℕ)) → joined (counted s (is_marked r) (segment_of r)) rs ≡ joined s (r ∷ rs)
unfolding joined any_marked least_of greatest_of counted
joined-more s r rs = (λ i. record { shown = shows (is_marked r) (any_marked rs) i; least = low i; greatest = high i })
  where
    shows : (a b : Bool) → pick b 1 (pick a 1 s.shown) ≡ pick (pick a true b) 1 s.shown
    shows true true = refl
    shows true false = refl
    shows false b = refl

    low : min (min s.least (segment_of r)) (least_of rs) ≡ min s.least (min (segment_of r) (least_of rs))
    low = omega arith

    high : max (max s.greatest (segment_of r)) (greatest_of rs) ≡ max s.greatest (max (segment_of r) (greatest_of rs))
    high = omega arith

least-narrow : (rs : List (List ℕ)) → least_of rs ≤ LAST-SEGMENT
unfolding least_of
least-narrow [] = omega arith
least-narrow (r ∷ rs) = omega (arith, least-narrow rs)

joined-first : (rs : List (List ℕ)) → joined no_segments rs ≡ record { shown = pick (any_marked rs) 1 0; least = least_of rs; greatest = greatest_of rs }
unfolding joined
joined-first rs = (λ i. record { shown = pick (any_marked rs) 1 0; least = low i; greatest = high i })
  where
    low : min LAST-SEGMENT (least_of rs) ≡ least_of rs
    low = omega (arith, least-narrow rs)

    high : max 0 (greatest_of rs) ≡ greatest_of rs
    high = omega arith

-- an honest reader begins with none
none_right : Right no_records
none_right = record { few = omega arith; starts = omega arith; narrow = omega arith }

none_read : record_count no_records ≡ 0
none_read = right-count no_records none_right

-- ---- a whole record, or the file's end
aligned-is : (r : List ℕ) (t : Bool) → is_aligned r ≡ t → eqb (address_of r % 8) 0 ≡ t
unfolding is_aligned
aligned-is r t e = e

-- the first record of some bytes is as long as they say
first-size : (s : List ℕ) → size_of s ≤ length s → length (take (size_of s) s) ≡ size_of (take (size_of s) s)
unfolding is_marked
first-size s l =
    let e : get_or (take (size_of s) s) 1 0 ≡ get_or s 1 0 = get_or-take (size_of s) s 1 0 (omega (arith, size-least (is_marked s))) in
    length-take (size_of s) s ∙ omega arith ∙ ap (λ (b : ℕ). record_size (eqb b SEGMENT-MARK)) (sym e)

-- any byte past the MAX-OPS records: the file is refused
over : (w : Whole) (p : Begun) (s : List ℕ) → MAX-OPS ≤ record_count w → 0 < length s → feed_of (Ok (reading w p)) s ≡ Err (PastEnd 89478486)
unfolding feed_of step_of
over w p [] m l = absurd (omega arith)
over w p (x ∷ s) m l = simp (le-leb MAX-OPS (record_count w) m) (feed-refused (PastEnd 89478486) s)

pub over-fault : (n at : ℕ) (r : List ℕ) → MAX-OPS ≤ n → fault_of n at r ≡ some (PastEnd 89478486)
unfolding fault_of refuse_if
over-fault n at r m = simp (le-leb MAX-OPS n m)

short-fault : (n at : ℕ) (r : List ℕ) → n < MAX-OPS → length r < size_of r → fault_of n at r ≡ some (BadRecord at)
unfolding is_whole
short-fault n at r m l = fault-bad n at r m (simp (ne_eqb (length r) (size_of r) (λ e. omega arith)))

-- after a whole record, from its start
next : (w : Whole) (r : List ℕ) → length r ≡ size_of r → feed_of (Ok (reading w none_begun)) r ≡ Then w r
next w r e =
    by_le MAX-OPS (record_count w)
    (λ (m : MAX-OPS ≤ record_count w).
    over w none_begun r m (omega (arith, size-least (is_marked r))) ∙ ap (λ (f : Option Refusal). after f (Next w r)) (sym (over-fault (record_count w) w.start r m)))
    (λ (m : record_count w < MAX-OPS). whole w m 0 0 0 (omega arith) (omega arith) r e)

-- where a record has no fault, there was room for it
room : (n at : ℕ) (r : List ℕ) → fault_of n at r ≡ none → n < MAX-OPS
room n at r e =
    by_le MAX-OPS n
    (λ (m : MAX-OPS ≤ n). let q = over-fault n at r m in let z : ◌≡◌ {A = ℕ} 0 1 = cc in absurd (omega arith))
    (λ (m : n < MAX-OPS). m)

split-none : (k : ℕ) → split k [] ≡ []
unfolding split
split-none zero = refl
split-none (suc k) = refl

-- a check before what the faults say is one more check before the faults
checked-first : (b : Bool) (r : Refusal) (f : Option Refusal) (s : Sums) → checked (refuse_if b r accepted) (unless f s) ≡ unless (refuse_if b r f) s
unfolding refuse_if
checked-first true r f s = refl
checked-first false r f s = refl

module _ (floor : ℕ) (shipped : Bool) where
  -- the end of the file within a record
  broken : (w : Whole) (q : Begun) → record_count w < MAX-OPS → 0 < q.at → end_of floor shipped (Ok (reading w q)) ≡ Err (BadRecord w.start)
  unfolding end_of
  broken w q m l = simp (le-ltb MAX-OPS (record_count w) (omega arith), lt-leb MAX-OPS (record_count w) m, ne_eqb q.at 0 (λ z. omega arith))

  module _ (w : Whole) (few : record_count w < MAX-OPS) where
    abbrev Broken : List ℕ → Type 0
    Broken r = end_of floor shipped (feed_of (Ok (reading w none_begun)) r) ≡ Err (BadRecord w.start)

    broken-first : (b0 : ℕ) (p : Bool) → eqb b0 FIRST-MARK ≡ p → Broken (b0 ∷ [])
    unfolding end_of feed_of
    broken-first b0 false e = ap (end_of floor shipped) (first-wrong w few 0 0 0 b0 [] e)
    broken-first b0 true e = ap (end_of floor shipped) (first-right w few 0 0 0 b0 e) ∙ broken w (begun 1 0 0 0) few (omega arith)

    broken-on : (b0 b1 : ℕ) (u : List ℕ) (p q : Bool) → eqb b0 FIRST-MARK ≡ p → is_mark b1 ≡ q → 2 + length u < record_size (eqb b1 SEGMENT-MARK) → Broken (b0 ∷ b1 ∷ u)
    unfolding end_of
    broken-on b0 b1 u false q e d l = ap (end_of floor shipped) (first-wrong w few 0 0 0 b0 (b1 ∷ u) e)
    broken-on b0 b1 u true false e d l = ap (end_of floor shipped) (second-wrong w few 0 0 0 b0 b1 u e d)
    broken-on b0 b1 u true true e d l =
        let c = cut_on w few (begun 2 b1 0 0) u (omega arith) l in
        ap (end_of floor shipped) (marked-right w few 0 0 0 b0 b1 u e d ∙ c.1) ∙ broken w c.0 few (omega (arith, c.2))

    cut : (r : List ℕ) → 0 < length r → length r < size_of r → Broken r
    unfolding is_marked
    cut [] l h = absurd (omega arith)
    cut (b0 ∷ []) l h = broken-first b0 (eqb b0 FIRST-MARK) refl
    cut (b0 ∷ b1 ∷ u) l h = broken-on b0 b1 u (eqb b0 FIRST-MARK) (is_mark b1) refl refl (omega arith)

  ends : (w : Whole) (r : List ℕ) (a : Sums) (f : Option Refusal) → 0 < length r → length r < size_of r →
      end_of floor shipped (feed_of (Ok (reading w none_begun)) r) ≡ unless (or_else (fault_of (record_count w) w.start r) f) a
  unfolding end_of or_else
  ends w r a f l h =
      by_le MAX-OPS (record_count w)
      (λ (m : MAX-OPS ≤ record_count w).
      ap (end_of floor shipped) (over w none_begun r m l) ∙ ap (λ (g : Option Refusal). unless (or_else g f) a) (sym (over-fault (record_count w) w.start r m)))
      (λ (m : record_count w < MAX-OPS).
      cut w m r l h ∙ ap (λ (g : Option Refusal). unless (or_else g f) a) (sym (short-fault (record_count w) w.start r m h)))

  -- what the records from some place on say, behind those that are read, where k of them hold the rest of the file
  abbrev count_from : Whole → List (List ℕ) → Sums
  count_from w rs = counts_of floor shipped (w.n + length (selected is_aligned rs)) (told (joined w.segments (selected is_aligned rs))) (w.unaligned + length (selected is_unaligned rs))

  abbrev From : ℕ → Whole → List ℕ → Type 0
  From k w s = end_of floor shipped (feed_of (Ok (reading w none_begun)) s) ≡ unless (first_fault (record_count w) w.start (split k s)) (count_from w (split k s))

  -- the rest of the file is one record, cut
  from_cut : (k : ℕ) (w : Whole) (b : ℕ) (s : List ℕ) → suc (length s) < size_of (b ∷ s) → From (suc k) w (b ∷ s)
  unfolding split first_fault
  from_cut k w b s h =
      let e : take (size_of (b ∷ s)) (b ∷ s) ≡ b ∷ s = take_all (size_of (b ∷ s)) (b ∷ s) (omega arith) in
      let g : length (b ∷ s) ≤ size_of (b ∷ s) = omega arith in
      let d : drop (size_of (b ∷ s)) (b ∷ s) ≡ [] = drop_of_length-le (b ∷ s) g in
      rw (e, d, split-none k) (ends w (b ∷ s) (count_from w ((b ∷ s) ∷ [])) none (omega arith) h)

  -- a whole record, of either kind, and the rest after it
  module _ (k : ℕ) (w : Whole) (r rest : List ℕ) (right : Right w) (few : record_count w < MAX-OPS) (long : length r ≡ size_of r) where
    abbrev read : Whole
    read = record_read w (address_of r) (is_marked r) (segment_of r)

    abbrev More : Type 0
    More = end_of floor shipped (feed_of (Next w r) rest) ≡ unless (first_fault (record_count w + 1) (w.start + length r) (split k rest)) (count_from w (r ∷ split k rest))

    abbrev later : List (List ℕ)
    later = split k rest

    again : Right read
    again = right-read w (address_of r) (is_marked r) (segment_of r) (omega (arith, right-count w right)) right

    starts : w.start + record_size (is_marked r) ≡ w.start + length r
    starts = omega arith

    more-aligned : is_aligned r ≡ true → From k read rest → More
    unfolding selected is_unaligned
    more-aligned e g =
        let v : Whole = record { n = w.n + 1; unaligned = w.unaligned; start = w.start + record_size (is_marked r); segments = counted w.segments (is_marked r) (segment_of r) } in
        let q : read ≡ v = read-aligned w (address_of r) (is_marked r) (segment_of r) (aligned-is r true e) in
        let i : record_count v ≡ record_count w + 1 = omega (arith, right-count v (subst Right q again), right-count w right) in
        let c : w.n + 1 + length (selected is_aligned later) ≡ w.n + suc (length (selected is_aligned later)) = omega arith in
        let j = joined-more w.segments r (selected is_aligned later) in
        rw e
        (ap (λ (x : Whole). end_of floor shipped (feed_of (Ok (reading x none_begun)) rest)) q
        ∙ subst (λ (x : Whole). From k x rest) q g
        ∙ (λ t. unless (first_fault (i t) (starts t) later) (counts_of floor shipped (c t) (told (j t)) (w.unaligned + length (selected is_unaligned later)))))

    more-unaligned : is_aligned r ≡ false → From k read rest → More
    unfolding selected is_unaligned
    more-unaligned e g =
        let v : Whole = record { n = w.n; unaligned = w.unaligned + 1; start = w.start + record_size (is_marked r); segments = w.segments } in
        let q : read ≡ v = read-unaligned w (address_of r) (is_marked r) (segment_of r) (aligned-is r false e) in
        let i : record_count v ≡ record_count w + 1 = omega (arith, right-count v (subst Right q again), right-count w right) in
        let c : w.unaligned + 1 + length (selected is_unaligned later) ≡ w.unaligned + suc (length (selected is_unaligned later)) = omega arith in
        rw e
        (ap (λ (x : Whole). end_of floor shipped (feed_of (Ok (reading x none_begun)) rest)) q
        ∙ subst (λ (x : Whole). From k x rest) q g
        ∙ (λ t. unless (first_fault (i t) (starts t) later) (counts_of floor shipped (w.n + length (selected is_aligned later)) (told (joined w.segments (selected is_aligned later))) (c t))))

    more : (t : Bool) → is_aligned r ≡ t → From k read rest → More
    more true e g = more-aligned e g
    more false e g = more-unaligned e g

  from-whole : (f : Option Refusal) (k : ℕ) (w : Whole) (r rest : List ℕ) → Right w → length r ≡ size_of r → fault_of (record_count w) w.start r ≡ f
      → (record_count w < MAX-OPS → From k (record_read w (address_of r) (is_marked r) (segment_of r)) rest)
      → end_of floor shipped (feed_of (after f (Next w r)) rest)
      ≡ unless (or_else f (first_fault (record_count w + 1) (w.start + length r) (split k rest))) (count_from w (r ∷ split k rest))
  unfolding end_of or_else
  from-whole (some x) k w r rest h l e g = ap (end_of floor shipped) (feed-refused x rest)
  from-whole none k w r rest h l e g =
      let few = room (record_count w) w.start r e in more k w r rest h few l (is_aligned r) refl (g few)

  -- nothing is left of the file
  from-none : (w : Whole) → Right w → end_of floor shipped (Ok (reading w none_begun)) ≡ Ok (count_from w [])
  unfolding end_of selected
  from-none w h =
      let m : record_count w ≤ MAX-OPS = omega (arith, right-count w h, h.few) in
      simp (le-ltb MAX-OPS (record_count w) m, add-zero) (ap (λ (s : Segments). Ok (counts_of floor shipped w.n (told s) w.unaligned)) (joined-none w.segments h.narrow))

  reads-from : (k : ℕ) (w : Whole) (s : List ℕ) → length s ≤ k → Right w → From k w s
  unfolding split first_fault feed_of
  reads-from zero w [] l h = from-none w h
  reads-from zero w (b ∷ s) l h = absurd (omega arith)
  reads-from (suc k) w [] l h = from-none w h
  reads-from (suc k) w (b ∷ s) l h =
      by_le (size_of (b ∷ s)) (suc (length s))
      (λ (m : size_of (b ∷ s) ≤ suc (length s)).
      let n = size_of (b ∷ s) in
      let r = take n (b ∷ s) in
      let rest = drop n (b ∷ s) in
      let e : length r ≡ size_of r = first-size (b ∷ s) m in
      let d : length rest ≤ k = simp length-drop (omega (arith, size-least (is_marked (b ∷ s)))) in
      ap (end_of floor shipped) (feed-split (Ok (reading w none_begun)) n (b ∷ s) ∙ ap (λ (c : Result Reading Refusal). feed_of c rest) (next w r e))
      ∙ from-whole (fault_of (record_count w) w.start r) k w r rest h e refl
      (λ (few : record_count w < MAX-OPS). reads-from k (record_read w (address_of r) (is_marked r) (segment_of r)) rest d (right-read w (address_of r) (is_marked r) (segment_of r) (omega (arith, right-count w h)) h)))
      (λ (m : suc (length s) < size_of (b ∷ s)). from_cut k w b s m)

  -- what a reader says after the whole file is what the file's records say, where the floor is accepted
  pub reads-file : (syscall : ℕ) (file : List ℕ) → finish_of floor shipped (feed_of file_start file) ≡ tally_of floor shipped syscall file
  unfolding finish_of tally_of records_of segments_of
  reads-file syscall file =
      let rs = split (length file) file in
      let al = selected is_aligned rs in
      let n = length al in
      let o = length (selected is_unaligned rs) in
      let e : 0 + n ≡ n = omega arith in
      let d : 0 + o ≡ o = omega arith in
      let sums = counts-are-sums floor shipped syscall n (op_at (records_words al)) (segments_of al) o in
      ap (checked (not_floor floor accepted))
      (reads-from (length file) no_records file (omega arith) none_right
      ∙ (λ t. unless (first_fault (none_read t) 0 rs) (counts_of floor shipped (e t) (told (joined-first al t)) (d t)))
      ∙ ap (unless (first_fault 0 0 rs)) sums)
      ∙ checked-first (not (is_floor floor)) (Floor floor) (first_fault 0 0 rs) _

  -- the same of a file that is read in two pieces, wherever it is cut
  pub reads-pieces : (syscall : ℕ) (a b : List ℕ) → finish_of floor shipped (feed_of (feed_of file_start a) b) ≡ tally_of floor shipped syscall (a ++ b)
  reads-pieces syscall a b = ap (finish_of floor shipped) (sym (feed-append file_start a b)) ∙ reads-file syscall (a ++ b)

pub feed-one : (c : Result Reading Refusal) (s : List ℕ) → 0 < length s → feed_of c (take 1 s) ≡ step_of c (get_or s 0 0)
unfolding feed_of
feed-one c [] l = absurd (omega arith)
feed-one c (x ∷ s) l = refl

-- a part of a piece, and what is left of the piece
pub feed-part : (c : Result Reading Refusal) (i k : ℕ) (s : List ℕ) → feed_of c (drop i s) ≡ feed_of (feed_of c (take k (drop i s))) (drop (i + k) s)
feed-part c i k s = feed-split c k (drop i s) ∙ ap (feed_of (feed_of c (take k (drop i s)))) (drop-drop k i s)

pub feed-none : (c : Result Reading Refusal) (i : ℕ) (s : List ℕ) → length s ≤ i → feed_of c (drop i s) ≡ c
unfolding feed_of
feed-none c i s l = ap (feed_of c) (drop_of_length-le s l)

-- one turn of the loop over a piece
pub feed-go : (c d : Result Reading Refusal) (i used : ℕ) (s : List ℕ) → i ≤ length s → Advanced c (take (length s - i) (drop i s)) d used → (0 < used) × (i + used ≤ length s) × (feed_of c (drop i s) ≡ feed_of d (drop (i + used) s))
feed-go c d i used s l a =
    let e : length (take (length s - i) (drop i s)) ≡ length s - i = simp (length-take, length-drop) (omega arith) in
    let h : used ≤ length s - i = omega (arith, a.all_there) in
    (a.some-used, omega arith, feed-part c i used s ∙ ap (λ (x : Result Reading Refusal). feed_of x (drop (i + used) s)) (sym (a.stands ∙ ap (feed_of c) (take-take used (length s - i) (drop i s) h))))

-- ---- how far a reader goes
-- after k bytes of a file it stands in a record that these bytes have reached
abbrev Stand : Result Reading Refusal → ℕ → Type 0
Stand (Err r) k = Unit {0}
Stand (Ok c) k = (c.whole.start + c.begun.at ≡ k) × (c.begun.at < record_size (has_segment c.begun)) × Right c.whole × (k ≤ MAX-FILE-BYTES)

stand-pick : (p : Bool) (c d : Result Reading Refusal) (k : ℕ) → (p ≡ true → Stand c k) → (p ≡ false → Stand d k) → Stand (pick p c d) k
stand-pick true c d k f g = f refl
stand-pick false c d k f g = g refl

-- the record that is read keeps its length, or shows it with its second byte
size-kept : (p : Begun) (b : ℕ) → p.at + 1 < record_size (has_segment p) → (taken p b).at < record_size (has_segment (taken p b))
unfolding taken
size-kept p b l = by_le 2 p.at (λ (h : 2 ≤ p.at). rw (ne_eqb p.at 1 (λ e. omega arith)) l) (λ (h : p.at < 2). omega (arith, size-least (eqb (pick (eqb p.at 1) b p.mark) SEGMENT-MARK)))

next-byte : (w : Whole) (p : Begun) (b k : ℕ) → w.start + p.at ≡ k → w.start + (taken p b).at ≡ k + 1
unfolding taken
next-byte w p b k e = omega arith

read-starts : (w : Whole) (a : ℕ) (m : Bool) (s : ℕ) → (record_read w a m s).start ≡ w.start + record_size m
read-starts w a m s = by (eqb (a % 8) 0) refl
  where
    by : (b : Bool) → eqb (a % 8) 0 ≡ b → (record_read w a m s).start ≡ w.start + record_size m
    by true e = ap (λ (v : Whole). v.start) (read-aligned w a m s e)
    by false e = ap (λ (v : Whole). v.start) (read-unaligned w a m s e)

stand-step : (c : Result Reading Refusal) (b k : ℕ) → Stand c k → Stand (step_of c b) (k + 1)
unfolding step_of
stand-step (Err r) b k s = tt
stand-step (Ok c) b k s =
    let w = c.whole in
    let p = c.begun in
    let right = s.2 in
    stand-pick (leb MAX-OPS (record_count w)) _ _ (k + 1) (λ e. tt)
    (λ e.
    let few : w.n + w.unaligned < MAX-OPS = omega (arith, leb-false MAX-OPS (record_count w) e, right-count w right) in
    let room : w.start + record_size (has_segment p) ≤ MAX-FILE-BYTES = omega (arith, right.starts, size-most (has_segment p)) in
    stand-pick (wrong p.at b) _ _ (k + 1) (λ e. tt)
    (λ e.
    stand-pick (leb (record_size (has_segment p)) (p.at + 1)) _ _ (k + 1)
    (λ e.
    let l = leb-true (record_size (has_segment p)) (p.at + 1) e in
    stand-pick (ltb LAST-ADDRESS p.addr) _ _ (k + 1) (λ e. tt)
    (λ e. (add-zero _ ∙ read-starts w p.addr (has_segment p) _ ∙ omega arith, omega (arith, size-least false), right-read w p.addr (has_segment p) _ few right, omega arith)))
    (λ e.
    let l = leb-false (record_size (has_segment p)) (p.at + 1) e in
    (next-byte w p b k s.0, size-kept p b l, right, omega arith))))

stand-feed : (c : Result Reading Refusal) (s : List ℕ) (k : ℕ) → Stand c k → Stand (feed_of c s) (k + length s)
unfolding feed_of
stand-feed c [] k p = rw add-zero p
stand-feed c (b ∷ s) k p = let e : k + suc (length s) ≡ k + 1 + length s = omega arith in rw e (stand-feed (step_of c b) s (k + 1) (stand-step c b k p))

-- how many bytes a reader may be given until it refuses the file
abbrev pub bytes_left : Result Reading Refusal → ℕ
bytes_left (Err r) = 0
bytes_left (Ok c) = MAX-FILE-BYTES + 1 - (c.whole.start + c.begun.at)

-- every byte that is not refused brings a reader nearer to that
pub fewer-left : (file piece : List ℕ) → 0 < length piece → is_err (feed_of (feed_of file_start file) piece) ≡ false → bytes_left (feed_of (feed_of file_start file) piece) < bytes_left (feed_of file_start file)
fewer-left file piece l g =
    let s = stand-feed file_start file 0 (omega arith, omega (arith, size-least false), none_right, omega arith) in
    by (feed_of file_start file) (feed_of (feed_of file_start file) piece) refl s (stand-feed (feed_of file_start file) piece (0 + length file) s) g
  where
    by : (c d : Result Reading Refusal) → feed_of c piece ≡ d → Stand c (0 + length file) → Stand d (0 + length file + length piece) → is_err d ≡ false → bytes_left d < bytes_left c
    by c (Err r) e p q g = absurd (true-not-false g)
    by (Err r) (Ok b) e p q g = absurd (true-not-false (ap is_err (sym (feed-refused r piece) ∙ e)))
    by (Ok a) (Ok b) e p q g = omega arith
