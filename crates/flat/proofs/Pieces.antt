-- Feeding a file's pieces through the calls gives what `tally` says of the whole file.
use Prim.Native.Nat.{ℕ}
use mathlib.Core.Path.{◌≡◌, refl, sym, ap, ◌∙◌}
use mathlib.Core.Bool.{Bool}
use mathlib.Core.List.{List, [], ◌∷◌, ◌++◌}
use Rattle.answer.specs.Refusal.{refusal_number, refusal_detail}
use Rattle.answer.specs.declared.Refusal.{Refusal}
use Rattle.answer.specs.declared.Refusal.TheVariants.{PastEnd, NotWhole, TooShort, HighAddress, NotElement, BadRecord, Unaligned, Rounds, Floor, Register, Segment, LongMessage, LateTimestamp, Files}
use Rattle.op_file.specs.File.{tally_of}
use Rattle.op_file.specs.Reader.{feed_of, finish_of, file_start}
use Rattle.op_file.specs.declared.Reading.{Reading}
use Rattle.std.specs.Prelude.{Result, Ok, Err}
use Rattle.op_file.proofs.Laws.{reads-file}
use Rattle.op_file.proofs.Steps.{feed-append}
use Rattle.flat.specs.declared.FlatCursor.{FlatCursor}
use Rattle.flat.specs.FlatReader.{refusal_of, reading_of, cursor_of, flat_cursor, flat_tally}

pub refusal-again : (r : Refusal) → refusal_of (refusal_number r) (refusal_detail r) ≡ r
unfolding refusal_of
refusal-again (PastEnd d) = refl
refusal-again (NotWhole d) = refl
refusal-again (TooShort d) = refl
refusal-again (HighAddress d) = refl
refusal-again (NotElement d) = refl
refusal-again (BadRecord d) = refl
refusal-again (Unaligned d) = refl
refusal-again (Rounds d) = refl
refusal-again (Floor d) = refl
refusal-again (Register d) = refl
refusal-again (Segment d) = refl
refusal-again (LongMessage d) = refl
refusal-again (LateTimestamp d) = refl
refusal-again (Files d) = refl

-- no reader is lost or changed between two calls
pub cursor-again : (c : Result Reading Refusal) → cursor_of (flat_cursor c) ≡ c
unfolding cursor_of reading_of flat_cursor refusal_of
cursor-again (Ok p) = refl
cursor-again (Err (PastEnd d)) = refl
cursor-again (Err (NotWhole d)) = refl
cursor-again (Err (TooShort d)) = refl
cursor-again (Err (HighAddress d)) = refl
cursor-again (Err (NotElement d)) = refl
cursor-again (Err (BadRecord d)) = refl
cursor-again (Err (Unaligned d)) = refl
cursor-again (Err (Rounds d)) = refl
cursor-again (Err (Floor d)) = refl
cursor-again (Err (Register d)) = refl
cursor-again (Err (Segment d)) = refl
cursor-again (Err (LongMessage d)) = refl
cursor-again (Err (LateTimestamp d)) = refl
cursor-again (Err (Files d)) = refl

-- one call after the other, on the pieces in turn
unfoldable pub fed : FlatCursor → List (List ℕ) → FlatCursor
fed c [] = c
fed c (s ∷ ss) = fed (flat_cursor (feed_of (cursor_of c) s)) ss

unfoldable pub joined : List (List ℕ) → List ℕ
joined [] = []
joined (s ∷ ss) = s ++ joined ss

fed-stands : (c : Result Reading Refusal) (ss : List (List ℕ)) → cursor_of (fed (flat_cursor c) ss) ≡ feed_of c (joined ss)
unfolding fed joined feed_of
fed-stands c [] = cursor-again c
fed-stands c (s ∷ ss) =
    ap (λ (d : Result Reading Refusal). cursor_of (fed (flat_cursor (feed_of d s)) ss)) (cursor-again c)
    ∙ fed-stands (feed_of c s) ss
    ∙ sym (feed-append c s (joined ss))

pub calls-tally : (floor : ℕ) (shipped : Bool) (syscall : ℕ) (ss : List (List ℕ)) → flat_tally (finish_of floor shipped (cursor_of (fed (flat_cursor file_start) ss))) ≡ flat_tally (tally_of floor shipped syscall (joined ss))
calls-tally floor shipped syscall ss = ap (λ (d : Result Reading Refusal). flat_tally (finish_of floor shipped d)) (fed-stands file_start ss) ∙ ap flat_tally (reads-file floor shipped syscall (joined ss))
