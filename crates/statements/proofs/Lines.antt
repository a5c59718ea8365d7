-- The statements on the verdict as a line (verdict_line/specs/Line.antt), each beside the sentence that asks for it.
--     Judged v           the verdict v is no refusal
--     line_at, shown_at    the line of the verdict on two tables for nr rounds, and the tuple that it shows
--     Lined              a call of `verdict_line`: its answer, and the bytes when it ends (verdict_line/proofs/Tied.antt)
use mathlib.Core.Path.{◌≡◌, sym}
use mathlib.Core.Logic.{◌⊎◌, ◌↔◌}
use mathlib.Core.Option.{some}
use mathlib.Core.List.{List, [], ◌∷◌}
use Prim.Native.Nat.{ℕ, ◌≤◌, ◌<◌}
use lib.ListN.{length, take}
use Rattle.lists.specs.Tab.{word}
use Rattle.answer.specs.Refusal.{accepted}
use Rattle.answer.specs.declared.Refusal.{Refusal}
use Rattle.answer.specs.declared.Refusal.TheVariants.{TooShort}
use Rattle.text.specs.Text.{decimal_of, number_in}
use Rattle.text.proofs.Numbers.{decimal-zero, decimal-front, decimal-back}
use Rattle.verdict.specs.CoreAndRound.{verdict_for}
use Rattle.verdict.specs.declared.Verdict.TheVariants.{Refused}
use Rattle.sort_places.specs.Places.{place_count}
use Rattle.judge_within.specs.Within.{within_for, within_after}
use Rattle.judge_within.proofs.Within.{Passed}
use Rattle.verdict_line.specs.Line.{Judged, shown_at, line_at, line_refusal, line_answer, line_after}
use Rattle.verdict_line.specs.Line.{within_line_refusal, within_line_answer, within_line_after, within_line_left}
use Rattle.verdict_line.specs.Lent.{Ready}
use Rattle.verdict_line.proofs.Tells.{lines-tell}
use Rattle.verdict_line.proofs.Most.{line-most}
use Rattle.verdict_line.proofs.Refusals.{line-accepted, line_refused, line-short}
use Rattle.verdict_line.proofs.Tied.{Lined, some-lined, some-line, lines-written}
use Rattle.verdict_line.proofs.LentLine.{lines_same, line-lent-accepted, line-lent-says, line-lent-left, slice_kept, bytes-kept}
use Rattle.std.specs.Prelude.{Ok}

-- "Two lines are equal exactly when the verdicts and the shown tuples are equal."
pub equal-lines : (nr nr' : ℕ) (core round core' round' : List ℕ) → Judged (verdict_for nr core round) → Judged (verdict_for nr' core' round') →
    (line_at nr core round ≡ line_at nr' core' round')
    ↔ ((verdict_for nr core round ≡ verdict_for nr' core' round') × (shown_at nr core round ≡ shown_at nr' core' round'))
equal-lines = lines-tell

-- and so it is of the bytes that two calls leave, each of which answered a length
pub equal-lines-written : {nr nr' : ℕ} {core round before after core' round' before' after' : List ℕ} {n m : ℕ} →
    Lined nr core round before after (Ok n) → Lined nr' core' round' before' after' (Ok m) →
    (take n after ≡ take m after')
    ↔ ((verdict_for nr core round ≡ verdict_for nr' core' round') × (shown_at nr core round ≡ shown_at nr' core' round'))
equal-lines-written = lines-written

-- what is supposed of the calls is what any call leaves, and where it is accepted it does answer a length
pub line-left-by-a-call : (nr : ℕ) (core round before : List ℕ) → Lined nr core round before (line_after nr core round before) (line_answer nr core round before)
line-left-by-a-call = some-lined

pub line-left-accepted : (nr : ℕ) (core round before : List ℕ) → line_refusal nr core round (length before) ≡ accepted →
    Lined nr core round before (line_after nr core round before) (Ok (length (line_at nr core round)))
line-left-accepted = some-line

-- "decimals without leading zeros": 0 is one digit, any other number begins with one of 1 to 9, and is read back from its digits
pub zero-in-decimal : decimal_of 0 ≡ 48 ∷ []
zero-in-decimal = decimal-zero

pub no-leading-zero : (n : ℕ) → 1 ≤ n → (49 ≤ word (decimal_of n) 0) × (word (decimal_of n) 0 ≤ 57)
no-leading-zero = decimal-front

pub decimal-read : (n : ℕ) → number_in (decimal_of n) ≡ n
decimal-read = decimal-back

-- "A line that doesn't fit the lent bytes is a short slice, refused after 5.": the call is accepted exactly where the verdict is no
-- refusal and the line fits; as the verdict is refused, by 5 too, whatever is lent; and only then by 3, with the length that is needed
pub line_taken : (nr : ℕ) (core round : List ℕ) (room : ℕ) →
    (line_refusal nr core round room ≡ accepted)
    ↔ (Judged (verdict_for nr core round) × (length (line_at nr core round) ≤ room))
line_taken = line-accepted

pub line-refused-as-judged : (nr : ℕ) (core round : List ℕ) (room : ℕ) (r : Refusal) → verdict_for nr core round ≡ Refused r →
    line_refusal nr core round room ≡ some r
line-refused-as-judged = line_refused

pub line-too-short : (nr : ℕ) (core round : List ℕ) (room : ℕ) → Judged (verdict_for nr core round) → room < length (line_at nr core round) →
    line_refusal nr core round room ≡ some (TooShort (length (line_at nr core round)))
line-too-short = line-short

-- and 4,335 bytes are always enough, for tables that fit in memory
pub enough-for-a-line : (nr : ℕ) (core round : List ℕ) → length core < 18446744073709551616 → length round < 18446744073709551616 →
    length (line_at nr core round) ≤ 4335
enough-for-a-line = line-most

-- ---- the line in lent memory, slices of `scratch` and of `spare` words
module _ (nr : ℕ) (core round : List ℕ) (room scratch spare : ℕ) where
  -- accepted exactly where the verdict in lent memory is (`Passed`, judge_within/proofs/Within.antt) and 4,335 bytes are lent
  pub lent-line-taken :
      (within_line_refusal nr core round room scratch spare ≡ accepted)
      ↔ (Passed nr core round scratch spare × (4335 ≤ room))
  lent-line-taken = line-lent-accepted nr core round room scratch spare

  -- after 8 and 2 (`Ready`, verdict_line/specs/Lent.antt) by 3 with 4,335 where fewer bytes are lent, else as the verdict in lent memory
  pub lent-line-refusals : (r : Refusal) →
      (within_line_refusal nr core round room scratch spare ≡ some r)
      ↔ ((Ready nr core round × (room < 4335) × (r ≡ TooShort 4335))
      ⊎ ((Ready nr core round → room < 4335 → ⊥) × (within_for nr core round scratch spare ≡ Refused r)))
  lent-line-refusals = line-lent-says nr core round room scratch spare

  -- "after a refusal it holds its old words": both slices; where it is accepted, they are as the verdict in lent memory leaves them
  pub lent-line-untouched : {r : Refusal} → within_line_refusal nr core round room scratch spare ≡ some r → (old : List ℕ) →
      within_line_left nr core round room scratch spare old ≡ old
  lent-line-untouched e old = sym (slice_kept nr core round room scratch spare e old)

  pub lent-line-left : within_line_refusal nr core round room scratch spare ≡ accepted → (old : List ℕ) →
      within_line_left nr core round room scratch spare old ≡ within_after nr core round scratch spare old
  lent-line-left = line-lent-left nr core round room scratch spare

module _ (nr : ℕ) (core round : List ℕ) (scratch spare : ℕ) (bytes : List ℕ) where
  -- and the bytes of the line
  pub lent-bytes-untouched : {r : Refusal} → within_line_refusal nr core round (length bytes) scratch spare ≡ some r →
      within_line_after nr core round scratch spare bytes ≡ bytes
  lent-bytes-untouched e = sym (bytes-kept nr core round scratch spare bytes e)

  -- the same line as that of `verdict_line`, or the same refusal, and the same bytes, where all have room: for tables that fit in memory
  pub lent-same-line : length core < 18446744073709551616 → length round < 18446744073709551616 → 4335 ≤ length bytes →
      place_count core round ≤ scratch → place_count core round ≤ spare →
      (within_line_answer nr core round (length bytes) scratch spare ≡ line_answer nr core round bytes)
      × (within_line_after nr core round scratch spare bytes ≡ line_after nr core round bytes)
  lent-same-line = lines_same nr core round scratch spare bytes
