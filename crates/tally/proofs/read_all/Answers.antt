-- `read_all`: a piece is fed after the pieces before it, and reading ends only where nothing came, or at a fault.
use Rattle.std.proofs.Common.{ℕ, ◌<◌, true, false, ◌≡◌, List, length, [], ◌++◌, sym, ap, ◌∙◌, arith}
use lib.Seq.{length-take-le}
use Rattle.answer.specs.declared.Refusal.{Refusal}
use Rattle.op_file.specs.declared.Reading.{Reading}
use Rattle.op_file.specs.Reader.{feed_of, file_start}
use Rattle.std.specs.Prelude.{Result, is_err}
use Rattle.op_file.proofs.Laws.{bytes_left, fewer-left}
use Rattle.op_file.proofs.Steps.{feed-append}
use Rattle.tally.proofs.read_all.Goals as goal

-- the reader stands where the bytes so far take it
abbrev Fed : Result Reading Refusal → Type 0
Fed c = (file : List ℕ) × (c ≡ feed_of file_start file)

-- after one more piece
fed-more : {c d : Result Reading Refusal} (piece : List ℕ) → Fed c → d ≡ feed_of c piece → Fed d
fed-more piece (file, e) h = (file ++ piece, h ∙ ap (λ (x : Result Reading Refusal). feed_of x piece) e ∙ sym (feed-append file_start file piece))

-- which is not empty, and not refused
nearer : {c d : Result Reading Refusal} (piece : List ℕ) → Fed c → d ≡ feed_of c piece → 0 < length piece → is_err d ≡ false → bytes_left d < bytes_left c
nearer piece (file, e) h l g =
    let k = h ∙ ap (λ (x : Result Reading Refusal). feed_of x piece) e in
    rw (e, k) (fewer-left file piece l (ap is_err (sym k) ∙ g))

-- the answer, where reading ends: only where nothing came, or at a fault
abbrev Ends : Result Reading Refusal → ℕ → Type 0
Ends d got = (file : List ℕ) × (d ≡ feed_of file_start file) × (0 < got → is_err d ≡ true)

ended : {c d : Result Reading Refusal} {got : ℕ} (piece : List ℕ) → Fed c → d ≡ feed_of c piece → (0 < got → is_err d ≡ true) → Ends d got
ended piece f h q = let g = fed-more piece f h in (g.0, g.1, q)

pub loop-buf-init : goal.loop-buf-init
unfolding feed_of
loop-buf-init g c = ([], c.start-c.ensures)

pub returns-then-t-eq0 : goal.returns-then-t-eq0
returns-then-t-eq0 g c = ended _ c.loop-buf.invariant c.read_some-t.ensures.0 (λ l. absurd (omega arith))

pub returns-then-is_err : goal.returns-then-is_err
returns-then-is_err g c = ended _ c.loop-buf.invariant c.read_some-t.ensures.0 (λ l. sym c.is_err.ensures.value ∙ c.if-is_err.true)

pub loop-buf-smaller : goal.loop-buf-smaller
loop-buf-smaller g c = nearer _ c.loop-buf.invariant c.read_some-t.ensures.0 (omega (arith, length-take-le c.read_some-t.result.got c.read_some-t.new.buf c.read_some-t.ensures.1)) (sym c.is_err.ensures.value ∙ c.if-is_err.false)

pub loop-buf-preserved : goal.loop-buf-preserved
loop-buf-preserved g c = fed-more _ c.loop-buf.invariant c.read_some-t.ensures.0
