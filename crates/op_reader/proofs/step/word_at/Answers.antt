use Rattle.bits.proofs.Bytes.{pack-part}
use Rattle.op_file.proofs.Steps.{shifts, shifts-more, shifts-eight}
use lib.Seq.{get_or-drop}
use lib.ListN.{take, drop, length, length-take, length-drop}
use native.Mathlib.Omega.{arith}
use mathlib.Core.Path.{◌≡◌, ap, ◌∙◌, refl}
use Prim.Native.Nat.{ℕ, ◌<◌}
use Rattle.op_reader.proofs.step.word_at.Goals as goal

pub loop-j-init : goal.loop-j-init
unfolding shifts
loop-j-init c = (omega arith, refl)

pub loop-j-preserved : goal.loop-j-preserved
loop-j-preserved c =
    let st = c.args in
    let lp = c.loop-j in
    let l : lp.j < length (drop st.k st.s.now) = simp length-drop (omega arith) in
    (omega arith, rw (shifts-more 0 _ _ l, get_or-drop, ← lp.invariant.1) c.shift_in-a.ensures)

pub returns : goal.returns
returns c =
    let st = c.args in
    let lp = c.loop-j in
    let e : lp.j ≡ 8 = omega arith in
    let l : length (take 8 (drop st.k st.s.now)) ≡ 8 = simp (length-take, length-drop) (omega arith) in
    lp.invariant.1 ∙ ap (λ (j : ℕ). shifts 0 (take j (drop st.k st.s.now))) e ∙ shifts-eight 0 _ (omega arith) l ∙ pack-part 8 st.k st.s.now
