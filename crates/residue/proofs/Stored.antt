-- Residues stored one behind the other, by lanes and by groups, and what the whole says of a row's tuples.
use mathlib.Core.Path.{◌≡◌, sym, ap, ◌∙◌}
use mathlib.Core.List.{List, [], ◌∷◌}
use Prim.Native.Nat.{ℕ, ◌+◌, ◌*◌, ◌≤◌, ◌<◌}
use lib.ListN.{length, drop}
use lib.Dec.{eqb}
use lib.Seq.{sets, length-sets, drop_at}
use Rattle.lists.specs.Tab.{tab, followed_by, word}
use Rattle.lists.proofs.Laws.{Filled, filled-block, sets-add, sets-front, stored_at, length-tab}
use Rattle.lists.proofs.Then.{then-lt, then-ge}
use Rattle.lists.proofs.Laws.{get_d-tab, tab-same}
use Rattle.tuple.specs.Tuple.{Tuple, sender}
use Rattle.tuple.specs.declared.Bus.TheVariants.{ByteAlu}
use Rattle.byte_tuples.specs.Lanes.{op_number}
use Rattle.byte_tuples.specs.declared.Op.{Op}
use Rattle.residue.specs.Residue.{residue, residues, Marked}
use Rattle.residue.proofs.Residue.{residue-matched}

-- the residue of a tuple is that of its values
pub same-residue : (t g : ℕ → Tuple) (k j : ℕ) → t k ≡ g j → residues t k ≡ residues g j
unfolding residues
same-residue t g k j e = ap residue e

-- a turn that stores a lane of eight
pub filled-lane : {l : List ℕ} {at n : ℕ} {out out' : List ℕ} (t g : ℕ → Tuple) (x : ℕ) → Filled l at n (residues t) out (8 * x) → 8 * (x + 1) ≤ n
    → out' ≡ sets out (at + 8 * x) (tab 8 (residues g)) → ((z : ℕ) → z < 8 → t (8 * x + z) ≡ g z) → Filled l at n (residues t) out' (8 * (x + 1))
filled-lane t g x h b e same = filled-block 8 x (residues g) h b e (λ z l. same-residue t g (8 * x + z) z (same z l))

-- n of f, and then m of g behind them
pub stored-then : {out out' : List ℕ} (l : List ℕ) (at n m : ℕ) (f g : ℕ → Tuple) → out ≡ sets l at (tab n (residues f)) → out' ≡ sets out (at + n) (tab m (residues g))
    → out' ≡ sets l at (tab (n + m) (residues (followed_by n f g)))
stored-then l at n m f g e q =
    q
    ∙ ap (λ (r : List ℕ). sets r (at + n) (tab m (residues g))) (e ∙ ap (sets l at) (tab-same n (residues f) (residues (followed_by n f g)) (λ k b. same-residue f (followed_by n f g) k k (sym (then-lt n k f g b)))))
    ∙ sets-add l at n m (residues (followed_by n f g)) (residues g) (λ k b. same-residue (followed_by n f g) g (n + k) k (then-ge n k f g))

-- n of t, and then the m behind them, which are g's
pub stored-rest : {out out' : List ℕ} (l : List ℕ) (at n m : ℕ) (t g : ℕ → Tuple) → ((k : ℕ) → k < m → t (n + k) ≡ g k) → out ≡ sets l at (tab n (residues t))
    → out' ≡ sets out (at + n) (tab m (residues g)) → out' ≡ sets l at (tab (n + m) (residues t))
stored-rest l at n m t g same e q =
    q
    ∙ ap (λ (r : List ℕ). sets r (at + n) (tab m (residues g))) e
    ∙ sets-add l at n m (residues t) (residues g) (λ k b. same-residue t g (n + k) k (same k b))

-- all of a row's
pub marked : (n : ℕ) (t : ℕ → Tuple) (l out : List ℕ) → n ≤ length l → out ≡ sets l 0 (tab n (residues t)) → Marked n t l out
unfolding residues
marked n t l out h e =
    record {
      long = ap length e ∙ length-sets l 0 (tab n (residues t));
      zero = λ i b. ap (λ (x : ℕ). eqb x 0) (stored_at l out (residues t) n i h e b) ∙ residue-matched (t i);
      rest = ap (drop n) (e ∙ sets-front l (tab n (residues t)) n (length-tab n (residues t)) h) ∙ drop_at (tab n (residues t)) (drop n l) n (length-tab n (residues t));
    }

-- the operation by another name
pub of-op : {r : ℕ} {o q : Op} (m a b c : ℕ) → o ≡ q → r ≡ residue (sender ByteAlu m (op_number q ∷ a ∷ b ∷ c ∷ []))
    → r ≡ residue (sender ByteAlu m (op_number o ∷ a ∷ b ∷ c ∷ []))
of-op m a b c e h = h ∙ sym (ap (λ (t : Op). residue (sender ByteAlu m (op_number t ∷ a ∷ b ∷ c ∷ []))) e)

-- a lane that was made first
pub lane-stored : {out lane : List ℕ} (l : List ℕ) (at : ℕ) (f : ℕ → ℕ) → lane ≡ tab 8 f → out ≡ sets l at (tab 8 (word lane)) → out ≡ sets l at (tab 8 f)
lane-stored {lane = lane} l at f h e = e ∙ ap (sets l at) (tab-same 8 (word lane) f (λ k b. ap (λ (r : List ℕ). word r k) h ∙ get_d-tab 8 f k 0 b))
