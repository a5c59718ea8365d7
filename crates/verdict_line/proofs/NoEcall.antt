-- A line never shows an Ecall tuple, so the syscall number, which stands there alone, never shows: Ecall is not looked up,
-- and a tuple that is out of balance is on the Keccak bus.
use Prim.Native.Nat.{ℕ}
use mathlib.Core.Path.{◌≡◌, refl, sym, ap, subst, ◌∙◌}
use mathlib.Core.Option.{Option, none, some}
use mathlib.Core.List.{List}
use native.Mathlib.Omega.{arith}
use Rattle.tuple.specs.Tuple.{bus_number}
use Rattle.tuple.specs.declared.Bus.{Bus}
use Rattle.tuple.specs.declared.Bus.TheVariants.{Keccak, Ecall}
use Rattle.matching.specs.Matching.{FoundOn}
use Rattle.verdict.specs.CoreAndRound.{verdict_for}
use Rattle.verdict.specs.declared.Table.TheVariants.{Core, Round}
use Rattle.verdict.specs.declared.Verdict.{Verdict}
use Rattle.verdict.specs.declared.Verdict.TheVariants.{Refused, Value, Lookup, Repeated, Unbalanced, Holds}
use Rattle.verdict_line.specs.Line.{Shown, tuple_at, shown_by, shown_at}
use Rattle.verdict_line.proofs.InRange.{judged-says}

-- the bus that is shown; Keccak where none is
bus_of : Option Shown → Bus
bus_of none = Keccak
bus_of (some s) = s.bus

not-ecall : Keccak ≡ Ecall → ⊥
not-ecall e = let n : bus_number Keccak ≡ bus_number Ecall = ap bus_number e in omega (arith, n)

needs-none : (b : Bus) (vs : List ℕ) → b ≡ Ecall → FoundOn b vs
unfolding FoundOn
needs-none b vs e = subst (λ (x : Bus). FoundOn x vs) (sym e) tt

module _ (nr : ℕ) (core round : List ℕ) where
  never : (v : Verdict) → verdict_for nr core round ≡ v → bus_of (shown_by nr core round v) ≡ Ecall → ⊥
  unfolding bus_of shown_by tuple_at
  never (Lookup Core r i) e b = (judged-says nr core round (Lookup Core r i) tt e).1.fails (λ m. needs-none _ _ b)
  never (Lookup Round r i) e b = (judged-says nr core round (Lookup Round r i) tt e).1.fails (λ m. needs-none _ _ b)
  never (Unbalanced Core r i) e b = not-ecall (sym (judged-says nr core round (Unbalanced Core r i) tt e).1.fails.on-bus ∙ b)
  never (Unbalanced Round r i) e b = not-ecall (sym (judged-says nr core round (Unbalanced Round r i) tt e).1.fails.on-bus ∙ b)
  never (Value t r i) e b = not-ecall b
  never (Repeated r) e b = not-ecall b
  never (Holds n) e b = not-ecall b
  never (Refused r) e b = not-ecall b

  pub no-ecall : (s : Shown) → shown_at nr core round ≡ some s → s.bus ≡ Ecall → ⊥
  unfolding shown_at bus_of
  no-ecall s e b = never (verdict_for nr core round) refl (ap bus_of e ∙ b)
