-- `field::reduced` meets its contract: the word lo is brought below p, then the two steps are `sub` and `add`.
use borrow.Author.Rules.{rules}
use mathlib.Core.Logic.{⊎_elim}
use mathlib.Core.Path.{◌≡◌, ap, ◌∙◌}
use native.Mathlib.Omega.{arith}
use Prim.Native.Nat.{ℕ, ◌*◌, ◌%◌, ◌^◌}
use Rattle.field.specs.Field.{p, fadd}
use Rattle.field.proofs.Product.{less-p, reduced-law}
use Rattle.field.proofs.reduced.Statement.{statement}
use Rattle.field.proofs.reduced.Tie as tie

sub-mid : tie.Need-overflow_sub-mid
sub-mid c = search rules

mul-mid : tie.Need-overflow_mul-mid
mul-mid c = search rules

sub-requires : tie.Need-sub-requires
sub-requires c κs = ⊎_elim (λ w. search rules) (λ w. search rules) c.if-lo-lt-P.branch-raw

add-requires : tie.Need-add-requires
add-requires c κs = search rules

-- lo less p, or lo itself
low-is : (c : tie.Joined-lo-lt-P) → c.if-lo-lt-P.low % p ≡ c.args.lo % p
low-is c = ⊎_elim (λ w. ap (λ (n : ℕ). n % p) w.low-is) (λ w. less-p _ _ (omega arith)) c.if-lo-lt-P.branch-raw

returns : tie.Need-returns
returns c =
    c.add.ensures.0 ∙ ap (λ (n : ℕ). fadd n (c.args.hi % 2 ^ 32 * 4294967295)) c.sub.ensures.0
    ∙ reduced-law _ _ _ c.ranges.hi.fits (low-is c.before.before)

pub reduced_spec : {M : Type 1} → statement M
reduced_spec = tie.close (tie.spec sub-mid mul-mid sub-requires add-requires returns)
