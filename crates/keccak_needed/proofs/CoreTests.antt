-- The bent core rows, by computation, one row to a rule: each passes every rule but its own, and its lanes do not sit where they should.
use mathlib.Core.Path.{◌≡◌, refl}
use mathlib.Core.Bool.{Bool, true, ◌&&◌, ◌||◌, not}
use mathlib.Core.List.{List}
use Prim.Native.Nat.{ℕ, ◌+◌, ◌*◌, ◌/◌, ◌%◌, ◌^◌}
use lib.Dec.{eqb, ltb}
use Rattle.lists.specs.Tab.{tab, tab_from, row_of, followed_by}
use Rattle.lists.specs.Sum.{all_below}
use Rattle.templates.specs.Templates.{add-terms-expr, carry0, add-pair-carry-hi, emit-add-pair}
use Rattle.field.specs.Field.{p}
use Rattle.bits.specs.Bits.{pack}
use Rattle.bitwise.specs.Found.{alu_op, alu_found, are_bytes_found, half_found}
use Rattle.is_wh.specs.Found.{is_wh_found}
use Rattle.matching.specs.Matching.{found_on, matched}
use Rattle.keccak.specs.Row.{core_address, core_pointer}
use Rattle.keccak.specs.Values.{pointer_value, top_value, core_value}
use Rattle.keccak.specs.Tuples.{pointer_tuple, align_tuple, addr_bytes_tuple}
use Rattle.keccak_needed.specs.CoreNeeded.{core_needed, bent_start, bent_address, bent_limb, bent_groups, bent_core}

-- whether a rule holds, but that number j is not asked for
unfoldable pub values_hold : ℕ → List ℕ → Bool
values_hold j row = all_below 52 (λ i. eqb (84 + i) j || eqb (core_value row i) 0)

unfoldable pub pointers_hold : ℕ → List ℕ → Bool
pointers_hold j row = all_below 50 (λ i. eqb (4 + i) j || matched (pointer_tuple row (i / 2) (i % 2)))

unfoldable pub address_holds : ℕ → List ℕ → Bool
address_holds j row = (eqb 54 j || matched (align_tuple row)) && all_below 4 (λ i. eqb (55 + i) j || matched (addr_bytes_tuple row i))

unfoldable pub sits : List ℕ → Bool
sits row = eqb (core_address row % 8) 0 && (all_below 25 (λ i. eqb (core_pointer row i) (core_address row + 8 * i)) && ltb (core_address row + 8 * 24) (2 ^ 64))

abbrev pub Bent : (ℕ → Bool) → Type 0
Bent test = all_below 136 (λ j. not (core_needed j) || test j) ≡ true

pub values-test : Bent (λ j. values_hold j (bent_core j))
unfolding all_below values_hold core_needed followed_by bent_core bent_groups bent_start bent_address bent_limb row_of tab tab_from core_value pointer_value top_value emit-add-pair carry0 add-pair-carry-hi add-terms-expr
values-test = refl

pub pointers-test : Bent (λ j. pointers_hold j (bent_core j))
unfolding all_below pointers_hold core_needed followed_by bent_core bent_groups bent_start bent_address bent_limb row_of tab tab_from pointer_tuple found_on half_found is_wh_found
pointers-test = refl

pub address-test : Bent (λ j. address_holds j (bent_core j))
unfolding all_below address_holds core_needed followed_by bent_core bent_groups bent_start bent_address bent_limb row_of tab tab_from align_tuple addr_bytes_tuple found_on alu_found are_bytes_found alu_op
address-test = refl

pub below-test : Bent (λ j. all_below 8 (λ b. ltb (bent_address j b) p) && all_below 75 (λ k. ltb (bent_limb j (k / 3) (k % 3)) p))
unfolding all_below core_needed followed_by bent_start bent_address bent_limb
below-test = refl

pub away-test : Bent (λ j. not (sits (bent_core j)))
unfolding all_below sits core_needed followed_by bent_core bent_groups bent_start bent_address bent_limb row_of tab tab_from pack
away-test = refl
