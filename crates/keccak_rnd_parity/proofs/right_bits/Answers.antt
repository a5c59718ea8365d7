-- `right_bits` meets its contract, halfword by halfword.
use Rattle.lists.specs.Tab.{word}
use Rattle.bits.specs.Bits.{halfword, hwsl_carry}
use Rattle.keccak_rnd.specs.Parts.{right_bits}
use Rattle.keccak_rnd.proofs.Tables.{four}
use Rattle.keccak_rnd_parity.proofs.right_bits.Goals as goal

pub returns : goal.returns
unfolding right_bits
returns c =
    four (λ h. hwsl_carry (halfword (word c.args.c) h) 1) c.carry_bit.ensures c.carry_bit-2.ensures c.carry_bit-3.ensures c.carry_bit-4.ensures
