-- `tuple::header::bus_number` meets its contract: case by case.
use Rattle.tuple.proofs.header.bus_number.Goals as goal

pub returns-in-ByteAlu : goal.returns-in-ByteAlu
returns-in-ByteAlu c = rw c.in-ByteAlu.is

pub returns-in-AreBytes : goal.returns-in-AreBytes
returns-in-AreBytes c = rw c.in-AreBytes.is

pub returns-in-IsHalfword : goal.returns-in-IsHalfword
returns-in-IsHalfword c = rw c.in-IsHalfword.is

pub returns-in-IsWh : goal.returns-in-IsWh
returns-in-IsWh c = rw c.in-IsWh.is

pub returns-in-KeccakRc : goal.returns-in-KeccakRc
returns-in-KeccakRc c = rw c.in-KeccakRc.is

pub returns-in-Keccak : goal.returns-in-Keccak
returns-in-Keccak c = rw c.in-Keccak.is

pub returns-in-Memw : goal.returns-in-Memw
returns-in-Memw c = rw c.in-Memw.is

pub returns-in-Ecall : goal.returns-in-Ecall
returns-in-Ecall c = rw c.in-Ecall.is

pub returns-in-Msb8 : goal.returns-in-Msb8
returns-in-Msb8 c = rw c.in-Msb8.is

pub returns-in-Msb16 : goal.returns-in-Msb16
returns-in-Msb16 c = rw c.in-Msb16.is

pub returns-in-Zero : goal.returns-in-Zero
returns-in-Zero c = rw c.in-Zero.is

pub returns-in-IsB20 : goal.returns-in-IsB20
returns-in-IsB20 c = rw c.in-IsB20.is

pub returns-in-Hwsl : goal.returns-in-Hwsl
returns-in-Hwsl c = rw c.in-Hwsl.is
