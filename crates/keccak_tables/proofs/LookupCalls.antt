-- What the constructors of a lookup promise (src/lookup_calls.rt), as Kept.antt says.
use mathlib.Core.Path.{◌≡◌}
use Rattle.bitwise.specs.Row.{index_refusal}
use Rattle.bitwise.specs.Tuples.{kind_at}
use Rattle.bitwise.specs.declared.BitwiseOperationType.TheVariants.{Zero, IsB20}
use Rattle.bitwise_operations.specs.Operation.{operation, twenty_bits, operation_of, zero_refusal}
use Rattle.flat.specs.FlatLookup.{of_kind, flat_lookup}
use Rattle.keccak_tables.proofs.Kept.{Kept}
use Rattle.keccak_tables.proofs.lookup_calls.keccak_tables_lookup_new.Kinds as lookup-new-kinds
use Rattle.keccak_tables.proofs.lookup_calls.keccak_tables_lookup_new.Reads as lookup-new-reads
use Rattle.keccak_tables.proofs.lookup_calls.keccak_tables_lookup_byte_op.Kinds as lookup-byte-op-kinds
use Rattle.keccak_tables.proofs.lookup_calls.keccak_tables_lookup_byte_op.Reads as lookup-byte-op-reads
use Rattle.keccak_tables.proofs.lookup_calls.keccak_tables_lookup_single_byte.Kinds as lookup-single-byte-kinds
use Rattle.keccak_tables.proofs.lookup_calls.keccak_tables_lookup_single_byte.Reads as lookup-single-byte-reads
use Rattle.keccak_tables.proofs.lookup_calls.keccak_tables_lookup_halfword.Kinds as lookup-halfword-kinds
use Rattle.keccak_tables.proofs.lookup_calls.keccak_tables_lookup_halfword.Reads as lookup-halfword-reads
use Rattle.keccak_tables.proofs.lookup_calls.keccak_tables_lookup_zero.Kinds as lookup-zero-kinds
use Rattle.keccak_tables.proofs.lookup_calls.keccak_tables_lookup_zero.Reads as lookup-zero-reads
use Rattle.keccak_tables.proofs.lookup_calls.keccak_tables_lookup_shift_op.Kinds as lookup-shift-op-kinds
use Rattle.keccak_tables.proofs.lookup_calls.keccak_tables_lookup_shift_op.Reads as lookup-shift-op-reads
use Rattle.keccak_tables.proofs.lookup_calls.keccak_tables_lookup_b20.Kinds as lookup-b20-kinds
use Rattle.keccak_tables.proofs.lookup_calls.keccak_tables_lookup_b20.Reads as lookup-b20-reads
use Rattle.std.specs.Prelude.{Ok}

pub record LookupCalls : Type 0 where
  -- lookup_new(kind, x, y, z) → FlatLookup
  pub lookup-new : Kept _ lookup-new-kinds.ps lookup-new-kinds.r lookup-new-reads.Asked lookup-new-reads.Learnt (λ _ lent answer ended.
      let kind = lent.0 in
      let x = lent.1.0 in
      let y = lent.1.1.0 in
      let z = lent.1.1.1.0 in
      answer ≡ flat_lookup (of_kind kind (operation_of (operation (kind_at kind) x y z) (index_refusal z))))
  -- lookup_byte_op(kind, x, y) → FlatLookup
  pub lookup-byte-op : Kept _ lookup-byte-op-kinds.ps lookup-byte-op-kinds.r lookup-byte-op-reads.Asked lookup-byte-op-reads.Learnt (λ _ lent answer ended.
      let kind = lent.0 in
      let x = lent.1.0 in
      let y = lent.1.1.0 in
      answer ≡ flat_lookup (of_kind kind (Ok (operation (kind_at kind) x y 0))))
  -- lookup_single_byte(kind, x) → FlatLookup
  pub lookup-single-byte : Kept _ lookup-single-byte-kinds.ps lookup-single-byte-kinds.r lookup-single-byte-reads.Asked lookup-single-byte-reads.Learnt (λ _ lent answer ended.
      let kind = lent.0 in
      let x = lent.1.0 in
      answer ≡ flat_lookup (of_kind kind (Ok (operation (kind_at kind) x 0 0))))
  -- lookup_halfword(kind, x, y) → FlatLookup
  pub lookup-halfword : Kept _ lookup-halfword-kinds.ps lookup-halfword-kinds.r lookup-halfword-reads.Asked lookup-halfword-reads.Learnt (λ _ lent answer ended.
      let kind = lent.0 in
      let x = lent.1.0 in
      let y = lent.1.1.0 in
      answer ≡ flat_lookup (of_kind kind (Ok (operation (kind_at kind) x y 0))))
  -- lookup_zero(value) → FlatLookup
  pub lookup-zero : Kept _ lookup-zero-kinds.ps lookup-zero-kinds.r lookup-zero-reads.Asked lookup-zero-reads.Learnt (λ _ lent answer ended.
      let value = lent.0 in
      answer ≡ flat_lookup (operation_of (twenty_bits Zero value) (zero_refusal value)))
  -- lookup_shift_op(kind, x, y, z) → FlatLookup
  pub lookup-shift-op : Kept _ lookup-shift-op-kinds.ps lookup-shift-op-kinds.r lookup-shift-op-reads.Asked lookup-shift-op-reads.Learnt (λ _ lent answer ended.
      let kind = lent.0 in
      let x = lent.1.0 in
      let y = lent.1.1.0 in
      let z = lent.1.1.1.0 in
      answer ≡ flat_lookup (of_kind kind (operation_of (operation (kind_at kind) x y z) (index_refusal z))))
  -- lookup_b20(x, y, z) → FlatLookup
  pub lookup-b20 : Kept _ lookup-b20-kinds.ps lookup-b20-kinds.r lookup-b20-reads.Asked lookup-b20-reads.Learnt (λ _ lent answer ended.
      let x = lent.0 in
      let y = lent.1.0 in
      let z = lent.1.1.0 in
      answer ≡ flat_lookup (operation_of (operation IsB20 x y z) (index_refusal z)))

pub lookup-calls : LookupCalls
lookup-calls =
    record {
      lookup-new = record { wants-nothing = λ _ _. tt; tells = λ _ _ _ _ e. e };
      lookup-byte-op = record { wants-nothing = λ _ _. tt; tells = λ _ _ _ _ e. e };
      lookup-single-byte = record { wants-nothing = λ _ _. tt; tells = λ _ _ _ _ e. e };
      lookup-halfword = record { wants-nothing = λ _ _. tt; tells = λ _ _ _ _ e. e };
      lookup-zero = record { wants-nothing = λ _ _. tt; tells = λ _ _ _ _ e. e };
      lookup-shift-op = record { wants-nothing = λ _ _. tt; tells = λ _ _ _ _ e. e };
      lookup-b20 = record { wants-nothing = λ _ _. tt; tells = λ _ _ _ _ e. e };
    }
