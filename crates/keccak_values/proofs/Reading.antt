-- The call for a core row's values reads of the lent row its columns only.
use Rattle.tuple.specs.Values.{RestNotRead}
use Rattle.tuple.proofs.Values.{values-rest}
use Rattle.keccak.specs.Columns.{NUM-COLUMNS}
use Rattle.keccak.specs.Values.{NUM-VALUES, core_value}
use Rattle.keccak.proofs.Reading.{value-reads}

pub rest-not-read : RestNotRead NUM-COLUMNS NUM-VALUES core_value
rest-not-read = values-rest NUM-COLUMNS NUM-VALUES core_value value-reads
