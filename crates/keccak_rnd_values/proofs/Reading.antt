-- The call for a round row's values reads of the lent row its columns only.
use Rattle.tuple.specs.Values.{RestNotRead}
use Rattle.tuple.proofs.Values.{values-rest}
use Rattle.keccak_rnd.specs.Columns.{NUM-COLUMNS}
use Rattle.keccak_rnd.specs.Values.{NUM-VALUES, round_value}
use Rattle.keccak_rnd.proofs.Reading.{value-reads}

pub rest-not-read : RestNotRead NUM-COLUMNS NUM-VALUES round_value
rest-not-read = values-rest NUM-COLUMNS NUM-VALUES round_value value-reads
