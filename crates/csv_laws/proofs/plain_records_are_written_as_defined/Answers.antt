use Rattle.csv_laws.proofs.Written.{written_is_defined}
use Rattle.csv_laws.proofs.plain_records_are_written_as_defined.Goals as goal

pub returns : goal.returns
returns c = written_is_defined
