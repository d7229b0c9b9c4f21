use Rattle.csv_laws.proofs.Written.{read_again}
use Rattle.csv_laws.proofs.plain_records_are_read_back.Goals as goal

pub returns : goal.returns
returns c = read_again
