use Rattle.csv_laws.proofs.Plain.{name_plain, number_plain, signed_plain, fraction_plain}
use Rattle.csv_laws.proofs.names_and_numbers_are_plain.Goals as goal

pub returns-clause-name : goal.returns-clause-name
returns-clause-name c = name_plain

pub returns-clause-number : goal.returns-clause-number
returns-clause-number c = number_plain

pub returns-clause-signed : goal.returns-clause-signed
returns-clause-signed c = signed_plain

pub returns-clause-fraction : goal.returns-clause-fraction
returns-clause-fraction c = fraction_plain
