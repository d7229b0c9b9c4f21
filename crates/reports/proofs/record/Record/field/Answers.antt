use Rattle.csv.specs.Records.{fields_of}
use Rattle.reports.proofs.FieldAt.{there, value_there}
use Rattle.reports.proofs.record.Record.field.Goals as goal

pub unwrap-requires : goal.unwrap-requires
unwrap-requires c =
    there c.get.result (fields_of c.self.inside.row) c.args.k (rw (← c.self.view_is) at c.requires) c.get.ensures.value

pub returns : goal.returns
returns c =
    rw (← c.self.view_is) (value_there c.get.result c.unwrap.result (fields_of c.self.inside.row) c.args.k
    (rw (← c.self.view_is) at c.requires) c.get.ensures.value c.unwrap.ensures)
