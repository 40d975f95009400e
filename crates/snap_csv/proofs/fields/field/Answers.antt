use Rattle.std.proofs.Common.{sym}
use Rattle.csv.specs.Records.{fields_of}
use Rattle.csv.proofs.RecordFacts.{field-there}
use Rattle.snap_csv.proofs.fields.field.Goals as goal

pub unreachable-requires : goal.unreachable-requires
unreachable-requires c = field-there (fields_of c.args.row.now) c.args.place c.requires (sym c.in-None.ensures.value)
