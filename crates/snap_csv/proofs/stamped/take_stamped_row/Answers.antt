use Rattle.std.proofs.Common.{refl}
use Rattle.csv.specs.Records.{fields_of}
use Rattle.snap_format.proofs.StampFacts.{row_short}
use Rattle.snap_csv.proofs.stamped.take_stamped_row.Goals as goal

pub returns-in_default : goal.returns-in_default
returns-in_default c = (refl, (refl, row_short c.args.limit _ _ (fields_of c.args.row.now) c.in_default.ensures))
