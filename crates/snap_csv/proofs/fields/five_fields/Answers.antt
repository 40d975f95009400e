use Rattle.csv.specs.Records.{fields_of}
use Rattle.snap_csv.proofs.FieldFacts.{five}
use Rattle.std.proofs.Common.{sym, ◌∙◌}
use Rattle.snap_csv.proofs.fields.five_fields.Goals as goal

pub returns : goal.returns
returns c = five (fields_of c.args.row.now) _ _ _ _ _ (sym c.len.ensures ∙ c.if-len-ne5.false) c.field.ensures c.field-2.ensures c.field-3.ensures c.field-4.ensures c.field-5.ensures
