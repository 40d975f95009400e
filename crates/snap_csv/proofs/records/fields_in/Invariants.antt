use Rattle.std.proofs.Common.{◌≡◌, map, take}
use Rattle.csv.specs.Records.{fields_of}
use Rattle.snap_csv.proofs.records.fields_in.Given as goal

abbrev pub invariant-loop-field : goal.invariant-loop-field
invariant-loop-field l = record {
  row : l.field-iterator.row.now ≡ l.row;
  fields : map (λ f. f.items) l.fields.items ≡ take l.field-iterator.at (fields_of l.row);
}
