use Rattle.std.proofs.Common.{ap, ◌∙◌}
use Rattle.csv.specs.Records.{fields_of}
use Rattle.snap_csv.proofs.LookupFacts.{field_more, fields_all}
use Rattle.snap_csv.proofs.records.fields_in.Goals as goal

pub loop-field-preserved : goal.loop-field-preserved
loop-field-preserved c =
    let m = c.loop-field.invariant in
    let (row, field, next) = c.in-Some.ensures.steps in
    record {
      row = ap (λ r. r.now) row ∙ m.row;
      fields = field_more (fields_of c.args.row.now) c.loop-field.field-iterator.at c.next.new.self.at c.in-Some.field.now c.loop-field.fields.items c.push.new.self.items c.in_ok-from_slice.field-0 (rw m.row at field) next m.fields c.in_ok-push.ensures.items c.in_ok-from_slice.ensures.items;
    }

pub returns : goal.returns
returns c =
    let m = c.loop-field.invariant in
    let (row, field, next) = c.in-None.ensures.steps in
    m.fields ∙ fields_all (fields_of c.args.row.now) c.loop-field.field-iterator.at (rw m.row at field)
