use Rattle.std.proofs.Common.{[], refl, ◌∙◌}
use Rattle.snap_csv.specs.Writing.{Holds}
use Rattle.snap_csv.proofs.writing.begin_with.Goals as goal

pub returns : goal.returns
returns c =
    let from = c.from_writer-writer.ensures in
    let start : Holds c.from_writer-writer.result [] = record {
      fields = from.fields;
      clean = from.wrote;
      setup = from.cfg ∙ c.new.ensures;
      bytes = rw (from.wtr, from.empty, c.new-2.ensures.items) refl;
    } in
    c.in_ok-write_record.ensures [] start
