use Rattle.std.proofs.Common.{◌≢◌, ◌∙◌}
use Rattle.csv.specs.Writing.{default_writer}
use Rattle.csv.specs.declared.writer.QuoteStyle.TheVariants as style
use Rattle.snap_csv.proofs.writing.write_record.Goals as goal

pub returns : goal.returns
returns c = λ text h.
    let plain : default_writer.style ≢ style.NonNumeric = λ e. cc e in
    let more = c.in-Ok.ensures.bytes h.fields h.clean (rw h.setup plain) in
    record {
      fields = c.in-Ok.ensures.ended;
      clean = c.in-Ok.ensures.clean;
      setup = c.in-Ok.ensures.setup ∙ h.setup;
      bytes = rw (h.setup, h.bytes) at more;
    }
