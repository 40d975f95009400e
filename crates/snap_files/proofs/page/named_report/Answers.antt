use Rattle.std.proofs.Common.{◌≡◌, ◌∙◌, ap, vec_items}
use Rattle.snap_core.specs.Counting.{inner_of}
use Rattle.snap_check.specs.Options.{IsReportWith}
use Rattle.snap_check.proofs.Runs.{with_text}
use Rattle.snap_files.specs.Files.{IsNamedReport}
use Rattle.snap_names.specs.Said.{named_lines}
use Rattle.snap_files.proofs.Written.{into_memory}
use Rattle.snap_files.proofs.page.named_report.Goals as goal

pub returns-clause-page : goal.returns-clause-page
returns-clause-page g c =
    let options = c.args.options in
    let name = c.args.name.now in
    let status = c.in_ok-status.status in
    let report = c.into_inner-report.result in
    let known = g.R.Read.remaining (inner_of c.args.reader.now) in
    let lines : c.in_ok-lines.lines.items ≡ named_lines name report.items = c.in_ok-lines.ensures ∙ ap (named_lines name) c.deref.ensures.value in
    with_text (λ text. IsReportWith options text status report.items) (λ text. IsNamedReport options name text status c.in_ok-lines.lines.items) known
    (into_memory (IsReportWith options) known status (inner_of c.new-writer.result) (inner_of c.check_run_with.new.writer) report
    (ap vec_items c.new-writer.ensures.inner ∙ c.new.ensures.items) c.into_inner-report.ensures c.in_ok-status.ensures.wrote)
    (λ text is. (report.items, is, lines))
