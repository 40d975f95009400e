use Rattle.std.proofs.Common.{◌≡◌, ◌∙◌, None, ap}
use Rattle.snap_core.specs.Counting.{inner_of}
use Rattle.snap_check.proofs.Runs.{with_text}
use Rattle.snap_runs.specs.Answers.{IsAnswerTo}
use Rattle.snap_runs.specs.declared.question.Question.TheVariants.{Counts}
use Rattle.snap_files.specs.Files.{IsNamedCounts}
use Rattle.snap_names.specs.Said.{named_lines}
use Rattle.snap_files.proofs.page.named_counts.Goals as goal

pub returns-clause-page : goal.returns-clause-page
returns-clause-page g c =
    let limit = c.args.options.limit in
    let name = c.args.name.now in
    let status = c.in_ok-status.status in
    let counts = c.in_ok-status.counts in
    let named : c.in_ok-lines.lines.items ≡ named_lines name counts.items = c.in_ok-lines.ensures ∙ ap (named_lines name) c.deref.ensures.value in
    with_text (λ text. IsAnswerTo (Counts None) limit text status counts.items) (λ text. IsNamedCounts limit name text status c.in_ok-lines.lines.items)
    (g.R.Read.remaining (inner_of c.args.reader.now)) c.in_ok-status.ensures.page (λ text is. (counts.items, is, named))
