use Rattle.std.proofs.Common.{inr}
use Rattle.snap_format.proofs.Histories.{text_kept}
use Rattle.snap_check.specs.Options.{IsReportWith}
use Rattle.snap_check.proofs.Runs.{from_history}
use Rattle.snap_check.proofs.check.judge.Goals as goal

pub returns-in_ok-verdict-in-History-clause-answer : goal.returns-in_ok-verdict-in-History-clause-answer
returns-in_ok-verdict-in-History-clause-answer g c =
    let options = c.args.checking.now.options in
    let answer = c.in_ok-verdict-in-History.field-0 in
    from_history options.limit (λ text. IsReportWith options text answer.0 answer.1.items) _ c.in_ok-history.field-0 c.in-History.history c.in_ok-history.ensures.text c.in-History.is
    (λ text is. inr (record {
      events = c.in-History.history.events;
      history = is;
      verdict = c.in_ok-verdict-in-History.ensures.by_writers options.limit.writers (text_kept options.limit text c.in-History.history.events is).history;
    }))
