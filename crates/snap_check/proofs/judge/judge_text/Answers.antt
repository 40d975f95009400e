use Rattle.std.proofs.Common.{IfOk, Err, List, Ok, Result, ℕ}
use Rattle.std.specs.Global.{Vec}
use Rattle.snap_core.specs.Bounded.{IsHistoryBy}
use Rattle.snap_core.specs.declared.event.Event.{Event}
use Rattle.snap_core.specs.declared.limit.Limit.{Limit}
use Rattle.snap_core.specs.declared.writers.Writers.{Writers}
use Rattle.snap_format.proofs.Histories.{text_kept}
use Rattle.snap_format.specs.Texts.{IsText}
use Rattle.snap_check.specs.Reports.{IsReport}
use Rattle.snap_check.specs.Verdicts.{IsVerdict}
use Rattle.snap_check.specs.declared.status.Status.{Status}
use Rattle.snap_check.proofs.Runs.{judged}
use Rattle.snap_check.proofs.judge.judge_text.Goals as goal

-- the verdict on a text's history is the report of the text
reported : {E : Type 0} (limit : Limit) (text : List ℕ) (events : List Event) (result : Result (Status × Vec ℕ) E) → IsText limit text events
    → IfOk result (λ answer. (writers : Writers) → IsHistoryBy writers events → IsVerdict writers events answer.0 answer.1.items)
    → IfOk result (λ answer. IsReport limit text answer.0 answer.1.items)
reported limit text events (Ok answer) is verdict = judged limit text events answer.0 answer.1.items is (verdict limit.writers (text_kept limit text events is).history)
reported limit text events (Err fault) is verdict = tt

pub returns-in-Ok : goal.returns-in-Ok
returns-in-Ok c = reported c.args.limit c.args.text.now c.in-Ok.history.events c.verdict_in.result c.in-Ok.ensures.text c.verdict_in.ensures
