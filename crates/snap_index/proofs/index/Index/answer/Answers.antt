use Rattle.std.proofs.Common.{sym, ap, ◌∙◌}
use Rattle.std.specs.Option.{option_copied}
use Rattle.snap_index.specs.declared.call.Call.{Call}
use Rattle.snap_index.specs.Answered.{answered_at}
use Rattle.snap_index.proofs.Ends.{call_answer}
use Rattle.snap_index.proofs.LookUps.{seen}
use Rattle.snap_index.proofs.index.Index.answer.Goals as goal

pub returns : goal.returns
returns g c =
    let h = (seen _ _ _ _ _ _ c.self.view_is c.self.invariant).kept.history in
    let call = sym c.call.ensures ∙ ap (option_copied {T = Call}) c.in_ok-call.was in
    c.answered.ensures ∙ ap (λ es. answered_at es c.in_ok-call.field-0.now.ended) (c.events.ensures.events ∙ c.self.view_is) ∙ call_answer c.args.self.now h c.args.c _ call
