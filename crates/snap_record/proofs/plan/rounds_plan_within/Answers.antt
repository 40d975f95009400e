use Rattle.std.proofs.Common.{sym, ap, ◌∙◌, rules}
use Rattle.std.proofs.lemmas.Result.{IfErr-weaker}
use Rattle.snap_record.specs.Plans.{plan_refusal, ticks_within}
use Rattle.snap_record.proofs.Planning.{rounds_fit, none_some}
use Rattle.snap_record.proofs.plan.rounds_plan_within.Goals as goal

pub returns-in-Ok-clause-refused : goal.returns-in-Ok-clause-refused
returns-in-Ok-clause-refused c = IfErr-weaker c.with_limit.result _ _ (λ e h. absurd (none_some e (sym (ap (plan_refusal c.args.limit.events (ticks_within c.args.limit.events)) c.in-Ok.ensures ∙ rounds_fit c.args.limit.events c.args.scan c.args.workers c.args.rounds (search rules) (search rules)) ∙ h))) c.with_limit.ensures.refused
