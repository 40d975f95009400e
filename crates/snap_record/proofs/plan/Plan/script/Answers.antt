use Rattle.std.proofs.Common.{◌≡◌, [], get_or, length, arith, sym, ap, ◌∙◌}
use Rattle.std.proofs.lemmas.Grind.{common_steps}
use Rattle.snap_record.specs.Plans.{PlanView, plan_refusal, ticks_within, draws_within}
use Rattle.snap_record.proofs.Planning.{accepted, script_short, script_draws}
use Rattle.snap_record.proofs.plan.Plan.script.Goals as goal

pub returns-clause-short : goal.returns-clause-short
returns-clause-short c =
    let is : c.as_slice.result.now ≡ get_or c.args.self.now.scripts c.args.worker [] = grind (arith, common_steps) in
    let plan = accepted c.args.self.now.limit c.args.self.now.scripts (ap (λ (p : PlanView). plan_refusal p.limit (ticks_within p.limit) p.scripts) (sym c.self.view_is) ∙ c.self.invariant) in
    let short = script_short c.args.self.now.scripts c.args.worker in omega (arith, plan.0, short, ap length is, c.self.inside.limit.fits.1, ap (λ (p : PlanView). p.limit) c.self.view_is)

pub returns-clause-room : goal.returns-clause-room
returns-clause-room c =
    let is : c.as_slice.result.now ≡ get_or c.args.self.now.scripts c.args.worker [] = grind (arith, common_steps) in
    let plan = accepted c.args.self.now.limit c.args.self.now.scripts (ap (λ (p : PlanView). plan_refusal p.limit (ticks_within p.limit) p.scripts) (sym c.self.view_is) ∙ c.self.invariant) in
    ap (draws_within (ticks_within c.args.self.now.limit)) is ∙ script_draws (ticks_within c.args.self.now.limit) c.args.self.now.scripts c.args.worker plan.1
