use Rattle.std.proofs.Common.{◌≡◌, ◌+◌, [], ◌∷◌, ◌++◌, length, length-append, rules, arith, subst}
use Rattle.std.specs.Prelude.{IfOk}
use Rattle.std.proofs.lemmas.Result.{IfOk-weaker}
use Rattle.snap_record.specs.inside.Workers.{HaveRun, IsTakenOf}
use Rattle.snap_record.proofs.Running.{unused_last, unused_front, have_run, run_push, one_behind}
use Rattle.snap_record.proofs.recorder.run_all.Goals as goal

pub returns-clause-count : goal.returns-clause-count
returns-clause-count g c =
    let others = c.pop.new.self.items in
    let size : length c.args.workers.items ≡ length others + 1 = search rules in
    let own = c.each_job_beside-others.result.1.0 in
    one_behind (λ v. v.items) (λ r. r.0.items) (λ rans. length rans ≡ length c.args.plan.now.scripts) own c.each_job_beside-others.result.0 c.all_done.result
    (IfOk-weaker c.each_job_beside-others.result.0 _ _ (λ v answers. omega (arith, size, c.requires.count, answers.len, length-append v.items (own ∷ []))) c.each_job_beside-others.ensures.jobs)
    c.all_done.ensures.ran

pub returns-clause-ran : goal.returns-clause-ran
returns-clause-ran g c =
    let r = c.args.recorder.now in let scripts = c.args.plan.now.scripts in
    let own = c.each_job_beside-others.result.1.0 in
    let first = c.in-Some.first in
    let others = c.pop.new.self.items in
    let is : c.args.workers.items ≡ others ++ first ∷ [] = search rules in
    let last = unused_last r (length scripts) c.args.workers.items others first c.requires.unused is in
    let front = unused_front r (length scripts) c.args.workers.items others first c.requires.unused is in
    one_behind (λ v. v.items) (λ r. r.0.items) (HaveRun r scripts) own c.each_job_beside-others.result.0 c.all_done.result
    (IfOk-weaker c.each_job_beside-others.result.0 _ _
    (λ v answers. run_push r scripts v.items own first.desk.desk
    (have_run r scripts others v.items front answers.len (λ k x lt. let a = answers.each k x lt in (a.job, a.job_is, a.call.met)))
    c.each_job_beside-others.ensures.own.0 (omega (arith, last.2, answers.len)))
    c.each_job_beside-others.ensures.jobs)
    c.all_done.ensures.ran

pub returns-clause-taken : goal.returns-clause-taken
returns-clause-taken g c =
    IfOk-weaker c.all_done.result _ _ (λ r same. subst (λ taken. IfOk taken (IsTakenOf c.args.recorder.now.relay)) same c.each_job_beside-others.ensures.own.1) c.all_done.ensures.taken
