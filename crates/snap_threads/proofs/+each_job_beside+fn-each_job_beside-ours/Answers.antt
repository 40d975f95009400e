use Rattle.std.proofs.Common.{rules}
use Rattle.std.proofs.lemmas.Result.{IfOk-at_ok}
use Rattle.snap_threads.proofs.Jobs.{accepts_front, accepts_last, gives_for_all}
use Rattle.snap_threads.proofs.+each_job_beside+fn-each_job_beside-ours.Goals as goal

pub ours-each_job_beside-requires-clause-jobs : goal.ours-each_job_beside-requires-clause-jobs
ours-each_job_beside-requires-clause-jobs g t c κs lives = c.requires.4

pub ours-each_job_beside-requires-clause-own : goal.ours-each_job_beside-requires-clause-own
ours-each_job_beside-requires-clause-own g t c κs lives = c.requires.5

pub returns-in-Ok-push-clause-jobs : goal.returns-in-Ok-push-clause-jobs
returns-in-Ok-push-clause-jobs g t c =
    gives_for_all g.F.Fn c.args.f.now c.args.jobs.items c.pop.new.self.items c.in-Some.last c.in-Some.ensures.items c.in-Ok.all.items c.push.new.self.items c.join-answer.result.0
    c.in-Ok-push.ensures.items (IfOk-at_ok _ c.in-Ok.is c.join-answer.ensures.second.0) c.join-answer.ensures.first

pub join-answer-requires-after_bounds : goal.join-answer-requires-after_bounds
join-answer-requires-after_bounds g t c κs lives =
    let front = accepts_front g.F.Fn c.args.f.now c.args.jobs.items c.pop.new.self.items c.in-Some.last c.in-Some.ensures.items c.requires.jobs in
    let last = accepts_last g.F.Fn c.args.f.now c.args.jobs.items c.pop.new.self.items c.in-Some.last c.in-Some.ensures.items c.requires.jobs in
    (last, (search rules, (λ _ m. m, (λ _ m. m, (λ _ m. m, (λ _ m. m, (λ _ m. m, (λ _ m. m, ((search rules, search rules, search rules, search rules, front, c.requires.own), (search rules, search rules, search rules, search rules))))))))))
