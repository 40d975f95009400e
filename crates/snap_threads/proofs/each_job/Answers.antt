use Rattle.std.proofs.lemmas.Result.{IfOk-at_ok}
use Rattle.snap_threads.proofs.Jobs.{accepts_front, accepts_last, gives_for_all}
use Rattle.snap_threads.proofs.each_job.Goals as goal

pub each_job_beside-others-requires-clause-jobs : goal.each_job_beside-others-requires-clause-jobs
each_job_beside-others-requires-clause-jobs g c κs lives =
    accepts_front g.F.Fn c.args.f.now c.args.jobs.items c.pop.new.self.items c.in-Some.last c.in-Some.ensures.items c.requires

pub each_job_beside-others-requires-clause-own : goal.each_job_beside-others-requires-clause-own
each_job_beside-others-requires-clause-own g c κs lives =
    accepts_last g.F.Fn c.args.f.now c.args.jobs.items c.pop.new.self.items c.in-Some.last c.in-Some.ensures.items c.requires

pub returns : goal.returns
returns g c =
    gives_for_all g.F.Fn c.args.f.now c.args.jobs.items c.pop.new.self.items c.in-Some.last c.in-Some.ensures.items c.in_ok-all.all.items c.push.new.self.items
    c.each_job_beside-others.result.1 c.in_ok-push.ensures.items (IfOk-at_ok _ c.in_ok-all.was c.each_job_beside-others.ensures.jobs) c.each_job_beside-others.ensures.own
