use Rattle.snap_follow.proofs.Taking.{none_followed}
use Rattle.snap_follow.proofs.course.Course.new.Goals as goal

pub returns : goal.returns
returns c = none_followed _ c.args.least c.args.most c.new-3.ensures.items c.new.ensures c.new-2.ensures
