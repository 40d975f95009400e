use Rattle.snap_follow.proofs.Refusing.{lack_by}
use Rattle.snap_follow.proofs.follow.Follow.take_event.Goals as goal

pub returns-in-Err-clause-refused : goal.returns-in-Err-clause-refused
returns-in-Err-clause-refused c = λ before since taken history. rw c.ended_by_refusal.ensures (lack_by c.args.self.now.judge since c.args.place c.in-Err.refusal (c.in-Err.ensures.refused before since taken history) (c.in-Err.ensures.most before since taken))
