use Rattle.snap_follow.proofs.Statuses.{status_says}
use Rattle.snap_follow.proofs.Telling.{all_told}
use Rattle.snap_follow.proofs.course.Course.finish.Goals as goal

pub returns-clause-status : goal.returns-clause-status
returns-clause-status c = λ least most texts lines events h. status_says most.writers events _ _ c.status_of.ensures (c.in_ok-window.ensures.regular least most texts lines events h) (c.in_ok-window.ensures.atomic least most texts lines events h)

pub returns-clause-told : goal.returns-clause-told
returns-clause-told c = all_told c.args.self.follow c.args.self.answers c.add_last.new.self c.in_ok-window.window c.in_ok-window.ensures.span c.in_ok-window.ensures.window c.in_ok-add_last.ensures
