use Rattle.std.proofs.Common.{◌≡◌, length}
use Rattle.snap_follow.specs.inside.Courses.{HasWaiting, TakesMore}
use Rattle.snap_follow.proofs.course.Course.take_waiting.Given as goal

abbrev pub invariant-turns : goal.invariant-turns
invariant-turns l = TakesMore l.fn.self l.self × (l.self.rest ≡ l.fn.self.rest) × (HasWaiting l.self.follow → HasWaiting l.fn.self.follow)

abbrev pub decreases-turns : goal.decreases-turns
decreases-turns l = length l.self.follow.waiting.turns.items
