use Rattle.std.proofs.Common.{subst, sym}
use Rattle.snap_follow.specs.inside.Sums.{AddsWindow}
use Rattle.snap_follow.proofs.Telling.{cut_then, none_then}
use Rattle.snap_follow.proofs.course.Course.end_window.Goals as goal

pub returns-in_ok-add_window-clause-ended : goal.returns-in_ok-add_window-clause-ended
returns-in_ok-add_window-clause-ended c =
    λ before added reads same. cut_then before record { follow = c.cut.new.self; answers = c.add_window.new.self; rest = c.args.self.now.rest } c.args.self.now.follow added c.in-Some.window reads (rw c.in-Some.is at c.in_ok-window.ensures.begun) (rw c.in-Some.is at c.in_ok-window.ensures.window)
    (rw c.in-Some.is at c.in_ok-window.ensures.enough) (rw c.in-Some.is at c.in_ok-window.ensures.span) (subst (λ z. AddsWindow z c.add_window.new.self c.in-Some.window) (sym same) c.in_ok-add_window.ensures)

pub returns-in_default-clause-ended : goal.returns-in_default-clause-ended
returns-in_default-clause-ended c = λ before added reads same. none_then before record { follow = c.cut.new.self; answers = c.args.self.now.answers; rest = c.args.self.now.rest } c.args.self.now.follow added reads (rw c.in_default.is at c.in_ok-window.ensures.kept) (sym same) (rw c.in_default.is at c.in_ok-window.ensures.ends)
