-- What a judge of windows has taken.
use Rattle.std.specs.Prelude.{List, ◌++◌, ◌≡◌, ◌↔◌, IsTrue, All}
use Rattle.snap_core.specs.declared.event.Event.{Event}
use Rattle.snap_core.specs.Calls.{calls_of}
use Rattle.snap_core.specs.Bounded.{IsHistoryBy}
use Rattle.snap_core.specs.Events.{EventFits}
use Rattle.snap_core.specs.Regular.{IsRegular}
use Rattle.snap_theory.specs.Renumbered.{renumbered}
use Rattle.snap_theory.specs.Versions.{IsAtomicBy}
use Rattle.snap_theory.specs.Windows.{IsQuiet, left_by}
use Rattle.snap_windows.specs.declared.judge.WindowJudge.{WindowJudge}
use Rattle.snap_windows.specs.Last.{HasLast}
use Rattle.snap_windows.specs.Missed.{EventShowsNoLess}

-- the events of the windows that have ended, and those since. They are a history, and no call was open at the cut
pub record HasTaken (judge : WindowJudge) (before since : List Event) : Type 0 where
  pub history : IsHistoryBy judge.most.writers (before ++ since)
  pub fit : All EventFits since
  pub quiet : IsQuiet before
  pub left : HasLast judge.left before
  pub last : HasLast judge.last (before ++ since)
  pub window : judge.window.events ≡ renumbered (left_by before) since
  pub limit : judge.window.limit ≡ judge.most
  pub shows : IsTrue judge.shows ↔ All (EventShowsNoLess (left_by before)) since
  pub regular : IsTrue judge.regular ↔ IsRegular (calls_of before)
  pub atomic : IsTrue judge.atomic ↔ IsAtomicBy judge.most.writers (calls_of before)
