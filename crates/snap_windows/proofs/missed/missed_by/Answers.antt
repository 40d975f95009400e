use Rattle.snap_windows.proofs.missed.missed_by.Goals as goal

pub returns-in-EndView : goal.returns-in-EndView
returns-in-EndView c = λ f h. rw c.in-EndView.is (c.missed.ensures f h)
