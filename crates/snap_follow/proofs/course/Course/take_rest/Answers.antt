use Rattle.snap_follow.proofs.course.Course.take_rest.Goals as goal

pub returns-clause-read : goal.returns-clause-read
returns-clause-read c = rw (← c.replace-line.ensures.value, ← c.deref.ensures.value) c.take_line.ensures.read

pub returns-clause-refused : goal.returns-clause-refused
returns-clause-refused c = rw (← c.replace-line.ensures.value, ← c.deref.ensures.value) c.take_line.ensures.refused
