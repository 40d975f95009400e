use Rattle.snap_theory.proofs.SameEvents.{same_events_make_same_calls}
use Rattle.snap_theory.proofs.Processes.{processes_do_not_matter}
use Rattle.snap_theory.proofs.process_laws.processes_do_not_matter.Goals as goal

pub returns-clause-judged : goal.returns-clause-judged
returns-clause-judged c = processes_do_not_matter

pub returns-clause-calls : goal.returns-clause-calls
returns-clause-calls c = same_events_make_same_calls
