use Rattle.snap_theory.proofs.Histories.{choice_keeps_calls}
use Rattle.snap_theory.proofs.witness_laws.choices_keep_calls.Goals as goal

pub returns : goal.returns
returns c = choice_keeps_calls
