use Rattle.std.proofs.Common.{◌+◌}
use Rattle.std.proofs.lemmas.List.{take_rest}
use Rattle.snap_explain.proofs.MistakeFacts.{cut_first, only_part}
use Rattle.snap_explain.proofs.mistake.first_part.Goals as goal

pub returns-in-Some-clause-parts : goal.returns-in-Some-clause-parts
returns-in-Some-clause-parts c = rw (take_rest c.args.text.now (c.in-Some.at + 1)) (cut_first c.args.mark c.in-Some.at c.args.text.now c.in-Some.ensures)

pub returns-in-None-clause-parts : goal.returns-in-None-clause-parts
returns-in-None-clause-parts c = only_part c.args.mark c.args.text.now c.in-None.ensures
