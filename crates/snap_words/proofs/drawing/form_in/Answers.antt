use Rattle.std.proofs.Common.{rules}
use Rattle.snap_words.proofs.drawing.form_in.Goals as goal

pub returns-then-text-2 : goal.returns-then-text-2
returns-then-text-2 c = search rules
