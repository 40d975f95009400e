use Rattle.std.proofs.Common.{true, sym, ◌∙◌}
use Rattle.snap_words.proofs.shrunk.shrunk_in.Goals as goal

pub returns-else-mapped-clause-both : goal.returns-else-mapped-clause-both
returns-else-mapped-clause-both c = λ asks. sym (c.flag_in-mapped.ensures.given true asks.mapped) ∙ c.if-mapped.false

pub returns-then-mapped-2-clause-both : goal.returns-then-mapped-2-clause-both
returns-then-mapped-2-clause-both c = λ asks. sym (c.flag_in-drawn.ensures.given true asks.drawn) ∙ c.if-drawn.false

pub returns-else-mapped-2-clause-both : goal.returns-else-mapped-2-clause-both
returns-else-mapped-2-clause-both c = λ asks. sym (c.flag_in-drawn.ensures.given true asks.drawn) ∙ c.if-drawn.false
