use Rattle.std.proofs.Common.{Bool, subst}
use Rattle.clap.specs.Words.{found_of, rows_of}
use Rattle.snap_words.specs.Limits.{AsksLimitWith}
use Rattle.snap_words.proofs.option_values.limit_with.Goals as goal

pub returns-then-cut-clause-asked : goal.returns-then-cut-clause-asked
returns-then-cut-clause-asked c = λ limit asks. c.cut_limit_in.ensures.asked limit (subst (λ (cut : Bool). AsksLimitWith cut limit (rows_of (found_of c.args.matches.now))) c.if-cut.true asks)

pub returns-else-cut-clause-asked : goal.returns-else-cut-clause-asked
returns-else-cut-clause-asked c = λ limit asks. c.limit_in.ensures limit (subst (λ (cut : Bool). AsksLimitWith cut limit (rows_of (found_of c.args.matches.now))) c.if-cut.false asks)
