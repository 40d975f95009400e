use Rattle.std.proofs.Common.{◌∙◌, Some, ap, codes, subst, sym}
use Rattle.clap.specs.Words.{found_of}
use Rattle.clap.proofs.WalkLemmas.{first_value-rows}
use Rattle.snap_words.specs.Limits.{SaysWriters}
use Rattle.snap_words.proofs.writers.writers_in.Goals as goal

pub returns-in-Some : goal.returns-in-Some
returns-in-Some c = record {
  given = λ writers said. c.writers_of.ensures.given writers (subst (λ text. SaysWriters text writers) (sym (c.in-Some.ensures ∙ first_value-rows (found_of c.args.matches.now) (codes "writers"))) said);
}

pub returns-in-None : goal.returns-in-None
returns-in-None c = record {
  given = λ writers said. ap Some (sym (subst (λ text. SaysWriters text writers) (sym (c.in-None.ensures ∙ first_value-rows (found_of c.args.matches.now) (codes "writers"))) said));
}
