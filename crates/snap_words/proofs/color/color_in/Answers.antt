use Rattle.std.proofs.Common.{◌∙◌, Some, ap, codes, subst, sym}
use Rattle.clap.specs.Words.{found_of}
use Rattle.clap.proofs.WalkLemmas.{first_value-rows}
use Rattle.snap_words.specs.Jobs.{SaysColor}
use Rattle.snap_words.proofs.color.color_in.Goals as goal

pub returns-in-Some : goal.returns-in-Some
returns-in-Some c = record {
  given = λ color said. c.color_of.ensures.given color (subst (λ text. SaysColor text color) (sym (c.in-Some.ensures ∙ first_value-rows (found_of c.args.matches.now) (codes "color"))) said);
}

pub returns-in-None : goal.returns-in-None
returns-in-None c = record {
  given = λ color said. ap Some (sym (subst (λ text. SaysColor text color) (sym (c.in-None.ensures ∙ first_value-rows (found_of c.args.matches.now) (codes "color"))) said));
}
