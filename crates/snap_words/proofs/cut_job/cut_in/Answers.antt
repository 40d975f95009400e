use Rattle.std.proofs.Common.{◌∙◌, sym}
use Rattle.std.proofs.lemmas.Bool.{false≢true}
use Rattle.snap_words.proofs.cut_job.cut_in.Goals as goal

pub returns-then-not-cuts_alone-clause-asked : goal.returns-then-not-cuts_alone-clause-asked
returns-then-not-cuts_alone-clause-asked c = λ limit quiet asks. false≢true (sym c.if-not-cuts_alone.true ∙ c.cuts_alone.ensures.asked limit quiet asks)
