use Rattle.std.proofs.Common.{◌∙◌, false, sym}
use Rattle.snap_words.proofs.command_jobs.follows_alone.Goals as goal

pub returns-then-names_unheeded-clause-asked : goal.returns-then-names_unheeded-clause-asked
returns-then-names_unheeded-clause-asked c = λ limit windows asks. sym (c.if-names_unheeded.ensures ∙ asks.all_heeded)

pub returns-then-flag_in-clause-asked : goal.returns-then-flag_in-clause-asked
returns-then-flag_in-clause-asked c = λ limit windows asks. sym (c.if-flag_in.ensures.given false asks.quiet_is)

pub returns-then-flag_in-2-clause-asked : goal.returns-then-flag_in-2-clause-asked
returns-then-flag_in-2-clause-asked c = λ limit windows asks. sym (c.if-flag_in-2.ensures.given false asks.summary_is)

pub returns-then-flag_in-3-clause-asked : goal.returns-then-flag_in-3-clause-asked
returns-then-flag_in-3-clause-asked c = λ limit windows asks. sym (c.if-flag_in-3.ensures.given false asks.null_is)

pub returns-then-not-is_plain-clause-asked : goal.returns-then-not-is_plain-clause-asked
returns-then-not-is_plain-clause-asked c = λ limit windows asks. c.if-not-is_plain.ensures.plain asks.format_is
