use Rattle.std.proofs.Common.{false, true, sym}
use Rattle.std.proofs.lemmas.Bool.{false≢true}
use Rattle.snap_words.proofs.command_jobs.judged_in.Goals as goal

pub returns-then-flag_in-clause-check : goal.returns-then-flag_in-clause-check
returns-then-flag_in-clause-check c = λ asked asks. absurd (false≢true (sym (c.if-flag_in.ensures.given false asks.cut_is)))

pub returns-then-flag_in-clause-follow : goal.returns-then-flag_in-clause-follow
returns-then-flag_in-clause-follow c = λ limit windows asks. absurd (false≢true (sym (c.if-flag_in.ensures.given false asks.cut_is)))

pub returns-then-flag_in-2-clause-unfollowed : goal.returns-then-flag_in-2-clause-unfollowed
returns-then-flag_in-2-clause-unfollowed c = λ lacks. absurd (false≢true (sym (c.if-flag_in-2.ensures.given false lacks.no_follow)))

pub returns-then-flag_in-2-clause-uncut : goal.returns-then-flag_in-2-clause-uncut
returns-then-flag_in-2-clause-uncut c = λ asks. absurd (false≢true (c.if-flag_in.ensures.given true asks.cut_is))

pub returns-else-flag_in-2-clause-follow : goal.returns-else-flag_in-2-clause-follow
returns-else-flag_in-2-clause-follow c = λ limit windows asks. absurd (false≢true (c.if-flag_in-2.ensures.given true asks.follow_is))

pub returns-else-flag_in-2-clause-cut : goal.returns-else-flag_in-2-clause-cut
returns-else-flag_in-2-clause-cut c = λ limit quiet asks. absurd (false≢true (c.if-flag_in.ensures.given true asks.cut_is))

pub returns-else-flag_in-2-clause-unheeded : goal.returns-else-flag_in-2-clause-unheeded
returns-else-flag_in-2-clause-unheeded c = λ asks. absurd (false≢true (c.if-flag_in-2.ensures.given true asks.followed))

pub returns-else-flag_in-2-clause-uncut : goal.returns-else-flag_in-2-clause-uncut
returns-else-flag_in-2-clause-uncut c = λ asks. absurd (false≢true (c.if-flag_in.ensures.given true asks.cut_is))
