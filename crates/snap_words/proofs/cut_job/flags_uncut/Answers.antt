use Rattle.std.proofs.Common.{◌≡◌, false, inl, inr, true}
use Rattle.std.proofs.lemmas.Bool.{false≢true}
use Rattle.clap.specs.Words.{found_of, rows_of}
use Rattle.snap_words.specs.Cutting.{FlagsUncut}
use Rattle.snap_words.proofs.cut_job.flags_uncut.Goals.{After-flag_in-3}
use Rattle.snap_words.proofs.cut_job.flags_uncut.Goals as goal

pub returns-then-flag_in-clause-asked : goal.returns-then-flag_in-clause-asked
returns-then-flag_in-clause-asked c = λ limit quiet asks. c.if-flag_in.ensures.given false asks.follow_is

pub returns-then-flag_in-2-clause-asked : goal.returns-then-flag_in-2-clause-asked
returns-then-flag_in-2-clause-asked c = λ limit quiet asks. c.if-flag_in-2.ensures.given false asks.summary_is

pub returns-clause-asked : goal.returns-clause-asked
returns-clause-asked c = λ limit quiet asks. c.flag_in-3.ensures.given false asks.null_is

-- the flags before the last one were not given
found : (c : After-flag_in-3) → FlagsUncut (rows_of (found_of c.args.matches.now)) → c.flag_in-3.result ≡ true
found c (inl follow) = absurd (false≢true (c.if-flag_in.ensures.given true follow))
found c (inr (inl summary)) = absurd (false≢true (c.if-flag_in-2.ensures.given true summary))
found c (inr (inr null)) = c.flag_in-3.ensures.given true null

pub returns-clause-uncut : goal.returns-clause-uncut
returns-clause-uncut c = found c
