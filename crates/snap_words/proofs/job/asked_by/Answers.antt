use Rattle.std.proofs.Common.{refl, sym}
use Rattle.std.proofs.lemmas.Bool.{false≢true}
use Rattle.clap.specs.Words.{found_of, rows_of}
use Rattle.snap_words.proofs.Finding.{command_found, finds_named, gives_more}
use Rattle.snap_words.proofs.Rows.{rows_found}
use Rattle.snap_words.proofs.job.asked_by.Goals as goal

pub returns-in-Some-job_in-clause-asked : goal.returns-in-Some-job_in-clause-asked
returns-in-Some-job_in-clause-asked c = λ command rows named.
    gives_more command rows _ _ _ _ (λ Is is. is) (λ none. absurd (false≢true (sym none)))
    (finds_named c.in-Some.name.now command (rows_of (found_of c.in-Some.inner.now)) rows _ _
    (command_found _ c.in-Some.name.now command rows c.in-Some.ensures.name named) (rows_found _ rows command _ c.in-Some.ensures.rows named)
    c.in-Some-job_in.ensures.asked)

-- no job was found, so the rows ask for none
pub returns-in_ok-usage_of-in-None-clause-asked : goal.returns-in_ok-usage_of-in-None-clause-asked
returns-in_ok-usage_of-in-None-clause-asked c = λ command rows named.
    gives_more command rows _ _ _ _ (λ Is is. absurd is) (λ none. refl)
    (finds_named c.in-Some.name.now command (rows_of (found_of c.in-Some.inner.now)) rows _ _
    (command_found _ c.in-Some.name.now command rows c.in-Some.ensures.name named) (rows_found _ rows command _ c.in-Some.ensures.rows named)
    c.in-None.ensures.asked)
