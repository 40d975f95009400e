use Rattle.std.proofs.Common.{◌↔◌, subst}
use Rattle.std.specs.Prelude.{IsTrue}
use Rattle.snap_core.specs.Calls.{calls_of}
use Rattle.snap_theory.specs.Versions.{IsAtomicBy}
use Rattle.snap_windows.specs.Verdicts.{IsVerdict}
use Rattle.snap_follow.proofs.follow.Follow.finish.Goals as goal

pub returns-clause-window : goal.returns-clause-window
returns-clause-window c = λ least most texts lines events h. subst (λ l. IsVerdict l.writers c.in_ok-verdict.verdict h.before h.since) h.most_is (c.in_ok-verdict.ensures.window h.before h.since h.taken)

pub returns-clause-atomic : goal.returns-clause-atomic
returns-clause-atomic c = λ least most texts lines events h.
    subst (λ l. IsTrue c.in_ok-verdict.whole.atomic ↔ IsAtomicBy l.writers (calls_of events)) h.most_is (rw h.windows (c.in_ok-verdict.ensures.atomic h.before h.since h.taken))

pub returns-clause-regular : goal.returns-clause-regular
returns-clause-regular c = λ least most texts lines events h. rw h.windows (c.in_ok-verdict.ensures.regular h.before h.since h.taken)
