use Rattle.std.proofs.Common.{◌≡◌, arith, refl, subst, sym}
use Rattle.snap_follow.specs.Followed.{HasRead}
use Rattle.snap_theory.specs.Windows.{IsQuiet}
use Rattle.snap_windows.specs.Verdicts.{IsVerdict}
use Rattle.snap_follow.proofs.Opening.{none_open}
use Rattle.snap_follow.proofs.Reading.{read_well_formed, window_ended}
use Rattle.snap_follow.proofs.follow.Follow.cut.Goals.{then-self-gt0-via-then-self-gt0, then-self-gt0-via-else-self-gt0+then-len-self}
use Rattle.snap_follow.proofs.follow.Follow.cut.Goals as goal

pub returns-clause-window : goal.returns-clause-window
returns-clause-window c = λ least most texts lines events h. subst (λ l. IsVerdict l.writers c.in-Some.verdict h.before h.since) h.most_is ((rw c.in-Some.is at c.in_ok-verdict.ensures.window) h.before h.since h.taken)

pub returns-clause-same : goal.returns-clause-same
returns-clause-same c = λ least most texts lines events h. (window_ended c.args.self.now _ refl refl refl refl refl c.behind-self.ensures.none c.behind-self.ensures.missed (refl, c.cut.ensures.limit) refl (rw c.in-Some.is at c.in_ok-verdict.ensures.cut) least most texts lines events h).0

pub returns-clause-begun : goal.returns-clause-begun
returns-clause-begun c = window_ended c.args.self.now _ refl refl refl refl refl c.behind-self.ensures.none c.behind-self.ensures.missed (refl, c.cut.ensures.limit) refl (rw c.in-Some.is at c.in_ok-verdict.ensures.cut)

pub returns-then-self-gt0-clause-ends : goal.returns-then-self-gt0-clause-ends
returns-then-self-gt0-clause-ends c = λ least most texts lines events h quiet.
    let none = none_open events (read_well_formed c.args.self.now h) quiet in
    elim c.then-self-gt0.branch [
      | then-self-gt0-via-then-self-gt0 w ↦ omega (arith, none, h.opened)
      | then-self-gt0-via-else-self-gt0+then-len-self w ↦ omega (arith, w.len.ensures h.before h.since h.taken, h.least_is)
    ]

pub returns-in_default-clause-ends : goal.returns-in_default-clause-ends
returns-in_default-clause-ends c = λ least most texts lines events h quiet. absurd ((rw c.in_default.is at c.in_ok-verdict.ensures.open) h.before h.since h.taken (subst IsQuiet h.windows quiet))

pub returns-clause-enough : goal.returns-clause-enough
returns-clause-enough c = λ least most texts lines events h. omega (arith, c.if-len-self.false, c.len.ensures h.before h.since h.taken, h.least_is)

pub returns-in_default-clause-kept : goal.returns-in_default-clause-kept
returns-in_default-clause-kept c =
    let same : c.cut.new.self ≡ c.args.self.now.judge = rw c.in_default.is at c.in_ok-verdict.ensures.kept in
    rw same refl

pub returns-in_default-clause-same : goal.returns-in_default-clause-same
returns-in_default-clause-same c = λ least most texts lines events h. subst (λ z. HasRead z least most texts lines events) (sym (returns-in_default-clause-kept c)) h
