use Rattle.std.proofs.Common.{◌∙◌, ◌++◌, ◌∷◌, [], ◌≡◌, List, Option, ap, subst, sym}
use Rattle.snap_core.specs.declared.event.Event.{Event}
use Rattle.snap_windows.specs.Taken.{HasTaken}
use Rattle.snap_follow.specs.Followed.{IsNext}
use Rattle.snap_follow.specs.Spans.{HasOneMore}
use Rattle.snap_follow.specs.inside.Counts.{CountsOpen}
use Rattle.snap_follow.proofs.Reading.{on_all}
use Rattle.snap_follow.proofs.Steps.{event_read, nothing_more}
use Rattle.snap_follow.proofs.Refusing.{event_refused, on_err}
use Rattle.snap_follow.specs.declared.span.Place.{Place}
use Rattle.snap_follow.specs.Misses.{MissesNext}
use Rattle.snap_core.specs.declared.entry.Entry.{Entry}
use Rattle.snap_windows.specs.declared.judge.WindowJudge.{WindowJudge}
use Rattle.snap_follow.proofs.follow.Follow.take_plain.Goals as goal

misses_as : (j k : WindowJudge) (new : Option (Entry × Place)) (x : Event) {m n : Option (Entry × Place)} {p q : Place} → j ≡ k → m ≡ n → p ≡ q → MissesNext j x m p new → MissesNext k x n q new
misses_as j k new x {m} {n} {p} {q} judge missed place h =
    subst (λ z. MissesNext z x n q new) judge (subst (λ z. MissesNext j x z q new) missed (subst (λ z. MissesNext j x m z new) place h))

pub returns-in-Ok-None-clause-read : goal.returns-in-Ok-None-clause-read
returns-in-Ok-None-clause-read c = nothing_more c.args.self.now _ c.args.line.now c.read_event.ensures.same c.read_event.ensures.kept (rw c.in-Ok-None.field-0-is at c.in-Ok-None.ensures.event)

pub returns-clause-read : goal.returns-clause-read
returns-clause-read c =
    let found = rw c.in-Ok-Some.field-0-is at c.in-Ok-Some.ensures.event in
    let same = c.read_event.ensures.same in
    let still = c.read_event.ensures.kept in
    let rule = c.take_event.ensures.rule in
    let kept = c.take_event.ensures.kept in
    let x = c.in-Ok-Some.event in
    let next = subst (λ p. IsNext p c.take_event.new.self.place) still.4 (subst (IsNext c.read_event.new.self.place) (sym kept.2) c.next_place-self.ensures) in
    on_all c.take_event.result _ _ _ _ _ c.take_event.ensures.taken c.take_event.ensures.counted c.take_event.ensures.span c.take_event.ensures.missed
    (λ taken counts one misses. event_read c.args.self.now c.take_event.new.self c.args.line.now found.0 x c.requires.0 c.requires.1 (kept.0 ∙ still.0) (kept.1 ∙ still.1) (kept.3 ∙ still.2) (kept.4 ∙ still.3) found.1 found.2
    (rule.0 ∙ same.2, rule.1 ∙ ap (λ z. z.most) same.0) next (subst (λ z. CountsOpen z x c.take_event.new.self.open_calls) same.3 counts)
    (subst (λ z. HasOneMore z x c.take_event.new.self.place c.take_event.new.self.span) same.1 (subst (λ z. HasOneMore c.read_event.new.self.span x z c.take_event.new.self.span) (sym kept.2) one))
    (misses_as c.read_event.new.self.judge c.args.self.now.judge c.take_event.new.self.span.missed x same.0 (ap (λ z. z.missed) same.1) (sym kept.2) misses)
    (subst (λ z. (before since : List Event) → HasTaken z before since → HasTaken c.take_event.new.self.judge before (since ++ x ∷ [])) same.0 taken))

pub returns-clause-refused : goal.returns-clause-refused
returns-clause-refused c =
    let found = rw c.in-Ok-Some.field-0-is at c.in-Ok-Some.ensures.event in
    on_err c.take_event.result _ _ c.take_event.ensures.refused
    (λ why refused. event_refused c.args.self.now c.args.line.now why found.0 c.in-Ok-Some.event c.requires.0 found.1 found.2 (rw c.read_event.ensures.same.0 at refused))

pub returns-in-Err-Text-clause-waits : goal.returns-in-Err-Text-clause-waits
returns-in-Err-Text-clause-waits c = (c.refused_next.ensures.0 ∙ c.read_event.ensures.kept.2, c.refused_next.ensures.1 ∙ c.read_event.ensures.late)
