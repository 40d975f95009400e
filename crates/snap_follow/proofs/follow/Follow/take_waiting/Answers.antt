use Rattle.std.proofs.Common.{◌≡◌, ◌∷◌, refl, subst, sym}
use Rattle.snap_follow.proofs.Reading.{on_all}
use Rattle.snap_follow.proofs.Steps.{first_taken, nothing_taken}
use Rattle.snap_follow.proofs.follow.Follow.take_waiting.Goals as goal

pub returns-in_default-clause-taken : goal.returns-in_default-clause-taken
returns-in_default-clause-taken c = nothing_taken c.args.self.now _ (refl, refl, refl, refl) (refl, refl, c.in_default.ensures.1, refl, refl)

pub returns-clause-taken : goal.returns-clause-taken
returns-clause-taken c =
    let kept = c.take_event.ensures.kept in
    on_all c.take_event.result _ _ _ _ _ c.take_event.ensures.taken c.take_event.ensures.counted c.take_event.ensures.span c.take_event.ensures.missed
    (λ taken counts one misses. first_taken c.args.self.now c.take_event.new.self c.in-Some.turn kept.0 kept.1 kept.2
    (subst (λ z. c.args.self.now.waiting.turns.items ≡ c.in-Some.turn ∷ z.turns.items) (sym kept.3) c.in-Some.ensures) kept.4 c.take_event.ensures.rule counts one misses taken)
