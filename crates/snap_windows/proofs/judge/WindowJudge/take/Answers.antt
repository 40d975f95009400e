use Rattle.std.proofs.Common.{◌≡◌, ◌∙◌, ◌++◌, ◌∷◌, [], Option, None, Some, length, sym, ap, refl, inl, inr, rules, arith, subst}
use Rattle.std.proofs.lemmas.List.{length-map}
use Rattle.snap_core.specs.declared.history.EventRefusal.{EventRefusal}
use Rattle.snap_core.specs.Refusals.{IsAcceptedBy, refusal_of}
use Rattle.snap_theory.specs.Windows.{left_by}
use Rattle.snap_theory.specs.Renumbered.{renumbered_event}
use Rattle.snap_windows.proofs.Left.{left_is_last}
use Rattle.snap_windows.proofs.Missing.{shows_on}
use Rattle.snap_windows.proofs.More.{known, more, single_writer}
use Rattle.snap_windows.proofs.Refused.{IsFree, free, full, refused_for_length}
use Rattle.snap_windows.proofs.Taking.{accepted_back}
use Rattle.snap_windows.proofs.judge.WindowJudge.take.Goals as goal

none_of : (o : Option EventRefusal) → ((why : EventRefusal) → o ≡ Some why → ⊥) → o ≡ None
none_of None n = refl
none_of (Some why) n = absurd (n why refl)

pub returns-in-Some-clause-refused : goal.returns-in-Some-clause-refused
returns-in-Some-clause-refused c = λ before since h whole.
    let judge = c.args.self.now in
    let x = c.args.event.now in
    let is = known judge before since x c.in-Ok.renumbered h c.in-Ok.ensures in
    let both = accepted_back judge.most.writers before since x h.quiet whole in
    let found = sym (c.refusal.ensures before h.left (single_writer judge before since h) h.limit) ∙ c.in-Some.is in
    let accepted : IsAcceptedBy judge.most.writers judge.window.events c.in-Ok.renumbered = rw (h.window, is) both.0 in
    inl (refused_for_length judge.most judge.window.events c.in-Ok.renumbered before x c.in-Some.refusal accepted both.1 found)

pub returns-in-Some-clause-most : goal.returns-in-Some-clause-most
returns-in-Some-clause-most c = λ before since h why.
    let judge = c.args.self.now in
    let found = sym (c.refusal.ensures before h.left (single_writer judge before since h) h.limit) ∙ c.in-Some.is ∙ ap Some why in
    let long = full judge.most judge.window.events c.in-Ok.renumbered before c.args.event.now found in
    omega (arith, long, ap length h.window ∙ length-map _ _)

pub returns-in-Err-clause-refused : goal.returns-in-Err-clause-refused
returns-in-Err-clause-refused c = λ before since h whole.
    let judge = c.args.self.now in
    let none = none_of c.refusal.result c.in_default-refusal.not-Some in
    let found = sym (c.refusal.ensures before h.left (single_writer judge before since h) h.limit) ∙ none in
    let f = free judge.most judge.window.events c.in-Ok.renumbered before c.args.event.now found in
    elim c.in-Err.ensures.reason [
      | inl q ↦ absurd (let g = sym (subst (λ l. refusal_of l judge.window.events c.in-Ok.renumbered ≡ None) (sym h.limit) f.none) ∙ q in cc)
      | inr m ↦ inr m
    ]

pub returns-in-Err-clause-most : goal.returns-in-Err-clause-most
returns-in-Err-clause-most c = λ before since h why.
    let judge = c.args.self.now in
    let none = none_of c.refusal.result c.in_default-refusal.not-Some in
    let found = sym (c.refusal.ensures before h.left (single_writer judge before since h) h.limit) ∙ none in
    let f = free judge.most judge.window.events c.in-Ok.renumbered before c.args.event.now found in
    elim c.in-Err.ensures.reason [
      | inl q ↦ absurd (let g = sym (subst (λ l. refusal_of l judge.window.events c.in-Ok.renumbered ≡ None) (sym h.limit) f.none) ∙ q in cc)
      | inr m ↦ absurd (let g = sym m ∙ why in cc)
    ]

pub returns-clause-missed : goal.returns-clause-missed
returns-clause-missed c = λ before since h. c.missed_by-missed.ensures (left_by before) (left_is_last c.args.self.now.left before h.left)

pub returns-clause-taken : goal.returns-clause-taken
returns-clause-taken c = λ before since h.
    let judge = c.args.self.now in
    let x = c.args.event.now in
    let is = known judge before since x c.in-Ok.renumbered h c.in-Ok.ensures in
    let none = none_of c.refusal.result c.in_default-refusal.not-Some in
    let found = sym (c.refusal.ensures before h.left (single_writer judge before since h) h.limit) ∙ none in
    let f : IsFree judge.most judge.window.events (renumbered_event (left_by before) x) before x = rw (← is) (free judge.most judge.window.events c.in-Ok.renumbered before x found) in
    let pushed : c.push.new.self.events ≡ judge.window.events ++ renumbered_event (left_by before) x ∷ [] = search (is, rules) in
    let missed = c.missed_by-missed.ensures (left_by before) (left_is_last judge.left before h.left) in
    more judge c.note.new.last c.push.new.self _ before since x h f c.fits.ensures (c.note.ensures (before ++ since) h.last) pushed c.in_default-push.ensures.limit
    (shows_on (left_by before) x c.missed_by-missed.result judge.shows c.is_none.result (sym c.is_none.ensures) missed)
