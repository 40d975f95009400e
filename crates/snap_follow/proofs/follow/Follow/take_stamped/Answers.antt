use Rattle.std.proofs.Common.{◌∙◌, length, refl, subst, sym}
use Rattle.snap_follow.specs.Followed.{RefusesStamp}
use Rattle.snap_follow.proofs.Reading.{on_one}
use Rattle.snap_follow.proofs.Refusing.{on_err, stamped_same}
use Rattle.snap_follow.proofs.Rising.{waits_within}
use Rattle.snap_follow.proofs.Steps.{nothing_more, turn_read}
use Rattle.snap_follow.proofs.follow.Follow.take_stamped.Goals as goal

pub returns-in-Ok-None-clause-read : goal.returns-in-Ok-None-clause-read
returns-in-Ok-None-clause-read c = nothing_more c.args.self.now _ c.args.line.now (refl, refl, refl, refl) (refl, refl, refl, refl, refl) (sym c.in_ok-line.ensures ∙ (rw c.in-Ok-None.field-0-is at c.in-Ok-None.ensures))

pub returns-clause-read : goal.returns-clause-read
returns-clause-read c =
    let found = rw c.in-Ok-Some.field-0-is at c.in-Ok-Some.ensures in
    on_one c.take_turn.result _ _ c.take_turn.ensures.turn
    (λ turn. turn_read c.args.self.now _ c.take_turn.new.self c.args.line.now found.0 c.in-Ok-Some.found.0 c.in-Ok-Some.found.1 c.requires.0 c.requires.1 refl refl refl refl (refl, refl, refl, refl) (sym c.in_ok-line.ensures ∙ found.1) found.2 c.next_place-self.ensures turn)

pub returns-clause-waits : goal.returns-clause-waits
returns-clause-waits c =
    on_one c.take_turn.result _ _ c.take_turn.ensures.waits
    (λ waits. (c.take_turn.ensures.late, waits_within c.args.self.now.late (length c.args.self.now.waiting.turns.items) (length c.take_turn.new.self.waiting.turns.items) waits))

pub returns-clause-stamped : goal.returns-clause-stamped
returns-clause-stamped c =
    let found = rw c.in-Ok-Some.field-0-is at c.in-Ok-Some.ensures in
    let old = c.args.self.now in
    on_err c.take_turn.result _ _ c.take_turn.ensures.refused
    (λ why refused row at x headed form rows is. subst (λ z. RefusesStamp old.given old.waiting.turns.items old.late z why) (stamped_same c.args.line.now found.0 row c.in-Ok-Some.found (at, x) (sym c.in_ok-line.ensures ∙ found.1) found.2 rows is) refused)
