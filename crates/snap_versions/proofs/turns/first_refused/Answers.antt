use Rattle.std.proofs.Common.{◌≡◌, ◌<◌, ◌≤◌, ◌∙◌, None, ap, get_or, length, sym, subst, rules}
use Rattle.std.proofs.lemmas.List.{take_all}
use Rattle.snap_core.specs.Events.{process_of}
use Rattle.snap_versions.specs.inside.Turns.{turn_refusal}
use Rattle.snap_versions.proofs.TurnLoop.{Keeps, all_taken, begun_at, known_from, new_from, refused_turn, refused_version, stays_room, with_version, without_version}
use Rattle.snap_versions.proofs.turns.first_refused.Goals as goal
use Rattle.snap_versions.proofs.turns.first_refused.Goals.{in-Some-version_of+in_ok-insert+else-not-branch, in_default-version_of}

pub returns-in-Some : goal.returns-in-Some
returns-in-Some c =
    let es = c.args.events.now in
    let x = c.index-events-i.result in
    let lt : c.loop-i.i < length es = search rules in
    let room : process_of x < length c.loop-i.begun.items = search rules in
    let begun = begun_at c.loop-i.begun.items c.process-process.result (process_of x) c.index.result.now c.process-process.ensures room c.index.ensures in
    refused_turn c.loop-i.begun.items c.loop-i.versions es c.loop-i.i x c.in-Some.refusal lt c.index-events-i.is c.loop-i.invariant.keeps (ap (λ z. turn_refusal z x) (sym begun) ∙ sym c.turn_refusal.ensures ∙ c.in-Some.is)

pub returns-then-not-branch : goal.returns-then-not-branch
returns-then-not-branch c =
    let es = c.args.events.now in
    let x = c.index-events-i.result in
    let lt : c.loop-i.i < length es = search rules in
    let room : process_of x < length c.loop-i.begun.items = search rules in
    let begun = begun_at c.loop-i.begun.items c.process-process.result (process_of x) c.index.result.now c.process-process.ensures room c.index.ensures in
    let turn : turn_refusal (get_or c.loop-i.begun.items (process_of x) None) x ≡ None = ap (λ z. turn_refusal z x) (sym begun) ∙ sym c.turn_refusal.ensures ∙ c.in_default.is in
    refused_version c.loop-i.begun.items c.loop-i.versions es c.loop-i.i x c.in-Some-version_of.version lt c.index-events-i.is c.loop-i.invariant.keeps c.version_of.ensures.fits turn (sym c.version_of.ensures.version ∙ c.in-Some-version_of.is) (known_from _ _ c.in_ok-insert.ensures.added c.if-not-branch.true)

pub loop-i-preserved : goal.loop-i-preserved
loop-i-preserved c =
    let es = c.args.events.now in
    let x = c.index-events-i.result in
    let lt : c.loop-i.i < length es = search rules in
    let room : process_of x < length c.loop-i.begun.items = search rules in
    let begun = begun_at c.loop-i.begun.items c.process-process.result (process_of x) c.index.result.now c.process-process.ensures room c.index.ensures in
    let turn : turn_refusal (get_or c.loop-i.begun.items (process_of x) None) x ≡ None = ap (λ z. turn_refusal z x) (sym begun) ∙ sym c.turn_refusal.ensures ∙ c.in_default.is in
    record {
      keeps = elim c.match-version_of.branch [
        | in-Some-version_of+in_ok-insert+else-not-branch w ↦
            rw (c.process-process.ensures, c.opened_by.ensures, w.versions-is) (with_version c.loop-i.begun.items c.loop-i.versions w.insert.new.self es c.loop-i.i x w.in-Some-version_of.version lt c.index-events-i.is c.loop-i.invariant.keeps room c.version_of.ensures.fits turn (sym c.version_of.ensures.version ∙ w.in-Some-version_of.is) (new_from _ _ w.in_ok-insert.ensures.added w.if-not-branch.false) w.in_ok-insert.ensures.updates)
        | in_default-version_of w ↦
            rw (c.process-process.ensures, c.opened_by.ensures, w.versions-is) (without_version c.loop-i.begun.items c.loop-i.versions es c.loop-i.i x lt c.index-events-i.is c.loop-i.invariant.keeps room c.version_of.ensures.fits turn (sym c.version_of.ensures.version ∙ w.in_default-version_of.is))
      ];
      room = stays_room c.loop-i.begun.items es c.process-process.result c.opened_by.result c.loop-i.invariant.room;
    }

pub returns : goal.returns
returns c =
    let all : length c.args.events.now ≤ c.loop-i.i = search rules in
    all_taken c.loop-i.begun.items c.loop-i.versions c.args.events.now (subst (Keeps c.loop-i.begun.items c.loop-i.versions) (take_all c.loop-i.i c.args.events.now all) c.loop-i.invariant.keeps)
