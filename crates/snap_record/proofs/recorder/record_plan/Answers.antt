use Rattle.std.proofs.Common.{ℕ, List, length, sym, ap, subst, arith, ◌∙◌}
use Rattle.std.specs.List.Sorted.{IsStrictlyIncreasing}
use Rattle.std.proofs.lemmas.List.{length-map}
use Rattle.snap_record.specs.Recording.{AreStamped}
use Rattle.snap_board.proofs.Stamps.{Stamp}
use Rattle.snap_core.specs.declared.event.Event.{Event}
use Rattle.snap_core.specs.Calls.{calls_of}
use Rattle.snap_core.specs.Orders.{IsAtomic}
use Rattle.snap_core.specs.Monotone.{IsMonotone}
use Rattle.snap_core.specs.Regular.{IsRegular}
use Rattle.snap_board.specs.History.{AllCompleted, event_stamps}
use Rattle.snap_record.specs.Plans.{HasScripts}
use Rattle.snap_record.proofs.Telling.{apart, told_history, told_completed, told_regular, told_monotone, told_atomic, told, told_stamps, stamps_rise, stamped_length}
use Rattle.snap_record.proofs.Planning.{has_scripts}
use Rattle.snap_record.proofs.Placing.{places}
use Rattle.snap_record.proofs.Whole.{whole_scripts, none_interfered}
use Rattle.snap_record.proofs.recorder.record_plan.Goals as goal

pub in_order-requires : goal.in_order-requires
in_order-requires g c = let d = c.in_ok-all.ensures.did in apart c.args.plan.now.scripts c.in_ok-all.all.items c.in_ok-all.interfered d

pub history_of-requires-clause-history : goal.history_of-requires-clause-history
history_of-requires-clause-history g c = let d = c.in_ok-all.ensures.did in told_history c.args.plan.now.scripts c.in_ok-all.all.items c.in_ok-all.interfered d c.in_ok-events.events.items c.in_ok-events.ensures.merged

pub history_of-requires-clause-short : goal.history_of-requires-clause-short
history_of-requires-clause-short g c = omega (arith, c.in_ok-events.ensures.len, c.in_ok-all.ensures.few, c.limit.ensures.short, c.limit.ensures.limit, stamped_length c.in_ok-all.all.items)

pub returns-clause-regular : goal.returns-clause-regular
returns-clause-regular g c = let d = c.in_ok-all.ensures.did in
    subst (λ (es : List Event). IsRegular (calls_of es)) (sym c.in_ok-history.ensures.events) (told_regular c.args.plan.now.scripts c.in_ok-all.all.items c.in_ok-all.interfered d c.in_ok-events.events.items c.in_ok-events.ensures.merged)

pub returns-clause-monotone : goal.returns-clause-monotone
returns-clause-monotone g c = let d = c.in_ok-all.ensures.did in
    subst (λ (es : List Event). IsMonotone (calls_of es)) (sym c.in_ok-history.ensures.events) (told_monotone c.args.plan.now.scripts c.in_ok-all.all.items c.in_ok-all.interfered d c.in_ok-events.events.items c.in_ok-events.ensures.merged)

pub returns-clause-completed : goal.returns-clause-completed
returns-clause-completed g c = let d = c.in_ok-all.ensures.did in
    subst (λ (es : List Event). AllCompleted (calls_of es)) (sym c.in_ok-history.ensures.events) (told_completed c.args.plan.now.scripts c.in_ok-all.all.items c.in_ok-all.interfered d c.in_ok-events.events.items c.in_ok-events.ensures.merged)

pub returns-clause-atomic : goal.returns-clause-atomic
returns-clause-atomic g c none = let d = c.in_ok-all.ensures.did in
    subst (λ (es : List Event). IsAtomic (calls_of es)) (sym c.in_ok-history.ensures.events) (told_atomic c.args.plan.now.scripts c.in_ok-all.all.items c.in_ok-all.interfered d c.in_ok-events.events.items c.in_ok-events.ensures.merged none)

pub returns-clause-scripts : goal.returns-clause-scripts
returns-clause-scripts g c = let d = c.in_ok-all.ensures.did in
    subst (λ (es : List Event). HasScripts c.args.plan.now.scripts es c.in_ok-all.interfered) (sym c.in_ok-history.ensures.events)
    (has_scripts c.args.plan.now.scripts c.in_ok-all.all.items _ c.in_ok-all.interfered (told c.args.plan.now.scripts c.in_ok-all.all.items c.in_ok-all.interfered d c.in_ok-events.events.items c.in_ok-events.ensures.merged) d)

pub returns-clause-whole : goal.returns-clause-whole
returns-clause-whole g c none = whole_scripts c.args.plan.now.scripts c.in_ok-history.history.events c.in_ok-all.interfered (returns-clause-scripts g c) none

pub returns-clause-none_left : goal.returns-clause-none_left
returns-clause-none_left g c none = none_interfered c.args.plan.now.scripts c.in_ok-history.history.events c.in_ok-all.interfered (returns-clause-scripts g c) none

pub returns-clause-stamps : goal.returns-clause-stamps
returns-clause-stamps g c = let d = c.in_ok-all.ensures.did in
    let stamps = c.in_ok-stamps.ensures ∙ ap event_stamps c.deref.ensures.value in
    subst (λ (z : List Event × List ℕ). AreStamped c.args.plan.now.scripts z.0 z.1) (λ i. (sym c.in_ok-history.ensures.events i, sym stamps i))
    (told_stamps c.args.plan.now.scripts c.in_ok-all.all.items c.in_ok-all.interfered d c.in_ok-events.events.items c.in_ok-events.ensures.merged)

pub returns-clause-rising : goal.returns-clause-rising
returns-clause-rising g c =
    subst IsStrictlyIncreasing (sym (c.in_ok-stamps.ensures ∙ ap event_stamps c.deref.ensures.value)) (stamps_rise c.in_ok-events.events.items c.in_ok-events.ensures.merged.stamped)

pub returns-clause-each_stamp : goal.returns-clause-each_stamp
returns-clause-each_stamp g c =
    ap length (c.in_ok-stamps.ensures ∙ ap event_stamps c.deref.ensures.value) ∙ length-map c.in_ok-events.events.items (λ (x : Stamp). x.0)
    ∙ sym (ap length c.in_ok-history.ensures.events ∙ length-map c.in_ok-events.events.items (λ (x : Stamp). x.1))

pub returns-clause-places : goal.returns-clause-places
returns-clause-places g c none = places c.args.plan.now.scripts c.in_ok-history.history.events c.in_ok-stamps.stamps.items (returns-clause-stamps g c) none

pub returns-clause-few : goal.returns-clause-few
returns-clause-few g c =
    let same = ap length c.in_ok-history.ensures.events ∙ length-map c.in_ok-events.events.items (λ (x : Stamp). x.1) in
    omega (arith, same, c.in_ok-events.ensures.len, c.in_ok-all.ensures.few, stamped_length c.in_ok-all.all.items)
