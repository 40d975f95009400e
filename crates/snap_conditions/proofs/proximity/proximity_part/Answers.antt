use Rattle.snap_conditions.proofs.Limits.{near_rest}
use Rattle.std.proofs.Common.{◌-◌, ◌<◌, ◌≡◌, ◌||◌, get_or, sym, ap, ◌∙◌, arith}
use Rattle.std.proofs.lemmas.List.FromFn.{get_or-range_with_len}
use Rattle.snap_core.specs.Calls.{calls_of}
use Rattle.snap_theory.specs.Faults.{old_fault, early_fault, components}
use Rattle.snap_conditions.specs.PartValue.{PartValue}
use Rattle.snap_conditions.specs.declared.fault.ProximityFault.{ProximityFault}
use Rattle.snap_views.specs.Seen.{view_in}
use Rattle.snap_conditions.specs.Tally.{reported_proximity}
use Rattle.snap_conditions.proofs.Finds.{proximity_at}
use Rattle.snap_conditions.proofs.Parts.{next_noted}
use Rattle.snap_conditions.proofs.OneView.{proximity_alone, found_few}
use Rattle.snap_core.specs.Calls.{is_before}
use Rattle.snap_index.specs.declared.call.Call.{Call as IndexedCall}
use Rattle.snap_conditions.proofs.Surrounded.{none_near}
use Rattle.snap_conditions.proofs.proximity.proximity_part.Goals as goal

pub note-part-requires : goal.note-part-requires
note-part-requires g c =
    let calls = calls_of c.args.index.now in
    let r = view_in calls c.args.place in
    let count = ap (λ (p : PartValue ProximityFault). p.count) c.loop-k.invariant in
    omega (arith, count, found_few (λ k. old_fault calls r k || early_fault calls r k) components c.loop-k.k)

pub loop-k-preserved : goal.loop-k-preserved
loop-k-preserved g c =
    let es = c.args.index.now in
    let calls = calls_of es in
    let r = view_in calls c.args.place in
    let below : c.loop-k.k < 256 = omega (arith, c.loop-k-test.true, c.requires.updates.limit.few) in
    let at : get_or components c.loop-k.k 0 ≡ c.loop-k.k = omega (arith, get_or-range_with_len 0 256 c.loop-k.k 0 below) in
    next_noted (λ k. reported_proximity calls (r, k)) (λ k. old_fault calls r k || early_fault calls r k) components c.loop-k.k 0 below _ _ _ c.loop-k.invariant c.note-part.ensures
    (c.proximity_fault.ensures es r c.requires.kept c.requires.view c.requires.updates ∙ ap (proximity_at calls r) (sym at))

pub returns-then-not-is_before : goal.returns-then-not-is_before
returns-then-not-is_before g c =
    let es = c.args.index.now in
    let r = view_in (calls_of es) c.args.place in
    let begun : r.begun ≡ c.args.view.now.call.begun = sym (ap (λ (z : IndexedCall). z.begun) c.requires.view.call) in
    let ended : r.ended ≡ c.args.view.now.call.ended = sym (ap (λ (z : IndexedCall). z.ended) c.requires.view.call) in
    c.none-part.ensures
    ∙ sym (none_near es c.requires.kept r c.args.updates.now c.requires.updates (omega (arith, begun, c.type_inv.view.1.0.1.1.0)) (omega (arith, begun, c.if-view-updates.true))
    (ap (λ z. is_before z c.args.updates.now.latest) ended ∙ sym c.is_before.ensures ∙ c.if-not-is_before.true))

pub returns : goal.returns
returns g c =
    let calls = calls_of c.args.index.now in
    let r = view_in calls c.args.place in
    c.loop-k.invariant ∙ near_rest c.args.index.now c.requires.kept r c.args.updates.now.limit c.requires.updates.limit (256 - c.loop-k.k) c.loop-k.k (omega (arith, c.loop-k-test.false)) (omega (arith, c.loop-k.auto.k-end, c.requires.updates.limit.few)) ∙ sym (proximity_alone calls r)
