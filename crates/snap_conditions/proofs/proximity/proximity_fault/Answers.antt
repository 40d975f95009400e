use Rattle.std.proofs.Common.{◌≡◌, ◌≤◌, Some, get_or, sym, ap, ◌∙◌, arith}
use Rattle.std.proofs.lemmas.Bool.{lt-ltb, le-ltb}
use Rattle.snap_core.specs.Calls.{calls_of, is_before, shown_number}
use Rattle.snap_index.specs.declared.call.Call.{Call as IndexedCall}
use Rattle.snap_conditions.specs.declared.fault.Side.{Side}
use Rattle.snap_conditions.specs.declared.fault.Side.TheVariants.{Old, Early}
use Rattle.snap_conditions.specs.declared.fault.ProximityFault.{ProximityFault}
use Rattle.snap_conditions.proofs.Finds.{found_old, found_early, found_neither, sided}
use Rattle.snap_conditions.proofs.Surrounded.{old_around, early_around}
use Rattle.snap_conditions.proofs.proximity.proximity_fault.Goals as goal
use Rattle.snap_conditions.proofs.proximity.proximity_fault.Goals.{then-updates-place, else-updates-place+then-is_before}

pub returns-else-is_before : goal.returns-else-is_before
returns-else-is_before c = λ es r kept seen a.
    let begun : r.begun ≡ c.args.view.now.call.begun = sym (ap (λ (z : IndexedCall). z.begun) seen.call) in
    let ended : r.ended ≡ c.args.view.now.call.ended = sym (ap (λ (z : IndexedCall). z.ended) seen.call) in
    let fits : r.begun ≤ 4294967295 = omega (arith, begun, c.type_inv.view.1.0.1.1.0) in
    let old = old_around es kept r c.args.updates.now c.args.k a (omega arith) fits ∙ le-ltb _ r.begun (omega (arith, begun, c.if-updates-place.false)) in
    let early = early_around es kept r c.args.updates.now c.args.k a (omega arith) ∙ ap (λ z. is_before z (get_or c.args.updates.now.begins c.args.k 0)) ended ∙ sym c.is_before.ensures ∙ c.if-is_before.false in
    sym (found_neither (calls_of es) r c.args.k old early)

pub returns : goal.returns
returns c = λ es r kept seen a.
    let begun : r.begun ≡ c.args.view.now.call.begun = sym (ap (λ (z : IndexedCall). z.begun) seen.call) in
    let ended : r.ended ≡ c.args.view.now.call.ended = sym (ap (λ (z : IndexedCall). z.ended) seen.call) in
    let fits : r.begun ≤ 4294967295 = omega (arith, begun, c.type_inv.view.1.0.1.1.0) in
    let old_is = old_around es kept r c.args.updates.now c.args.k a (omega arith) fits in
    let early_is = early_around es kept r c.args.updates.now c.args.k a (omega arith) ∙ ap (λ z. is_before z (get_or c.args.updates.now.begins c.args.k 0)) ended in
    let number : get_or c.args.updates.now.numbers c.args.k 0 ≡ shown_number r c.args.k = a.numbers c.args.k c.requires in
    let told : (side : Side) → ◌≡◌ {A = ProximityFault} (record { view = c.args.view.now.call_number; component = c.args.k; number = get_or c.args.updates.now.numbers c.args.k 0; side = side }) (sided r c.args.k side) = λ side.
    ap (λ n. record { view = n; component = c.args.k; number = get_or c.args.updates.now.numbers c.args.k 0; side = side }) seen.number
    ∙ ap (λ n. record { view = r.number; component = c.args.k; number = n; side = side }) number in
    elim c.if-updates-place.branch [
      | then-updates-place w ↦
          ap (λ side. Some (record { view = c.args.view.now.call_number; component = c.args.k; number = get_or c.args.updates.now.numbers c.args.k 0; side = side })) w.side-is
          ∙ ap Some (told Old) ∙ sym (found_old (calls_of es) r c.args.k (old_is ∙ lt-ltb _ r.begun (omega (arith, begun, w.if-updates-place.true))))
      | else-updates-place+then-is_before w ↦
          ap (λ side. Some (record { view = c.args.view.now.call_number; component = c.args.k; number = get_or c.args.updates.now.numbers c.args.k 0; side = side })) w.side-is
          ∙ ap Some (told Early)
          ∙ sym (found_early (calls_of es) r c.args.k (old_is ∙ le-ltb _ r.begun (omega (arith, begun, w.if-updates-place.false))) (early_is ∙ sym w.is_before.ensures ∙ w.if-is_before.true))
    ]
