use Rattle.std.proofs.Common.{◌≡◌, ℕ, ◌<◌, Bool, true, false, not, None, Some, length, get_or, sym, ap, ◌∙◌, subst, arith}
use Rattle.std.proofs.lemmas.List.{take_all, length-map, get_or-map}
use Rattle.std.specs.Prelude.{filter}
use Rattle.std.specs.Bool.{then_some}
use Rattle.snap_core.specs.declared.entry.Entry.{Entry}
use Rattle.snap_core.specs.Entries.{EntryFits}
use Rattle.snap_core.specs.Calls.{calls_of, entries_of, shown}
use Rattle.snap_theory.specs.Faults.{integrity_fault, listed}
use Rattle.snap_conditions.specs.Parts.{part_of, found_at}
use Rattle.snap_conditions.specs.PartValue.{PartValue}
use Rattle.snap_conditions.specs.inside.Places.{is_written}
use Rattle.snap_theory.specs.Updates.{update_of}
use Rattle.snap_conditions.specs.declared.fault.IntegrityFault.{IntegrityFault}
use Rattle.snap_views.specs.Seen.{view_in}
use Rattle.snap_conditions.specs.Tally.{reported_integrity}
use Rattle.snap_theory.proofs.Entries.{nothing}
use Rattle.snap_conditions.proofs.Finds.{shown_at, integrity_found, none_unwritten}
use Rattle.snap_conditions.proofs.Parts.{next_noted}
use Rattle.snap_conditions.proofs.Ranges.{few_listed}
use Rattle.snap_views.proofs.Viewed.{view_there}
use Rattle.snap_conditions.proofs.OneView.{integrity_alone, found_few}
use Rattle.snap_conditions.proofs.Surrounded.{value_around}
use Rattle.snap_conditions.proofs.integrity.integrity_part.Goals as goal
use Rattle.snap_conditions.proofs.integrity.integrity_part.Goals.{then-not-is_written, else-not-is_written}

pub note-part-requires : goal.note-part-requires
note-part-requires g c =
    let calls = calls_of c.args.index.now in
    let r = view_in calls c.args.place in
    let count = ap (λ (p : PartValue IntegrityFault). p.count) c.loop-entry.invariant in
    let few = few_listed c.args.index.now c.requires.kept r (view_there c.args.index.now c.args.place c.requires.place) in
    omega (arith, count, found_few (integrity_fault calls r) (listed r) c.loop-entry.entry-index, few, length-map (entries_of r.operation) (λ e. e.component), ap length c.requires.view.entries)

pub loop-entry-preserved : goal.loop-entry-preserved
loop-entry-preserved g c =
    let es = c.args.index.now in
    let calls = calls_of es in
    let r = view_in calls c.args.place in
    let i = c.loop-entry.entry-index in
    let shape = c.requires.view.entries in
    let e = get_or c.args.view.now.entries.now i nothing in
    let within : i < length (entries_of r.operation) = subst (λ z. i < length z) shape c.loop-entry-test.true in
    let is_shown : shown r e.component ≡ Some e = subst (λ z. shown r (get_or z i nothing).component ≡ Some (get_or z i nothing)) (sym shape) (shown_at r i nothing c.requires.view.shape within) in
    let at : get_or (listed r) i 0 ≡ e.component = get_or-map (λ (d : Entry). d.component) (entries_of r.operation) i nothing 0 within ∙ ap (λ z. (get_or z i nothing).component) (sym shape) in
    let fault : ℕ → IntegrityFault = λ n. record { view = n; entry = e } in
    let fits : EntryFits e = subst (λ z. EntryFits (get_or z i nothing)) (sym shape) (c.requires.view.shape.fit i nothing within) in
    let found : (b : Bool) → c.is_written.result ≡ b → then_some (not b) (fault c.args.view.now.call_number) ≡ found_at (λ k. reported_integrity (r, k)) (integrity_fault calls r) (get_or (listed r) i 0) = λ b is.
    ap (λ z. then_some (not z) (fault c.args.view.now.call_number)) (sym is ∙ c.is_written.ensures es c.requires.kept fits (value_around calls r c.args.updates.now e c.requires.updates is_shown fits))
    ∙ ap (λ n. then_some (not (is_written (update_of calls e.component e.number) e)) (fault n)) c.requires.view.number ∙ sym (integrity_found es c.requires.kept r e is_shown)
    ∙ ap (found_at (λ k. reported_integrity (r, k)) (integrity_fault calls r)) (sym at) in
    let next = next_noted (λ k. reported_integrity (r, k)) (integrity_fault calls r) (listed r) i 0 (omega (arith, within, length-map (entries_of r.operation) (λ d. d.component))) in
    elim c.if-not-is_written.branch [
      | then-not-is_written w ↦ next _ _ _ c.loop-entry.invariant (w.part-is ∙ w.note-part.ensures) (found false w.if-not-is_written.true)
      | else-not-is_written w ↦ next _ _ None c.loop-entry.invariant w.part-is (found true w.if-not-is_written.false)
    ]

pub returns-then-updates : goal.returns-then-updates
returns-then-updates g c =
    let r = view_in (calls_of c.args.index.now) c.args.place in
    c.none-part.ensures ∙ sym (none_unwritten c.args.index.now c.requires.kept r c.requires.view.shape (c.requires.updates.written c.if-updates.true))

pub returns : goal.returns
returns g c =
    let calls = calls_of c.args.index.now in
    let r = view_in calls c.args.place in
    c.loop-entry.invariant ∙ ap (λ xs. part_of (λ k. reported_integrity (r, k)) (filter (integrity_fault calls r) xs)) (take_all c.loop-entry.entry-index (listed r) (omega (arith, c.loop-entry-test.false, length-map (entries_of r.operation) (λ e. e.component), ap length c.requires.view.entries))) ∙ sym (integrity_alone calls r)
