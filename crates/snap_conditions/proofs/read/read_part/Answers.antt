use Rattle.std.proofs.Common.{◌<◌, length, Some, None, sym, ap, ◌∙◌, arith}
use Rattle.std.specs.Bool.{then_some}
use Rattle.std.proofs.lemmas.List.{take_all}
use Rattle.std.specs.Prelude.{filter}
use Rattle.snap_core.specs.Calls.{calls_of, views_of, nobody}
use Rattle.snap_theory.specs.Faults.{read_fault}
use Rattle.snap_conditions.specs.Parts.{part_of}
use Rattle.snap_conditions.specs.PartValue.{PartValue}
use Rattle.snap_conditions.specs.declared.fault.ReadFault.{ReadFault}
use Rattle.snap_views.specs.Seen.{view_in}
use Rattle.snap_conditions.specs.Tally.{reported_read}
use Rattle.snap_conditions.proofs.OneView.{read_alone, found_few}
use Rattle.snap_conditions.proofs.Parts.{next_noted}
use Rattle.snap_conditions.proofs.read.read_part.Goals as goal
use Rattle.snap_conditions.proofs.read.read_part.Goals.{then-is_read_fault, else-is_read_fault}

pub note_fault-part-requires-clause-count : goal.note_fault-part-requires-clause-count
note_fault-part-requires-clause-count g c =
    let calls = calls_of c.args.index.now in
    let r = view_in calls c.args.place in
    let count = ap (λ (p : PartValue ReadFault). p.count) c.loop-other.invariant in
    omega (arith, count, found_few (read_fault r) (views_of calls) c.loop-other.other)

pub loop-other-preserved : goal.loop-other-preserved
loop-other-preserved g c =
    let calls = calls_of c.args.index.now in
    let r = view_in calls c.args.place in
    let s = view_in calls c.loop-other.other in
    let within : c.loop-other.other < length (views_of calls) = omega arith in
    let test = c.is_read_fault.ensures r s c.view_at-view.ensures c.view_at-other.ensures in
    elim c.if-is_read_fault.branch [
      | then-is_read_fault w ↦ next_noted (λ s. reported_read (r, s)) (read_fault r) (views_of calls) c.loop-other.other nobody within _ _ (Some (reported_read (r, s))) c.loop-other.invariant
          (w.part-is ∙ w.note_fault-part.ensures r s c.view_at-view.ensures c.view_at-other.ensures) (sym (ap (λ b. then_some b (reported_read (r, s))) (sym test ∙ w.if-is_read_fault.true)))
      | else-is_read_fault w ↦ next_noted (λ s. reported_read (r, s)) (read_fault r) (views_of calls) c.loop-other.other nobody within _ _ None c.loop-other.invariant
          w.part-is (sym (ap (λ b. then_some b (reported_read (r, s))) (sym test ∙ w.if-is_read_fault.false)))
    ]

pub returns : goal.returns
returns g c =
    let calls = calls_of c.args.index.now in
    let r = view_in calls c.args.place in
    c.loop-other.invariant ∙ ap (λ xs. part_of (λ s. reported_read (r, s)) (filter (read_fault r) xs)) (take_all c.loop-other.other (views_of calls) (omega arith)) ∙ sym (read_alone calls r)
