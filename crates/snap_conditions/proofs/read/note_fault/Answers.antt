use Rattle.std.proofs.Common.{◌≡◌, ◌+◌, Option, Some, sym, ap, ◌∙◌}
use Rattle.std.specs.Option.{option_or}
use Rattle.snap_conditions.specs.declared.fault.ReadFault.{ReadFault}
use Rattle.snap_conditions.specs.PartValue.{PartValue}
use Rattle.snap_conditions.specs.Parts.{noted}
use Rattle.snap_conditions.specs.Tally.{reported_read}
use Rattle.snap_conditions.proofs.read.note_fault.Goals as goal
use Rattle.snap_conditions.proofs.read.note_fault.Goals.{in-Some, in-None}

-- where a part has a first fault, another makes no difference but to the count
not_first : (part : PartValue ReadFault) (first fault other : ReadFault) → part.first ≡ Some first → noted part (Some fault) ≡ noted part (Some other)
not_first part first fault other h =
    let P : Option ReadFault → PartValue ReadFault = λ o. record { count = part.count + 1; first = o } in
    ap (λ o. P (option_or o (Some fault))) h ∙ sym (ap (λ o. P (option_or o (Some other))) h)

pub returns : goal.returns
returns c = λ r s v w. c.note.ensures ∙ elim c.match-first.branch [
  | in-Some q ↦ not_first c.args.part q.in-Some.first c.match-first.first (reported_read (r, s)) (sym c.first.ensures.first ∙ q.in-Some.is)
  | in-None q ↦ ap (λ f. noted c.args.part (Some f)) (q.first-is ∙ q.fault_of-first.ensures r s v w)
]
