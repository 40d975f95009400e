use Rattle.std.proofs.Common.{◌∙◌, ◌+◌, sym, ap, get_or, arith, None}
use Rattle.std.proofs.lemmas.Bool.{false≢true}
use Rattle.std.proofs.lemmas.List.{get_or_default}
use Rattle.snap_theory.specs.Intervals.{earlier}
use Rattle.snap_versions.specs.declared.update.Update.{Update}
use Rattle.snap_versions.proofs.Earliest.{earliest_next, earliest_last}
use Rattle.snap_versions.proofs.times.earliest_end.Goals as goal
use Rattle.snap_versions.proofs.times.earliest_end.Goals.{else-place-updates-via-then-place-updates+else-is_one_component, else-place-updates-via-else-place-updates}

pub returns-then-is_one_component : goal.returns-then-is_one_component
returns-then-is_one_component c = λ d.
    let us = c.args.updates.now in
    c.earlier.ensures ∙ ap (λ (u : Update). earlier u.ended (get_or c.args.ends.now (c.args.place + 1) None)) (get_or_default us c.args.place _ d c.requires.within)
    ∙ ap (earlier (get_or us c.args.place d).ended) (c.requires.ends.each (c.args.place + 1) d (omega arith) (omega arith))
    ∙ sym (earliest_next us c.requires.sorted d c.args.place (omega arith) ((c.is_one_component.ensures d).0 c.if-is_one_component.true))

pub returns-else-place-updates : goal.returns-else-place-updates
returns-else-place-updates c = λ d.
    let us = c.args.updates.now in
    ap (λ (u : Update). u.ended) (get_or_default us c.args.place _ d c.requires.within)
    ∙ sym (earliest_last us c.requires.sorted d c.args.place c.requires.within (λ some. elim c.else-place-updates.branch [
      | else-place-updates-via-then-place-updates+else-is_one_component w ↦ λ same. false≢true (sym w.if-is_one_component.false ∙ (w.is_one_component.ensures d).1 same)
      | else-place-updates-via-else-place-updates w ↦ absurd (omega arith)
    ]))
