use Rattle.std.proofs.Common.{◌∙◌, ◌-◌, max, sym, ap, get_or, arith}
use Rattle.std.proofs.lemmas.Bool.{false≢true}
use Rattle.std.proofs.lemmas.List.{get_or_default}
use Rattle.snap_versions.specs.declared.update.Update.{Update}
use Rattle.snap_versions.proofs.Latest.{latest_behind, latest_new}
use Rattle.snap_versions.proofs.times.latest_begin.Goals as goal
use Rattle.snap_versions.proofs.times.latest_begin.Goals.{else-place-gt0-via-then-place-gt0+else-is_one_component, else-place-gt0-via-else-place-gt0}

pub returns-then-is_one_component : goal.returns-then-is_one_component
returns-then-is_one_component c = λ d.
    let us = c.args.updates.now in
    c.max.ensures ∙ ap (λ (u : Update). max u.begun (get_or c.args.begins.now (c.args.place - 1) 0)) (get_or_default us c.args.place _ d c.requires.within)
    ∙ sym (latest_behind us c.requires.sorted d c.args.place (omega arith) c.requires.within ((c.is_one_component.ensures d).0 c.if-is_one_component.true) c.args.begins.now c.requires.begins)

pub returns-else-place-gt0 : goal.returns-else-place-gt0
returns-else-place-gt0 c = λ d.
    let us = c.args.updates.now in
    ap (λ (u : Update). u.begun) (get_or_default us c.args.place _ d c.requires.within)
    ∙ sym (latest_new us c.requires.sorted d c.args.place c.requires.within (λ some. elim c.else-place-gt0.branch [
      | else-place-gt0-via-then-place-gt0+else-is_one_component w ↦ λ same. false≢true (sym w.if-is_one_component.false ∙ (w.is_one_component.ensures d).1 same)
      | else-place-gt0-via-else-place-gt0 w ↦ absurd (omega arith)
    ]))
