use Rattle.std.proofs.Common.{◌≡◌, ◌<◌, [], false, ap, length, refl, rules, sym, ◌∙◌}
use Rattle.std.specs.Prelude.{is_ok}
use Rattle.std.proofs.lemmas.Result.{IfOk-at_ok}
use Rattle.snap_plain.specs.Lines.{spells_event}
use Rattle.snap_plain.proofs.FrontFacts.{begins_with_none, begins_otherwise, begins_otherwise_behind, begins_with_others, empty_text, short_spells_none}
use Rattle.snap_plain.proofs.PlainFacts.{rest_of_rest, row_of_fields}
use Rattle.snap_format.proofs.ReadFacts.{event_is}
use Rattle.snap_plain.proofs.ahead.event_first.Goals as goal

pub returns-then-is_empty-clause-none : goal.returns-then-is_empty-clause-none
returns-then-is_empty-clause-none c =
    let line = c.behind_newlines-line.result.now in
    begins_otherwise_behind spells_event c.args.text.now line c.behind_newlines-line.ensures.same (begins_with_none spells_event line (empty_text line (search rules)))

pub returns-in_default-clause-none : goal.returns-in_default-clause-none
returns-in_default-clause-none c =
    let line = c.behind_newlines-line.result.now in
    begins_otherwise_behind spells_event c.args.text.now line c.behind_newlines-line.ensures.same (begins_with_others spells_event 4 line short_spells_none c.behind_newlines-line.ensures.begins c.in_default.ensures)

pub returns-in-Ok-clause-some : goal.returns-in-Ok-clause-some
returns-in-Ok-clause-some c = λ rows h.
    let line = c.behind_newlines-line.result.now in
    let has = c.behind_newlines-line.ensures.same rows h in
    let (later, is, left) = row_of_fields line c.in-Some.rest.now _ rows (search rules) (c.behind_newlines-line.ensures.begins (search rules)) c.in-Some.ensures has in (
      rest_of_rest c.in-Some.rest.now line c.args.text.now (c.in-Some.ensures has.plain).behind c.behind_newlines-line.ensures.rest,
      (_, later, is, event_is _ _ _ _ _ refl ∙ sym (IfOk-at_ok _ c.in_ok-event.was c.event_of_fields.ensures) ∙ c.in-Ok.is, left),
    )

pub returns-in-Err-clause-none : goal.returns-in-Err-clause-none
returns-in-Err-clause-none c =
    let line = c.behind_newlines-line.result.now in
    begins_otherwise_behind spells_event c.args.text.now line c.behind_newlines-line.ensures.same (begins_otherwise spells_event line c.in-Some.rest.now _ c.behind_newlines-line.ensures.begins c.in-Some.ensures (ap is_ok (event_is _ _ _ _ _ refl ∙ sym (IfOk-at_ok _ c.in_ok-event.was c.event_of_fields.ensures) ∙ c.in-Err.is)))
