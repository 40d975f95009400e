use Rattle.std.proofs.Common.{refl, ◌∙◌, rules, ◌<◌, length}
use Rattle.snap_format.proofs.ReadFacts.{event_is, row_fails, row_full}
use Rattle.snap_format.proofs.taking.take_fields.Goals as goal

pub returns-in-Ok-clause-takes : goal.returns-in-Ok-clause-takes
returns-in-Ok-clause-takes c = c.take_event.ensures.takes _ (event_is _ _ _ _ _ refl ∙ c.in-Ok.ensures)

pub returns-in-Err-clause-takes : goal.returns-in-Err-clause-takes
returns-in-Err-clause-takes c = (refl, row_full c.args.history.now.limit c.args.history.now.events _ _ _ _ _ refl (search rules))

pub returns-in-Err-2-clause-takes : goal.returns-in-Err-2-clause-takes
returns-in-Err-2-clause-takes c =
    let room : length c.args.history.now.events < c.args.history.now.limit.events = search rules in
    row_fails c.args.history.now.limit c.args.place c.args.history.now.events _ _ _ _ _ c.in-Err.field-0 refl room c.in-Err.ensures
