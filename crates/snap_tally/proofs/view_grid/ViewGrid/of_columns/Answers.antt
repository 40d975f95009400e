use Rattle.snap_core.specs.Calls.{calls_of}
use Rattle.snap_tally.proofs.Grids.{show_alike, show_all, show_keys}
use Rattle.snap_tally.proofs.view_grid.ViewGrid.of_columns.Goals as goal

pub of_keys-requires-clause-keys : goal.of_keys-requires-clause-keys
of_keys-requires-clause-keys g c =
    let es = c.args.index.now in
    let columns = c.args.columns.items in
    let ranked = c.in_ok-ranked.ranked.items in
    show_alike (calls_of es) ranked c.in_ok-keys.keys.items (show_keys (calls_of es) columns ranked (show_all es c.event_count-events.ensures.ordered columns c.requires) c.in_ok-ranked.ensures) c.in_ok-keys.ensures
