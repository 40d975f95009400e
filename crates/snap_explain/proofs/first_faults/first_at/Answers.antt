use Rattle.std.proofs.Common.{◌∷◌, [], ◌∙◌, refl}
use Rattle.snap_core.specs.Calls.{calls_of, nobody, views_of}
use Rattle.snap_core.proofs.Lists.{In-get_or}
use Rattle.snap_conditions.specs.Tally.{tally_of}
use Rattle.snap_theory.proofs.FaultLists.{from_views}
use Rattle.snap_views.specs.Seen.{view_in}
use Rattle.snap_witness.proofs.ViewFaults.{of_view}
use Rattle.snap_explain.proofs.first_faults.first_at.Goals as goal

pub returns-clause-named : goal.returns-clause-named
returns-clause-named g c =
    let es = c.args.index.now in
    let calls = calls_of es in
    let r = view_in calls c.args.place in
    of_view es c.event_count-events.ensures.ordered r (from_views calls r (In-get_or (views_of calls) c.args.place nobody c.requires)) (tally_of calls (r ∷ [])) refl
    c.args.kind c.first.result (c.first.ensures ∙ c.tally_at.ensures)
