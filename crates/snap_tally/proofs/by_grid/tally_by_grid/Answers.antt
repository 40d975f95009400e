use Rattle.std.proofs.Common.{◌≡◌, List, ap, ◌∙◌}
use Rattle.snap_core.specs.declared.event.Event.{Event}
use Rattle.snap_core.specs.Calls.{calls_of}
use Rattle.snap_conditions.specs.declared.tally.Tally.{Tally}
use Rattle.snap_conditions.specs.Tally.{tally_of, without_read}
use Rattle.snap_views.specs.Seen.{views_between}
use Rattle.snap_conditions.proofs.Ranges.{tally_is}
use Rattle.snap_tally.proofs.by_grid.tally_by_grid.Goals as goal

pub returns : goal.returns
unfolding tally_of
returns g c =
    let here = tally_of (calls_of c.args.grid.now) (views_between (calls_of c.args.grid.now) c.args.from c.args.to) in
    let others : c.tally_without_read-others.result ≡ without_read here = c.tally_without_read-others.ensures ∙ ap (λ (z : List Event). without_read (tally_of (calls_of z) (views_between (calls_of z) c.args.from c.args.to))) c.index.ensures in
    tally_is _ here (ap (λ (t : Tally). t.integrity) others) (ap (λ (t : Tally). t.proximity) others) c.in_ok-read.ensures.faults (ap (λ (t : Tally). t.write) others) c.in_ok-read.ensures.stale
