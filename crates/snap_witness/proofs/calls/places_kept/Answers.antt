use Rattle.std.proofs.Common.{◌++◌, ap, ◌∙◌}
use Rattle.snap_core.specs.Calls.{calls_of}
use Rattle.snap_witness.specs.inside.Places.{places_of, calls_numbered}
use Rattle.snap_theory.specs.Witness.{updates_kept}
use Rattle.snap_witness.proofs.Places.{places_join}
use Rattle.snap_witness.proofs.calls.places_kept.Goals as goal

pub returns : goal.returns
returns g c =
    let es = c.args.index.now in
    let rs = calls_numbered (calls_of es) c.args.views.now in
    let ps = c.args.updates.now in
    c.in_ok-push_updates.ensures ∙ ap (λ z. z ++ places_of (updates_kept (calls_of es) ps)) (c.in_ok-push_views.ensures ∙ ap (λ z. z ++ places_of rs) c.new-places.ensures.items) ∙ places_join (calls_of es) rs ps
