use Rattle.std.proofs.Common.{◌&&◌, ◌∙◌, not, ap}
use Rattle.std.proofs.lemmas.List.{take_all}
use Rattle.snap_versions.specs.inside.Versions.{has_version, versions_in}
use Rattle.snap_versions.proofs.Showing.{lists_version, shown_in_view}
use Rattle.snap_versions.proofs.unshown.leave_out.Goals as goal

pub returns : goal.returns
returns c = λ k n.
    let es = c.entries-entry-items.result.now in
    let old = has_version (versions_in c.args.versions.now k) n in
    c.loop-entry.invariant k n
    ∙ ap (λ z. old && not (lists_version z k n)) (take_all c.loop-entry.entry-index es c.loop-entry-test.false ∙ c.entries-entry-items.ensures.entries)
    ∙ ap (λ b. old && not b) (shown_in_view c.args.view.now c.entries-entry-items.ensures.view k n)
