use Rattle.std.proofs.Common.{sym, ap, ◌∙◌}
use Rattle.snap_core.specs.Calls.{calls_of}
use Rattle.snap_conditions.specs.declared.fault.ReadFault.{ReadFault}
use Rattle.snap_conditions.specs.PartValue.{PartValue}
use Rattle.snap_views.specs.Seen.{view_in}
use Rattle.snap_theory.proofs.StaleViews.{none_stale_alone}
use Rattle.snap_conditions.proofs.stale.stale_beside.Goals as goal

pub returns-then-count-eq0 : goal.returns-then-count-eq0
returns-then-count-eq0 g c =
    let calls = calls_of c.args.index.now in
    let count = ap (λ (p : PartValue ReadFault). p.count) c.requires.read in
    sym (none_stale_alone calls (view_in calls c.args.place) (sym count ∙ sym c.count.ensures.count ∙ c.if-count-eq0.true))
