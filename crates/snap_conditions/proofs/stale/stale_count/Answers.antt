use Rattle.std.proofs.Common.{take, sym, ap, ◌∙◌, arith}
use Rattle.std.specs.List.{count_by}
use Rattle.std.proofs.lemmas.List.{length-take, take_all}
use Rattle.std.proofs.lemmas.List.Sums.{count_by-le-length}
use Rattle.snap_core.specs.Calls.{calls_of, views_of, nobody}
use Rattle.snap_theory.specs.Faults.{is_stale}
use Rattle.snap_views.specs.Seen.{view_in}
use Rattle.snap_conditions.proofs.StaleViews.{byte_small, counted_more}
use Rattle.snap_theory.proofs.StaleViews.{stale_alone}
use Rattle.snap_conditions.proofs.stale.stale_count.Goals as goal

pub overflow_add-count : goal.overflow_add-count
overflow_add-count g c =
    let calls = calls_of c.args.index.now in
    let r = view_in calls c.args.place in
    let few = count_by-le-length (is_stale r) (take c.loop-other.other (views_of calls)) in
    record { fits = omega (arith, c.loop-other.invariant, few, length-take c.loop-other.other (views_of calls), c.from-count.ensures, byte_small c.is_stale.result) }

pub loop-other-preserved : goal.loop-other-preserved
loop-other-preserved g c =
    let calls = calls_of c.args.index.now in
    let r = view_in calls c.args.place in
    let s = view_in calls c.loop-other.other in
    let test = c.is_stale.ensures r s c.view_at-view.ensures c.view_at-other.ensures in
    counted_more (is_stale r) (views_of calls) c.loop-other.other nobody c.is_stale.result c.loop-other.count c.from-count.result (omega arith) test c.from-count.ensures c.loop-other.invariant

pub returns : goal.returns
returns g c =
    let calls = calls_of c.args.index.now in
    let r = view_in calls c.args.place in
    c.loop-other.invariant ∙ ap (count_by (is_stale r)) (take_all c.loop-other.other (views_of calls) (omega arith)) ∙ sym (stale_alone calls r)
