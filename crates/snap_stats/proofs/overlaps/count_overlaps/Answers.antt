use Rattle.std.proofs.Common.{◌≡◌}
use Rattle.snap_stats.proofs.Spans.{alone_no, alone_yes, met_by, met_no, met_yes}
use Rattle.snap_stats.proofs.overlaps.count_overlaps.Goals as goal
use Rattle.snap_stats.proofs.overlaps.count_overlaps.Goals.{then-meets_update, else-meets_update, then-meets_view, else-meets_view, then-is_alone, else-is_alone}

pub loop-span-preserved : goal.loop-span-preserved
loop-span-preserved c =
    let us = c.args.updates.now in
    let vs = c.args.views.now in
    let i = c.loop-span.span-index in
    let l = c.loop-span-test.true in
    let met = met_by us vs c.in_ok-update_times.update_times.begins.items c.in_ok-update_times.update_times.ends.items i _ c.count_met-meets_update.result l c.requires.updates c.requires.views c.in_ok-update_times.ensures c.count_met-meets_update.ensures in
    let other = met_by vs vs c.in_ok-view_times.view_times.begins.items c.in_ok-view_times.view_times.ends.items i _ c.count_met-meets_view.result l c.requires.views c.requires.views c.in_ok-view_times.ensures c.count_met-meets_view.ensures in
    record {
      update = elim c.if-meets_update.branch [
        | then-meets_update w ↦ met_yes 0 us vs i _ c.count_met-meets_update.result c.loop-span.update _ l met w.if-meets_update.true w.update-is c.loop-span.invariant.update
        | else-meets_update w ↦ met_no 0 us vs i _ c.count_met-meets_update.result c.loop-span.update _ l met w.if-meets_update.false w.update-is c.loop-span.invariant.update
      ];
      view = elim c.if-meets_view.branch [
        | then-meets_view w ↦ met_yes 1 vs vs i _ c.count_met-meets_view.result c.loop-span.view _ l other w.if-meets_view.true w.view-is c.loop-span.invariant.view
        | else-meets_view w ↦ met_no 1 vs vs i _ c.count_met-meets_view.result c.loop-span.view _ l other w.if-meets_view.false w.view-is c.loop-span.invariant.view
      ];
      nothing = elim c.if-is_alone.branch [
        | then-is_alone w ↦ alone_yes us vs i _ c.count_met-meets_update.result c.count_met-meets_view.result c.loop-span.nothing _ _ l met other c.is_alone.ensures w.if-is_alone.true w.nothing-is c.loop-span.invariant.nothing
        | else-is_alone w ↦ alone_no us vs i _ c.count_met-meets_update.result c.count_met-meets_view.result c.loop-span.nothing _ _ l met other c.is_alone.ensures w.if-is_alone.false w.nothing-is c.loop-span.invariant.nothing
      ];
    }
