use Rattle.snap_stats.specs.inside.Spans.{open_in}
use Rattle.snap_stats.proofs.Counts.{greatest_more}
use Rattle.snap_stats.proofs.Spans.{open_by}
use Rattle.snap_stats.proofs.open.most_open.Goals as goal

pub loop-call-preserved : goal.loop-call-preserved
loop-call-preserved c =
    let calls = c.args.calls.now in
    let met = open_by calls c.in_ok-times.times.begins.items c.in_ok-times.times.ends.items _ c.count_met.result c.requires c.in_ok-times.ensures c.count_met.ensures in
    greatest_more (open_in calls) calls c.loop-call.call-index _ c.loop-call.most c.count_met.result c.max-most.result c.loop-call-test.true met c.max-most.ensures c.loop-call.invariant
