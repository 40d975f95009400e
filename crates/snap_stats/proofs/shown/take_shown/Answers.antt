use Rattle.std.proofs.Common.{◌≡◌, ◌<◌, ◌∙◌, arith, length}
use Rattle.snap_core.specs.Calls.{calls_of, views_of}
use Rattle.snap_stats.proofs.Marks.{left_more, view_shown}
use Rattle.snap_stats.proofs.shown.take_shown.Goals as goal

pub loop-place-preserved : goal.loop-place-preserved
loop-place-preserved g c =
    let calls = calls_of c.args.index.now in
    let within : c.loop-place.place < length (views_of calls) = omega (arith, c.loop-place-test.true, c.view_count-place-end.ensures) in
    left_more calls (views_of calls) c.loop-place.place c.entries.result.now c.loop-place.marks c.take_marks.new.marks within
    (c.entries.ensures.entries ∙ view_shown (views_of calls) c.loop-place.place c.in-Some.view.now within c.in-Some.ensures) c.loop-place.invariant c.take_marks.ensures
