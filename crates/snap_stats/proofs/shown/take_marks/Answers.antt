use Rattle.std.proofs.Common.{◌<◌, ◌+◌, ◌∙◌, ap, arith, take, find, length, subst, sym}
use Rattle.snap_core.specs.Calls.{calls_of, is_update_numbered}
use Rattle.snap_index.specs.IndexedCalls.{number_of}
use Rattle.snap_index.proofs.IndexedCalls.{mapped_some}
use Rattle.snap_index.proofs.Known.{update_found}
use Rattle.snap_stats.specs.inside.Marks.{AreTaken}
use Rattle.snap_stats.proofs.Marks.{none_taken, taken_more}
use Rattle.snap_stats.proofs.shown.take_marks.Goals as goal
use Rattle.snap_stats.proofs.shown.take_marks.Goals.{in-Some, in_default}

pub bounds-marks-number : goal.bounds-marks-number
bounds-marks-number g c =
    let es = c.args.index.now in
    let m = mapped_some number_of (find _ (calls_of es)) c.in-Some.number (sym c.in-Some.ensures) in
    let update = update_found es _ _ m.from m.is in
    let within = subst (λ n. n < length (calls_of es)) m.to update.within in
    omega (arith, within, c.requires, c.loop-entry.auto.marks)

pub loop-entry-preserved : goal.loop-entry-preserved
loop-entry-preserved g c =
    let es = c.args.index.now in
    let h = c.event_count-events.ensures.ordered.history in
    elim c.match-update_call.branch [
      | in-Some w ↦
          let m = mapped_some number_of (find _ (calls_of es)) w.in-Some.number (sym w.in-Some.ensures) in
          let update = update_found es _ _ m.from m.is in
          let within = subst (λ n. n < length (calls_of es)) m.to update.within in
          taken_more es h c.args.entries.now c.loop-entry.entry-index _ w.in-Some.number c.args.marks.now c.loop-entry.marks c.match-update_call.marks c.loop-entry-test.true
          (omega (arith, within, c.requires, c.loop-entry.auto.marks)) (sym w.in-Some.ensures) c.loop-entry.invariant w.marks-is
      | in_default w ↦
          subst (AreTaken (calls_of es) (take (c.loop-entry.entry-index + 1) c.args.entries.now) c.args.marks.now) (sym w.marks-is)
          (none_taken es c.args.entries.now c.loop-entry.entry-index _ c.args.marks.now c.loop-entry.marks c.loop-entry-test.true (sym c.update_call.ensures ∙ w.in_default.is) c.loop-entry.invariant)
    ]
