use Rattle.std.proofs.Common.{◌≡◌, ◌∙◌, Bool, ap, arith, count_by, length}
use Rattle.std.proofs.lemmas.List.{length-map}
use Rattle.snap_core.specs.Calls.{calls_of}
use Rattle.snap_core.specs.Orders.{is_update}
use Rattle.snap_stats.proofs.Counts.{whole_back}
use Rattle.snap_stats.proofs.Marks.{unshown_is}
use Rattle.snap_stats.proofs.shown.update_counts.Goals as goal

pub returns-clause-unshown : goal.returns-clause-unshown
returns-clause-unshown g c =
    let calls = calls_of c.args.index.now in
    let items = c.in_ok-marks.marks.items in
    let new = c.take_shown.new.marks in
    let kept : length new ≡ length items = omega (arith, c.take_shown.auto.marks, ap length c.deref_mut.ensures.value) in
    let size : length new ≡ length calls = omega (arith, kept, ap length c.in_ok-marks.ensures, length-map calls is_update) in
    c.count_marks.ensures
    ∙ ap (count_by (λ (mark : Bool). mark)) (c.deref-2.ensures.value ∙ whole_back c.in_ok-marks.marks.len items new (omega (arith, c.in_ok-marks.marks.ok)) kept)
    ∙ unshown_is calls new size c.take_shown.ensures
