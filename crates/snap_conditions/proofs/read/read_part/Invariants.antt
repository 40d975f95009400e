use Rattle.std.proofs.Common.{◌≡◌, take}
use Rattle.std.specs.Prelude.{filter}
use Rattle.snap_core.specs.Calls.{calls_of, views_of}
use Rattle.snap_theory.specs.Faults.{read_fault}
use Rattle.snap_conditions.specs.Parts.{part_of}
use Rattle.snap_views.specs.Seen.{view_in}
use Rattle.snap_conditions.specs.Tally.{reported_read}
use Rattle.snap_conditions.proofs.read.read_part.Given as goal

abbrev pub invariant-loop-other : goal.invariant-loop-other
invariant-loop-other g l =
    let calls = calls_of l.index in
    let r = view_in calls l.place in
    l.part ≡ part_of (λ s. reported_read (r, s)) (filter (read_fault r) (take l.other (views_of calls)))
