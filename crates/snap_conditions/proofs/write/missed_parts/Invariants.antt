use Rattle.std.proofs.Common.{◌≡◌, take}
use Rattle.std.specs.Prelude.{flat_map}
use Rattle.snap_core.specs.Calls.{calls_of}
use Rattle.snap_theory.specs.Faults.{components, missed_at}
use Rattle.snap_conditions.specs.Parts.{part_of}
use Rattle.snap_views.specs.Seen.{view_in}
use Rattle.snap_conditions.specs.Tally.{reported_write}
use Rattle.snap_conditions.proofs.write.missed_parts.Given as goal

abbrev pub invariant-loop-j : goal.invariant-loop-j
invariant-loop-j g l =
    let calls = calls_of l.index in
    let r = view_in calls l.place in
    l.part ≡ part_of reported_write (flat_map (missed_at calls r) (take l.j components))
