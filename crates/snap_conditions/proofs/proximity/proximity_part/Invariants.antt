use Rattle.std.proofs.Common.{◌≡◌, ◌||◌, take}
use Rattle.std.specs.Prelude.{filter}
use Rattle.snap_core.specs.Calls.{calls_of}
use Rattle.snap_theory.specs.Faults.{old_fault, early_fault, components}
use Rattle.snap_conditions.specs.Parts.{part_of}
use Rattle.snap_views.specs.Seen.{view_in}
use Rattle.snap_conditions.specs.Tally.{reported_proximity}
use Rattle.snap_conditions.proofs.proximity.proximity_part.Given as goal

abbrev pub invariant-loop-k : goal.invariant-loop-k
invariant-loop-k g l =
    let calls = calls_of l.index in
    let r = view_in calls l.place in
    l.part ≡ part_of (λ k. reported_proximity calls (r, k)) (filter (λ k. old_fault calls r k || early_fault calls r k) (take l.k components))
