use Rattle.std.proofs.Common.{◌≡◌, take}
use Rattle.std.specs.Prelude.{filter}
use Rattle.snap_core.specs.Calls.{calls_of}
use Rattle.snap_theory.specs.Faults.{integrity_fault, listed}
use Rattle.snap_conditions.specs.Parts.{part_of}
use Rattle.snap_views.specs.Seen.{view_in}
use Rattle.snap_conditions.specs.Tally.{reported_integrity}
use Rattle.snap_conditions.proofs.integrity.integrity_part.Given as goal

abbrev pub invariant-loop-entry : goal.invariant-loop-entry
invariant-loop-entry g l =
    let calls = calls_of l.index in
    let r = view_in calls l.place in
    l.part ≡ part_of (λ k. reported_integrity (r, k)) (filter (integrity_fault calls r) (take l.entry-index (listed r)))
