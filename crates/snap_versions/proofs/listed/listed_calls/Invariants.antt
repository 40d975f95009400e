use Rattle.std.proofs.Common.{◌≡◌, take}
use Rattle.snap_core.specs.Calls.{calls_of}
use Rattle.snap_versions.specs.inside.Listed.{calls_listed}
use Rattle.snap_versions.proofs.listed.listed_calls.Given as goal

abbrev pub invariant-loop-place : goal.invariant-loop-place
invariant-loop-place l = calls_listed l.with_answers.items ≡ take l.place (calls_of l.events)
