use Rattle.std.proofs.Common.{◌≡◌, [], replicate}
use Rattle.snap_index.specs.Rows.{rows}
use Rattle.snap_versions.proofs.versions.empty_lists.Given as goal

abbrev pub invariant-loop : goal.invariant-loop
invariant-loop l = rows l.lists.items ≡ replicate l.counter []
