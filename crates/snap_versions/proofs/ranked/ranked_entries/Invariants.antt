use Rattle.std.proofs.Common.{◌≡◌, map, take}
use Rattle.snap_versions.specs.inside.Ranked.{ranked_entry}
use Rattle.snap_versions.proofs.ranked.ranked_entries.Given as goal

abbrev pub invariant-loop-entry : goal.invariant-loop-entry
invariant-loop-entry l = l.ranked.items ≡ map (ranked_entry l.versions) (take l.entry-index l.entries)
