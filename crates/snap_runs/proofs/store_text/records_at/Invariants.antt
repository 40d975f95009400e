use Rattle.std.proofs.Common.{◌≡◌, map, take}
use Rattle.snap_runs.specs.StoreTexts.{record_at}
use Rattle.snap_runs.proofs.store_text.records_at.Given as goal

abbrev pub invariant-loop-i : goal.invariant-loop-i
invariant-loop-i l = record { found : l.found.items ≡ map (record_at l.records) (take l.i l.places) }
