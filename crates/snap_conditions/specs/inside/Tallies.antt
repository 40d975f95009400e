-- Tallies that are added except for a part.
use Rattle.snap_conditions.specs.declared.tally.Tally.{Tally}
use Rattle.snap_conditions.specs.Tally.{merged}

-- the first tally with the faults of the second added, except for its read faults and stale views
abbrev pub without_more_read : Tally → Tally → Tally
without_more_read a b = record (merged a b) { read = a.read; stale = a.stale }
