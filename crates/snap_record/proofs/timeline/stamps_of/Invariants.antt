use Rattle.std.proofs.Common.{◌≡◌, take}
use Rattle.snap_board.specs.History.{event_stamps}
use Rattle.snap_record.proofs.timeline.stamps_of.Given as goal

abbrev pub invariant-each : goal.invariant-each
invariant-each l = l.stamps.items ≡ event_stamps (take l.k l.events)
