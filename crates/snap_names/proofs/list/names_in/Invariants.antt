use Rattle.std.proofs.Common.{length}
use Rattle.snap_names.specs.Lists.{byte_lists}
use Rattle.snap_names.proofs.ListFacts.{Cut}
use Rattle.snap_names.proofs.list.names_in.Given as goal

abbrev pub invariant-loop-length : goal.invariant-loop-length
invariant-loop-length l = Cut l.end l.text (byte_lists l.names.items) l.rest

abbrev pub decreases-loop-length : goal.decreases-loop-length
decreases-loop-length l = length l.rest
