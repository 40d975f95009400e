use Rattle.std.proofs.Common.{rules}
use Rattle.snap_order.proofs.last_entries.LastEntries.new.Goals as goal

pub returns : goal.returns
returns c = c.in_ok-entries.ensures.items_if_clones_equal (search rules)
