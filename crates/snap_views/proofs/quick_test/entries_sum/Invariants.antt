use Rattle.std.proofs.Common.{◌≡◌, ◌≤◌, ◌*◌, take}
use Rattle.snap_views.specs.Quick.{entry_sum}
use Rattle.snap_views.proofs.quick_test.entries_sum.Given as goal

abbrev pub invariant-loop-entry : goal.invariant-loop-entry
invariant-loop-entry l = record {
  so_far : l.sum ≡ entry_sum (take l.entry-index l.entries);
  small : l.sum ≤ l.entry-index * 4294967295;
}
