use Rattle.std.proofs.Common.{◌≡◌, ◌++◌, take}
use Rattle.std.specs.Prelude.{flat_map}
use Rattle.snap_names.specs.Lists.{byte_lists}
use Rattle.snap_names.specs.Walks.{found_in, inner_in}
use Rattle.snap_names.proofs.walk.take_entries.Given as goal

abbrev pub invariant-loop-entry : goal.invariant-loop-entry
invariant-loop-entry l = record {
  waiting : byte_lists l.waiting.items ≡ byte_lists l.fn.waiting.items ++ flat_map (inner_in l.folder) (take l.entry-index l.entries);
  names : byte_lists l.names.items ≡ byte_lists l.fn.names.items ++ flat_map (found_in l.folder) (take l.entry-index l.entries);
}
