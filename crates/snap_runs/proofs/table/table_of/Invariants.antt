use Rattle.std.proofs.Common.{◌≡◌, ◌++◌, codes, map, take}
use Rattle.std.specs.List.{flat_map, zip}
use Rattle.snap_core.specs.Calls.{call_numbered, calls_of}
use Rattle.snap_runs.specs.Mapping.{map_line}
use Rattle.snap_runs.proofs.table.table_of.Given as goal

abbrev pub invariant-loop-number : goal.invariant-loop-number
invariant-loop-number l =
    l.out.items ≡ codes "call,process,begin,end,of call,of process,of begin,of end\n"
    ++ flat_map (map_line l.mine l.theirs) (take l.number (zip (calls_of l.left) (map (call_numbered (calls_of l.index)) l.sources)))
