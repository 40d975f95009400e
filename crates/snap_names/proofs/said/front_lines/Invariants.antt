use Rattle.std.proofs.Common.{◌≡◌, ◌++◌, true, drop}
use Rattle.snap_names.specs.Said.{fronted_from}
use Rattle.snap_names.proofs.said.front_lines.Given as goal

abbrev pub invariant-loop-byte : goal.invariant-loop-byte
invariant-loop-byte l = l.lines.items ++ fronted_from l.begins l.front (drop l.byte-index l.text) ≡ fronted_from true l.front l.text
