use Rattle.std.proofs.Common.{◌≡◌, ◌++◌, take}
use Rattle.std.specs.List.{flat_map}
use Rattle.snap_conditions.specs.Kinds.{kinds}
use Rattle.snap_report.specs.Faults.{kind_lines}
use Rattle.snap_report.specs.Lines.{text_of}
use Rattle.snap_report.proofs.faults.put_faults.Given as goal

abbrev pub invariant-loop-kind : goal.invariant-loop-kind
invariant-loop-kind l = l.out.items ≡ l.fn.out.items ++ flat_map (λ kind. text_of (kind_lines l.tally kind)) (take l.kind-index kinds)
