use Rattle.std.proofs.Common.{◌≡◌, ◌++◌, take}
use Rattle.std.specs.List.{flat_map}
use Rattle.snap_report.specs.Lines.{line_text}
use Rattle.snap_stats.specs.Lines.{component_line}
use Rattle.snap_stats.proofs.text.put_components.Given as goal

abbrev pub invariant-loop-component : goal.invariant-loop-component
invariant-loop-component l = l.out.items ≡ l.fn.out.items ++ flat_map (λ c. line_text (component_line c)) (take l.component-index l.components)
