use Rattle.std.proofs.Common.{◌≡◌, ◌++◌, take}
use Rattle.std.specs.List.{flat_map}
use Rattle.json.specs.Tree.{json_tokens}
use Rattle.snap_json.specs.Stats.{component_json}
use Rattle.snap_json.proofs.stats.put_each.Given as goal

abbrev pub invariant-loop-component : goal.invariant-loop-component
invariant-loop-component l = l.line.writer.tokens ≡ l.fn.line.writer.tokens ++ flat_map (λ c. json_tokens (component_json c)) (take l.component-index l.components)
