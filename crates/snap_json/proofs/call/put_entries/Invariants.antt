use Rattle.std.proofs.Common.{◌≡◌, ◌++◌, take}
use Rattle.std.specs.List.{flat_map}
use Rattle.json.specs.Tree.{json_tokens}
use Rattle.snap_json.specs.Calls.{entry_json}
use Rattle.snap_json.proofs.call.put_entries.Given as goal

abbrev pub invariant-loop-entry : goal.invariant-loop-entry
invariant-loop-entry l = l.line.writer.tokens ≡ l.fn.line.writer.tokens ++ flat_map (λ entry. json_tokens (entry_json entry)) (take l.entry-index l.entries)
