use Rattle.std.proofs.Common.{◌≡◌, ◌++◌, take}
use Rattle.std.specs.List.{flat_map}
use Rattle.json.specs.Tree.{json_tokens}
use Rattle.snap_core.specs.Calls.{calls_of}
use Rattle.snap_json.specs.Differs.{difference_json}
use Rattle.snap_json.proofs.differs.put_each.Given as goal

abbrev pub invariant-loop-update : goal.invariant-loop-update
invariant-loop-update g l =
    l.line.writer.tokens ≡ l.fn.line.writer.tokens ++ flat_map (λ update. json_tokens (difference_json l.records (calls_of l.index) l.fault update)) (take l.update-index l.updates)
