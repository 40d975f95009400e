use Rattle.std.proofs.Common.{◌≡◌, ◌++◌, ◌∷◌, take}
use Rattle.std.specs.List.{flat_map}
use Rattle.json.specs.Token as token
use Rattle.json.specs.Tree.{json_tokens}
use Rattle.snap_core.specs.Calls.{calls_of}
use Rattle.snap_conditions.specs.Kinds.{kind_word, kinds}
use Rattle.snap_json.specs.Faults.{first_json}
use Rattle.snap_json.proofs.faults.put_faults.Given as goal

abbrev pub invariant-loop-kind : goal.invariant-loop-kind
invariant-loop-kind g l =
    l.line.writer.tokens
    ≡ l.fn.line.writer.tokens ++ flat_map (λ kind. token.key (kind_word kind) ∷ json_tokens (first_json l.records (calls_of l.index) l.tally kind)) (take l.kind-index kinds)
