use Rattle.std.proofs.Common.{◌≡◌, ◌++◌, map, take}
use Rattle.std.specs.List.{flat_map}
use Rattle.snap_explain.specs.Refusals.{quoted}
use Rattle.snap_explain.proofs.refusal.put_fields.Given as goal

abbrev pub invariant-loop-field : goal.invariant-loop-field
invariant-loop-field l = l.out.items ≡ l.fn.out.items ++ flat_map quoted (map (λ f. f.items) (take l.field-index l.fields))
