use Rattle.std.proofs.Common.{◌≡◌, take}
use Rattle.std.specs.Prelude.{nat_lt, count_by}
use Rattle.snap_conditions.proofs.write.count_each.Given as goal

abbrev pub invariant-loop-begun : goal.invariant-loop-begun
invariant-loop-begun l = l.count ≡ count_by (λ b. nat_lt l.ended b) (take l.begun-index l.begins)
