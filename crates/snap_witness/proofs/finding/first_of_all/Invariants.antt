use Rattle.std.proofs.Common.{◌≡◌, [], take}
use Rattle.std.specs.List.{filter_map}
use Rattle.snap_conditions.specs.Kinds.{first_in, kinds}
use Rattle.snap_witness.proofs.finding.first_of_all.Given as goal

abbrev pub invariant-loop-kind : goal.invariant-loop-kind
invariant-loop-kind l = filter_map (λ kind. first_in kind l.tally) (take l.kind-index kinds) ≡ []
