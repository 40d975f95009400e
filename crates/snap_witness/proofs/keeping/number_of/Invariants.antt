use Rattle.std.proofs.Common.{◌≡◌, drop}
use Rattle.snap_theory.specs.Witness.{numbers_of}
use Rattle.snap_witness.proofs.keeping.number_of.Given as goal

abbrev pub invariant-loop-i : goal.invariant-loop-i
invariant-loop-i l = numbers_of l.pairs l.k ≡ numbers_of (drop l.i l.pairs) l.k
