use Rattle.std.proofs.Common.{◌≡◌, take}
use Rattle.snap_theory.specs.Kept.{kept_entries as spec_kept_entries}
use Rattle.snap_theory.specs.Witness.{numbers_of}
use Rattle.snap_witness.proofs.keeping.kept_entries.Given as goal

abbrev pub invariant-loop-i : goal.invariant-loop-i
invariant-loop-i l = l.kept.items ≡ spec_kept_entries (numbers_of l.pairs) (take l.i l.entries)
