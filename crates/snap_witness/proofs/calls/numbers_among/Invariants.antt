use Rattle.std.proofs.Common.{◌≡◌, map, take}
use Rattle.snap_core.specs.Calls.{calls_of}
use Rattle.snap_index.specs.IndexedCalls.{number_of}
use Rattle.snap_theory.specs.Kept.{is_among}
use Rattle.snap_witness.specs.Keeping.{calls_begun}
use Rattle.snap_witness.proofs.calls.numbers_among.Given as goal

abbrev pub invariant-loop-number : goal.invariant-loop-number
invariant-loop-number g l = l.numbers.items ≡ map number_of (calls_begun (is_among l.places) (take l.number (calls_of l.index)))
