use Rattle.std.proofs.Common.{ℕ, ◌<◌, get_or}
use Rattle.snap_core.specs.Calls.{calls_of}
use Rattle.snap_pairs.specs.declared.worker.Drawn.{Drawn}
use Rattle.snap_pairs.specs.inside.Pieces.{FitSlots, IsFull}
use Rattle.snap_pairs.proofs.gather.put_tallies.Given as goal

abbrev pub invariant-loop-pair : goal.invariant-loop-pair
invariant-loop-pair g l = record {
  fit : FitSlots (calls_of l.index) l.fn.cutting.pieces l.slots;
  kept : (p : ℕ) → IsFull l.initial.slots p → IsFull l.slots p;
  full : (k : ℕ) (d : Drawn) → k < l.pair-index → IsFull l.slots (get_or l.pairs k d).piece;
}
