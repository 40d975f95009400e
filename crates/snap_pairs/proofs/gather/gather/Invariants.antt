use Rattle.std.proofs.Common.{◌≡◌, ◌+◌, length, vec_items, vec_len}
use Rattle.snap_core.specs.Calls.{calls_of}
use Rattle.snap_pairs.specs.inside.Pieces.{AreAnswers}
use Rattle.snap_pairs.proofs.Gathering.{AreGathered}
use Rattle.snap_pairs.proofs.gather.gather.Given as goal

abbrev pub invariant-loop-answer : goal.invariant-loop-answer
invariant-loop-answer g l = record {
  answers : AreAnswers (calls_of l.index) l.counter (vec_items l.answers);
  count : length (vec_items l.claims) + vec_len l.answers ≡ vec_len l.initial.answers;
  gathered : AreGathered (calls_of l.index) l.counter (vec_items l.claims) (vec_items l.slots);
}

abbrev pub decreases-loop-answer : goal.decreases-loop-answer
decreases-loop-answer g l = vec_len l.answers
