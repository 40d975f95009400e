use Rattle.std.proofs.Common.{◌≡◌, ◌≢◌, ◌<◌, ℕ, get_or}
use Rattle.snap_plain.specs.declared.ahead.Ahead.{Ahead}
use Rattle.snap_plain.proofs.ahead.take_from.Given as goal

abbrev pub invariant-loop-at : goal.invariant-loop-at
invariant-loop-at l = record {
  same : l.ahead.items ≡ l.fn.ahead.items;
  others : (i : ℕ) (d : Ahead) → i < l.at → (get_or l.ahead.items i d).from ≢ l.fn.place;
}
