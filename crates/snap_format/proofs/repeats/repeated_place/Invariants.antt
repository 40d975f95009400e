use Rattle.std.proofs.Common.{◌≡◌, ◌<◌, ℕ, false, take}
use Rattle.snap_format.specs.Stamping.{HasSeen, repeats_at}
use Rattle.snap_format.proofs.repeats.repeated_place.Given as goal

abbrev pub invariant-loop-i : goal.invariant-loop-i
invariant-loop-i l = record {
  seen : HasSeen l.seen (take l.i l.stamped.items);
  first : (j : ℕ) → j < l.i → repeats_at l.stamped.items j ≡ false;
}
