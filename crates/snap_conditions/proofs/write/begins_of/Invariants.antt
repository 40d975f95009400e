use Rattle.std.proofs.Common.{◌≡◌, ◌<◌, ℕ, length, get_or}
use Rattle.snap_core.specs.declared.entry.Entry.{Entry}
use Rattle.snap_conditions.proofs.write.begins_of.Given as goal

abbrev pub invariant-loop-i : goal.invariant-loop-i
invariant-loop-i l = record {
  size : length l.begins ≡ 256;
  each : (i : ℕ) (e : Entry) → i < l.i → get_or l.begins i 0 ≡ get_or l.updates.begins (get_or l.entries i e).component 0;
}
