use Rattle.std.proofs.Common.{◌≡◌, take, true}
use Rattle.snap_core.proofs.entry.are_all_same.Given as goal

abbrev pub invariant-loop-i : goal.invariant-loop-i
invariant-loop-i l = record { forth : l.same ≡ true → take l.i l.a ≡ take l.i l.b; back : l.a ≡ l.b → l.same ≡ true }
