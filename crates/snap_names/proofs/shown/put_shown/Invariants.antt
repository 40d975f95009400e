use Rattle.std.proofs.Common.{◌≡◌, ◌++◌, take}
use Rattle.std.specs.Prelude.{flat_map}
use Rattle.snap_names.specs.Shown.{shown_byte}
use Rattle.snap_names.proofs.shown.put_shown.Given as goal

abbrev pub invariant-loop-byte : goal.invariant-loop-byte
invariant-loop-byte l = l.out.items ≡ l.fn.out.items ++ flat_map (shown_byte l.is_text) (take l.byte-index l.name)
