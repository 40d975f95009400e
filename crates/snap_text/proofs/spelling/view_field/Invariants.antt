use Rattle.std.proofs.Common.{◌≡◌, take}
use Rattle.snap_text.specs.Spelling.{entries_text}
use Rattle.snap_text.proofs.spelling.view_field.Given as goal

abbrev pub invariant-loop-entry : goal.invariant-loop-entry
invariant-loop-entry l = l.field.items ≡ entries_text (take l.entry-index l.entries)
