use Rattle.std.proofs.Common.{◌∙◌}
use Rattle.snap_text.specs.Spelling.{entries_text}
use Rattle.snap_text.proofs.SpellingFacts.{next_entry}
use Rattle.snap_text.proofs.spelling.view_field.Goals as goal

pub loop-entry-init : goal.loop-entry-init
unfolding entries_text
loop-entry-init c = c.new-field.ensures.items

pub loop-entry-preserved : goal.loop-entry-preserved
loop-entry-preserved c = c.in_ok-put_next.ensures ∙ next_entry c.args.entries.now c.loop-entry.entry-index _ c.loop-entry.field.items c.loop-entry-test.true c.loop-entry.invariant
