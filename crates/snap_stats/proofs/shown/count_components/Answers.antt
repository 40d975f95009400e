use Rattle.std.proofs.Common.{◌+◌, ◌∙◌, ℕ, ap, count_by, get_or}
use Rattle.std.specs.Prelude.{◌==◌}
use Rattle.std.proofs.lemmas.List.{take_all}
use Rattle.snap_core.specs.declared.entry.Entry.{Entry}
use Rattle.snap_stats.proofs.Marks.{one_entry}
use Rattle.snap_stats.proofs.shown.count_components.Goals as goal

pub returns : goal.returns
returns c = λ k few.
    let es = c.args.entries.now in
    c.loop-entry.invariant k few
    ∙ ap (λ n. get_or c.args.counts.now k 0 + n) (ap (count_by (λ (e : Entry). e.component == k)) (take_all c.loop-entry.entry-index es c.loop-entry-test.false) ∙ one_entry k es c.requires.entries.rising)
