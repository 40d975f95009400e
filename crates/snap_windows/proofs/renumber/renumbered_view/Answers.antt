use Rattle.std.proofs.Common.{◌≡◌, ◌∙◌, ℕ, Option, None, ap, refl, rules, slice_index_or}
use Rattle.snap_core.specs.declared.entry.Entry.{Entry}
use Rattle.snap_core.specs.Entries.{view_refusal}
use Rattle.snap_theory.specs.Renumbered.{renumbered_entries}
use Rattle.snap_windows.specs.Last.{entry_in}
use Rattle.snap_windows.proofs.Numbers.{view_accepted}
use Rattle.snap_windows.proofs.renumber.renumbered_view.Goals as goal

pub unreachable-requires : goal.unreachable-requires
unreachable-requires c =
    let left : ℕ → Option Entry = λ k. entry_in (slice_index_or c.args.left.now k None) in
    let is = c.in_ok-renumbered_entries.ensures left (λ k. refl) in
    let none : view_refusal c.in_ok-renumbered_entries.field-0.items ≡ None = ap view_refusal (is ∙ ap (renumbered_entries left) c.entries.ensures.entries) ∙ view_accepted left c.args.view.now c.entries.ensures.view in
    search (none, rules)
