use Rattle.std.proofs.Common.{◌≡◌, ◌∙◌, None, Some, map, sym, ap}
use Rattle.snap_core.specs.Entries.{view_refusal}
use Rattle.snap_versions.specs.inside.Ranked.{ranked_entry}
use Rattle.snap_versions.proofs.Counted.{ranked_is_view}
use Rattle.snap_versions.proofs.ranked.ranked_view.Goals as goal

pub unreachable-requires : goal.unreachable-requires
unreachable-requires c =
    let lists = c.args.versions.now in
    let is = c.in_ok-ranked_entries.ensures ∙ ap (map (ranked_entry lists)) c.entries.ensures.entries in
    let refused : None ≡ Some c.in-Err.field-0 = sym (ap view_refusal is ∙ ranked_is_view lists c.args.view.now c.entries.ensures.view) ∙ c.in-Err.ensures.refused in
    cc
