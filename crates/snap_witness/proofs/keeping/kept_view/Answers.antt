use Rattle.std.proofs.Common.{◌≡◌, None, Some, sym, ap, ◌∙◌}
use Rattle.snap_core.specs.Entries.{view_refusal}
use Rattle.snap_theory.specs.Kept.{kept_entries as spec_kept_entries}
use Rattle.snap_theory.specs.Witness.{numbers_of}
use Rattle.snap_witness.proofs.Steps.{kept_is_view}
use Rattle.snap_witness.proofs.keeping.kept_view.Goals as goal

pub unreachable-requires : goal.unreachable-requires
unreachable-requires c =
    let v : view_refusal (spec_kept_entries (numbers_of c.args.pairs.now) c.args.view.now) ≡ None = kept_is_view (numbers_of c.args.pairs.now) c.args.view.now c.entries.ensures.view in
    let s : c.in_ok-kept.kept.items ≡ spec_kept_entries (numbers_of c.args.pairs.now) c.args.view.now = c.in_ok-kept.ensures ∙ ap (spec_kept_entries (numbers_of c.args.pairs.now)) c.entries.ensures.entries in
    let g : None ≡ Some c.in-Err._refused = sym v ∙ ap view_refusal (sym s) ∙ c.in-Err.ensures.refused in
    cc
