use Rattle.std.proofs.Common.{sym, ◌∙◌, arith}
use Rattle.snap_tally.proofs.Grids.{is_grid}
use Rattle.snap_views.proofs.Sizes.{few_views}
use Rattle.snap_tally.proofs.view_grid.ViewGrid.of_keys.Goals as goal

pub new-requires : goal.new-requires
new-requires g c = record {
  few = omega (arith, c.in_ok-begins.ensures.begun, few_views c.args.index.now c.requires.kept);
  ended = c.in_ok-begins.ensures.ended ∙ sym c.in_ok-begins.ensures.begun;
  each = λ j l. c.requires.keys.count j l ∙ sym c.in_ok-begins.ensures.begun;
}

pub invariant_of-result : goal.invariant_of-result
invariant_of-result g c = is_grid c.args.index.now c.requires.kept _ _ _ _ c.in_ok-new.ensures c.requires.keys c.in_ok-begins.ensures
