use Rattle.std.proofs.Common.{◌-◌, refl, ap, inl, inr, arith}
use Rattle.std.proofs.lemmas.Bool.{cases_eq}
use Rattle.snap_grid.specs.Columns.{number}
use Rattle.snap_grid.proofs.Sweeps.{counted_more}
use Rattle.snap_grid.proofs.sweep.count_behind.Goals as goal

pub loop-first-preserved : goal.loop-first-preserved
loop-first-preserved c =
    let kept = c.loop-first.invariant in
    let next = c.loop-first.first - 1 in
    record {
      counted = counted_more c.args.size c.args.ranks.now c.loop-first.nodes c.raise.new.nodes c.loop-first.first next _ (omega (arith, c.loop-first-test.true)) refl kept.counted c.raise.ensures.tree c.raise.ensures.raised c.raise.ensures.most;
      before = omega (arith, kept.before);
      behind = λ b l m. elim (cases_eq b next) [
        | inl same ↦ omega (arith, ap (number c.args.begins.now) same, c.if-begins-first.true)
        | inr other ↦ kept.behind b (omega (arith, l, other)) m
      ];
    }
