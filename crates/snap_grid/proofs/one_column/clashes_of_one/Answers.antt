use Rattle.std.proofs.Common.{◌+◌, refl, sym, ap, ◌∙◌, arith}
use Rattle.std.specs.Prelude.{nat_lt, find}
use Rattle.std.specs.List.{range_with_len}
use Rattle.std.specs.Option.{option_or}
use Rattle.snap_grid.specs.Columns.{number}
use Rattle.snap_grid.proofs.Clashing.{find_both, sum_more}
use Rattle.snap_grid.proofs.OneColumn.{find_one}
use Rattle.snap_grid.proofs.one_column.clashes_of_one.Goals as goal

pub loop-i-preserved : goal.loop-i-preserved
loop-i-preserved c =
    let kept = c.loop-i.invariant in
    let counts = c.args.counts.now in
    let from = c.args.from in
    let i = c.loop-i.i in
    record {
      few = omega (arith, kept.few, c.from-count.ensures, (c.type_inv.counts i).fits);
      count = λ f h. omega (arith, kept.count f (λ a l. h a (omega (arith, l))), sum_more f from i, h i (omega arith), c.from-count.ensures);
      first = λ p h.
          c.or-first.ensures ∙ ap (λ z. option_or z c.then_some.result) (kept.first p (λ a l. h a (omega (arith, l))))
          ∙ ap (option_or (find p (range_with_len from i))) (c.then_some.ensures ∙ sym (find_one p (from + i) (nat_lt 0 (number counts i)) (h i (omega arith))))
          ∙ sym (find_both p from i 1 (from + i) refl);
    }
