use Rattle.std.proofs.Common.{◌≡◌, ◌-◌, [], get_or, arith, rules}
use Rattle.std.proofs.lemmas.List.{nil_from_length}
use Rattle.snap_index.proofs.Padding.{row_below}
use Rattle.snap_index.proofs.table.filled.Goals as goal

pub loop-count-preserved : goal.loop-count-preserved
loop-count-preserved g c =
    let row = c.index-table-count.result in
    let is : get_or c.args.table.now (c.loop-count.count - 1) row ≡ row = search rules in
    let none : row.items ≡ [] = nil_from_length _ (search rules) in
    record {
      within = omega arith;
      none = row_below c.args.table.now c.loop-count.count row is none c.loop-count-test.true c.loop-count.invariant.none;
    }
