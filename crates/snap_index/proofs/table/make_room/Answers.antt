use Rattle.std.proofs.Common.{◌<◌, ap, ◌∙◌, length, arith}
use Rattle.snap_index.specs.Rows.{rows}
use Rattle.snap_index.specs.inside.Tables.{padded}
use Rattle.snap_index.proofs.Padding.{room_made}
use Rattle.snap_index.proofs.table.make_room.Goals as goal

pub loop-alloc-preserved : goal.loop-alloc-preserved
loop-alloc-preserved g c =
    let small : length c.loop-alloc.table.items < 256 = omega arith in
    let longer = c.in_ok-push.ensures.len in
    record {
      same = ap (λ table. padded (rows table)) c.in_ok-push.ensures.items ∙ room_made c.loop-alloc.table.items c.new.result c.new.ensures.items small ∙ c.loop-alloc.invariant.same;
      limit = omega arith;
    }
