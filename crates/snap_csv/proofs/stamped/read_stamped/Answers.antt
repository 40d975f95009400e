use Rattle.std.proofs.Common.{◌+◌, ap, arith, length}
use Rattle.std.proofs.lemmas.Result.{err_from_is_err_and}
use Rattle.csv.specs.Records.{fields_of}
use Rattle.snap_csv.specs.inside.Rows.{Stands}
use Rattle.snap_format.proofs.StampFacts.{begun, done, more, one_longer, stopped}
use Rattle.snap_csv.proofs.stamped.read_stamped.Goals as goal

pub loop-i-init : goal.loop-i-init
loop-i-init c = record {
  count = ap length c.requires;
  room = omega arith;
  midway = λ rows s. begun c.args.limit rows (Stands c.args.reader.now) c.args.stamped.now.items s c.requires;
}

pub returns-in_err-next_row : goal.returns-in_err-next_row
returns-in_err-next_row c = λ rows s.
    let p = err_from_is_err_and c.from_residual.result c.from_residual.ensures.1 in
    rw (p.1, p.2) ((c.loop-i.invariant.midway rows s).first, tt)

pub returns-then-not-branch : goal.returns-then-not-branch
returns-then-not-branch c = λ rows s.
    let m = c.loop-i.invariant.midway rows s in
    done c.args.limit rows (Stands c.loop-i.reader) c.loop-i.stamped.items c.loop-i.i m (rw c.if-not-branch.true at (c.in_ok-next_row.ensures _ m.left))

pub returns-in_err-take_stamped_row : goal.returns-in_err-take_stamped_row
returns-in_err-take_stamped_row c = λ rows s.
    let m = c.loop-i.invariant.midway rows s in
    let p = err_from_is_err_and c.from_residual-in_err-take_stamped_row.result c.from_residual-in_err-take_stamped_row.ensures.1 in
    let found = rw c.if-not-branch.false at (c.in_ok-next_row.ensures _ m.left) in
    rw (p.1, p.2) (stopped c.args.limit rows (Stands c.loop-i.reader) c.loop-i.stamped.items c.take_stamped_row.new.stamped.items c.loop-i.i m (fields_of c.next_row.new.row) found.0 c.in_err-take_stamped_row.field-0.0 found.1 c.in_err-take_stamped_row.ensures)

pub loop-i-preserved : goal.loop-i-preserved
loop-i-preserved c =
    let one = one_longer c.args.limit (c.loop-i.i + 2) c.loop-i.stamped.items c.take_stamped_row.new.stamped.items (fields_of c.next_row.new.row) c.in_ok-take_stamped_row.ensures in
    record {
      count = omega (arith, one.1, c.loop-i.invariant.count);
      room = omega (arith, one.0, c.loop-i.invariant.count);
      midway = λ rows s.
          let m = c.loop-i.invariant.midway rows s in
          let found = rw c.if-not-branch.false at (c.in_ok-next_row.ensures _ m.left) in
          more c.args.limit rows (Stands c.loop-i.reader) (Stands c.next_row.new.reader) c.loop-i.stamped.items c.take_stamped_row.new.stamped.items c.loop-i.i m (fields_of c.next_row.new.row) found c.in_ok-take_stamped_row.ensures;
    }
