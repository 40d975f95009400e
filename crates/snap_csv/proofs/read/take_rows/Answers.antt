use Rattle.std.proofs.Common.{◌∷◌, ◌∙◌, [], arith, ap, length}
use Rattle.std.proofs.lemmas.List.{length-append}
use Rattle.std.proofs.lemmas.Result.{err_from_is_err_and}
use Rattle.csv.specs.Records.{fields_of}
use Rattle.snap_csv.specs.inside.Rows.{Stands}
use Rattle.snap_format.proofs.ReadFacts.{done, has_room, more, stopped}
use Rattle.snap_csv.proofs.read.take_rows.Goals as goal

pub loop-i-init : goal.loop-i-init
loop-i-init c = record {
  midway = λ rows m. m;
  limit = c.requires.limit;
  count = ap length c.requires.empty;
  room = omega arith;
}

pub returns-then-not-branch : goal.returns-then-not-branch
returns-then-not-branch c = λ rows begun.
    let m = c.loop-i.invariant.midway rows begun in
    done c.args.limit rows (Stands c.loop-i.reader) c.loop-i.history c.loop-i.i m (rw c.if-not-branch.true at (c.in_ok-next_row.ensures _ m.left)) c.loop-i.invariant.limit

pub returns-in_err-take_row : goal.returns-in_err-take_row
returns-in_err-take_row c = λ rows begun.
    let m = c.loop-i.invariant.midway rows begun in
    let p = err_from_is_err_and c.from_residual-in_err-take_row.result c.from_residual-in_err-take_row.ensures.1 in
    let found = rw c.if-not-branch.false at (c.in_ok-next_row.ensures _ m.left) in
    rw (p.1, p.2) (stopped c.args.limit rows (Stands c.loop-i.reader) c.loop-i.history.events c.loop-i.i m (fields_of c.next_row.new.row) found.0 c.in_err-take_row.field-0.0 found.1 (rw c.loop-i.invariant.limit at c.in_err-take_row.ensures.takes))

pub loop-i-preserved : goal.loop-i-preserved
loop-i-preserved c =
    let limit = c.args.limit in
    let taken = rw c.loop-i.invariant.limit at c.in_ok-take_row.ensures.takes in
    let (fine, x, is, longer) = taken in
    record {
      midway = λ rows begun.
          let m = c.loop-i.invariant.midway rows begun in
          let found = rw c.if-not-branch.false at (c.in_ok-next_row.ensures _ m.left) in
          more limit rows (Stands c.loop-i.reader) (Stands c.next_row.new.reader) c.loop-i.history.events c.take_row.new.history.events c.loop-i.i m (fields_of c.next_row.new.row) found taken;
      limit = c.in_ok-take_row.ensures.limit ∙ c.loop-i.invariant.limit;
      count = omega (arith, ap length longer, length-append c.loop-i.history.events (x ∷ []), c.loop-i.invariant.count);
      room = omega (arith, has_room limit c.loop-i.history.events _ fine, c.loop-i.invariant.count);
    }
