use Rattle.std.proofs.Common.{◌≡◌, ◌++◌, ◌≤◌, ◌-◌, ◌∷◌, [], ap, arith, length, length-append, rules}
use Rattle.std.proofs.lemmas.List.Elements.{All-push}
use Rattle.snap_plain.specs.Ahead.{IsPieceOf}
use Rattle.snap_plain.proofs.AheadFacts.{piece_more}
use Rattle.snap_plain.proofs.pieces.pieces_of.Goals as goal

pub loop-before-preserved : goal.loop-before-preserved
loop-before-preserved c =
    let lines = c.args.lines.now in
    let from = c.loop-before.from in
    let to = c.end_of_line-to.result in
    let before = c.loop-before.pieces.items in
    let size = c.end_of_line-to.ensures in
    let order : from ≤ to = omega (arith, size.after) in
    let pushed : c.push.new.self.items ≡ before ++ record { from = from; to = to } ∷ [] = search rules in
    record {
      pieces = rw pushed (All-push (IsPieceOf lines) before record { from = from; to = to } c.loop-before.invariant.pieces (order, size.within));
      all = rw pushed (piece_more lines 0 from to before c.loop-before.invariant.all order size.ends);
      count = omega (arith, c.loop-before.invariant.count, ap length pushed, length-append before (record { from = from; to = to } ∷ []));
      from = size.within;
      last = λ e.
          let one : c.min-count.result - c.loop-before.before ≡ 1 = omega (arith, e) in let after = rw one at size.after in omega (arith, after, size.within, c.loop-before.invariant.from);
    }

pub returns-clause-few : goal.returns-clause-few
returns-clause-few c =
    omega (arith, c.loop-before.invariant.count, c.loop-before.auto.before-end, c.min-count.ensures, c.workers-workers.ensures, c.args.cutting.workers_fit.1)
