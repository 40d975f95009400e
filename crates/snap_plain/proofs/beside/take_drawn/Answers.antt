use Rattle.std.proofs.Common.{◌≡◌, ◌++◌, ◌∷◌, ◌∙◌, [], All, rules, subst, sym}
use Rattle.std.proofs.lemmas.List.Elements.{All-push}
use Rattle.std.proofs.lemmas.Result.{err_from_is_err_and}
use Rattle.snap_plain.specs.Ahead.{IsAhead}
use Rattle.snap_plain.proofs.beside.take_drawn.Goals as goal

pub returns-in_err-behind-clause-takes : goal.returns-in_err-behind-clause-takes
returns-in_err-behind-clause-takes g c =
    let p = err_from_is_err_and c.from_residual-in_err-behind.result c.from_residual-in_err-behind.ensures.1 in
    rw (p.1, p.2) (λ rows begun. (rw c.each.invariant.limit at c.in_err-behind.ensures.takes) rows (c.each.invariant.taken rows begun))

pub returns-in_err-behind-2-clause-takes : goal.returns-in_err-behind-2-clause-takes
returns-in_err-behind-2-clause-takes g c =
    let p = err_from_is_err_and c.from_residual-in_err-behind-2.result c.from_residual-in_err-behind-2.ensures.1 in
    rw (p.1, p.2) (λ rows begun. c.in_err-behind-2.ensures.takes c.args.lines.now rows ((rw c.each.invariant.limit at c.in_ok-behind.ensures.takes) rows (c.each.invariant.taken rows begun)))

pub each-preserved-then-lines-piece : goal.each-preserved-then-lines-piece
each-preserved-then-lines-piece g c = record {
  taken = λ rows begun. c.in_ok-behind-2.ensures.takes c.args.lines.now rows ((rw c.each.invariant.limit at c.in_ok-behind.ensures.takes) rows (c.each.invariant.taken rows begun));
  limit = c.in_ok-behind-2.ensures.limit ∙ c.in_ok-behind.ensures.limit ∙ c.each.invariant.limit;
  waiting = c.in_ok-behind.ensures.ahead;
  of_counter = c.in-Some.ensures.same.0;
}

pub each-preserved : goal.each-preserved
each-preserved g c =
    let lines = c.args.lines.now in
    let pushed : c.push.new.self.items ≡ c.take_ahead.new.ahead.items ++ c.read_piece.result ∷ [] = search rules in
    record {
      taken = λ rows begun. (rw c.each.invariant.limit at c.in_ok-behind.ensures.takes) rows (c.each.invariant.taken rows begun);
      limit = c.in_ok-behind.ensures.limit ∙ c.each.invariant.limit;
      waiting = subst (All (IsAhead lines)) (sym pushed) (All-push (IsAhead lines) c.take_ahead.new.ahead.items c.read_piece.result c.in_ok-behind.ensures.ahead c.read_piece.ensures.ahead);
      of_counter = c.in-Some.ensures.same.0;
    }
