use Rattle.std.proofs.lemmas.Result.{err_from_is_err_and}
use Rattle.snap_plain.proofs.beside.last_history.Goals as goal

pub returns-in_err-rest : goal.returns-in_err-rest
returns-in_err-rest g c =
    let p = err_from_is_err_and c.from_residual-in_err-rest.result c.from_residual-in_err-rest.ensures.1 in
    rw (p.1, p.2) (λ rows begun. (rw c.requires.limit at c.in_err-rest.ensures.takes) rows begun)

pub returns : goal.returns
returns g c = λ rows begun. c.rest_history.ensures c.args.lines.now rows ((rw c.requires.limit at c.in_ok-rest.ensures.takes) rows begun)
