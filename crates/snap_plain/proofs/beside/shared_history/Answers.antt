use Rattle.std.proofs.Common.{◌∷◌, [], refl}
use Rattle.std.proofs.lemmas.Result.{err_from_is_err_and}
use Rattle.snap_plain.proofs.AheadFacts.{none_taken}
use Rattle.snap_plain.proofs.beside.shared_history.Goals as goal

pub returns-in_err-turns : goal.returns-in_err-turns
returns-in_err-turns g c = λ head later heads h.
    let p = err_from_is_err_and c.from_residual-in_err-turns.result c.from_residual-in_err-turns.ensures.1 in
    let took = c.each_job_beside-done.ensures.own in
    rw (p.1, p.2) ((rw c.in_err-turns.was at took) (head ∷ later) (none_taken c.args.limit head later c.args.lines.now [] heads h refl))

pub returns : goal.returns
returns g c = λ head later heads h.
    let took = c.each_job_beside-done.ensures.own in
    c.last_history.ensures (head ∷ later) ((rw c.in_ok-turns.was at took).2 (head ∷ later) (none_taken c.args.limit head later c.args.lines.now [] heads h refl))
