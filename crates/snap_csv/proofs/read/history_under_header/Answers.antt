use Rattle.std.proofs.Common.{◌∷◌, refl}
use Rattle.std.proofs.lemmas.Result.{err_from_is_err_and}
use Rattle.snap_csv.specs.inside.Rows.{Stands}
use Rattle.snap_format.proofs.ReadFacts.{begun}
use Rattle.snap_csv.proofs.read.history_under_header.Goals as goal

pub returns-in_err-take_rows : goal.returns-in_err-take_rows
returns-in_err-take_rows c = λ head later heads s.
    let p = err_from_is_err_and c.from_residual.result c.from_residual.ensures.1 in
    let m = begun c.args.limit (head ∷ later) (Stands c.args.reader.now) head c.of_any-history.result.events (later, refl, s) heads c.of_any-history.ensures.events in
    rw (p.1, p.2) (c.in_err-take_rows.ensures (head ∷ later) m)

pub returns : goal.returns
returns c = λ head later heads s.
    let m = begun c.args.limit (head ∷ later) (Stands c.args.reader.now) head c.of_any-history.result.events (later, refl, s) heads c.of_any-history.ensures.events in
    c.in_ok-take_rows.ensures (head ∷ later) m
