use Rattle.snap_plain.proofs.beside.history_of_lines_shared.Goals as goal

pub returns : goal.returns
returns g c = λ rows known.
    let (head, later, is, heads, h) = rw c.in-Bare.is at known in
    rw is (c.shared_history.ensures head later heads h)
