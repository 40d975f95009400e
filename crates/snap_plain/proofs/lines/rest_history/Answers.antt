use Rattle.std.proofs.Common.{◌≡◌, ◌∙◌, [], drop, length, arith}
use Rattle.std.proofs.lemmas.List.{nil_from_length}
use Rattle.std.proofs.lemmas.Result.{err_from_is_err_and}
use Rattle.snap_plain.specs.Lines.{HasRows}
use Rattle.snap_plain.proofs.FrontFacts.{no_line}
use Rattle.snap_format.proofs.ReadFacts.{done}
use Rattle.snap_plain.proofs.lines.rest_history.Goals as goal

pub returns-in_err-take_lines : goal.returns-in_err-take_lines
returns-in_err-take_lines c = λ lines rows h.
    let p = err_from_is_err_and c.from_residual.result c.from_residual.ensures.1 in
    rw (p.1, p.2) (c.in_err-take_lines.ensures.takes lines rows h)

pub returns : goal.returns
returns c = λ lines rows h.
    let (is, m) = c.in_ok-take_lines.ensures.takes lines rows h in
    let none : c.in_ok-take_lines.field-0.now ≡ [] = nil_from_length _ (omega (arith, c.in_ok-take_lines.ensures.stop)) in
    done c.args.limit rows (HasRows c.in_ok-take_lines.field-0.now) c.take_lines.new.history (length c.take_lines.new.history.events) m (no_line (drop (length c.take_lines.new.history.events) m.later) (rw none at m.left)) (c.in_ok-take_lines.ensures.limit ∙ c.requires)
