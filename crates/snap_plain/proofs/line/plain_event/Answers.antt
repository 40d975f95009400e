use Rattle.std.proofs.Common.{◌≡◌, ◌∷◌, [], ap, subst, ◌∙◌, sym}
use Rattle.std.proofs.lemmas.Bool.{eqb-true}
use Rattle.snap_format.specs.Rows.{rows_of}
use Rattle.snap_plain.specs.Lines.{HasRows}
use Rattle.snap_plain.proofs.FrontFacts.{empty_text, no_line}
use Rattle.snap_plain.proofs.line.plain_event.Goals as goal

pub returns : goal.returns
returns c =
    let b = (rw c.in-Ok-Some.field-0-is at c.in-Ok-Some.ensures.some) (rows_of c.args.line.now) c.in_ok-line.ensures in
    let empty : c.in-Ok-Some.rest.now ≡ [] = empty_text c.in-Ok-Some.rest.now (eqb-true _ _ (sym c.if-not-is_empty.ensures)) in
    let none = no_line b.1.1 (subst (λ z. HasRows z b.1.1) empty b.1.4) in
    (b.1.0, b.1.2 ∙ ap (λ z. b.1.0 ∷ z) none, b.1.3)
