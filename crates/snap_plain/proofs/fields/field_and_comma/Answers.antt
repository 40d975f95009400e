use Rattle.std.proofs.Common.{◌≡◌, [], inr, refl, append-nil, ◌∙◌}
use Rattle.std.proofs.lemmas.List.{nil_from_length}
use Rattle.snap_plain.proofs.fields.field_and_comma.Goals as goal

pub returns-in_err-mark : goal.returns-in_err-mark
returns-in_err-mark c =
    let field = c.field_first.result.0.now in
    let none : c.field_first.result.1.now ≡ [] = nil_from_length _ c.in_err-mark.ensures.cases in
    rw c.from_residual.ensures (field, [], record { inner = c.field_first.ensures.inner; whole = inr (c.field_first.ensures.whole ∙ rw none (append-nil field), refl) })
