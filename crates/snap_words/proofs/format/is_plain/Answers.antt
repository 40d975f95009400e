use Rattle.std.proofs.Common.{◌≡◌, ◌∙◌, sym}
use Rattle.std.proofs.lemmas.Option.{same_Some}
use Rattle.snap_words.specs.declared.format.Format.TheVariants.{Plain, Json, Junit}
use Rattle.snap_words.proofs.format.is_plain.Goals as goal

pub returns-in-Some-Json-clause-plain : goal.returns-in-Some-Json-clause-plain
returns-in-Some-Json-clause-plain c = λ is.
    let lost : Json ≡ Plain = sym c.in-Some-Json.field-0-is ∙ same_Some _ _ (c.in-Some-Json.ensures.given Plain is) in
    absurd cc

pub returns-in-Some-Junit-clause-plain : goal.returns-in-Some-Junit-clause-plain
returns-in-Some-Junit-clause-plain c = λ is.
    let lost : Junit ≡ Plain = sym c.in-Some-Junit.field-0-is ∙ same_Some _ _ (c.in-Some-Junit.ensures.given Plain is) in
    absurd cc

pub returns-in-None-clause-plain : goal.returns-in-None-clause-plain
returns-in-None-clause-plain c = λ is.
    let lost = c.format_in.ensures.given Plain is in
    absurd cc
