use Rattle.std.proofs.Common.{◌≡◌, ◌∷◌, sym, rules}
use Rattle.snap_text.specs.Fields.{parts}
use Rattle.snap_explain.proofs.MistakeFacts.{four_parts}
use Rattle.snap_explain.proofs.mistake.three_parts.Goals as goal

pub returns-in-Some : goal.returns-in-Some
returns-in-Some c =
    let mark = c.args.mark in
    let text = c.args.text.now in
    let second = c.in_ok-rest.field-0.now in
    let third = c.in_ok-rest-2.field-0.now in
    let fourth = c.in-Some.field-0.now in
    let one : parts mark text ≡ c.first_part.result.0.now ∷ parts mark second = search rules in
    let two : parts mark second ≡ c.first_part-2.result.0.now ∷ parts mark third = search rules in
    let others : parts mark third ≡ c.first_part-3.result.0.now ∷ parts mark fourth = search rules in
    sym (four_parts mark text second third fourth c.first_part.result.0.now c.first_part-2.result.0.now c.first_part-3.result.0.now one two others)
