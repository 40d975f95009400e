use Rattle.std.proofs.Common.{◌∙◌, sym, arith}
use Rattle.snap_explain.specs.inside.Parts.{parts_after}
use Rattle.snap_explain.proofs.MistakeFacts.{great_component, no_component, some_component}
use Rattle.snap_explain.proofs.mistake.component_of.Goals as goal

pub returns-in-Some : goal.returns-in-Some
returns-in-Some c =
    some_component c.args.entry.now c.first_part.result.0.now (parts_after 58 c.first_part.result.1) c.in-Some.number c.first_part.ensures.parts
    (sym c.stamp_of.ensures ∙ c.in-Some.is) (omega arith)

pub returns-in_default : goal.returns-in_default
returns-in_default c =
    great_component c.args.entry.now c.first_part.result.0.now (parts_after 58 c.first_part.result.1) c.in-Some.number c.first_part.ensures.parts
    (sym c.stamp_of.ensures ∙ c.in-Some.is) (omega arith)

pub returns-in_default-2 : goal.returns-in_default-2
returns-in_default-2 c =
    no_component c.args.entry.now c.first_part.result.0.now (parts_after 58 c.first_part.result.1) c.first_part.ensures.parts (sym c.stamp_of.ensures ∙ c.in_default.is)
