use Rattle.std.proofs.Common.{◌≡◌, sym, true, false, ◌∙◌, ap}
use Rattle.std.specs.Prelude.{decimal}
use Rattle.std.specs.Str.{bytes_eq}
use Rattle.snap_text.proofs.NumberFacts.{wide_no_parse, wide_no_text, wide_other_text, wide_same_text, wide_small}
use Rattle.snap_text.proofs.number.long_stamp_of.Goals as goal

pub returns-in_default : goal.returns-in_default
returns-in_default c = sym (wide_no_text c.args.field.now c.in_default.ensures.cases.0)

pub returns-in_default-parse : goal.returns-in_default-parse
returns-in_default-parse c = sym (wide_no_parse c.args.field.now c.in-Ok.text.now c.parse.result c.in_default-parse.field-0 c.in-Ok.ensures.cases.0 c.parse.ensures.value.0 c.in_default-parse.is)

pub returns-then-eq : goal.returns-then-eq
returns-then-eq c =
    let text = c.as_bytes.ensures.value ∙ c.format.ensures.text in
    let same : bytes_eq (decimal c.in-Ok-parse.stamp) c.args.field.now ≡ true = ap (λ t. bytes_eq t c.args.field.now) (sym text) ∙ sym c.eq.ensures ∙ c.if-eq.true in
    sym (wide_same_text c.args.field.now c.in-Ok-parse.stamp (wide_small c.in-Ok.text.now c.parse.result c.in-Ok-parse.stamp c.parse.ensures.value.0 c.in-Ok-parse.is) same)

pub returns-else-eq : goal.returns-else-eq
returns-else-eq c =
    let text = c.as_bytes.ensures.value ∙ c.format.ensures.text in
    let other : bytes_eq (decimal c.in-Ok-parse.stamp) c.args.field.now ≡ false = ap (λ t. bytes_eq t c.args.field.now) (sym text) ∙ sym c.eq.ensures ∙ c.if-eq.false in
    sym (wide_other_text c.args.field.now c.in-Ok.text.now c.parse.result c.in-Ok-parse.stamp c.in-Ok.ensures.cases.0 c.parse.ensures.value.0 c.in-Ok-parse.is other)
