use Rattle.std.proofs.Common.{ap, ◌∙◌, length, arith}
use Rattle.std.specs.Str.{bytes_eq}
use Rattle.std.proofs.lemmas.Cmp.{nat_list_eq_equiv}
use Rattle.std.proofs.lemmas.List.{take_all}
use Rattle.snap_text.proofs.fields.is_word.Goals as goal

pub returns-then-field-word : goal.returns-then-field-word
returns-then-field-word c =
    let field = c.args.field.now in
    let word = c.args.word.now in
    c.starts_with.ensures.value ∙ ap (bytes_eq word) (take_all (length word) field (omega (arith, c.if-field-word.true))) ∙ nat_list_eq_equiv.symm word field
