use Rattle.std.proofs.Common.{◌≡◌, ◌∙◌, Bool, Option, Some, None, ap, false, refl, sym, true}
use Rattle.snap_words.specs.declared.format.Format.{Format}
use Rattle.snap_words.specs.declared.format.Format.TheVariants.{Plain, Json, Junit}
use Rattle.snap_words.specs.Jobs.{object_format}
use Rattle.snap_words.proofs.format.json_in.Goals as goal

-- whether a format is that of objects, if it is that of objects or of lines
abbrev json_of : Format → Option Bool
json_of Plain = Some false
json_of Json = Some true
json_of Junit = None

json_is : (json : Bool) → json_of (object_format json) ≡ Some json
json_is true = refl
json_is false = refl

asked : (format found : Format) (json : Bool) → found ≡ format → Some found ≡ Some (object_format json) → json_of format ≡ Some json
asked format found json is given =
    let same : found ≡ object_format json = cc in
    ap json_of (sym is ∙ same) ∙ json_is json

pub returns-in_err-format_in : goal.returns-in_err-format_in
returns-in_err-format_in c = record {
  given = λ json one.
      let lost = c.in_err-format_in.ensures.given (object_format json) one in
      absurd cc;
}

pub returns-in-Plain : goal.returns-in-Plain
returns-in-Plain c = record { given = λ json one. asked Plain c.in_ok-format_in.field-0 json c.in-Plain.is (c.in_ok-format_in.ensures.given (object_format json) one) }

pub returns-in-Json : goal.returns-in-Json
returns-in-Json c = record { given = λ json one. asked Json c.in_ok-format_in.field-0 json c.in-Json.is (c.in_ok-format_in.ensures.given (object_format json) one) }

pub returns-in-Junit : goal.returns-in-Junit
returns-in-Junit c = record { given = λ json one. asked Junit c.in_ok-format_in.field-0 json c.in-Junit.is (c.in_ok-format_in.ensures.given (object_format json) one) }
