use Rattle.std.proofs.Common.{◌≡◌, ◌^◌, sym, ◌∙◌, arith, rules}
use Rattle.snap_text.proofs.NumberFacts.{number_wider}
use Rattle.snap_text.proofs.number.stamp_of.Goals as goal

pub returns-in-Some : goal.returns-in-Some
returns-in-Some c =
    let same : c.from.result ≡ c.in-Some.stamp = search rules in
    rw same (sym (number_wider (2 ^ 64) c.in-Some.stamp c.args.field.now (sym c.number_of.ensures ∙ c.in-Some.is) (omega arith) (omega arith)))
