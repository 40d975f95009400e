use Rattle.std.proofs.Common.{◌≡◌, ◌∙◌, ◌∷◌, [], arith, length-append, sym}
use Rattle.snap_follow.proofs.sums.Sums.add.Goals as goal

pub returns-clause-counts : goal.returns-clause-counts
returns-clause-counts c = λ told t code number counts.
    let was = counts.windows_are in
    let code_is = code ∙ sym c.code-code.ensures in
    let number_is : t.number ≡ c.saturating_add-number.result = omega (arith, was, number, c.saturating_add-number.ensures) in
    record {
      windows_are = omega (arith, was, c.saturating_add-number.ensures, length-append told (t ∷ []));
      atomic = c.add.ensures 0 told t code_is number_is counts.atomic;
      only_regular = c.add-2.ensures 1 told t code_is number_is counts.only_regular;
      not_regular = c.add-3.ensures 2 told t code_is number_is counts.not_regular;
      refused = c.add-4.ensures 3 told t code_is number_is counts.refused;
      failed = c.add-5.ensures 4 told t code_is number_is counts.failed;
    }
