use Rattle.std.proofs.Common.{◌≡◌, ◌∷◌, length, ap, arith}
use Rattle.snap_text.proofs.FrontFacts.{number_once}
use Rattle.snap_text.proofs.entries.number_and_colon.Goals as goal

pub returns-in_err-mark : goal.returns-in_err-mark
returns-in_err-mark c = rw c.from_residual-in_err-mark.ensures (λ n rest then.
    let once = number_once c.args.text.now c.in_ok-number.number n c.in_ok-number.rest.now (58 ∷ rest) c.in_ok-number.ensures then in
    omega (arith, ap length once.1, c.in_err-mark.ensures.cases))

pub returns-else-mark-eq58 : goal.returns-else-mark-eq58
returns-else-mark-eq58 c = λ n rest then.
    let once = number_once c.args.text.now c.in_ok-number.number n c.in_ok-number.rest.now (58 ∷ rest) c.in_ok-number.ensures then in
    let cut = c.in_ok-mark.ensures.cases.0 in
    let mark : c.in_ok-mark.mark.now ≡ 58 = cc in
    c.if-mark-eq58.false mark
