use Rattle.std.proofs.Common.{◌∙◌, sym}
use Rattle.std.proofs.lemmas.Bool.{false≢true}
use Rattle.snap_windows.proofs.Cutting.{atomic_whole, both_are, cut_taken, regular_whole}
use Rattle.snap_windows.proofs.judge.WindowJudge.cut.Goals as goal

pub returns-then-not-quiet-clause-open : goal.returns-then-not-quiet-clause-open
returns-then-not-quiet-clause-open c = λ before since h q. false≢true (sym c.if-not-quiet.true ∙ (c.in_ok-verdict.ensures.quiet before since h).1 q)

pub returns-clause-cut : goal.returns-clause-cut
returns-clause-cut c = λ before since h.
    let judge = c.args.self.now in
    let v = c.in_ok-verdict.verdict in
    let is = c.in_ok-verdict.ensures.window before since h in
    let quiet = (c.in_ok-verdict.ensures.quiet before since h).0 c.if-not-quiet.false in
    cut_taken judge before since c.of_any.result _ _ h quiet c.of_any.ensures.events c.of_any.ensures.limit
    (regular_whole judge before since v.regular _ h is.regular (both_are judge.regular v.regular))
    (atomic_whole judge before since v.atomic _ h is.atomic (both_are judge.atomic v.atomic))
