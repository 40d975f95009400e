use Rattle.snap_windows.proofs.Cutting.{atomic_whole, both_are, regular_whole}
use Rattle.snap_windows.proofs.judge.WindowJudge.finish.Goals as goal

pub returns-clause-regular : goal.returns-clause-regular
returns-clause-regular c = λ before since h.
    let v = c.in_ok-verdict.verdict in
    regular_whole c.args.self before since v.regular _ h (c.in_ok-verdict.ensures.window before since h).regular (both_are c.args.self.regular v.regular)

pub returns-clause-atomic : goal.returns-clause-atomic
returns-clause-atomic c = λ before since h.
    let v = c.in_ok-verdict.verdict in
    atomic_whole c.args.self before since v.atomic _ h (c.in_ok-verdict.ensures.window before since h).atomic (both_are c.args.self.atomic v.atomic)
