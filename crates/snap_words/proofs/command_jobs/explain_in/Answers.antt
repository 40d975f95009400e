use Rattle.std.proofs.Common.{◌≡◌, Some, true, arith, sym, ◌∙◌}
use Rattle.snap_words.proofs.command_jobs.explain_in.Goals as goal

pub returns-clause-several : goal.returns-clause-several
returns-clause-several c = λ asks.
    let same : Some c.in_ok-faults.faults ≡ Some asks.faults = c.in_ok-faults.ensures.given asks.faults (omega (arith, asks.faults_fit.1)) asks.faults_are in
    let is : c.in_ok-faults.faults ≡ asks.faults = cc in
    let refused = c.are_faults.ensures.several (omega (arith, asks.several, is)) (c.flag_in-drawn.ensures.given true asks.drawn) in
    sym c.if-not-are_faults.false ∙ refused

pub returns-clause-one_writer : goal.returns-clause-one_writer
returns-clause-one_writer c = λ asks. c.in_ok-limit.ensures.one (c.flag_in-cut.ensures.given true asks.cut_is) asks.one_said
