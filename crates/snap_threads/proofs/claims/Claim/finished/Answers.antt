use Rattle.std.proofs.Common.{sym, subst}
use Rattle.snap_threads.specs.Claiming.{IsFinished}
use Rattle.snap_threads.proofs.Finishing.{finished_to, finished_from}
use Rattle.snap_threads.proofs.claims.Claim.finished.Goals as goal

pub returns : goal.returns
returns c =
    let i = c.self.inside in (
      (λ t. subst IsFinished c.self.view_is (finished_to _ _ i.finished c.self.invariant.ended t)),
      λ f. finished_from _ _ i.finished c.self.invariant.ended (subst IsFinished (sym c.self.view_is) f),
    )
