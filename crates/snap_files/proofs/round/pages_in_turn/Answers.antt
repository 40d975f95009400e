use Rattle.std.proofs.Common.{subst, List, ℕ}
use Rattle.snap_files.specs.Files.{IsPage}
use Rattle.snap_files.proofs.Pages.{next_answered}
use Rattle.snap_files.proofs.round.pages_in_turn.Goals as goal

pub loop-name-preserved : goal.loop-name-preserved
loop-name-preserved g c =
    let page = c.check_name-page.result in
    let this = subst (λ (name : List ℕ). IsPage (g.O.Opener.opens c.args.opener.now) c.args.options name page.0 page.1.items) c.deref.ensures.value c.check_name-page.ensures in
    rw c.in_ok-push.ensures.items (next_answered (g.O.Opener.opens c.args.opener.now) c.args.options c.args.names.now c.loop-name.name-index c.loop-name.pages.items c.name-item.result page c.loop-name-test.true c.name-item.is c.loop-name.invariant this)
