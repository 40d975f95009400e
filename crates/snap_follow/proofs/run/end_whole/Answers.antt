use Rattle.std.proofs.Common.{◌≡◌, ◌<◌, None, subst}
use Rattle.std.specs.Prelude.{◌↔◌}
use Rattle.snap_follow.specs.declared.run.FollowFault.TheVariants.{Memory}
use Rattle.snap_core.specs.Counting.{inner_of}
use Rattle.snap_follow.proofs.Answering.{IsStatusBy, if_same, rest_told}
use Rattle.snap_follow.proofs.Sending.{fault_leaves, sent_nothing}
use Rattle.snap_follow.proofs.run.end_whole.Goals as goal

pub returns-in_err-code-clause-wrote : goal.returns-in_err-code-clause-wrote
returns-in_err-code-clause-wrote g c =
    let writer = c.args.writer.now in
    fault_leaves g.W.Write.contents writer writer c.from_residual.result Memory c.from_residual.ensures.1 (sent_nothing g.W.Write.contents writer)

pub returns-clause-code : goal.returns-clause-code
returns-clause-code g c = if_same (IsStatusBy c.args.course) c.code_of.result c.in_ok-code.code c.code_of.ensures.code c.in_ok-code.ensures.status

pub returns-clause-told : goal.returns-clause-told
returns-clause-told g c =
    let contents = g.W.Write.contents in
    let given = c.code_of.result in
    λ gone least most texts lines events h. rest_told c.in_ok-code.answers (contents (inner_of c.args.writer.now)) (contents (inner_of c.write_end.new.writer)) gone least most h.read.places events c.args.views given
    (c.in_ok-code.ensures.told gone least most texts lines events h) c.in_ok-write_end.ensures.told
    (subst (λ z. given ≡ None ↔ z.views < c.args.views) c.in_ok-write_end.ensures.sums c.code_of.ensures.few)
