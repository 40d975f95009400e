use Rattle.std.proofs.Common.{◌∙◌, subst, sym}
use Rattle.std.specs.Io.KnownBytes.{Appends}
use Rattle.snap_core.specs.Counting.{inner_of}
use Rattle.snap_follow.proofs.Ending.{on_ok_then}
use Rattle.snap_follow.specs.declared.run.FollowFault.TheVariants.{Memory}
use Rattle.snap_follow.proofs.Sending.{fault_leaves, sent_nothing}
use Rattle.snap_follow.proofs.run.write_end.Goals as goal

pub returns-in_err-add_sums-clause-wrote : goal.returns-in_err-add_sums-clause-wrote
returns-in_err-add_sums-clause-wrote g c =
    let writer = c.args.writer.now in
    fault_leaves g.W.Write.contents writer writer c.from_residual.result Memory c.from_residual.ensures.1 (sent_nothing g.W.Write.contents writer)

pub returns-clause-told : goal.returns-clause-told
returns-clause-told g c =
    let contents = g.W.Write.contents in
    on_ok_then c.write_lines.result _ _ c.write_lines.ensures.all
    (λ all told sums. subst (Appends (contents (inner_of c.args.writer.now)) (contents (inner_of c.write_lines.new.writer))) (sym all.1.0 ∙ c.in_ok-add_sums.ensures.text told sums) all.0.sent)

pub returns-clause-sums : goal.returns-clause-sums
returns-clause-sums g c = on_ok_then c.write_lines.result _ _ c.write_lines.ensures.all (λ all. all.1.2 ∙ c.add_sums.ensures.same)
