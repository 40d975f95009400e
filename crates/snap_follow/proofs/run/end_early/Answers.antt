use Rattle.std.proofs.Common.{subst}
use Rattle.snap_follow.specs.Written.{HasSent}
use Rattle.snap_follow.specs.declared.run.FollowFault.TheVariants.{Memory}
use Rattle.snap_follow.specs.inside.Stops.{StopLeaves}
use Rattle.snap_follow.proofs.Sending.{fault_after, fault_leaves, sent_both}
use Rattle.snap_follow.proofs.run.end_early.Goals.{in-Refused, in-Lost+in_ok-add_failure-in-Lost}
use Rattle.snap_follow.proofs.run.end_early.Goals as goal

pub returns-in_err-add_failure-in-Lost-clause-wrote : goal.returns-in_err-add_failure-in-Lost-clause-wrote
returns-in_err-add_failure-in-Lost-clause-wrote g c =
    let contents = g.W.Write.contents in
    let writer = c.args.writer.now in
    λ first leaves. fault_leaves contents first writer c.from_residual.result Memory c.from_residual.ensures.1 (subst (StopLeaves contents first writer) c.in-Lost.is leaves)

pub returns-in_err-write_end-clause-wrote : goal.returns-in_err-write_end-clause-wrote
returns-in_err-write_end-clause-wrote g c =
    let contents = g.W.Write.contents in
    let writer = c.args.writer.now in
    let fault = c.in_err-write_end.field-0.0 in
    λ first leaves.
    let sent : HasSent contents first writer =
    elim c.match-stop.branch [
      | in-Refused w ↦ subst (StopLeaves contents first writer) w.in-Refused.is leaves
      | in-Lost+in_ok-add_failure-in-Lost w ↦ subst (StopLeaves contents first writer) w.in-Lost.is leaves
    ] in
    fault_leaves contents first c.write_end.new.writer c.from_residual-in_err-write_end.result fault c.from_residual-in_err-write_end.ensures.1
    (fault_after contents first writer c.write_end.new.writer fault sent c.in_err-write_end.ensures.wrote)

pub returns-clause-wrote : goal.returns-clause-wrote
returns-clause-wrote g c =
    let contents = g.W.Write.contents in
    let writer = c.args.writer.now in
    λ first leaves.
    let sent : HasSent contents first writer =
    elim c.match-stop.branch [
      | in-Refused w ↦ subst (StopLeaves contents first writer) w.in-Refused.is leaves
      | in-Lost+in_ok-add_failure-in-Lost w ↦ subst (StopLeaves contents first writer) w.in-Lost.is leaves
    ] in
    sent_both contents first writer c.write_end.new.writer sent c.in_ok-write_end.ensures.wrote
