use Rattle.std.proofs.Common.{◌∙◌, ap, vec_items}
use Rattle.snap_runs.proofs.Shrinking.{cut_to_itself, cut_to_witness}
use Rattle.snap_runs.proofs.shrink.shrunk.Goals as goal
use Rattle.snap_runs.proofs.shrink.shrunk.Goals.{in-Some+in_ok-text-in-Some, in-None+in_ok-text-in-None}

pub returns : goal.returns
returns g c = λ writers history.
    let judged = c.in_ok-status.ensures in
    elim c.match-found.branch [
      | in-Some+in_ok-text-in-Some w ↦ record {
        left = w.in-Some.left.events;
        cut = cut_to_witness writers _ _ _ _ w.in-Some.is history (judged.status writers history) judged.witness;
        writes = ap vec_items w.text-is ∙ w.in_ok-text-in-Some.ensures;
      }
      | in-None+in_ok-text-in-None w ↦ record {
        left = c.args.history.now.events;
        cut = cut_to_itself writers _ _ _ w.in-None.is history (judged.status writers history) judged.witness;
        writes = ap vec_items w.text-is ∙ w.in_ok-text-in-None.ensures;
      }
    ]
