use Rattle.std.proofs.Common.{◌++◌, append_assoc}
use Rattle.snap_core.specs.Calls.{calls_of}
use Rattle.snap_report.proofs.Pieces.{same_text}
use Rattle.snap_explain.specs.Faults.{concerned_text, updates_text}
use Rattle.snap_explain.specs.Views.{views_text}
use Rattle.snap_explain.proofs.faults.put_concerned.Goals as goal

pub returns : goal.returns
unfolding concerned_text
returns g c =
    let out = c.args.out.now.items in
    let calls = calls_of c.args.index.now in
    let lines = c.args.lines in
    let updates = c.args.updates.now in
    same_text c.put_updates.result c.put_updates.new.out.items _ (out ++ concerned_text lines.listed lines.records.now calls c.args.views.now updates)
    (rw c.in_ok-put_views.ensures (append_assoc out (views_text lines.listed lines.records.now calls updates c.args.views.now) (updates_text lines.records.now calls updates)))
    c.put_updates.ensures
