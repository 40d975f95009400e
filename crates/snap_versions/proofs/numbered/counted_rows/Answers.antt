use Rattle.std.proofs.Common.{◌≡◌, IfOk, List, map, subst}
use Rattle.snap_core.specs.Calls.{Call}
use Rattle.snap_versions.specs.Rows.{call_of}
use Rattle.snap_versions.specs.inside.Listed.{calls_listed}
use Rattle.snap_versions.proofs.Counted.{calls_counted}
use Rattle.snap_versions.proofs.numbered.counted_rows.Goals as goal

pub returns : goal.returns
returns c =
    subst (λ (z : List Call). IfOk c.ranked_rows.result (λ rows. map call_of rows.items ≡ z))
    (calls_counted (calls_listed c.args.calls.now) c.in_ok-versions.versions c.in_ok-versions.ensures) c.ranked_rows.ensures
