use Rattle.std.proofs.Common.{◌≡◌, ap, arith, length}
use Rattle.snap_core.specs.Calls.{calls_of}
use Rattle.snap_stats.specs.Shown.{updated_components}
use Rattle.snap_stats.proofs.Components.{component_total}
use Rattle.snap_stats.proofs.stats.stats_of.Goals as goal

pub returns-clause-counts : goal.returns-clause-counts
returns-clause-counts g c =
    let calls = calls_of c.args.index.now in
    let events = c.event_count.ensures.count in
    let all = c.call_count.ensures in
    let pending = c.pending_count.ensures in
    let views = c.view_count.ensures in
    let updates = c.in_ok-updates.ensures.all in
    let unshown = c.in_ok-updates.ensures.unshown in
    let processes = c.in_ok-processes.ensures in
    let components : c.len.result ≡ length (updated_components calls) = omega (arith, c.len.ensures, c.in_ok-components.components.ok, ap length c.in_ok-components.ensures, component_total calls) in
    let most = c.in_ok-most_open.ensures.most in
    let longest = c.in_ok-most_open.ensures.longest in
    let overlapping = c.in_ok-overlapping.ensures in
    λ i. record {
      events = events i;
      calls = all i;
      pending = pending i;
      views = views i;
      updates = updates i;
      unshown = unshown i;
      processes = processes i;
      components = components i;
      most_open = most i;
      longest = longest i;
      overlapping = overlapping i;
    }
