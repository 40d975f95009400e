use Rattle.std.proofs.Common.{◌≡◌, ◌++◌, take}
use Rattle.snap_core.specs.Calls.{calls_of}
use Rattle.snap_explain.specs.Views.{views_text}
use Rattle.snap_explain.proofs.view.put_views.Given as goal

abbrev pub invariant-loop-view : goal.invariant-loop-view
invariant-loop-view g l = l.out.items ≡ l.fn.out.items ++ views_text l.lines.listed l.lines.records.now (calls_of l.index) l.updates (take l.view-index l.views)
