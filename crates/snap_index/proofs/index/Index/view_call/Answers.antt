use Rattle.std.proofs.Common.{◌∙◌}
use Rattle.snap_core.specs.Calls.{calls_of}
use Rattle.snap_index.specs.IndexedCalls.{number_of}
use Rattle.snap_index.specs.inside.Tables.{number_kept}
use Rattle.snap_index.proofs.LookUps.{kept_at, seen}
use Rattle.snap_index.proofs.index.Index.view_call.Goals as goal

pub returns-in_err-get : goal.returns-in_err-get
returns-in_err-get g c =
    let i = seen _ _ _ _ _ _ c.self.view_is c.self.invariant in
    c.from_residual.ensures
    ∙ kept_at number_of number_kept (calls_of c.args.self.now) _ _ c.args.i c.get.result _ i.tables.of_views c.deref.ensures.value c.get.ensures.lookup.0 c.get.ensures.lookup.1 c.in_err-get.was

pub returns : goal.returns
returns g c =
    let i = seen _ _ _ _ _ _ c.self.view_is c.self.invariant in
    kept_at number_of number_kept (calls_of c.args.self.now) _ _ c.args.i c.get.result _ i.tables.of_views c.deref.ensures.value c.get.ensures.lookup.0 c.get.ensures.lookup.1 c.in_ok-get.was
