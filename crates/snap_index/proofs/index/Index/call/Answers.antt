use Rattle.std.proofs.Common.{slice_get, ap, ◌∙◌}
use Rattle.std.proofs.lemmas.Option.{slice_get-map}
use Rattle.snap_core.specs.Calls.{calls_of}
use Rattle.snap_index.specs.IndexedCalls.{as_indexed}
use Rattle.snap_index.proofs.IndexedCalls.{got}
use Rattle.snap_index.proofs.LookUps.{seen}
use Rattle.snap_index.proofs.index.Index.call.Goals as goal

pub returns : goal.returns
returns g c =
    let i = seen _ _ _ _ _ _ c.self.view_is c.self.invariant in
    got c.deref.result.now c.get.result c.args.c c.get.ensures.lookup.0 c.get.ensures.lookup.1
    ∙ ap (λ z. slice_get z c.args.c) (c.deref.ensures.value ∙ i.indexed_calls)
    ∙ slice_get-map as_indexed (calls_of c.args.self.now) c.args.c
