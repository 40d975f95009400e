use Rattle.std.proofs.Common.{◌∙◌, List, length, ap}
use Rattle.std.proofs.lemmas.Result.{IfOk-weaker}
use Rattle.snap_core.specs.declared.event.Event.{Event}
use Rattle.snap_core.specs.Calls.{calls_of}
use Rattle.snap_order.specs.inside.Blocks.{keys_between}
use Rattle.snap_order.proofs.Blocks.{all_between}
use Rattle.snap_order.proofs.levels.Levels.keys.Goals as goal

pub returns : goal.returns
returns g c =
    let calls = calls_of c.args.self.now in
    let count = c.call_count.ensures ∙ ap (λ (z : List Event). length (calls_of z)) c.self.view_is in
    IfOk-weaker c.keys_between.result _ _ (λ v h. h ∙ ap (keys_between calls 0) count ∙ all_between calls) c.keys_between.ensures
