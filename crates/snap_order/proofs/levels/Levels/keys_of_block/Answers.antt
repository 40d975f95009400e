use Rattle.std.proofs.Common.{◌≡◌, ◌+◌, ◌∙◌, List, length, ap, subst, arith}
use Rattle.std.specs.Prelude.{IfOk}
use Rattle.std.proofs.lemmas.Result.{IfOk-weaker}
use Rattle.snap_core.specs.declared.event.Event.{Event}
use Rattle.snap_core.specs.Calls.{calls_of}
use Rattle.snap_order.specs.inside.Blocks.{block_start, keys_between}
use Rattle.snap_views.proofs.Pieces.{starts_grow}
use Rattle.snap_order.proofs.levels.Levels.keys_of_block.Goals as goal

pub keys_between-requires-clause-order : goal.keys_between-requires-clause-order
keys_between-requires-clause-order g c =
    let grow = starts_grow c.args.block (c.args.block + 1) c.call_count-calls.result c.args.blocks (omega (arith, c.requires)) (omega arith) in
    omega (arith, grow, c.start_of-from.ensures.start, c.start_of-to.ensures.start)

pub keys_between-requires-clause-calls : goal.keys_between-requires-clause-calls
keys_between-requires-clause-calls g c =
    omega (arith, c.start_of-to.ensures.inside, c.call_count-calls.ensures, ap (λ (z : List Event). length (calls_of z)) c.self.view_is)

pub returns : goal.returns
returns g c =
    let calls = calls_of c.args.self.now in
    let blocks = c.args.blocks in
    let count = c.call_count-calls.ensures ∙ ap (λ (z : List Event). length (calls_of z)) c.self.view_is in
    let from = c.start_of-from.ensures.start ∙ ap (block_start blocks c.args.block) count in
    let to = c.start_of-to.ensures.start ∙ ap (block_start blocks (c.args.block + 1)) count in
    IfOk-weaker c.keys_between.result _ _ (λ v h. h ∙ ap (λ n. keys_between calls n c.start_of-to.result) from ∙ ap (keys_between calls (block_start blocks c.args.block (length calls))) to) c.keys_between.ensures
