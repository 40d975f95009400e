use Rattle.std.proofs.Common.{◌∙◌, List, ap}
use Rattle.snap_core.specs.declared.event.Event.{Event}
use Rattle.snap_core.specs.Calls.{calls_of}
use Rattle.snap_theory.specs.Keys.{printed_keys}
use Rattle.snap_order.proofs.printing.build_alone.Goals as goal

pub ordered-requires-clause-keys : goal.ordered-requires-clause-keys
ordered-requires-clause-keys g c = c.in_ok-keys.ensures ∙ ap (λ (z : List Event). printed_keys (calls_of z)) c.of.ensures
