use Rattle.std.proofs.Common.{refl, ◌≤◌, List, length, sym, subst, arith}
use Rattle.snap_core.specs.Bounded.{IsAtMost}
use Rattle.snap_core.specs.Events.{Event}
use Rattle.snap_core.specs.declared.writers.Writers.TheVariants.{Many}
use Rattle.snap_core.specs.inside.Tables.{IsRecalled}
use Rattle.snap_core.proofs.OrderedPushes.{bounded_nil}
use Rattle.snap_core.proofs.history.History+AnyWriters.of_any.Goals as goal

pub invariant_of-result : goal.invariant_of-result
invariant_of-result c =
    subst (λ (es : List Event). IsRecalled c.args.limit.writers c.new-2.result es × (length es ≤ c.args.limit.events) × IsAtMost Many c.args.limit.writers) (sym c.new.ensures.items)
    (record { kept = bounded_nil c.args.limit.writers; recalls = c.new-2.ensures c.args.limit.writers }, omega arith, refl)
