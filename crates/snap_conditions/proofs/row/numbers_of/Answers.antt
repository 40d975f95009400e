use Rattle.std.proofs.Common.{ℕ, refl, arith}
use Rattle.std.proofs.lemmas.List.{length-set}
use Rattle.snap_theory.proofs.Entries.{sorted}
use Rattle.snap_views.proofs.Rows.{row_started, row_step}
use Rattle.snap_conditions.proofs.row.numbers_of.Goals as goal

pub loop-entry-init : goal.loop-entry-init
loop-entry-init c = (refl, row_started c.args.entries.now)

pub loop-entry-preserved : goal.loop-entry-preserved
loop-entry-preserved c = (
  omega (arith, length-set {A = ℕ}, c.loop-entry.invariant.0),
  row_step c.args.entries.now c.loop-entry.entry-index _ c.loop-entry.numbers (sorted c.args.entries.now c.requires) c.loop-entry-test.true c.loop-entry.invariant.0 c.loop-entry.invariant.1,
)
