use Rattle.std.proofs.Common.{sym, subst}
use Rattle.snap_tally.specs.inside.NumberTables.{IsPut}
use Rattle.snap_tally.proofs.NumberTables.{none_put, one_put}
use Rattle.snap_tally.proofs.number_table.NumberTable.put_view.Goals as goal

pub loop-entry-init : goal.loop-entry-init
loop-entry-init c = none_put c.args.count c.args.place c.args.self.now c.requires.rows

pub loop-entry-preserved : goal.loop-entry-preserved
loop-entry-preserved c =
    subst (IsPut c.args.count c.args.place _ c.args.self.now) (sym c.in_ok-put.ensures)
    (one_put c.args.count c.args.place c.args.entries.now c.loop-entry.entry-index c.args.self.now c.loop-entry.self (record { rising = c.requires.rising }) c.requires.fit c.loop-entry-test.true c.requires.place c.loop-entry.invariant)
