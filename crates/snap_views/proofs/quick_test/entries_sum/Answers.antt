use Rattle.std.proofs.Common.{arith}
use Rattle.snap_theory.proofs.Entries.{nothing}
use Rattle.snap_views.proofs.Sizes.{rising_few}
use Rattle.snap_views.proofs.quick_test.entries_sum.Goals as goal

pub overflow_add-sum : goal.overflow_add-sum
overflow_add-sum c =
    let es = c.args.entries.now in
    let number = (c.requires.fit c.loop-entry.entry-index nothing c.loop-entry-test.true).1 in
    let few = rising_few es c.requires.rising (λ j d l. (c.requires.fit j d l).0) in
    record { fits = omega (arith, c.loop-entry.invariant.small, c.from-sum.ensures, number, few, c.loop-entry-test.true) }
