use Rattle.std.proofs.Common.{refl, ◌∙◌, arith}
use Rattle.std.proofs.lemmas.Grind.{common_steps}
use Rattle.std.proofs.lemmas.List.{at_drop_all, at_drop_more}
use Rattle.snap_core.specs.declared.entry.Entry.{Entry}
use Rattle.snap_core.specs.Entries.{has_zero}
use Rattle.snap_core.proofs.Rising.{rises_above, rises_all_above, rises_more}
use Rattle.snap_core.proofs.view.refusal_of.Goals as goal

pub loop-entry-init : goal.loop-entry-init
loop-entry-init c = record { rising = rises_all_above c.args.entries.now; zeros = refl }

pub loop-entry-preserved : goal.loop-entry-preserved
loop-entry-preserved c =
    let empty : Entry = record { component = 0; number = 0; value = 0 } in
    record {
      rising = rw c.from-component.ensures (c.loop-entry.invariant.rising ∙ rises_more c.args.entries.now c.loop-entry.entry-index c.loop-entry.least c.loop-entry.falls empty c.loop-entry-test.true);
      zeros = c.loop-entry.invariant.zeros ∙ grind (arith, common_steps, at_drop_more has_zero);
    }

pub returns-then-falls : goal.returns-then-falls
returns-then-falls c = rw (c.loop-entry.invariant.rising, c.if-falls.true) refl

pub returns-then-has_zero : goal.returns-then-has_zero
returns-then-has_zero c =
    let risen = at_drop_all (rises_above c.loop-entry.least) c.args.entries.now c.loop-entry.entry-index c.loop-entry-test.false in
    rw (c.loop-entry.invariant.rising, c.if-falls.false, risen, c.loop-entry.invariant.zeros, c.if-has_zero.true) refl

pub returns-else-has_zero : goal.returns-else-has_zero
returns-else-has_zero c =
    let risen = at_drop_all (rises_above c.loop-entry.least) c.args.entries.now c.loop-entry.entry-index c.loop-entry-test.false in
    let positive = at_drop_all has_zero c.args.entries.now c.loop-entry.entry-index c.loop-entry-test.false in
    rw (c.loop-entry.invariant.rising, c.if-falls.false, risen, c.loop-entry.invariant.zeros, c.if-has_zero.false, positive) refl
