use Rattle.std.proofs.Common.{rules, ◌+◌, ◌≤◌, ℕ, Fits, w64, ap, ◌∙◌, arith}
use Rattle.snap_views.proofs.Climbing.{none_taken, one_taken, below_by_sum, all_taken}
use Rattle.snap_views.proofs.Compared.{compared_small}
use Rattle.snap_theory.proofs.Entries.{nothing}
use Rattle.snap_views.proofs.view_chain.climb.Goals as goal

fits : (n : ℕ) → n ≤ 2199023255551 → Fits w64 n
fits n l = search (rules, l)

pub loop-entry-init : goal.loop-entry-init
loop-entry-init c = none_taken c.args.numbers.now c.args.entries.now c.requires.entries (search (rules, c.fits-numbers))

pub overflow_add-lesser : goal.overflow_add-lesser
overflow_add-lesser c =
    let t = c.loop-entry.invariant in
    let small = compared_small c.args.numbers.now c.args.entries.now c.loop-entry.entry-index t.edge c.loop-entry.lesser t.sum c.requires.entries t.compared in
    let number = (c.requires.entries.fit c.loop-entry.entry-index nothing c.loop-entry-test.true).1 in
    fits _ (omega (arith, c.from-lesser.ensures, c.min.ensures, number, small.0, small.1))

pub loop-entry-preserved : goal.loop-entry-preserved
loop-entry-preserved c =
    one_taken c.args.numbers.now c.loop-entry.numbers c.args.entries.now c.loop-entry.entry-index c.loop-entry.lesser _ c.requires.entries c.loop-entry-test.true c.loop-entry.invariant
    (ap (λ z. c.loop-entry.lesser + z) (c.from-lesser.ensures ∙ c.min.ensures))

pub returns-clause-below : goal.returns-clause-below
returns-clause-below c = below_by_sum c.args.numbers.now c.loop-entry.numbers c.args.entries.now c.loop-entry.entry-index c.loop-entry.lesser c.args.sum c.loop-entry-test.false c.loop-entry.invariant c.requires.sum

pub returns-clause-taken : goal.returns-clause-taken
returns-clause-taken c = λ t.
    all_taken c.args.numbers.now c.loop-entry.numbers c.args.entries.now c.loop-entry.entry-index c.loop-entry.lesser c.loop-entry-test.false c.loop-entry.invariant ((returns-clause-below c).0 t)
