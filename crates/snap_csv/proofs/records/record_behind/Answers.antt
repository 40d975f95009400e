use Rattle.std.proofs.Common.{◌+◌, arith, ap, ◌∙◌, Some}
use Rattle.csv.specs.Records.{fields_of}
use Rattle.snap_csv.proofs.LookupFacts.{found, next_stands, past_end}
use Rattle.snap_csv.proofs.records.record_behind.Goals as goal

pub returns-then-not-branch : goal.returns-then-not-branch
returns-then-not-branch c = λ rows s.
    past_end rows c.loop.counter c.args.before (c.args.before + 1) (omega arith) (omega (arith, c.loop-test.true)) (rw c.if-not-branch.true at (c.in_ok-next_row.ensures _ (c.loop.invariant rows s)))

pub loop-preserved : goal.loop-preserved
loop-preserved c = λ rows s.
    next_stands c.next_row.new.reader rows c.loop.counter (fields_of c.next_row.new.row) (rw c.if-not-branch.false at (c.in_ok-next_row.ensures _ (c.loop.invariant rows s)))

pub returns-then-not-branch-2 : goal.returns-then-not-branch-2
returns-then-not-branch-2 c = λ rows s.
    past_end rows c.loop.counter c.args.before (c.args.before + 1) (omega arith) c.loop.auto.counter-end (rw c.if-not-branch-2.true at (c.in_ok-next_row-2.ensures _ (c.loop.invariant rows s)))

pub returns : goal.returns
returns c = λ rows s.
    let here = rw c.if-not-branch-2.false at (c.in_ok-next_row-2.ensures _ (c.loop.invariant rows s)) in
    ap Some c.in_ok-fields_in.ensures
    ∙ found rows c.loop.counter c.args.before (c.args.before + 1) (fields_of c.next_row-2.new.row) here.0 (omega arith) (omega (arith, c.loop-test.false, c.loop.auto.counter-end)) here.1
