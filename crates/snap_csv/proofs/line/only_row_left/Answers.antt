use Rattle.std.proofs.Common.{sym, ◌∙◌}
use Rattle.snap_csv.proofs.OneLine.{only_if}
use Rattle.snap_csv.proofs.line.only_row_left.Goals as goal

pub returns-then-not-branch : goal.returns-then-not-branch
returns-then-not-branch c = λ rows s. rw c.if-not-branch.true at (c.in_ok-next_row.ensures rows s)

pub returns : goal.returns
returns c = λ rows s.
    let found = rw c.if-not-branch.false at (c.in_ok-next_row.ensures rows s) in
    (found.0, found.1, only_if c.in_ok-more.more found.0 _ (λ n e. (let h = sym n.1 ∙ e in cc)) (c.in_ok-more.ensures found.0 found.2))
