use Rattle.std.proofs.Common.{sym, ◌∙◌}
use Rattle.std.proofs.lemmas.Result.{err_from_is_err_and}
use Rattle.csv.specs.Records.{fields_of}
use Rattle.snap_format.proofs.ReadFacts.{no_header, no_rows, with_stamps, without_stamps}
use Rattle.snap_csv.proofs.read.history_by_rows.Goals as goal
use Rattle.snap_csv.proofs.read.history_by_rows.Goals.{then-branch+else-is_header+else-is_stamped_header, else-branch}

pub returns-then-is_header : goal.returns-then-is_header
returns-then-is_header c = λ rows s.
    let found = rw c.if-branch.true at (c.in_ok-next_row.ensures rows s) in
    rw found.1 (c.history_under_header.ensures (fields_of c.next_row.new.row) found.0 (sym c.is_header.ensures ∙ c.if-is_header.true) found.2)

pub returns-in_err-history : goal.returns-in_err-history
returns-in_err-history c = λ rows s.
    let found = rw c.if-branch.true at (c.in_ok-next_row.ensures rows s) in
    let p = err_from_is_err_and c.from_residual-in_err-history.result c.from_residual-in_err-history.ensures.1 in
    rw (p.1, p.2) (without_stamps c.args.limit rows (fields_of c.next_row.new.row) found.0 c.in_err-history.field-0.0 found.1 (sym c.is_stamped_header.ensures ∙ c.if-is_stamped_header.true) (c.in_err-history.ensures found.0 found.2))

pub returns-then-is_stamped_header : goal.returns-then-is_stamped_header
returns-then-is_stamped_header c = λ rows s.
    let found = rw c.if-branch.true at (c.in_ok-next_row.ensures rows s) in
    with_stamps c.args.limit rows (fields_of c.next_row.new.row) found.0 c.in_ok-history.history c.in_ok-history.records found.1 (sym c.is_stamped_header.ensures ∙ c.if-is_stamped_header.true) (c.in_ok-history.ensures found.0 found.2)

pub returns : goal.returns
returns c = λ rows s. elim c.if-branch.branch [
  | then-branch+else-is_header+else-is_stamped_header w ↦
      let found = rw w.if-branch.true at (c.in_ok-next_row.ensures rows s) in
      no_header c.args.limit rows (fields_of c.next_row.new.row) found.0 found.1 (sym w.is_header.ensures ∙ w.if-is_header.false) (sym w.is_stamped_header.ensures ∙ w.if-is_stamped_header.false)
  | else-branch w ↦ no_rows c.args.limit rows (rw w.if-branch.false at (c.in_ok-next_row.ensures rows s))
]
