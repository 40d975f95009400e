use Rattle.std.proofs.Common.{sym, ◌∙◌}
use Rattle.csv.specs.Records.{fields_of}
use Rattle.snap_csv.proofs.StampedTextFacts.{no_record, other_header, under_header}
use Rattle.snap_csv.proofs.stamped.events_by_rows.Goals as goal
use Rattle.snap_csv.proofs.stamped.events_by_rows.Goals.{then-branch+else-is_stamped_header, else-branch}

pub returns-then-is_stamped_header : goal.returns-then-is_stamped_header
returns-then-is_stamped_header c = λ rows s.
    let found = rw c.if-branch.true at (c.in_ok-next_row.ensures rows s) in
    under_header c.args.limit rows (fields_of c.next_row.new.row) found.0 c.events_under_header.result found.1 (sym c.is_stamped_header.ensures ∙ c.if-is_stamped_header.true) (c.events_under_header.ensures found.0 found.2)

pub returns : goal.returns
returns c = λ rows s. elim c.if-branch.branch [
  | then-branch+else-is_stamped_header w ↦
      let found = rw w.if-branch.true at (c.in_ok-next_row.ensures rows s) in
      other_header c.args.limit rows (fields_of c.next_row.new.row) found.0 found.1 (sym w.is_stamped_header.ensures ∙ w.if-is_stamped_header.false)
  | else-branch w ↦ no_record c.args.limit rows (rw w.if-branch.false at (c.in_ok-next_row.ensures rows s))
]
