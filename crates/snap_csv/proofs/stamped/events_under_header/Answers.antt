use Rattle.snap_csv.proofs.stamped.events_under_header.Goals as goal

pub returns : goal.returns
returns c = λ rows s. c.in_stamp_order.ensures c.args.limit rows (c.read_stamped-read.ensures rows s)
