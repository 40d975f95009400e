use Rattle.snap_core.specs.Counting.{inner_of}
use Rattle.snap_format.specs.Rows.{rows_of}
use Rattle.snap_csv.specs.inside.StampedRows.{AnswersStampedRows}
use Rattle.snap_csv.proofs.RoomFacts.{room_leaves}
use Rattle.snap_csv.proofs.StampedTextFacts.{stamped_counts, stamped_room, stamped_within}
use Rattle.snap_csv.proofs.stamped.read_stamped_events.Goals as goal

pub returns-clause-text : goal.returns-clause-text
returns-clause-text g c =
    let says : AnswersStampedRows c.args.limit (rows_of c.deref.result.now) c.events_by_rows.result = c.events_by_rows.ensures _ c.reader_of.ensures in
    stamped_room c.args.limit (g.R.Read.remaining (inner_of c.args.reader.now)) c.take_in.new.room.items c.events_by_rows.result c.in_ok-_plain.ensures.text (rw c.deref.ensures.value at says)

pub returns-clause-room : goal.returns-clause-room
returns-clause-room g c = room_leaves (g.R.Read.remaining (inner_of c.args.reader.now)) c.take_in.new.room.items c.events_by_rows.result c.in_ok-_plain.ensures.text.1

pub returns-clause-counts : goal.returns-clause-counts
returns-clause-counts g c = stamped_counts _ _ _ _ c.events_by_rows.result c.in_ok-_plain.ensures.counts (c.events_by_rows.ensures _ c.reader_of.ensures)

pub returns-clause-short : goal.returns-clause-short
returns-clause-short g c = stamped_within c.args.limit _ c.events_by_rows.result (c.events_by_rows.ensures _ c.reader_of.ensures)
