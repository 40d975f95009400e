use Rattle.snap_core.specs.Counting.{inner_of}
use Rattle.snap_format.specs.Rows.{rows_of}
use Rattle.snap_csv.specs.inside.Rows.{AnswersListed}
use Rattle.snap_csv.proofs.RoomFacts.{lists_counts, lists_each, lists_limit, room_leaves, room_lists}
use Rattle.snap_csv.proofs.records.read_records.Goals as goal

pub returns-clause-text : goal.returns-clause-text
returns-clause-text g c =
    let says : AnswersListed c.args.limit (rows_of c.deref.result.now) c.listed.result = c.listed.ensures c.args.limit _ c.numbered_history.ensures in
    room_lists c.args.limit (g.R.Read.remaining (inner_of c.args.reader.now)) c.take_in.new.room.items c.listed.result c.in_ok-plain.ensures.text (rw c.deref.ensures.value at says)

pub returns-clause-each : goal.returns-clause-each
returns-clause-each g c = lists_each c.args.limit _ c.listed.result (c.listed.ensures c.args.limit _ c.numbered_history.ensures)

pub returns-clause-limit : goal.returns-clause-limit
returns-clause-limit g c = lists_limit c.args.limit _ c.listed.result (c.listed.ensures c.args.limit _ c.numbered_history.ensures)

pub returns-clause-room : goal.returns-clause-room
returns-clause-room g c = room_leaves (g.R.Read.remaining (inner_of c.args.reader.now)) c.take_in.new.room.items c.listed.result c.in_ok-plain.ensures.text.1

pub returns-clause-counts : goal.returns-clause-counts
returns-clause-counts g c = lists_counts _ _ _ _ c.listed.result c.in_ok-plain.ensures.counts (c.listed.ensures c.args.limit _ c.numbered_history.ensures)
