use Rattle.snap_core.specs.Counting.{inner_of}
use Rattle.snap_csv.proofs.RoomFacts.{limit_kept, room_answers, room_counts, room_leaves}
use Rattle.snap_csv.proofs.read.read_history_with.Goals as goal

pub returns-clause-text : goal.returns-clause-text
returns-clause-text g c = room_answers c.args.limit (g.R.Read.remaining (inner_of c.args.reader.now)) c.take_in.new.room.items c.history_shared.result c.in_ok-plain.ensures.text (rw c.deref.ensures.value at c.history_shared.ensures)

pub returns-clause-limit : goal.returns-clause-limit
returns-clause-limit g c = limit_kept c.args.limit _ c.history_shared.result c.history_shared.ensures

pub returns-clause-room : goal.returns-clause-room
returns-clause-room g c = room_leaves (g.R.Read.remaining (inner_of c.args.reader.now)) c.take_in.new.room.items c.history_shared.result c.in_ok-plain.ensures.text.1

pub returns-clause-counts : goal.returns-clause-counts
returns-clause-counts g c = room_counts _ _ _ _ c.history_shared.result c.in_ok-plain.ensures.counts c.history_shared.ensures
