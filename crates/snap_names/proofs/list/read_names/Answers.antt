use Rattle.std.proofs.Common.{arith}
use Rattle.snap_names.proofs.ListFacts.{answers_front}
use Rattle.snap_names.proofs.list.read_names.Goals as goal

pub returns : goal.returns
returns g c =
    let front = c.read_to_end.new.buf.items in
    let taken = rw (c.take.ensures.inner, c.take.ensures.limit, c.new-text.ensures.items) at c.in_default.ensures.bytes in
    let cut = rw c.deref.ensures.value at c.names_in.ensures in
    answers_front c.args.end (g.R.Read.remaining c.args.reader) front c.names_in.result taken (omega arith) cut
