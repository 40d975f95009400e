use Rattle.std.proofs.Common.{append_assoc}
use Rattle.snap_follow.specs.inside.Statuses.{code_of}
use Rattle.snap_follow.proofs.sums.put_count.Goals as goal

pub returns-clause-text : goal.returns-clause-text
returns-clause-text c = λ told is.
    let end = c.in_ok-push.ensures.items in
    let first = c.in_ok-put_first.ensures (code_of c.args.kind) told is.first in
    let number = c.in_ok-put_number.ensures in
    let counted = is.windows_are in
    let word = c.in_ok-extend_from_slice.ensures.items in
    let word_is = c.word.ensures in
    rw (end, first, number, counted, word, word_is) (simp append_assoc)
