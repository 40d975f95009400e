use Rattle.std.proofs.Common.{append_assoc}
use Rattle.snap_files.proofs.sums.put_kind.Goals as goal

pub returns : goal.returns
returns c = λ code files are is.
    let end = c.in_ok-push.ensures.items in
    let first = c.in_ok-put_first.ensures code files are is.first in
    let number = c.in_ok-put_number.ensures in
    let counted = is.counts in
    rw (end, first, number, counted) (simp append_assoc)
