use Rattle.std.proofs.Common.{append_assoc}
use Rattle.snap_files.proofs.sums.Sums.text.Goals as goal

pub returns : goal.returns
returns c = λ files are sums.
    let number = c.in_ok-put_number.ensures in
    let line = c.in_ok-push.ensures.items in
    let empty = c.new-out.ensures.items in
    let counted = sums.counts in
    let atomic = c.in_ok-put_kind.ensures 0 files are sums.atomic in
    let only_regular = c.in_ok-put_kind-2.ensures 1 files are sums.only_regular in
    let not_regular = c.in_ok-put_kind-3.ensures 2 files are sums.not_regular in
    let refused = c.in_ok-put_kind-4.ensures 3 files are sums.refused in
    let failed = c.in_ok-put_kind-5.ensures 4 files are sums.failed in
    rw (failed, refused, not_regular, only_regular, atomic, line, number, empty, counted) (simp append_assoc)
