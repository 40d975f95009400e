use Rattle.std.proofs.Common.{append_assoc}
use Rattle.snap_files.proofs.suite.front_of.Goals as goal

pub returns : goal.returns
returns c =
    rw (c.in_ok-extend_from_slice.ensures.items, c.in_ok-put_number-3.ensures, c.errors_among.ensures, c.in_ok-put_number-2.ensures, c.failures_among.ensures, c.in_ok-put_number.ensures, c.new-front.ensures.items)
    (simp append_assoc)
