use Rattle.std.proofs.Common.{List, ℕ, subst}
use Rattle.snap_csv.specs.Writing.{Holds}
use Rattle.snap_format.proofs.LineFacts.{header_line}
use Rattle.snap_csv.proofs.writing.begin_text.Goals as goal

pub returns : goal.returns
returns c = subst (λ (t : List ℕ). Holds c.in_ok-writer.writer t) header_line (rw (c.as_slice.ensures, c.as_slice-2.ensures, c.as_slice-3.ensures, c.as_slice-4.ensures) at c.in_ok-writer.ensures)
