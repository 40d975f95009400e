-- Parts of the text of a report.
use Rattle.std.specs.Prelude.{ℕ, List, ◌∷◌, ◌≡◌, Result, IfOk, map}
use Rattle.std.specs.declared.alloc.AllocError.{AllocError}
use Rattle.std.specs.declared.alloc.Global.{Global}
use Rattle.std.specs.declared.vec.Vec.{Vec}
use Rattle.snap_core.specs.declared.event.Event.{Event}
use Rattle.snap_core.specs.Calls.{Call}
use Rattle.snap_conditions.specs.declared.tally.Tally.{Tally}
use Rattle.snap_report.specs.Lines.{text_of}
use Rattle.snap_report.specs.Orders.{calls_numbered}
use Rattle.snap_report.specs.Reports.{call_line, count_line, has_no_fault, has_no_local_fault, has_no_stale_view, verdict_lines}

-- the lines before an order or the faults
abbrev pub front_text : List Event → Tally → List ℕ
front_text events t = text_of (count_line events ∷ verdict_lines (has_no_local_fault t) (has_no_stale_view t) (has_no_fault t))

-- the lines of the calls with these numbers
abbrev pub lines_text : List Call → List ℕ → List ℕ
lines_text calls numbers = text_of (map call_line (calls_numbered calls numbers))

-- the same lines, if memory did not run out
abbrev pub IsTextOf : List Call → List ℕ → Result (Vec ℕ Global) AllocError → Type 0
IsTextOf calls numbers made = IfOk made (λ text. text.items ≡ lines_text calls numbers)
