-- The verdict on a history: its status and its report.
use Rattle.std.specs.Prelude.{ℕ, Bool, true, false, List, ◌≡◌, ◌↔◌, IsTrue}
use Rattle.snap_core.specs.declared.event.Event.{Event}
use Rattle.snap_core.specs.Calls.{Call, calls_of, views_of}
use Rattle.snap_core.specs.Monotone.{IsMonotone}
use Rattle.snap_core.specs.declared.writers.Writers.{Writers}
use Rattle.snap_theory.specs.Versions.{IsAtomicBy, IsLegalBy}
use Rattle.snap_core.specs.Regular.{IsRegular}
use Rattle.snap_conditions.specs.Tally.{tally_of}
use Rattle.snap_theory.specs.Levels.{printed_order}
use Rattle.snap_report.specs.Faults.{fault_lines}
use Rattle.snap_report.specs.Lines.{Line, text_of}
use Rattle.snap_report.specs.Reports.{order_lines, report_lines, verdict_lines}
use Rattle.snap_check.specs.declared.status.Status.{Status}
use Rattle.snap_check.specs.Statuses.{status_of}

-- the end of a report: the printed order of an atomic history, or else the faults of all completed views
abbrev pub findings : Bool → List Call → List Line
findings true calls = order_lines (printed_order calls)
findings false calls = fault_lines (tally_of calls (views_of calls))

-- the status and the report of a history, whose components have so many writers
pub record IsVerdict (writers : Writers) (events : List Event) (status : Status) (out : List ℕ) : Type 0 where
  pub regular : Bool
  pub monotone : Bool
  pub atomic : Bool
  -- regular exactly when each completed view shows of each component a value neither older than its last update that precedes
  -- it, nor begun after it
  pub regular_exactly : IsTrue regular ↔ IsRegular (calls_of events)
  -- monotone exactly when no completed view precedes one that shows an older number of some component
  pub monotone_exactly : IsTrue monotone ↔ IsMonotone (calls_of events)
  -- atomic exactly when some order of all completed calls and some pending updates keeps precedence and gives each view the
  -- latest updates. It is a linearization (Herlihy and Wing 1990)
  pub atomic_exactly : IsTrue atomic ↔ IsAtomicBy writers (calls_of events)
  -- the printed order is such an order
  pub legal : IsTrue atomic → IsLegalBy writers (calls_of events) (printed_order (calls_of events))
  pub answers : status ≡ status_of regular atomic
  pub writes : out ≡ text_of (report_lines events regular monotone atomic (findings atomic (calls_of events)))

-- the status of a history, whatever is written about it
abbrev pub HasStatus : Writers → List Event → Status → Type 0
HasStatus writers events status = (report : List ℕ) × IsVerdict writers events status report

-- the status of a history, and only the lines of the verdicts of its report
pub record IsBriefVerdict (writers : Writers) (events : List Event) (status : Status) (out : List ℕ) : Type 0 where
  pub report : List ℕ
  pub verdict : IsVerdict writers events status report
  pub writes : out ≡ text_of (verdict_lines verdict.regular verdict.monotone verdict.atomic)
