-- What a recording answers, writes and counts.
use Rattle.snap_core.specs.declared.writers.Writers.TheVariants.{One}
use Rattle.std.specs.Prelude.{◌≡◌, ◌≤◌, ◌*◌, ◌⊎◌, ℕ, Bool, true, false, List, length, Option, Result, Ok, Err}
use Rattle.snap_core.specs.declared.limit.Limit.{Limit}
use Rattle.std.specs.List.Sorted.{IsStrictlyIncreasing}
use Rattle.std.specs.Io.KnownBytes.{Keeps}
use Rattle.snap_core.specs.declared.event.Event.{Event}
use Rattle.snap_core.specs.Calls.{calls_of}
use Rattle.snap_core.specs.Counting.{Rose}
use Rattle.snap_core.specs.Bounded.{IsBoundedHistory}
use Rattle.snap_core.specs.Monotone.{IsMonotone}
use Rattle.snap_core.specs.Orders.{IsAtomic}
use Rattle.snap_core.specs.Regular.{IsRegular}
use Rattle.snap_format.specs.Layout.{history_text, stamped_text}
use Rattle.snap_record.specs.declared.plan.Step.{Step}
use Rattle.snap_record.specs.History.{AllCompleted}
use Rattle.snap_record.specs.Plans.{HasScripts, HasWholeScripts, HasNoScans, HasNoViews, steps_in}
use Rattle.snap_record.specs.Recording.{ArePlaces, AreStamped}
use Rattle.snap_check.specs.Runs.{WroteFront, WroteWhole}
use Rattle.snap_check.specs.declared.fault.RunFault.{RunFault}
use Rattle.snap_check.specs.declared.fault.RunFault.TheVariants as faults
use Rattle.snap_check.specs.declared.status.Status.{Status}
use Rattle.snap_check.specs.declared.status.Status.TheVariants.{Atomic, Recorded, Regular}
use Rattle.snap_check.specs.Reports.{IsReport}
use Rattle.snap_runs.specs.declared.rounds.Written.{Written}
use Rattle.snap_runs.specs.declared.rounds.Written.TheVariants.{History, Stamped, Report}

-- a history that a board's run of these scripts has: regular and monotone, without a pending call, and atomic if no script has a collect.
-- The process of a worker's number has the calls of that worker's script, in their order, each once, and no other. Scans that were
-- interfered with are left out. So there are at most two events for a step
pub record IsRecordingOf (scripts : List (List Step)) (events : List Event) : Type 0 where
  pub kept : IsBoundedHistory events
  pub few : length events ≤ 2 * steps_in scripts
  pub regular : IsRegular (calls_of events)
  pub monotone : IsMonotone (calls_of events)
  pub completed : AllCompleted (calls_of events)
  pub interfered : ℕ
  pub calls : HasScripts scripts events interfered
  pub whole : HasNoScans scripts → HasWholeScripts scripts events
  pub atomic : HasNoViews scripts → IsAtomic (calls_of events)

-- the stamps that the board gave the events of a run of these scripts: one for each event, strictly rising. They are 0, 1, 2 and so on
-- if no script has a scan
pub record HasStamps (scripts : List (List Step)) (events : List Event) (stamps : List ℕ) : Type 0 where
  pub stamped : AreStamped scripts events stamps
  pub rising : IsStrictlyIncreasing stamps
  pub each : length stamps ≡ length events
  pub places : HasNoScans scripts → ArePlaces stamps

-- the text of such a history
pub record IsRecordingText (scripts : List (List Step)) (status : Status) (out : List ℕ) : Type 0 where
  pub events : List Event
  pub recording : IsRecordingOf scripts events
  pub answers : status ≡ Recorded
  pub writes : out ≡ history_text events

-- the text of such a history with the stamps of its events
pub record IsStampedRecording (scripts : List (List Step)) (status : Status) (out : List ℕ) : Type 0 where
  pub events : List Event
  pub stamps : List ℕ
  pub recording : IsRecordingOf scripts events
  pub has_stamps : HasStamps scripts events stamps
  pub answers : status ≡ Recorded
  pub writes : out ≡ stamped_text stamps events

-- the report of such a history's text without stamps, within each limit of events that its scripts keep
pub record IsRecordingReport (scripts : List (List Step)) (status : Status) (out : List ℕ) : Type 0 where
  pub events : List Event
  pub recording : IsRecordingOf scripts events
  pub answers : (status ≡ Atomic) ⊎ (status ≡ Regular)
  pub report : (limit : Limit) → limit.writers ≡ One → 2 * steps_in scripts ≤ limit.events → IsReport limit (history_text events) status out

-- the status and the text of a recording, or its status and its report if it is judged
abbrev pub IsRecorded : Bool → List (List Step) → Status → List ℕ → Type 0
IsRecorded false scripts status out = IsRecordingText scripts status out
IsRecorded true scripts status out = IsRecordingReport scripts status out

-- what is written of a recording, by what is asked for
abbrev pub IsWrittenAs : Written → List (List Step) → Status → List ℕ → Type 0
IsWrittenAs History scripts = IsRecorded false scripts
IsWrittenAs Stamped scripts = IsStampedRecording scripts
IsWrittenAs Report scripts = IsRecorded true scripts

-- what a writer holds before and after a run without a reader. A whole text of that kind went out, a front of one, or nothing

abbrev pub FailedAs : (Status → List ℕ → Type 0) → Option (List ℕ) → Option (List ℕ) → RunFault → Type 0
FailedAs Is old new faults.Read = ⊥
FailedAs Is old new faults.Write = WroteFront Is old new
FailedAs Is old new faults.Memory = Keeps old new

abbrev pub WroteAs : (Status → List ℕ → Type 0) → Option (List ℕ) → Option (List ℕ) → Result Status RunFault → Type 0
WroteAs Is old new (Ok status) = WroteWhole Is old new status
WroteAs Is old new (Err fault) = FailedAs Is old new fault

-- the writer's count of failures before and after a run: it rose exactly if writing failed, or is at its last value

abbrev pub WriteFaultCounts : ℕ → ℕ → RunFault → Type 0
WriteFaultCounts old new faults.Read = ⊥
WriteFaultCounts old new faults.Write = Rose old new
WriteFaultCounts old new faults.Memory = new ≡ old

abbrev pub WriteCounts : ℕ → ℕ → Result Status RunFault → Type 0
WriteCounts old new (Ok status) = new ≡ old
WriteCounts old new (Err fault) = WriteFaultCounts old new fault
