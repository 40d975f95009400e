-- What a check answers, writes and counts.
use Rattle.std.specs.Prelude.{ℕ, List, ◌≡◌, Option, IfSome, Result, Ok, Err}
use Rattle.snap_core.specs.declared.limit.Limit.{Limit}
use Rattle.std.specs.Global.{Vec}
use Rattle.std.specs.Io.KnownBytes.{Appends, Keeps}
use Rattle.snap_core.specs.Counting.{Rose}
use Rattle.snap_core.specs.UsualLimits.{usual_limit}
use Rattle.snap_core.specs.Sending.{SendsFront}
use Rattle.snap_format.specs.Texts.{IsText}
use Rattle.snap_check.specs.declared.fault.RunFault.{RunFault}
use Rattle.snap_check.specs.declared.fault.RunFault.TheVariants as faults
use Rattle.snap_check.specs.declared.reading.Reading.{Reading}
use Rattle.snap_check.specs.declared.reading.Reading.TheVariants.{History, Refusal}
use Rattle.snap_check.specs.declared.status.Status.{Status}
use Rattle.snap_check.specs.declared.status.Status.TheVariants.{Refused}
use Rattle.snap_check.specs.Reports.{IsRefused, IsReport}

-- What a writer holds before and after a run, by the texts that may go out with an answer.

-- the whole of it went out, and nothing else
abbrev pub WroteWhole : {A : Type 0} → (A → List ℕ → Type 0) → Option (List ℕ) → Option (List ℕ) → A → Type 0
WroteWhole Is old new answer = (out : List ℕ) × Is answer out × Appends old new out

-- a front of it went out, or all of it
abbrev pub WroteFront : {A : Type 0} → (A → List ℕ → Type 0) → Option (List ℕ) → Option (List ℕ) → Type 0
WroteFront {A = A} Is old new = (answer : A) × (out : List ℕ) × Is answer out × SendsFront old new out

-- What a writer holds before and after a run, if the reader's text is known. `Is` says what may go out for that text with an answer.

abbrev pub FailedBy : {A : Type 0} → (List ℕ → A → List ℕ → Type 0) → Option (List ℕ) → Option (List ℕ) → Option (List ℕ) → RunFault → Type 0
FailedBy Is known old new faults.Read = Keeps old new
FailedBy Is known old new faults.Write = IfSome known (λ text. WroteFront (Is text) old new)
FailedBy Is known old new faults.Memory = Keeps old new

abbrev pub WroteBy : {A : Type 0} → (List ℕ → A → List ℕ → Type 0) → Option (List ℕ) → Option (List ℕ) → Option (List ℕ) → Result A RunFault → Type 0
WroteBy Is known old new (Ok answer) = IfSome known (λ text. WroteWhole (Is text) old new answer)
WroteBy Is known old new (Err fault) = FailedBy Is known old new fault

-- what a writer holds before and after a check, by the report of the text
abbrev pub Wrote : Option (List ℕ) → Option (List ℕ) → Option (List ℕ) → Result Status RunFault → Type 0
Wrote = WroteBy (IsReport usual_limit)

-- the counts of failures before and after a run without a status
abbrev pub FaultCounts : ℕ → ℕ → ℕ → ℕ → RunFault → Type 0
FaultCounts reader_old reader_new writer_old writer_new faults.Read = Rose reader_old reader_new × (writer_new ≡ writer_old)
FaultCounts reader_old reader_new writer_old writer_new faults.Write = (reader_new ≡ reader_old) × Rose writer_old writer_new
FaultCounts reader_old reader_new writer_old writer_new faults.Memory = (reader_new ≡ reader_old) × (writer_new ≡ writer_old)

-- the counts of failures of the reader and the writer before and after a run
abbrev pub RunCounts : {A : Type 0} → ℕ → ℕ → ℕ → ℕ → Result A RunFault → Type 0
RunCounts reader_old reader_new writer_old writer_new (Ok answer) = (reader_new ≡ reader_old) × (writer_new ≡ writer_old)
RunCounts reader_old reader_new writer_old writer_new (Err fault) = FaultCounts reader_old reader_new writer_old writer_new fault

-- What a run has before it writes anything: the answer and the text that is to go out, or the fault.

abbrev pub JudgesBy : {A : Type 0} → (List ℕ → A → List ℕ → Type 0) → Option (List ℕ) → Result (A × Vec ℕ) RunFault → Type 0
JudgesBy Is known (Ok answer) = IfSome known (λ text. Is text answer.0 answer.1.items)
JudgesBy Is known (Err fault) = Unit {0}

abbrev pub Judges : Option (List ℕ) → Result (Status × Vec ℕ) RunFault → Type 0
Judges = JudgesBy (IsReport usual_limit)

abbrev pub JudgeFaultCounts : ℕ → ℕ → RunFault → Type 0
JudgeFaultCounts old new faults.Read = Rose old new
JudgeFaultCounts old new faults.Write = ⊥
JudgeFaultCounts old new faults.Memory = new ≡ old

abbrev pub JudgeCounts : {A : Type 0} → ℕ → ℕ → Result A RunFault → Type 0
JudgeCounts old new (Ok answer) = new ≡ old
JudgeCounts old new (Err fault) = JudgeFaultCounts old new fault

-- what a text is, within a limit: a history, or else the line of its first fault
abbrev pub Reads : Limit → List ℕ → Reading → Type 0
Reads limit text (History h) = IsText limit text h.events
Reads limit text (Refusal line) = IsRefused limit text Refused line.items
