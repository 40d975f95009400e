-- How a run ends.
use Rattle.std.specs.Prelude.{ℕ, Bool, if◌then◌else◌}
use Rattle.snap_check.specs.declared.status.Status.{Status}
use Rattle.snap_check.specs.declared.status.Status.TheVariants.{Atomic, Regular, Irregular, Refused, Recorded}

-- the exit status of the program
abbrev pub code_of : Status → ℕ
code_of Atomic = 0
code_of Regular = 1
code_of Irregular = 2
code_of Refused = 3
code_of Recorded = 0

-- the status of a history, by two of its verdicts
abbrev pub status_of : Bool → Bool → Status
status_of regular atomic = if atomic then Atomic else if regular then Regular else Irregular
