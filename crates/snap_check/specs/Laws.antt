-- What is proved of all reports.
use Rattle.std.specs.Prelude.{◌≡◌, ℕ, List}
use Rattle.snap_core.specs.declared.limit.Limit.{Limit}
use Rattle.snap_check.specs.declared.status.Status.{Status}
use Rattle.snap_check.specs.Reports.{IsReport}

-- within each limit each text has a status and a report
abbrev pub EachTextHasAReport : Type 0
EachTextHasAReport = (limit : Limit) (text : List ℕ) → (status : Status) × (out : List ℕ) × IsReport limit text status out

-- within a limit a text has at most one status and one report
abbrev pub HasOneReport : Type 0
HasOneReport =
    (limit : Limit) (text : List ℕ) (status other : Status) (out others : List ℕ) → IsReport limit text status out →
    IsReport limit text other others → (status ≡ other) × (out ≡ others)
