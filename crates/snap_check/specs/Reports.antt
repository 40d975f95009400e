-- The status and the report of a text.
use Rattle.std.specs.Prelude.{ℕ, List, ◌≡◌, ◌⊎◌}
use Rattle.snap_core.specs.declared.limit.Limit.{Limit}
use Rattle.snap_core.specs.declared.event.Event.{Event}
use Rattle.snap_text.specs.declared.fault.TextFault.{TextFault}
use Rattle.snap_format.specs.Texts.{HasFault, IsText}
use Rattle.snap_report.specs.Lines.{line_text}
use Rattle.snap_report.specs.Refusals.{refusal_line}
use Rattle.snap_check.specs.declared.status.Status.{Status}
use Rattle.snap_check.specs.declared.status.Status.TheVariants.{Refused}
use Rattle.snap_check.specs.Verdicts.{IsVerdict}

-- a text with a fault is refused, with the line of its first fault within the limit
pub record IsRefused (limit : Limit) (text : List ℕ) (status : Status) (out : List ℕ) : Type 0 where
  pub place : ℕ
  pub fault : TextFault
  pub first : HasFault limit text place fault
  pub answers : status ≡ Refused
  pub writes : out ≡ line_text (refusal_line place fault)

-- a text without a fault is a history, and gets the verdict on it
pub record IsJudged (limit : Limit) (text : List ℕ) (status : Status) (out : List ℕ) : Type 0 where
  pub events : List Event
  pub history : IsText limit text events
  pub verdict : IsVerdict limit.writers events status out

-- the status and the report of a text
abbrev pub IsReport : Limit → List ℕ → Status → List ℕ → Type 0
IsReport limit text status out = IsRefused limit text status out ⊎ IsJudged limit text status out
