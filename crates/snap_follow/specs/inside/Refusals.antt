-- What ends a recording if the judge refuses an event.
use Rattle.std.specs.Prelude.{⊤, Option, Some, None}
use Rattle.snap_core.specs.declared.history.EventRefusal.{EventRefusal}
use Rattle.snap_format.specs.Faults.{fault_of}
use Rattle.snap_follow.specs.declared.follow.Ended.{Ended}
use Rattle.snap_follow.specs.declared.follow.Ended.TheVariants.{Refused, Late, Memory}
use Rattle.snap_follow.specs.declared.span.Place.{Place}
use Rattle.snap_text.specs.declared.fault.TextFault.{TextFault}

-- a fault at a place, or want of memory
abbrev pub ended_with : Place → Option TextFault → Ended
ended_with place (Some fault) = Refused place fault
ended_with place None = Memory

-- what ends a recording, by the refusal of an event at a place
abbrev pub ended_by : Place → EventRefusal → Ended
ended_by place refusal = ended_with place (fault_of refusal)

-- a record is refused, and memory has not run out
abbrev pub IsRefusal : Ended → Type 0
IsRefusal (Refused place fault) = ⊤
IsRefusal (Late place) = ⊤
IsRefusal Memory = ⊥
