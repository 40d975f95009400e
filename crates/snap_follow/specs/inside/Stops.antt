-- What the writer of a recording has once it is read no further, and what that says of its texts.
use Rattle.std.specs.Prelude.{⊤, ℕ, List, ◌≡◌, ◌≢◌, ◌<◌, ◌↔◌, ◌++◌, Option, None, flat_map}
use Rattle.std.specs.Io.KnownBytes.{Appends}
use Rattle.snap_core.specs.declared.limit.Limit.{Limit}
use Rattle.snap_core.specs.declared.event.Event.{Event}
use Rattle.snap_core.specs.declared.counted.Counted.{Counted}
use Rattle.snap_follow.specs.declared.span.Place.{Place}
use Rattle.snap_follow.specs.declared.pieces.Stop.{Stop}
use Rattle.snap_follow.specs.declared.pieces.Stop.TheVariants.{Refused, Lost, Fault}
use Rattle.snap_follow.specs.declared.run.FollowFault.{FollowFault}
use Rattle.snap_follow.specs.declared.run.FollowFault.TheVariants as faults
use Rattle.snap_follow.specs.declared.run.FollowFault.TheVariants.{Memory, NoText, Read, Write}
use Rattle.snap_follow.specs.declared.texts.Lost.{Lost as LostName}
use Rattle.snap_follow.specs.declared.texts.TextsFault.{TextsFault}
use Rattle.snap_follow.specs.declared.texts.TextsFault.TheVariants as ends
use Rattle.snap_follow.specs.Windows.{AreWindowsOf, Told, line_of, sums_text, views_of}
use Rattle.snap_follow.specs.Written.{FaultLeaves, HasSent}

-- what the writer has, by what has stopped the reading
abbrev pub StopLeaves : {W : Type 0} → (W → Option (List ℕ)) → Counted W → Counted W → Stop → Type 0
StopLeaves contents old new Refused = HasSent contents old new
StopLeaves contents old new (Lost lost) = HasSent contents old new
StopLeaves contents old new (Fault fault) = FaultLeaves contents old new fault

-- no write has stopped the reading
abbrev pub IsNoWrite : Stop → Type 0
IsNoWrite stop = stop ≢ Fault faults.Write

-- a fault says that there is no text, or nothing of the texts
abbrev pub FaultTells : Type 0 → FollowFault → Type 0
FaultTells none NoText = none
FaultTells none Read = ⊤
FaultTells none Write = ⊤
FaultTells none Memory = ⊤

-- what has stopped the reading says which text was lost, or that there is none, or nothing of the texts
abbrev pub StopTells : (LostName → Type 0) → Type 0 → Stop → Type 0
StopTells loses none Refused = ⊤
StopTells loses none (Lost lost) = loses lost
StopTells loses none (Fault fault) = FaultTells none fault

abbrev pub TellsNothing : Stop → Type 0
TellsNothing stop = StopTells (λ _. ⊥) ⊥ stop

-- why no text comes has stopped the reading
abbrev pub StopsBy : TextsFault → Stop → Type 0
StopsBy (ends.Lost lost) stop = stop ≡ Lost lost
StopsBy ends.Memory stop = stop ≡ Fault Memory

-- the rest of what is told of a recording was written, after these bytes had gone out
pub record TellsRest (old new : Option (List ℕ)) (gone : List ℕ) (least : ℕ) (most : Limit) (places : List Place) (events : List Event) (views : ℕ) (code : Option ℕ) : Type 0 where
  pub told : List Told
  pub windows : AreWindowsOf least most places events told
  pub out : List ℕ
  pub sent : Appends old new out
  pub all : gone ++ out ≡ flat_map line_of told ++ sums_text told
  pub few : code ≡ None ↔ views_of told < views
