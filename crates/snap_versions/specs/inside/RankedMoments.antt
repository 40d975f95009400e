-- The moments of cut calls with the numbers of their updates, and their order.
use Rattle.std.specs.Prelude.{ℕ, List, [], ◌∷◌, map, ◌≡◌, ◌<◌, ◌≤◌, ◌⊎◌, Option, Some, None, AllPairs}
use Rattle.std.specs.List.Sorted.{IsPermutation}
use Rattle.snap_core.specs.Calls.{Call, Operation}
use Rattle.snap_theory.specs.Intervals.{cut}
use Rattle.snap_theory.specs.Telling.{number_of, begin_event, end_event}
use Rattle.snap_theory.specs.Telling.{Moment as SpecMoment}
use Rattle.snap_versions.specs.declared.moment.Moment.{Moment}
use Rattle.snap_versions.specs.declared.moments.Ranked.{Ranked}
use Rattle.snap_versions.specs.Cuts.{end_or}

abbrev pub ranked_begin : ℕ → Operation → ℕ → ℕ → Ranked
ranked_begin process operation place at = record { number = number_of operation; moment = record { at = at; place = place; event = begin_event process operation } }

abbrev pub ranked_end : ℕ → Operation → ℕ → ℕ → Ranked
ranked_end process operation place at = record { number = number_of operation; moment = record { at = at; place = place; event = end_event process operation } }

-- the end of a call, if there is one once it is cut
abbrev pub ranked_ends : ℕ → Operation → ℕ → Option ℕ → List Ranked
ranked_ends process operation place None = []
ranked_ends process operation place (Some at) = ranked_end process operation place at ∷ []

-- the begin and the end of a call with two places, once it is cut to the last two
abbrev pub ranked : ℕ → Operation → ℕ → Option ℕ → ℕ → Option ℕ → List Ranked
ranked process operation begun ended cut_begun cut_ended = ranked_begin process operation begun cut_begun ∷ ranked_ends process operation (end_or ended begun) cut_ended

-- the begin and the end of a call, once it is cut
abbrev pub ranked_of : List Call → Call → List Ranked
ranked_of calls c = ranked c.process c.operation c.begun c.ended (cut calls c).begun (cut calls c).ended

-- the same of a call that is not cut
abbrev pub ranked_whole : Call → List Ranked
ranked_whole c = ranked c.process c.operation c.begun c.ended c.begun c.ended

-- as the moment of a cut call
abbrev pub as_moment : Ranked → SpecMoment
as_moment r = record { place = r.moment.at; number = r.number; event = r.moment.event }

abbrev pub moment_of : Ranked → Moment
moment_of r = r.moment

-- by place, and then by number
abbrev pub IsNoLater : Ranked → Ranked → Type 0
IsNoLater a b = (a.moment.at < b.moment.at) ⊎ ((a.moment.at ≡ b.moment.at) × (a.number ≤ b.number))

-- the moments in their order
pub record AreInOrder (given : List Ranked) (moments : List Moment) : Type 0 where
  pub order : List Ranked
  pub same : IsPermutation given order
  pub sorted : AllPairs IsNoLater order
  pub told : moments ≡ map moment_of order
