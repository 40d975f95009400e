-- Where the events of a recording stand in its texts.
use Rattle.std.specs.Prelude.{◌≡◌, ◌<◌, ◌+◌, ◌++◌, ℕ, List, ◌∷◌, length}
use Rattle.snap_follow.specs.declared.span.Place.{Place}
use Rattle.snap_follow.specs.declared.span.Span.{Span}

-- the place of event n of a recording whose events stand at these places, counted from 1
pub record IsPlaceOfEvent (places : List Place) (n : ℕ) (place : Place) : Type 0 where
  pub front : List Place
  pub behind : List Place
  pub parts : places ≡ front ++ place ∷ behind
  pub number : n ≡ length front + 1

-- a span of some events, after others, has the places of the first and the last of them
pub record IsSpanIn (span : Span) (places : List Place) (others count : ℕ) : Type 0 where
  pub first_at : 0 < count → IsPlaceOfEvent places (others + 1) span.first
  pub last_at : 0 < count → IsPlaceOfEvent places (others + count) span.last
