-- The limit that the words of a command ask for.
use Rattle.std.specs.Prelude.{◌≡◌, ℕ, Bool, true, false, List, Option, Some, None, codes, decimal, ⊤}
use Rattle.clap.specs.Words.{Row, Text, first_of, one_of}
use Rattle.snap_core.specs.Limits.{IsLimit}
use Rattle.snap_core.specs.UsualLimits.{usual_limit}
use Rattle.snap_core.specs.declared.limit.Limit.{Limit}
use Rattle.snap_core.specs.declared.writers.Writers.{Writers}
use Rattle.snap_core.specs.declared.writers.Writers.TheVariants.{One, Many}

-- the word for how many processes may write a component
abbrev pub writers_text : Writers → List ℕ
writers_text One = codes "one"
writers_text Many = codes "many"

-- --writers with this word, or its absence, says this
abbrev pub SaysWriters : Option Text → Writers → Type 0
SaysWriters None writers = writers ≡ One
SaysWriters (Some text) writers = text ≡ writers_text writers

-- the number of events that --events chooses, or the usual one, is a limit
pub record AsksEvents (events : ℕ) (rows : List Row) : Type 0 where
  pub events_fit : IsLimit events
  pub events_are : one_of (codes "events") rows ≡ Some (decimal events)

-- the limit that --events and --writers choose, each of which may be the usual one
pub record AsksLimit (limit : Limit) (rows : List Row) : Type 0 where
  pub events_are : one_of (codes "events") rows ≡ Some (decimal limit.events)
  pub writers_are : SaysWriters (first_of (codes "writers") rows) limit.writers

-- --writers with this word, or its absence, leaves many writers to a component
abbrev pub LeavesMany : Option Text → Type 0
LeavesMany None = ⊤
LeavesMany (Some text) = text ≡ writers_text Many

-- the limit that --events chooses, or the usual one, with many writers of each component, which --writers may say or not
pub record AsksCutLimit (limit : Limit) (rows : List Row) : Type 0 where
  pub events_are : one_of (codes "events") rows ≡ Some (decimal limit.events)
  pub writers_are : LeavesMany (first_of (codes "writers") rows)
  pub many : limit.writers ≡ Many

-- the limit that is chosen beside --cut, or without it
abbrev pub AsksLimitWith : (cut : Bool) → Limit → List Row → Type 0
AsksLimitWith true = AsksCutLimit
AsksLimitWith false = AsksLimit

-- so many events, and one writer of each component
abbrev pub limit_of : (events : ℕ) → IsLimit events → Limit
limit_of events fits = record { events = events; writers = One; fits = fits }

-- the usual number of events, and many writers of a component
abbrev pub usual_many : Limit
usual_many = record usual_limit { writers = Many }

-- so many events, and many writers of a component
abbrev pub many_of : (events : ℕ) → IsLimit events → Limit
many_of events fits = record { events = events; writers = Many; fits = fits }
