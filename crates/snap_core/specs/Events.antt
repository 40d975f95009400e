-- When a list of events is a history. A clause sees the view of an event as the list of its entries.
use Rattle.std.specs.Prelude.{ℕ, suc, Bool, false, List, [], ◌∷◌, ◌++◌, ◌≡◌, ◌==◌, filter, count_by, Contains, ⊤, ◌<◌, All}
use Rattle.snap_core.specs.declared.entry.Entry.{Entry}
use Rattle.snap_core.specs.Entries.{HasByteComponent, EntryFits, AreEntries}
use Rattle.snap_core.specs.declared.history.TheConstants.{EVENT_CAP}
pub use Rattle.snap_core.specs.declared.event.Event.{Event}
pub use Rattle.snap_core.specs.declared.event.Event.TheVariants.{BeginUpdate, BeginView, EndUpdate, EndView}

abbrev pub process_of : Event → ℕ
process_of (BeginUpdate p e) = p
process_of (BeginView p) = p
process_of (EndUpdate p) = p
process_of (EndView p es) = p

abbrev pub IsBegin : Event → Type 0
IsBegin (BeginUpdate p e) = ⊤
IsBegin (BeginView p) = ⊤
IsBegin _ = ⊥

-- an end of the kind of the begin before it
abbrev pub Ends : Event → Event → Type 0
Ends (BeginUpdate p e) (EndUpdate q) = ⊤
Ends (BeginView p) (EndView q es) = ⊤
Ends _ _ = ⊥

-- begin, end, begin and so on, starting with a begin; each end is of the kind of the begin before it
abbrev pub TakeTurns : List Event → Type 0
TakeTurns [] = ⊤
TakeTurns (b ∷ []) = IsBegin b
TakeTurns (b ∷ e ∷ rest) = Ends b e × TakeTurns rest

abbrev pub events_of : ℕ → List Event → List Event
events_of p es = filter (λ e. process_of e == p) es

-- each process by itself alternates begins and ends of calls
abbrev pub IsWellFormed : List Event → Type 0
IsWellFormed es = (p : ℕ) → TakeTurns (events_of p es)

abbrev pub begins_update_of : ℕ → Event → Bool
begins_update_of k (BeginUpdate p e) = e.component == k
begins_update_of k _ = false

-- two updates of one component have one process
abbrev pub IsSingleWriter : List Event → Type 0
IsSingleWriter es =
    (p q : ℕ) (d e : Entry) → Contains es (BeginUpdate p d) → Contains es (BeginUpdate q e) → d.component ≡ e.component → p ≡ q

-- the number of an update is one more than the count of the updates of its component that began before it
abbrev pub IsNumbered : List Event → Type 0
IsNumbered es =
    (before after : List Event) (p : ℕ) (e : Entry) → es ≡ before ++ BeginUpdate p e ∷ after →
    e.number ≡ suc (count_by (begins_update_of e.component) before)

pub record IsHistory (es : List Event) : Type 0 where
  pub well_formed : IsWellFormed es
  pub single_writer : IsSingleWriter es
  pub numbered : IsNumbered es

-- the components of an event are bytes
abbrev pub IsByteEvent : Event → Type 0
IsByteEvent (BeginUpdate p e) = HasByteComponent e
IsByteEvent (BeginView p) = ⊤
IsByteEvent (EndUpdate p) = ⊤
IsByteEvent (EndView p es) = All HasByteComponent es

abbrev pub HasByteComponents : List Event → Type 0
HasByteComponents es = All IsByteEvent es

-- the fields of an event, as their types keep them
abbrev pub EventFits : Event → Type 0
EventFits (BeginUpdate p e) = (p < 65536) × EntryFits e
EventFits (BeginView p) = p < 65536
EventFits (EndUpdate p) = p < 65536
EventFits (EndView p es) = (p < 65536) × AreEntries es

-- the greatest number of events of a `History`
abbrev pub event_cap : ℕ
event_cap = EVENT_CAP
