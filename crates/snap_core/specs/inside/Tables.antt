-- What a history keeps of its events, by process and by component.
use Rattle.std.specs.Prelude.{ℕ, Bool, true, false, not, ◌==◌, ◌<◌, ◌≤◌, ◌≡◌, ⊤, List, Option, Some, None, count_by, is_some, nat_le, slice_index_or, vec_len, if◌then◌else◌}
use Rattle.std.specs.List.{list_any}
use Rattle.snap_core.specs.declared.event.Begun.{Begun}
use Rattle.snap_core.specs.declared.event.Begun.TheVariants as begun
use Rattle.snap_core.specs.declared.tables.Tables.{Tables}
use Rattle.snap_core.specs.declared.tables.Writer.{Writer}
use Rattle.snap_core.specs.declared.entry.Entry.{Entry}
use Rattle.snap_core.specs.declared.writers.Writers.{Writers}
use Rattle.snap_core.specs.declared.writers.Writers.TheVariants.{One}
use Rattle.snap_core.specs.Calls.{Call, calls_of}
use Rattle.snap_core.specs.Regular.{IsUpdateOf}
use Rattle.snap_core.specs.Events.{Event, BeginUpdate, BeginView, EndUpdate, EndView, begins_update_of}
use Rattle.snap_core.specs.Bounded.{IsBoundedBy}
use Rattle.snap_core.specs.Refusals.{last_event, is_by_other}

-- what an event begins
abbrev pub begun_by : Event → Option Begun
begun_by (BeginUpdate p e) = Some (begun.Update e)
begun_by (BeginView p) = Some begun.View
begun_by (EndUpdate p) = None
begun_by (EndView p es) = None

abbrev pub begun_in : Option Event → Option Begun
begun_in None = None
begun_in (Some e) = begun_by e

abbrev pub call_in : Tables → ℕ → Option Begun
call_in t p = slice_index_or t.calls.items p None

abbrev pub writer_in : Tables → ℕ → Option Writer
writer_in t k = slice_index_or t.writers.items k None

abbrev pub count_in : Option Writer → ℕ
count_in None = 0
count_in (Some w) = w.count

-- the highest number of a component's updates that have ended
abbrev pub ended_in : Option Writer → ℕ
ended_in None = 0
ended_in (Some w) = w.ended

-- an event ends what was begun
abbrev pub ends_begun : Option Begun → Event → Bool
ends_begun (Some (begun.Update d)) (EndUpdate p) = true
ends_begun (Some begun.View) (EndView p es) = true
ends_begun _ _ = false

-- a component has a writer that is another process
abbrev pub is_written_by_other : ℕ → Option Writer → Bool
is_written_by_other p None = false
is_written_by_other p (Some w) = not (w.process == p)

-- what the tables say of a list of events
pub record Recalls (writers : Writers) (t : Tables) (es : List Event) : Type 0 where
  -- a process's open call is what its last event begins
  pub calls : (p : ℕ) → call_in t p ≡ begun_in (last_event p None es)
  pub counts : (k : ℕ) → count_in (writer_in t k) ≡ count_by (begins_update_of k) es
  pub writer : writers ≡ One → (k p : ℕ) → is_written_by_other p (writer_in t k) ≡ list_any (is_by_other p k) es
  -- the updates of a component that have ended are those up to this number
  pub ended : (c : Call) (e : Entry) → IsUpdateOf (calls_of es) c e → is_some c.ended ≡ nat_le e.number (ended_in (writer_in t e.component))
  pub few : (k : ℕ) → ended_in (writer_in t k) ≤ count_in (writer_in t k)

-- events that are a history with such writers, and tables that recall them
pub record IsRecalled (writers : Writers) (t : Tables) (es : List Event) : Type 0 where
  pub kept : IsBoundedBy writers es
  pub recalls : Recalls writers t es

abbrev pub WriterHasRoom : Tables → Option Begun → Type 0
WriterHasRoom t (Some (begun.Update e)) = e.component < vec_len t.writers
WriterHasRoom t (Some begun.View) = ⊤
WriterHasRoom t None = ⊤

-- the tables have a place for what a process begins
abbrev pub HasRoom : Tables → ℕ → Option Begun → Type 0
HasRoom t p b = (p < vec_len t.calls) × WriterHasRoom t b

-- a component after a process has begun an update of it
abbrev pub writer_begun : ℕ → Entry → ℕ → Option Writer → Option Writer
writer_begun p e k old = if e.component == k then Some (record { process = p; count = e.number; ended = ended_in old }) else old

abbrev pub with_ended : ℕ → Option Writer → Option Writer
with_ended n None = None
with_ended n (Some w) = Some (record { process = w.process; count = w.count; ended = n })

-- a component after an update of it has ended
abbrev pub writer_ended : Entry → ℕ → Option Writer → Option Writer
writer_ended e k old = if e.component == k then with_ended e.number old else old

-- component k after an event of a process: its open call before, and what it begins, if anything
abbrev pub writer_after : ℕ → Option Begun → Option Begun → ℕ → Option Writer → Option Writer
writer_after p was (Some (begun.Update e)) k old = writer_begun p e k old
writer_after p was (Some begun.View) k old = old
writer_after p (Some (begun.Update e)) None k old = writer_ended e k old
writer_after p (Some begun.View) None k old = old
writer_after p None None k old = old
