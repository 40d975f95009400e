-- The calls of a store that tells a version of each update, as it recorded them: pending updates that no view shows are left out, the
-- others are numbered anew, and each is cut to the times that the order of versions allows.
use Rattle.std.specs.Prelude.{ℕ, suc, Bool, true, false, ◌&&◌, ◌||◌, ◌==◌, ◌<◌, List, map, filter, ◌≡◌, ◌↔◌, Option, Some, None, is_some, if◌then◌else◌}
use Rattle.std.specs.List.{count_by, list_any}
use Rattle.snap_core.specs.declared.entry.Entry.{Entry}
use Rattle.snap_core.specs.declared.event.Event.{Event}
use Rattle.snap_core.specs.Events.{IsWellFormed}
use Rattle.snap_core.specs.Calls.{Call, Operation, Updates, Views, calls_of, precedes, is_view, shown, is_update_numbered}
use Rattle.snap_core.specs.Ordered.{IsOrdered}
use Rattle.snap_core.specs.Refusals.{writes_below}
use Rattle.snap_core.specs.Regular.{IsUpdateOf}
use Rattle.snap_theory.specs.Intervals.{cut_calls}
use Rattle.snap_theory.specs.Telling.{Tells}
use Rattle.snap_theory.specs.Versions.{IsAtomicInOrder}

-- two updates of one component have two versions: a version, or a revision, names one write of the store (multiversion concurrency
-- control, Bernstein and Goodman 1983)
abbrev pub AreVersioned : List Call → Type 0
AreVersioned calls = (a b : Call) (d e : Entry) → IsUpdateOf calls a d → IsUpdateOf calls b e → d.component ≡ e.component → d.number ≡ e.number → a ≡ b

-- an entry has the number of e
abbrev pub is_version : Entry → Option Entry → Bool
is_version e None = false
is_version e (Some s) = s.number == e.number

-- view r shows the version of e
abbrev pub shows_version : Entry → Call → Bool
shows_version e r = is_view r && is_version e (shown r e.component)

-- an update stays if it has ended or some view shows its version
abbrev pub stays_as : List Call → Option ℕ → Operation → Bool
stays_as calls ended (Updates e) = is_some ended || list_any (shows_version e) calls
stays_as calls ended (Views answer) = true

abbrev pub kept_calls : List Call → List Call
kept_calls calls = filter (λ c. stays_as calls c.ended c.operation) calls

abbrev pub writes_component : ℕ → Operation → Bool
writes_component k (Updates d) = d.component == k
writes_component k (Views answer) = false

-- The rank of a version among the updates of its component, from 1. A version that no update has gets the number after theirs.
abbrev pub counted_number : List Call → Entry → ℕ
counted_number calls e =
    if list_any (is_update_numbered e.component e.number) calls then suc (count_by (λ c. writes_below c.operation e) calls)
    else suc (count_by (λ c. writes_component e.component c.operation) calls)

abbrev pub counted_entry : List Call → Entry → Entry
counted_entry calls e = record { component = e.component; number = counted_number calls e; value = e.value }

abbrev pub counted_operation : List Call → Operation → Operation
counted_operation calls (Updates e) = Updates (counted_entry calls e)
counted_operation calls (Views None) = Views None
counted_operation calls (Views (Some es)) = Views (Some (map (counted_entry calls) es))

abbrev pub counted : List Call → Call → Call
counted calls c = record { number = c.number; process = c.process; operation = counted_operation calls c.operation; begun = c.begun; ended = c.ended }

abbrev pub counted_calls : List Call → List Call
counted_calls calls = map (counted calls) calls

-- the calls that stay, with ranks as numbers
abbrev pub numbered_calls : List Call → List Call
numbered_calls calls = counted_calls (kept_calls calls)

-- the order of versions contradicts time: the update with the higher number ended before the one with the lower number began
pub record Contradict (calls : List Call) (lower higher : Call) : Type 0 where
  pub low : Entry
  pub high : Entry
  pub is_low : IsUpdateOf calls lower low
  pub is_high : IsUpdateOf calls higher high
  pub component : low.component ≡ high.component
  pub version : low.number < high.number
  pub time : precedes higher lower ≡ true

-- no two updates contradict time
abbrev pub AgreeWithTime : List Call → Type 0
AgreeWithTime calls = (lower higher : Call) → Contradict calls lower higher → ⊥

-- the told events are those of the store, once its calls are numbered and cut
pub record AreCut (events told : List Event) : Type 0 where
  pub well_formed : IsWellFormed events
  pub versioned : AreVersioned (calls_of events)
  pub agree : AgreeWithTime (numbered_calls (calls_of events))
  pub tells : Tells (cut_calls (numbered_calls (calls_of events))) told

-- the told events have a legal order with rising numbers exactly when those of the store have one
abbrev pub VersionsKeepAtomic : Type 0
VersionsKeepAtomic = (events told : List Event) → AreCut events told → IsAtomicInOrder (calls_of events) ↔ IsAtomicInOrder (calls_of told)

-- they are an ordered history, so the judge takes them
abbrev pub VersionsAreOrdered : Type 0
VersionsAreOrdered = (events told : List Event) → AreCut events told → IsOrdered told

-- if two updates contradict time, no legal order has rising numbers
abbrev pub ContradictionIsNotAtomic : Type 0
ContradictionIsNotAtomic =
    (events : List Event) (lower higher : Call) → IsWellFormed events → AreVersioned (calls_of events) → Contradict (numbered_calls (calls_of events)) lower higher →
    IsAtomicInOrder (calls_of events) → ⊥
