-- The calls of a store that tells the order of its updates, cut to the times that this order allows. Who knows the order of the
-- writes has an easy question, where who doesn't has a hard one (Gibbons and Korach 1997).
use Rattle.std.specs.Prelude.{ℕ, Bool, false, ◌&&◌, ◌==◌, ◌<◌, ◌≤◌, nat_le, min, max, List, [], ◌∷◌, map, ◌≡◌, ◌↔◌, Option, Some, None, if◌then◌else◌}
use Rattle.snap_core.specs.declared.entry.Entry.{Entry}
use Rattle.snap_core.specs.declared.event.Event.{Event}
use Rattle.snap_core.specs.Calls.{Call, Operation, Updates, Views, calls_of, shown}
use Rattle.snap_core.specs.Regular.{IsViewOf, IsUpdateOf}
use Rattle.snap_theory.specs.Versions.{IsAtomicInOrder}

-- an update of e's component, with its number or a lower one
abbrev pub is_up_to : Entry → Operation → Bool
is_up_to e (Updates d) = (d.component == e.component) && nat_le d.number e.number
is_up_to e (Views answer) = false

-- an update of e's component, with its number or a higher one
abbrev pub is_from_on : Entry → Operation → Bool
is_from_on e (Updates d) = (d.component == e.component) && nat_le e.number d.number
is_from_on e (Views answer) = false

-- the earlier of two ends, of which each may be missing
abbrev pub earlier : Option ℕ → Option ℕ → Option ℕ
earlier None other = other
earlier (Some place) None = Some place
earlier (Some place) (Some other) = Some (min place other)

-- the latest begin of the updates up to e
abbrev pub latest_begin : List Call → Entry → ℕ
latest_begin [] e = 0
latest_begin (c ∷ calls) e = if is_up_to e c.operation then max c.begun (latest_begin calls e) else latest_begin calls e

-- the earliest end of the updates from e on, if one of them has ended
abbrev pub earliest_end : List Call → Entry → Option ℕ
earliest_end [] e = None
earliest_end (c ∷ calls) e = if is_from_on e c.operation then earlier c.ended (earliest_end calls e) else earliest_end calls e

-- an update between the latest begin of those up to it, and the earliest end of those from it on; a view as it is
abbrev pub cut_by : List Call → Operation → Call → Call
cut_by calls (Updates e) c = record { number = c.number; process = c.process; operation = Updates e; begun = latest_begin calls e; ended = earliest_end calls e }
cut_by calls (Views answer) c = c

abbrev pub cut : List Call → Call → Call
cut calls c = cut_by calls c.operation c

abbrev pub cut_calls : List Call → List Call
cut_calls calls = map (cut calls) calls

-- Each number of a component is that of one update. Of an update without an end some view shows the number: one that no view shows
-- may be left out.
pub record AreVersions (calls : List Call) : Type 0 where
  pub alone : (a b : Call) (d e : Entry) → IsUpdateOf calls a d → IsUpdateOf calls b e → d.component ≡ e.component → d.number ≡ e.number → a ≡ b
  pub known : (c : Call) (e : Entry) → IsUpdateOf calls c e → c.ended ≡ None → (r : Call) × (s : Entry) × IsViewOf calls r × (shown r e.component ≡ Some s) × (s.number ≡ e.number)

-- cutting keeps whether some legal order keeps the numbers of each component rising
abbrev pub CuttingKeepsAtomic : Type 0
CuttingKeepsAtomic = (events : List Event) → AreVersions (calls_of events) → IsAtomicInOrder (calls_of events) ↔ IsAtomicInOrder (cut_calls (calls_of events))

-- if an update ends before it begins once it is cut, no legal order does
abbrev pub NothingLeftIsNotAtomic : Type 0
NothingLeftIsNotAtomic =
    (events : List Event) → AreVersions (calls_of events) → (c : Call) (e : Entry) (place : ℕ) → IsUpdateOf (calls_of events) c e →
    earliest_end (calls_of events) e ≡ Some place → place < latest_begin (calls_of events) e → IsAtomicInOrder (calls_of events) → ⊥

-- once they are cut, the updates of a component begin and end in the order of their numbers
abbrev pub CutCallsAreInOrder : Type 0
CutCallsAreInOrder =
    (events : List Event) (a b : Call) (d e : Entry) → IsUpdateOf (calls_of events) a d → IsUpdateOf (calls_of events) b e → d.component ≡ e.component → d.number ≤ e.number →
    ((cut (calls_of events) a).begun ≤ (cut (calls_of events) b).begun) ×
    ((place : ℕ) → (cut (calls_of events) b).ended ≡ Some place → (end : ℕ) × ((cut (calls_of events) a).ended ≡ Some end) × (end ≤ place))
