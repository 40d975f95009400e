-- What a pass over the events of a store keeps.
use Rattle.std.specs.Prelude.{ℕ, ◌*◌, ◌+◌, ◌^◌, ◌≡◌, Bool, false, ◌==◌, List, Option, Some, None, slice_index_or}
use Rattle.std.specs.BTreeSet.{BTreeSet, contains}
use Rattle.std.specs.List.{list_any}
use Rattle.std.specs.Ordering.{nat_cmp}
use Rattle.snap_core.specs.declared.event.Event.{Event}
use Rattle.snap_core.specs.declared.event.Event.TheVariants.{BeginUpdate, BeginView, EndUpdate, EndView}
use Rattle.snap_core.specs.declared.history.EventRefusal.{EventRefusal}
use Rattle.snap_core.specs.declared.history.EventRefusal.TheVariants.{Busy, Idle, OtherOp}
use Rattle.snap_core.specs.Refusals.{last_event}
use Rattle.snap_versions.specs.declared.turns.Kind.{Kind}
use Rattle.snap_versions.specs.declared.turns.Kind.TheVariants as kind

abbrev pub opened_by : Event → Option Kind
opened_by (BeginUpdate p e) = Some kind.Update
opened_by (BeginView p) = Some kind.View
opened_by (EndUpdate p) = None
opened_by (EndView p es) = None

abbrev pub opened_in : Option Event → Option Kind
opened_in None = None
opened_in (Some e) = opened_by e

abbrev pub turn_refusal : Option Kind → Event → Option EventRefusal
turn_refusal (Some o) (BeginUpdate p e) = Some Busy
turn_refusal (Some o) (BeginView p) = Some Busy
turn_refusal None (EndUpdate p) = Some Idle
turn_refusal None (EndView p es) = Some Idle
turn_refusal (Some kind.Update) (EndView p es) = Some OtherOp
turn_refusal (Some kind.View) (EndUpdate p) = Some OtherOp
turn_refusal (Some kind.Update) (EndUpdate p) = None
turn_refusal (Some kind.View) (EndView p es) = None
turn_refusal None (BeginUpdate p e) = None
turn_refusal None (BeginView p) = None

-- the version of an update as one number
abbrev pub version_of : Event → Option ℕ
version_of (BeginUpdate p e) = Some (e.component * 2 ^ 32 + e.number)
version_of _ = None

-- each process has open what its last event begins
abbrev pub AreOpen : List (Option Kind) → List Event → Type 0
AreOpen calls es = (p : ℕ) → slice_index_or calls p None ≡ opened_in (last_event p None es)

abbrev pub is_version : ℕ → Option ℕ → Bool
is_version q None = false
is_version q (Some v) = q == v

-- a set has the versions of the updates of some events
abbrev pub HasVersions : BTreeSet ℕ → List Event → Type 0
HasVersions seen es = (q : ℕ) → contains nat_cmp seen q ≡ list_any (λ e. is_version q (version_of e)) es
