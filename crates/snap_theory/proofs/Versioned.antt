-- What a store tells with versions: its numbered and cut calls, and the events that tell them.
use Rattle.std.proofs.Common.{List, sym, arith}
use Rattle.snap_core.specs.declared.event.Event.{Event}
use Rattle.snap_core.specs.Calls.{calls_of}
use Rattle.snap_core.proofs.Facts.{precedes_to}
use Rattle.snap_core.proofs.Lists.{In-from_Contains}
use Rattle.snap_theory.specs.Intervals.{AreVersions, cut_calls}
use Rattle.snap_theory.specs.Telling.{AreSequential}
use Rattle.snap_theory.specs.Versioned.{AreCut, ContradictionIsNotAtomic, numbered_calls, VersionsAreOrdered, VersionsKeepAtomic}
use Rattle.snap_theory.proofs.CutCalls.{cutting, nothing_left, own_up}
use Rattle.snap_theory.proofs.CutEvents.{cut_sequential}
use Rattle.snap_theory.proofs.Intervals.{begins_by, ends_by}
use Rattle.snap_theory.proofs.Numbered.{agreeing_leaves_some, numbered_versions, numbering}
use Rattle.snap_theory.proofs.OrderTold.{told_ordered}
use Rattle.snap_theory.proofs.Ranked.{cut_ranked}
use Rattle.snap_theory.proofs.Timed.{AreTimed, made, numbered_events_timed}
use Rattle.snap_theory.proofs.ToldOrders.{telling_keeps_atomic}

-- the cut calls of such events
module _ (events told : List Event) (c : AreCut events told) where
  timed : AreTimed (numbered_calls (calls_of events))
  timed = numbered_events_timed events c.well_formed

  versions : AreVersions (numbered_calls (calls_of events))
  versions = numbered_versions (calls_of events) c.versioned

  pub sequential : AreSequential (cut_calls (numbered_calls (calls_of events)))
  sequential = cut_sequential (numbered_calls (calls_of events)) timed (agreeing_leaves_some (numbered_calls (calls_of events)) timed versions c.agree)

pub versions_keep_atomic : VersionsKeepAtomic
versions_keep_atomic events told c =
    let calls = calls_of events in
    let numbers = numbering calls (made events) in
    let cuts = cutting (numbered_calls calls) (timed events told c).made (versions events told c) in
    let tells = telling_keeps_atomic (cut_calls (numbered_calls calls)) told (sequential events told c) c.tells in
    (λ a. tells.0 (cuts.0 (numbers.0 a)), λ a. numbers.1 (cuts.1 (tells.1 a)))

-- where two updates contradict time, nothing is left of the lower one
pub contradiction_is_not_atomic : ContradictionIsNotAtomic
contradiction_is_not_atomic events lower higher wf versioned x atomic =
    let calls = numbered_calls (calls_of events) in
    let p = precedes_to higher lower x.time in
    let end = ends_by calls x.low higher p.place (In-from_Contains _ _ x.is_high.there) (record { entry = x.high; writes = x.is_high.writes; component = sym x.component; number = let l = x.version in omega (arith, l) }) p.ends in
    let begin = begins_by calls x.low lower (In-from_Contains _ _ x.is_low.there) (own_up lower x.low x.is_low.writes) in
    nothing_left calls (numbered_events_timed events wf).made (numbered_versions (calls_of events) versioned) lower x.low end.end x.is_low end.is (let l = end.by in let m = p.before in omega (arith, l, m, begin)) ((numbering (calls_of events) (made events)).0 atomic)

pub versions_are_ordered : VersionsAreOrdered
versions_are_ordered events told c = told_ordered (cut_calls (numbered_calls (calls_of events))) told (sequential events told c) c.tells (cut_ranked events c.versioned)
