-- The moments of a store, pushed one after the other.
use Rattle.std.proofs.Common.{◌≡◌, ℕ, ◌⊎◌, inl, inr, ◌≤◌, ◌<◌, List, [], ◌∷◌, ◌++◌, append_assoc, length, map, None, Some, sym, ap, ◌∙◌, subst, arith, length-append}
use Rattle.std.proofs.lemmas.List.{length-map}
use Rattle.snap_core.specs.declared.event.Event.{Event}
use Rattle.snap_core.specs.declared.history.EventRefusal.{EventRefusal}
use Rattle.snap_core.specs.declared.history.EventRefusal.TheVariants.{Memory}
use Rattle.snap_core.specs.declared.limit.Limit.{Limit}
use Rattle.snap_core.specs.declared.writers.Writers.TheVariants.{Many}
use Rattle.snap_core.specs.Calls.{calls_of}
use Rattle.snap_core.specs.Limited.{LimitedEvents}
use Rattle.snap_core.specs.Ordered.{IsOrdered}
use Rattle.snap_core.specs.Refusals.{IsAcceptedBy, refusal_of}
use Rattle.snap_core.proofs.OrderedPushes.{history_by_back}
use Rattle.snap_core.proofs.Picks.{is_short, picked}
use Rattle.snap_theory.proofs.Sides.{history_front}
use Rattle.snap_theory.proofs.Versioned.{versions_are_ordered}
use Rattle.snap_theory.specs.Versioned.{AreCut, numbered_calls}
use Rattle.snap_versions.specs.Cuts.{AreTold, event_of}
use Rattle.snap_versions.specs.Refused.{AreStored}
use Rattle.snap_versions.specs.Stores.{IsCutHistory, IsTooLong, many_writers, place_of}
use Rattle.snap_versions.specs.declared.moment.Moment.{Moment}

-- the next event is accepted
pub accepted : (limit : Limit) (before : List Event) (e : Event) (after whole : List Event) → before ++ e ∷ after ≡ whole → limit.writers ≡ Many → IsOrdered whole → length whole ≤ limit.events → refusal_of limit before e ≡ None
accepted limit before e after whole is many ordered short =
    let front = history_front Many (before ++ e ∷ []) after (subst IsOrdered (sym (append_assoc before (e ∷ []) after ∙ is)) ordered) in
    let a = subst (λ w. IsAcceptedBy w before e) (sym many) (history_by_back Many before e front).1 in
    let size = length-append before (e ∷ after) in let all = ap length is in
    picked limit before e _ _ _ _ _ _ _ (is_short limit before (omega arith)) a.not_busy a.not_idle a.not_other a.writer a.number a.order

-- what is told of a store's events are the events of its cut calls
pub cut_told : (events : List Event) (moments : List Moment) → AreStored events → AreTold (numbered_calls (calls_of events)) moments → AreCut events (map event_of moments)
cut_told events moments stored told = record { well_formed = stored.well_formed; versioned = stored.versioned; agree = told.agree; tells = told.tells }

pub ordered_told : (events : List Event) (moments : List Moment) → AreStored events → AreTold (numbered_calls (calls_of events)) moments → IsOrdered (map event_of moments)
ordered_told events moments stored told = versions_are_ordered events (map event_of moments) (cut_told events moments stored told)

pub is_cut_history : (limit : Limit) (events : List Event) (moments : List Moment) (history : LimitedEvents) (places : List ℕ) → AreStored events → AreTold (numbered_calls (calls_of events)) moments
    → history.events ≡ map event_of moments → history.limit ≡ many_writers limit → places ≡ map place_of moments → IsCutHistory limit events history places
is_cut_history limit events moments history places stored told is lim at = record {
  cut = subst (AreCut events) (sym is) (cut_told events moments stored told);
  limit_is = lim;
  moments = moments;
  parts = told.parts;
  told = is;
  places_are = at;
}

pub is_too_long : (limit : Limit) (events : List Event) (moments : List Moment) → AreStored events → AreTold (numbered_calls (calls_of events)) moments → limit.events < length moments → IsTooLong limit events
is_too_long limit events moments stored told more = record { told = map event_of moments; cut = cut_told events moments stored told; more = let size = length-map moments event_of in omega (arith, size, more) }

-- ---- one moment after the other

none_some : (r : EventRefusal) → None ≡ Some r → ⊥
none_some r e = cc

-- a refusal is for want of memory, for the event is accepted
pub wants_memory : (limit : Limit) (before : List Event) (e : Event) (refusal : EventRefusal) → refusal_of limit before e ≡ None → (refusal_of limit before e ≡ Some refusal) ⊎ (refusal ≡ Memory) → refusal ≡ Memory
wants_memory limit before e refusal taken (inl r) = absurd (none_some refusal (sym taken ∙ r))
wants_memory limit before e refusal taken (inr m) = m

-- what is left is told after what is there
pub goes_on : {A B : Type 0} (f : A → B) (done next : List B) (left rest : List A) (x : A) (whole : List B) → done ++ map f left ≡ whole → left ≡ x ∷ rest → next ≡ done ++ f x ∷ [] → next ++ map f rest ≡ whole
goes_on f done next left rest x whole told steps longer = ap (λ z. z ++ map f rest) longer ∙ append_assoc done (f x ∷ []) (map f rest) ∙ sym (ap (λ z. done ++ map f z) steps) ∙ told
