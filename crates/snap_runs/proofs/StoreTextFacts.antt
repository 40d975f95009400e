-- What events tell, by their records in a text.
use Rattle.std.proofs.Common.{◌≡◌, ◌+◌, ℕ, List, map, length, inl, inr, Option, Some, None, Result, Ok, Err, refl, sym, ap, ◌∙◌, subst}
use Rattle.std.specs.Prelude.{IfSome, MatchOption}
use Rattle.std.proofs.lemmas.List.{length-map}
use Rattle.snap_core.specs.declared.event.Event.{Event}
use Rattle.snap_core.specs.declared.history.EventRefusal.{EventRefusal}
use Rattle.snap_core.specs.declared.limit.Limit.{Limit}
use Rattle.snap_core.specs.Limited.{LimitedEvents}
use Rattle.snap_text.specs.declared.fault.TextFault.{TextFault}
use Rattle.snap_text.specs.declared.fault.TextFault.TheVariants as faults
use Rattle.snap_format.specs.declared.refusal.ReadRefusal.{ReadRefusal}
use Rattle.snap_format.specs.declared.refusal.ReadRefusal.TheVariants as refusals
use Rattle.snap_format.specs.declared.stamped.Stamped.{Stamped}
use Rattle.snap_format.specs.Faults.{fault_of}
use Rattle.snap_format.specs.StampedTexts.{IsStampedText}
use Rattle.snap_format.specs.Stamps.{events_of, places_of}
use Rattle.snap_csv.specs.StampedAnswers.{RefusesStampedText}
use Rattle.snap_versions.specs.Cuts.{event_of}
use Rattle.snap_versions.specs.Refused.{IsRefusedAt}
use Rattle.snap_versions.specs.Stores.{IsContradicted, IsCutHistory, IsTooLong, place_of}
use Rattle.snap_runs.specs.declared.store_text.StoreText.{StoreText}
use Rattle.snap_runs.specs.StoreTexts.{AnswersSorted, AnswersStore, RefusesSorted, RefusesStore, TellsContradiction, TellsHistory, record_at}

pub tells_history : (limit : Limit) (events : List Event) (records : List ℕ) (history : LimitedEvents) (places found : List ℕ) (sorted : List Stamped) → IsCutHistory limit events history places → found ≡ map (record_at records) places
    → events ≡ events_of sorted → records ≡ places_of sorted → TellsHistory limit sorted history found
tells_history limit events records history places found sorted cut is same at = record { places = places; cut = subst (λ es. IsCutHistory limit es history places) same cut; records_are = is ∙ ap (λ rs. map (record_at rs) places) at }

pub tells_contradiction : (events : List Event) (records : List ℕ) (ended begun e b : ℕ) (sorted : List Stamped) → IsContradicted events ended begun → e ≡ record_at records ended → b ≡ record_at records begun
    → events ≡ events_of sorted → records ≡ places_of sorted → TellsContradiction sorted e b
tells_contradiction events records ended begun e b sorted c is_e is_b same at = record {
  end = ended;
  begin = begun;
  contradicted = subst (λ es. IsContradicted es ended begun) same c;
  ended_is = is_e ∙ ap (λ rs. record_at rs ended) at;
  begun_is = is_b ∙ ap (λ rs. record_at rs begun) at;
}

pub refuses_event : (limit : Limit) (events : List Event) (records : List ℕ) (place number : ℕ) (refusal : EventRefusal) (result : ReadRefusal) (sorted : List Stamped) → IsRefusedAt events place refusal → number ≡ record_at records place
    → MatchOption (fault_of refusal) (result ≡ refusals.Memory) (λ fault. result ≡ refusals.Text number fault) → events ≡ events_of sorted → records ≡ places_of sorted → RefusesSorted limit sorted result
refuses_event limit events records place number refusal result sorted refused is said same at = go (fault_of refusal) refl said
  where
    go : (o : Option TextFault) → fault_of refusal ≡ o → MatchOption o (result ≡ refusals.Memory) (λ fault. result ≡ refusals.Text number fault) → RefusesSorted limit sorted result
    go None f s = rw s tt
    go (Some fault) f s = rw s (inl (record { place = place; refusal = refusal; refused = subst (λ es. IsRefusedAt es place refusal) same refused; fault_is = f; record_is = is ∙ ap (λ rs. record_at rs place) at }))

pub too_long : (limit : Limit) (events : List Event) (sorted : List Stamped) → IsTooLong limit events → events ≡ events_of sorted → RefusesSorted limit sorted (refusals.Text (length events + 1) faults.TooMany)
too_long limit events sorted long same = inr (record { long = subst (IsTooLong limit) same long; fault_is = refl; record_is = ap (λ n. n + 1) (ap length same ∙ length-map sorted (λ (x : Stamped). x.event)) })

-- a record for each event
pub each_recorded : (limit : Limit) (events : List Event) (history : LimitedEvents) (places records found : List ℕ) → IsCutHistory limit events history places → found ≡ map (record_at records) places → length found ≡ length history.events
each_recorded limit events history places records found cut is =
    ap length is ∙ length-map places (record_at records) ∙ ap length cut.places_are ∙ length-map cut.moments place_of ∙ sym (ap length cut.told ∙ length-map cut.moments event_of)

-- what sorted events tell is what the text tells
pub text_tells : (limit : Limit) (known : Option (List ℕ)) (sorted : List Stamped) (result : Result StoreText ReadRefusal) → IfSome known (λ text. IsStampedText limit text sorted) → AnswersSorted limit sorted result → IfSome known (λ text. AnswersStore limit text result)
text_tells limit None sorted result is says = tt
text_tells limit (Some text) sorted (Ok told) is says = (sorted, is, says)
text_tells limit (Some text) sorted (Err (refusals.Text place fault)) is says = inr (sorted, is, says)
text_tells limit (Some text) sorted (Err refusals.Device) is says = tt
text_tells limit (Some text) sorted (Err refusals.Memory) is says = tt

pub text_refused : (limit : Limit) (known : Option (List ℕ)) (e : ReadRefusal) → IfSome known (λ text. RefusesStampedText limit text e) → IfSome known (λ text. RefusesStore limit text e)
text_refused limit None e says = tt
text_refused limit (Some text) (refusals.Text place fault) says = inl says
text_refused limit (Some text) refusals.Device says = tt
text_refused limit (Some text) refusals.Memory says = tt
