-- Where the latest begin up to an update comes after the earliest end from it on, two updates contradict time.
use Rattle.std.proofs.Common.{◌≡◌, ℕ, ◌<◌, false, List, map, length, get_or, Some, None, refl, sym, ap, ◌∙◌, inl, inr, arith}
use Rattle.std.specs.List.{Contains}
use Rattle.std.proofs.lemmas.Bool.{cases_order, ltb-false}
use Rattle.std.proofs.lemmas.List.{get_or-map, length-map}
use Rattle.snap_core.specs.Calls.{Call, Updates, is_before}
use Rattle.snap_core.proofs.Facts.{precedes_to, precedes_from}
use Rattle.snap_core.proofs.Lists.{In-from_Contains, Contains-from_In}
use Rattle.snap_theory.specs.Intervals.{latest_begin, earliest_end}
use Rattle.snap_theory.specs.Versioned.{AreVersioned, AgreeWithTime}
use Rattle.snap_theory.proofs.CutCalls.{own_up}
use Rattle.snap_theory.proofs.Intervals.{FromOn, Begins, Ends, latest, begins_by, earliest, ends_by}
use Rattle.snap_versions.specs.declared.update.Update.{Update}
use Rattle.snap_versions.specs.Placed.{ArePlaced}
use Rattle.snap_versions.specs.Cuts.{AreContradicted}
use Rattle.snap_versions.specs.inside.Contradictions.{HasEndBefore, HasNoEndBefore}
use Rattle.snap_versions.specs.inside.Updates.{update_call, update_calls, begin_among, end_among}
use Rattle.snap_versions.proofs.Shared.{ShareUpdates}
use Rattle.snap_versions.proofs.Sorted.{at, there}

abbrev nothing : Update
nothing = record { number = 0; process = 0; entry = record { component = 0; number = 0; value = 0 }; begun = 0; ended = None }

-- the update with an end before its begin stands between two that contradict time
pub contradicted : (calls : List Call) → AreVersioned calls → ArePlaced calls → (us : List Update) → ShareUpdates calls (update_calls us) → (ended begun : ℕ) →
    HasEndBefore (map (begin_among us) us) (map (end_among us) us) ended begun → AreContradicted calls ended begun
contradicted calls versioned placed us s ended begun h = record {
  lower = low.call;
  higher = high.call;
  contradict = record {
    low = low.is.entry;
    high = high.is.entry;
    is_low = record { there = low_there; writes = low.is.writes };
    is_high = record { there = high_there; writes = high.is.writes };
    component = component;
    version = version;
    time = precedes_from high.call low.call (record { place = ended; ends = high.ended; before = before });
  };
  end = high.ended;
  begin = low.begun ∙ begin_is;
}
  where
    within : h.update < length us
    within = let l = h.within in let size = length-map us (begin_among us) in omega (arith, l, size)

    begin_is : latest_begin (update_calls us) (get_or us h.update nothing).entry ≡ begun
    begin_is = sym (get_or-map (begin_among us) us h.update nothing 0 within) ∙ h.begin

    low : Begins (update_calls us) (get_or us h.update nothing).entry (latest_begin (update_calls us) (get_or us h.update nothing).entry)
    low = latest (update_calls us) (get_or us h.update nothing).entry (update_call (get_or us h.update nothing)) (there us nothing h.update within) (own_up _ _ refl)

    high : Ends (update_calls us) (get_or us h.update nothing).entry ended
    high = earliest (update_calls us) (get_or us h.update nothing).entry ended (sym (get_or-map (end_among us) us h.update nothing None within) ∙ h.end)

    low_there : Contains calls low.call
    low_there = Contains-from_In calls low.call (s.back low.call low.there)

    high_there : Contains calls high.call
    high_there = Contains-from_In calls high.call (s.back high.call high.there)

    component : low.is.entry.component ≡ high.is.entry.component
    component = low.is.component ∙ sym high.is.component

    before : ended < low.call.begun
    before = let l = h.before in let b = low.begun ∙ begin_is in omega (arith, l, b)

    version : low.is.entry.number < high.is.entry.number
    version =
        let a = low.is.number in
        let b = high.is.number in
        elim (cases_order low.is.entry.number high.is.entry.number) [
          | inl same ↦
              let one = versioned low.call high.call low.is.entry high.is.entry (record { there = low_there; writes = low.is.writes }) (record { there = high_there; writes = high.is.writes }) component same in
              let rises = placed.rises high.call ended high_there high.ended in
              let begins = ap (λ (c : Call). c.begun) one in
              absurd (omega (arith, rises, begins, before))
          | inr (inl less) ↦ less
          | inr (inr more) ↦ absurd (omega (arith, more, a, b))
        ]

-- where no update has an end before its begin, no two updates contradict time
pub agree : (calls : List Call) (us : List Update) → ShareUpdates calls (update_calls us) → HasNoEndBefore (map (begin_among us) us) (map (end_among us) us) → AgreeWithTime calls
agree calls us s none lower higher k =
    let p = precedes_to higher lower k.time in
    let lower_there = s.forth lower k.low k.is_low.writes (In-from_Contains calls lower k.is_low.there) in
    let higher_there = s.forth higher k.high k.is_high.writes (In-from_Contains calls higher k.is_high.there) in
    let a = at us nothing lower lower_there in
    let size = length-map us (begin_among us) in
    let within : a.place < length (map (begin_among us) us) = let l = a.within in omega (arith, size, l) in
    let o : Updates (get_or us a.place nothing).entry ≡ Updates k.low = ap (λ (c : Call). c.operation) a.is ∙ k.is_low.writes in
    let entry : (get_or us a.place nothing).entry ≡ k.low = cc in
    let begin : get_or (map (begin_among us) us) a.place 0 ≡ latest_begin (update_calls us) k.low = get_or-map (begin_among us) us a.place nothing 0 a.within ∙ ap (latest_begin (update_calls us)) entry in
    let end : get_or (map (end_among us) us) a.place None ≡ earliest_end (update_calls us) k.low = get_or-map (end_among us) us a.place nothing None a.within ∙ ap (earliest_end (update_calls us)) entry in
    let least = begins_by (update_calls us) k.low lower lower_there (own_up lower k.low k.is_low.writes) in
    let version = k.version in
    let from : FromOn k.low higher = record { entry = k.high; writes = k.is_high.writes; component = sym k.component; number = omega (arith, version) } in
    let most = ends_by (update_calls us) k.low higher p.place higher_there from p.ends in
    let at_place = none a.place within in
    let no : is_before (Some most.end) (get_or (map (begin_among us) us) a.place 0) ≡ false = ap (λ z. is_before z (get_or (map (begin_among us) us) a.place 0)) (sym (end ∙ most.is)) ∙ at_place in
    let late = ltb-false _ _ no in
    let by = most.by in
    let before = p.before in
    omega (arith, late, begin, least, by, before)
