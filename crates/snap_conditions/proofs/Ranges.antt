-- Tallies of ranges of views: how they join, that their counts fit, and what no fault in them says.
use Rattle.std.proofs.Common.{◌≡◌, ℕ, zero, suc, ◌+◌, ◌-◌, ◌*◌, ◌<◌, ◌≤◌, List, [], ◌∷◌, ◌++◌, take, drop, length, get_or, refl, sym, ap, ◌∙◌, subst, inl, inr, arith}
use Rattle.std.specs.Prelude.{◌||◌, filter}
use Rattle.std.specs.List.{flat_map}
use Rattle.std.proofs.lemmas.List.{take_all, length-take, drop_more, length-map}
use Rattle.snap_core.specs.declared.event.Event.{Event}
use Rattle.snap_core.specs.Bounded.{IsBoundedOrdered}
use Rattle.snap_core.specs.Events.{event_cap}
use Rattle.snap_core.specs.Calls.{Call, calls_of, entries_of, views_of, nobody}
use Rattle.snap_core.proofs.Lists.{In}
use Rattle.snap_conditions.specs.declared.tally.Tally.{Tally}
use Rattle.snap_conditions.specs.Parts.{part_of}
use Rattle.snap_theory.specs.Faults.{integrity_fault, old_fault, early_fault, read_fault, write_fault, components, listed, integrity_faults, proximity_faults, read_faults, write_faults, stale_count, missed_at, HasNoLocalFault}
use Rattle.snap_conditions.specs.Tally.{tally_of, SumsFit, reported_integrity, reported_proximity, reported_read, reported_write, merged, no_fault, CountsNoLocalFault}
use Rattle.snap_views.specs.Seen.{view_in, views_between}
use Rattle.snap_conditions.specs.Laws.{TalliesJoin, TalliesFit, RegularByTally, ConditionsByTally, NoFaultByTally}
use Rattle.snap_theory.proofs.FaultLaws.{ordered_regular_exactly, ordered_conditions_exactly}
use Rattle.snap_conditions.proofs.Parts.{part-append, flat_map_short}
use Rattle.snap_views.proofs.Pieces.{range_joined}
use Rattle.snap_views.proofs.Sizes.{few_views, filter_short, rising_few}
use Rattle.snap_theory.proofs.Components.{faults_join, fit_views}
use Rattle.snap_theory.proofs.StaleViews.{stale_few}
use Rattle.snap_theory.proofs.FaultLists.{from_views}

pub tally_is : (t u : Tally) → t.integrity ≡ u.integrity → t.proximity ≡ u.proximity → t.read ≡ u.read → t.write ≡ u.write → t.stale ≡ u.stale → t ≡ u
tally_is t u i p r w s =
    ap (λ x. record t { integrity = x }) i
    ∙ ap (λ x. record t { integrity = u.integrity; proximity = x }) p
    ∙ ap (λ x. record t { integrity = u.integrity; proximity = u.proximity; read = x }) r
    ∙ ap (λ x. record t { integrity = u.integrity; proximity = u.proximity; read = u.read; write = x }) w
    ∙ ap (λ x. record t { integrity = u.integrity; proximity = u.proximity; read = u.read; write = u.write; stale = x }) s

pub tally_joined : (calls rs ss : List Call) → tally_of calls (rs ++ ss) ≡ merged (tally_of calls rs) (tally_of calls ss)
unfolding tally_of
tally_joined calls rs ss =
    let j = faults_join calls rs ss in
    tally_is (tally_of calls (rs ++ ss)) (merged (tally_of calls rs) (tally_of calls ss))
    (ap (part_of reported_integrity) j.integrity ∙ part-append reported_integrity (integrity_faults calls rs) (integrity_faults calls ss))
    (ap (part_of (reported_proximity calls)) j.proximity ∙ part-append (reported_proximity calls) (proximity_faults calls rs) (proximity_faults calls ss))
    (ap (part_of reported_read) j.read ∙ part-append reported_read (read_faults calls rs) (read_faults calls ss))
    (ap (part_of reported_write) j.write ∙ part-append reported_write (write_faults calls rs) (write_faults calls ss))
    j.stale

nothing_tallied : (calls : List Call) → tally_of calls [] ≡ no_fault
unfolding tally_of integrity_faults proximity_faults read_faults write_faults stale_count
nothing_tallied calls = refl

pub tallies_join : (calls : List Call) → TalliesJoin calls
tallies_join calls = record {
  nothing = nothing_tallied calls;
  both = tally_joined calls;
  adjoining = λ from middle to l m. ap (tally_of calls) (range_joined (views_of calls) from middle to l m) ∙ tally_joined calls (views_between calls from middle) (views_between calls middle to);
  whole = take_all (length (views_of calls) - 0) (views_of calls) (omega arith);
}

-- a range of no view and of one

pub empty_between : (calls : List Call) (from : ℕ) → views_between calls from from ≡ []
empty_between calls from = let none : from - from ≡ 0 = omega arith in ap (λ n. take n (drop from (views_of calls))) none

pub one_between : (calls : List Call) (place : ℕ) → place < length (views_of calls) → views_between calls place (place + 1) ≡ get_or (views_of calls) place nobody ∷ []
one_between calls place l =
    let one : (place + 1) - place ≡ 1 = omega arith in
    ap (λ n. take n (drop place (views_of calls))) one ∙ ap (take 1) (drop_more (views_of calls) place nobody l)

-- a part of the views
abbrev pub Within : {X : Type 0} → List X → List X → Type 0
Within {X} rs xs = (r : X) → In r rs → In r xs

within_take : {X : Type 0} (n : ℕ) (xs : List X) → Within (take n xs) xs
within_take zero xs r i = absurd i
within_take (suc n) [] r i = absurd i
within_take (suc n) (x ∷ xs) r (inl e) = inl e
within_take (suc n) (x ∷ xs) r (inr i) = inr (within_take n xs r i)

within_drop : {X : Type 0} (n : ℕ) (xs : List X) → Within (drop n xs) xs
within_drop zero xs r i = i
within_drop (suc n) [] r i = absurd i
within_drop (suc n) (x ∷ xs) r i = inr (within_drop n xs r i)

-- no count of the tally is above the greatest number of events for each view
pub record IsSmall (n : ℕ) (t : Tally) : Type 0 where
  pub integrity : t.integrity.count ≤ n * event_cap
  pub proximity : t.proximity.count ≤ n * event_cap
  pub read : t.read.count ≤ n * event_cap
  pub write : t.write.count ≤ n * event_cap
  pub stale : t.stale ≤ n * event_cap

pub few_listed : (es : List Event) → IsBoundedOrdered es → (r : Call) → In r (views_of (calls_of es)) → length (listed r) ≤ 256
few_listed es k r i =
    let f = fit_views es k.fit r (from_views (calls_of es) r i).there in
    omega (arith, length-map (entries_of r.operation) (λ e. e.component), rising_few (entries_of r.operation) f.rising (λ j d l. (f.fit j d l).0))

pub tally_small : (es : List Event) → IsBoundedOrdered es → (rs : List Call) → Within rs (views_of (calls_of es)) → IsSmall (length rs) (tally_of (calls_of es) rs)
unfolding tally_of integrity_faults proximity_faults read_faults write_faults
tally_small es k rs w = record {
  integrity = flat_map_short _ event_cap rs (λ r i. omega (arith, length-map {B = Call × ℕ} (filter (integrity_fault calls r) (listed r)) (λ k. (r, k)), filter_short (integrity_fault calls r) (listed r), few_listed es k r (w r i)));
  proximity = flat_map_short _ event_cap rs (λ r i. omega (arith, length-map {B = Call × ℕ} (filter (λ k. old_fault calls r k || early_fault calls r k) components) (λ k. (r, k)), filter_short (λ k. old_fault calls r k || early_fault calls r k) components));
  read = flat_map_short _ event_cap rs (λ r i. omega (arith, length-map {B = Call × Call} (filter (read_fault r) (views_of calls)) (λ s. (r, s)), filter_short (read_fault r) (views_of calls), few_views es k));
  write = flat_map_short _ event_cap rs (λ r i.
      let few : length (flat_map (missed_at calls r) components) ≤ 65536 = flat_map_short (missed_at calls r) 256 components (λ j l. omega (arith, length-map {B = Call × ℕ × ℕ} (filter (write_fault calls r j) (listed r)) (λ k. (r, j, k)), filter_short (write_fault calls r j) (listed r), few_listed es k r (w r i))) in
      omega (arith, few));
  stale = stale_few calls rs event_cap (omega (arith, few_views es k));
}
  where
    calls : List Call
    calls = calls_of es

pub ranges_fit : TalliesFit
ranges_fit es k from middle to l m n =
    let calls = calls_of es in
    let within : (a b : ℕ) → Within (views_between calls a b) (views_of calls) = λ a b r i. within_drop a (views_of calls) r (within_take (b - a) (drop a (views_of calls)) r i) in
    let a = tally_small es k (views_between calls from middle) (within from middle) in
    let b = tally_small es k (views_between calls middle to) (within middle to) in
    let x = length-take (middle - from) (drop from (views_of calls)) in
    let y = length-take (to - middle) (drop middle (views_of calls)) in
    let v = few_views es k in
    record {
      integrity = omega (arith, a.integrity, b.integrity, x, y, v);
      proximity = omega (arith, a.proximity, b.proximity, x, y, v);
      read = omega (arith, a.read, b.read, x, y, v);
      write = omega (arith, a.write, b.write, x, y, v);
      stale = omega (arith, a.stale, b.stale, x, y, v);
    }

-- a range that grows by one view

pub next_fits : (es : List Event) → IsBoundedOrdered es → (from place : ℕ) → from ≤ place → place < length (views_of (calls_of es)) →
    SumsFit (tally_of (calls_of es) (views_between (calls_of es) from place)) (tally_of (calls_of es) (view_in (calls_of es) place ∷ []))
next_fits es k from place l m =
    let calls = calls_of es in
    subst (λ rs. SumsFit (tally_of calls (views_between calls from place)) (tally_of calls rs)) (one_between calls place m) (ranges_fit es k from place (place + 1) l (omega arith) (omega (arith, m)))

pub next_tally : (calls : List Call) (from place : ℕ) → from ≤ place → place < length (views_of calls) →
    merged (tally_of calls (views_between calls from place)) (tally_of calls (view_in calls place ∷ [])) ≡ tally_of calls (views_between calls from (place + 1))
next_tally calls from place l m =
    ap (λ rs. merged (tally_of calls (views_between calls from place)) (tally_of calls rs)) (sym (one_between calls place m)) ∙ sym ((tallies_join calls).adjoining from place (place + 1) l (omega arith))

-- no fault by the counts, and by the lists

no_length : {X : Type 0} (xs : List X) → length xs ≡ 0 → xs ≡ []
no_length [] h = refl
no_length (x ∷ xs) h = absurd (omega (arith, h))

counts_local_to : (calls : List Call) → CountsNoLocalFault (tally_of calls (views_of calls)) → HasNoLocalFault calls
unfolding tally_of
counts_local_to calls h = record { integrity = no_length _ h.integrity; proximity = no_length _ h.proximity }

counts_local_from : (calls : List Call) → HasNoLocalFault calls → CountsNoLocalFault (tally_of calls (views_of calls))
unfolding tally_of
counts_local_from calls h = record { integrity = ap length h.integrity; proximity = ap length h.proximity }

pub no_fault_by_tally : NoFaultByTally
unfolding tally_of
no_fault_by_tally calls = (
  λ h. record { local = counts_local_to calls h.local; read = no_length _ h.read; write = no_length _ h.write },
  λ h. record { local = counts_local_from calls h.local; read = ap length h.read; write = ap length h.write },
)

pub regular_by_tally : RegularByTally
regular_by_tally es h b =
    let x = ordered_regular_exactly es h b in
    (λ t. x.1 (counts_local_to (calls_of es) t), λ r. counts_local_from (calls_of es) (x.0 r))

pub conditions_by_tally : ConditionsByTally
conditions_by_tally es h b =
    let x = ordered_conditions_exactly es h b in
    let y = no_fault_by_tally (calls_of es) in
    (λ t. x.1 (y.0 t), λ m. y.1 (x.0 m))
