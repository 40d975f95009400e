-- The moments in their order tell the cut calls.
use Rattle.std.proofs.Common.{◌≡◌, ℕ, Bool, true, false, List, ◌++◌, map, get_or, Some, refl, sym, ap, ◌∙◌, subst, inl, inr, arith}
use Rattle.std.specs.Prelude.{not}
use Rattle.std.specs.List.{All, AllPairs, filter, flat_map}
use Rattle.std.specs.List.Sorted.{IsPermutation}
use Rattle.std.proofs.lemmas.Bool.{cases_order, false≢true}
use Rattle.std.proofs.lemmas.Grind.{flat_map-append}
use Rattle.std.proofs.lemmas.Simd.{map-map}
use Rattle.std.proofs.lemmas.List.Sorted.{IsPermutation-filter_both, IsPermutation-append_right, IsPermutation-sym, IsPermutation-trans}
use Rattle.snap_core.specs.Calls.{Call, Operation, Updates, Views}
use Rattle.snap_core.specs.Orders.{is_update}
use Rattle.snap_core.proofs.Lists.{In, In-from_Contains, Contains-from_In, In-get_or, In-from_filter, Pairs, AllPairs-from_Pairs, Pairs-from_AllPairs}
use Rattle.snap_core.proofs.Members.{In-map, In-from_map, Pairs-map}
use Rattle.snap_theory.specs.Intervals.{cut, cut_by, cut_calls, latest_begin, earliest_end}
use Rattle.snap_theory.specs.Telling.{number_of, begin_event, end_event, begin_of, end_of, IsMomentOf, IsBefore, Tells}
use Rattle.snap_theory.specs.Telling.{Moment as SpecMoment}
use Rattle.snap_theory.specs.Versioned.{AreVersioned, AgreeWithTime}
use Rattle.snap_theory.proofs.CutCalls.{kind, same_operation}
use Rattle.snap_versions.specs.declared.moment.Moment.{Moment}
use Rattle.snap_versions.specs.declared.moments.Ranked.{Ranked}
use Rattle.snap_versions.specs.declared.update.Update.{Update}
use Rattle.snap_versions.specs.Cuts.{AreTold, IsPartOf, event_of}
use Rattle.snap_versions.specs.Placed.{ArePlaced}
use Rattle.snap_versions.specs.inside.RankedMoments.{ranked, ranked_of, ranked_whole, as_moment, moment_of, IsNoLater, AreInOrder}
use Rattle.snap_versions.specs.inside.Updates.{update_call, update_calls}
use Rattle.snap_versions.proofs.Gathered.{flat_map_agree, In-flat_map, In-from_flat_map, In-permutation}
use Rattle.snap_versions.proofs.Parts.{Apart, Part, Begin, End, part, begin_ranked, end_ranked, begin_there, end_there, moments_apart, apart_in_order}
use Rattle.snap_versions.proofs.Shared.{ShareUpdates, share, same_latest, same_earliest}
use Rattle.snap_versions.proofs.Splitting.{is_update_of}

abbrev is_other : Call → Bool
is_other c = not (is_update c)

-- the views, and then the updates by version
abbrev views_first : List Call → List Call → List Call
views_first calls updates = filter is_other calls ++ updates

not_twice : (b : Bool) → b ≡ not (not b)
not_twice true = refl
not_twice false = refl

permuted : (calls updates : List Call) → IsPermutation (filter is_update calls) updates → IsPermutation calls (views_first calls updates)
permuted calls updates p =
    IsPermutation-trans calls (filter is_other calls ++ filter is_update calls) (views_first calls updates)
    (IsPermutation-filter_both is_other is_update (λ c. not_twice (is_update c)) calls) (IsPermutation-append_right (filter is_other calls) (filter is_update calls) updates p)

-- a view is not cut
whole : (calls : List Call) (c : Call) → In c (filter is_other calls) → ranked_whole c ≡ ranked_of calls c
whole calls c i = elim (kind calls c) [
  | inl u ↦ absurd (false≢true (sym (ap not (is_update_of c u.0 u.1)) ∙ (In-from_filter is_other calls c i).1))
  | inr same ↦ ap (λ (x : Call). ranked c.process c.operation c.begun c.ended x.begun x.ended) (sym same)
]

-- an update is cut among the calls as among the updates
cut_alike : (calls : List Call) (us : List Update) → ShareUpdates calls (update_calls us) → (c : Call) → In c (update_calls us) → ranked_of (update_calls us) c ≡ ranked_of calls c
cut_alike calls us s c i =
    let o = In-from_map update_call us c i in
    subst (λ x. ranked_of (update_calls us) x ≡ ranked_of calls x) o.is (of o.it (In-map update_call us o.it o.there))
  where
    of : (u : Update) → In (update_call u) (update_calls us) → ranked_of (update_calls us) (update_call u) ≡ ranked_of calls (update_call u)
    of u j =
        ap (λ n. ranked u.process (Updates u.entry) u.begun u.ended n (earliest_end (update_calls us) u.entry)) (same_latest calls (update_calls us) s (update_call u) u.entry j refl)
        ∙ ap (λ o. ranked u.process (Updates u.entry) u.begun u.ended (latest_begin calls u.entry) o) (same_earliest calls (update_calls us) s u.entry)

gathered : (calls : List Call) (us : List Update) → ShareUpdates calls (update_calls us) →
    flat_map ranked_whole (filter is_other calls) ++ flat_map (ranked_of (update_calls us)) (update_calls us) ≡ flat_map (ranked_of calls) (views_first calls (update_calls us))
gathered calls us s =
    ap (λ z. z ++ flat_map (ranked_of (update_calls us)) (update_calls us)) (flat_map_agree ranked_whole (ranked_of calls) (filter is_other calls) (whole calls))
    ∙ ap (λ z. flat_map (ranked_of calls) (filter is_other calls) ++ z) (flat_map_agree (ranked_of (update_calls us)) (ranked_of calls) (update_calls us) (cut_alike calls us s))
    ∙ sym (flat_map-append (ranked_of calls) (filter is_other calls) (update_calls us))

-- moments as those of cut calls

same_process : (calls : List Call) (c : Call) → (cut calls c).process ≡ c.process
same_process calls c = go c.operation
  where
    go : (o : Operation) → (cut_by calls o c).process ≡ c.process
    go (Updates e) = refl
    go (Views answer) = refl

begin_is : (calls : List Call) (c : Call) → as_moment (begin_ranked calls c) ≡ begin_of (cut calls c)
begin_is calls c =
    let at = (cut calls c).begun in
    ap (λ (p : ℕ). record { place = at; number = number_of c.operation; event = begin_event p c.operation }) (sym (same_process calls c))
    ∙ ap (λ (o : Operation). record { place = at; number = number_of o; event = begin_event (cut calls c).process o }) (sym (same_operation calls c))

end_is : (calls : List Call) (c : Call) (at : ℕ) → as_moment (end_ranked c at) ≡ end_of (cut calls c) at
end_is calls c at =
    ap (λ (p : ℕ). record { place = at; number = number_of c.operation; event = end_event p c.operation }) (sym (same_process calls c))
    ∙ ap (λ (o : Operation). record { place = at; number = number_of o; event = end_event (cut calls c).process o }) (sym (same_operation calls c))

-- the order of moments
before : (a b : Ranked) → IsNoLater a b → Apart a b → IsBefore (as_moment a) (as_moment b)
before a b (inl less) apart = inl less
before a b (inr same) apart = elim (cases_order a.number b.number) [
  | inl e ↦ absurd (apart same.0 e)
  | inr (inl less) ↦ inr (same.0, less)
  | inr (inr more) ↦ let few = same.1 in absurd (omega (arith, few, more))
]

rising : (order : List Ranked) → AllPairs IsNoLater order → Pairs Apart order → AllPairs IsBefore (map as_moment order)
rising order sorted apart =
    AllPairs-from_Pairs IsBefore (map as_moment order)
    (Pairs-map IsBefore as_moment order
    (Pairs-from_AllPairs (λ (a b : Ranked). IsBefore (as_moment a) (as_moment b)) order (λ i j d l m. before (get_or order i d) (get_or order j d) (sorted i j d l m) (AllPairs-from_Pairs Apart order apart i j d l m))))

-- what the list of moments is known by
record Has (calls : List Call) (order : List Ranked) : Type 0 where
  pub begins : (c : Call) → In c calls → In (begin_ranked calls c) order
  pub ends : (c : Call) (at : ℕ) → In c calls → (cut calls c).ended ≡ Some at → In (end_ranked c at) order
  pub only : (r : Ranked) → In r order → (c : Call) × In c calls × Part calls c r

has : (calls among : List Call) → IsPermutation calls among → (given order : List Ranked) → given ≡ flat_map (ranked_of calls) among → IsPermutation given order → Has calls order
has calls among p given order is q = record {
  begins = λ c i. forth (begin_ranked calls c) (In-flat_map (ranked_of calls) among c (begin_ranked calls c) (In-permutation calls among c p i) (begin_there calls c));
  ends = λ c at i e. forth (end_ranked c at) (In-flat_map (ranked_of calls) among c (end_ranked c at) (In-permutation calls among c p i) (end_there calls c at e));
  only = λ r i.
      let s = In-from_flat_map (ranked_of calls) among r (back r i) in
      (s.it, In-permutation among calls s.it (IsPermutation-sym calls among p) s.there, part calls s.it r s.among);
}
  where
    forth : (r : Ranked) → In r (flat_map (ranked_of calls) among) → In r order
    forth r i = In-permutation given order r q (subst (λ (z : List Ranked). In r z) (sym is) i)

    back : (r : Ranked) → In r order → In r (flat_map (ranked_of calls) among)
    back r i = subst (λ (z : List Ranked). In r z) is (In-permutation order given r (IsPermutation-sym given order q) i)

tells : (calls : List Call) (order : List Ranked) → Has calls order → AllPairs IsBefore (map as_moment order) → Tells (cut_calls calls) (map event_of (map moment_of order))
tells calls order h up = record {
  moments = map as_moment order;
  told = map-map event_of moment_of order ∙ sym (map-map (λ (m : SpecMoment). m.event) as_moment order);
  rising = up;
  all = λ m k. Contains-from_In (map as_moment order) m (all m k);
  only = λ m k. only m (In-from_Contains (map as_moment order) m k);
}
  where
    put : (m : SpecMoment) (r : Ranked) → In r order → as_moment r ≡ m → In m (map as_moment order)
    put m r i e = subst (λ (z : SpecMoment). In z (map as_moment order)) e (In-map as_moment order r i)

    all : (m : SpecMoment) → IsMomentOf (cut_calls calls) m → In m (map as_moment order)
    all m (x, t, kind) =
        let o = In-from_map (cut calls) calls x (In-from_Contains (cut_calls calls) x t) in
        elim kind [
          | inl e ↦ put m (begin_ranked calls o.it) (h.begins o.it o.there) (begin_is calls o.it ∙ ap begin_of o.is ∙ sym e)
          | inr k ↦ put m (end_ranked o.it k.0) (h.ends o.it k.0 o.there (ap (λ (c : Call). c.ended) o.is ∙ k.1)) (end_is calls o.it k.0 ∙ ap (λ (c : Call). end_of c k.0) o.is ∙ sym k.2)
        ]

    moment : (r : Ranked) (c : Call) → In c calls → Part calls c r → IsMomentOf (cut_calls calls) (as_moment r)
    moment r c i (Begin e) = (cut calls c, Contains-from_In (cut_calls calls) (cut calls c) (In-map (cut calls) calls c i), inl (ap as_moment (sym e) ∙ begin_is calls c))
    moment r c i (End at is e) = (cut calls c, Contains-from_In (cut_calls calls) (cut calls c) (In-map (cut calls) calls c i), inr (at, is, ap as_moment (sym e) ∙ end_is calls c at))

    only : (m : SpecMoment) → In m (map as_moment order) → IsMomentOf (cut_calls calls) m
    only m i =
        let o = In-from_map as_moment order m i in
        let p = h.only o.it o.there in
        subst (IsMomentOf (cut_calls calls)) o.is (moment o.it p.0 p.1 p.2)

-- each moment is the begin or the end of a cut call
parts : (calls : List Call) (order : List Ranked) → Has calls order → All (IsPartOf calls) (map moment_of order)
parts calls order h k d l =
    let o = In-from_map moment_of order (get_or (map moment_of order) k d) (In-get_or (map moment_of order) k d l) in
    let p = h.only o.it o.there in
    subst (IsPartOf calls) o.is (one o.it p.0 p.1 p.2)
  where
    one : (r : Ranked) (c : Call) → In c calls → Part calls c r → IsPartOf calls (moment_of r)
    one r c i (Begin e) = (
      c,
      Contains-from_In calls c i,
      inl (record {
        at = ap (λ (z : Ranked). z.moment.at) (sym e);
        place = ap (λ (z : Ranked). z.moment.place) (sym e);
        event = ap (λ (z : Ranked). z.moment.event) (sym e);
      }),
    )
    one r c i (End at is e) = (
      c,
      Contains-from_In calls c i,
      inr (record {
        at = is ∙ ap (λ (z : Ranked). Some z.moment.at) e;
        place = ap (λ (z : Ranked). z.moment.place) (sym e);
        event = ap (λ (z : Ranked). z.moment.event) (sym e);
      }),
    )

pub told : (calls : List Call) → AreVersioned calls → ArePlaced calls → (us : List Update) → IsPermutation (filter is_update calls) (update_calls us) → AgreeWithTime calls →
    (given : List Ranked) → given ≡ flat_map ranked_whole (filter is_other calls) ++ flat_map (ranked_of (update_calls us)) (update_calls us) →
    (moments : List Moment) → AreInOrder given moments → AreTold calls moments
told calls v placed us p agree given is moments o =
    let among = views_first calls (update_calls us) in
    let same = permuted calls (update_calls us) p in
    let made = is ∙ gathered calls us (share calls (update_calls us) p) in
    let h = has calls among same given o.order made o.same in
    let back = λ (c : Call) (i : In c among). In-permutation among calls c (IsPermutation-sym calls among same) i in
    let apart = apart_in_order given o.order o.same (subst (Pairs Apart) (sym made) (moments_apart calls among v placed same back)) in
    record {
      agree = agree;
      tells = subst (λ (z : List Moment). Tells (cut_calls calls) (map event_of z)) (sym o.told) (tells calls o.order h (rising o.order o.sorted apart));
      parts = subst (All (IsPartOf calls)) (sym o.told) (parts calls o.order h);
    }
