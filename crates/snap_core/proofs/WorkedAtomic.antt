-- Legal orders, on worked histories.
use Rattle.std.proofs.Common.{◌≡◌, ◌≢◌, ◌⊎◌, ℕ, Bool, true, false, cond, AllPairs, List, [], ◌∷◌, ◌++◌, Option, Some, None, refl, sym, ap, ◌∙◌, inl, inr, arith, subst}
use Rattle.std.specs.Prelude.{Contains, is_some, ◌==◌}
use Rattle.std.proofs.lemmas.Bool.{false≢true}
use Rattle.std.proofs.lemmas.List.Elements.{All-nil, All-cons}
use Rattle.snap_core.specs.declared.entry.Entry.{Entry}
use Rattle.snap_core.specs.Calls.{Call, Operation, Updates, Views, calls_of, precedes, is_view, shown, call_numbered}
use Rattle.snap_core.specs.Events.{Event}
use Rattle.snap_core.specs.Orders.{IsAtomic, IsLegalOrder, is_update, is_completed, last_written, written_by}
use Rattle.snap_core.proofs.Lists.{In, In-from_Contains, Contains-from_In, In-append_cases, around, AllPairs-from_Pairs, Pairs-from_AllPairs, Pairs-right}
use Rattle.snap_core.proofs.Worked as worked
use Rattle.snap_core.proofs.Worked.{entry}

-- the last update of a component in a list, or what stood before it
abbrev written_behind : List Event → ℕ → Option Entry
written_behind es k = last_written k None (calls_of es)

the_last_update_of_a_component_is_written : written_behind worked.atomic_run 0 ≡ Some (entry 0 2 11)
unfolding calls_of
the_last_update_of_a_component_is_written = refl

a_component_without_an_update_has_nothing_written : written_behind worked.atomic_run 2 ≡ None
unfolding calls_of
a_component_without_an_update_has_nothing_written = refl

-- a call that an order of the calls may have
record MayStand (calls : List Call) (c : Call) : Type 0 where
  there : In c calls
  done : (is_completed c ≡ true) ⊎ (is_update c ≡ true)

record IsOrderOfTwo (calls : List Call) (a b : Call) : Type 0 where
  first : MayStand calls a
  second : MayStand calls b
  other : a.number ≢ b.number
  precedence : precedes b a ≡ false
  completed : (c : Call) → In c calls → is_completed c ≡ true → In c (a ∷ b ∷ [])
  nothing : is_view a ≡ true → (k : ℕ) → shown a k ≡ None
  latest : is_view b ≡ true → (k : ℕ) → shown b k ≡ last_written k None (a ∷ [])

two_calls : (calls : List Call) (a b : Call) → IsOrderOfTwo calls a b → IsLegalOrder calls (a ∷ b ∷ [])
two_calls calls a b o = record {
  only = All-cons Stands a (b ∷ []) (stands a o.first) (All-cons Stands b [] (stands b o.second) (All-nil Stands));
  distinct = AllPairs-from_Pairs (λ x y. x ≢ y) (a ∷ b ∷ []) (differs, (λ y i. absurd i, tt));
  completed = λ c i done. Contains-from_In (a ∷ b ∷ []) c (o.completed c (In-from_Contains calls c i) done);
  precedence = AllPairs-from_Pairs (λ x y. precedes y x ≡ false) (a ∷ b ∷ []) (follows, (λ y i. absurd i, tt));
  latest = shows;
}
  where
    Stands : Call → Type 0
    Stands c = Contains calls c × ((is_completed c ≡ true) ⊎ (is_update c ≡ true))

    stands : (c : Call) → MayStand calls c → Stands c
    stands c m = (Contains-from_In calls c m.there, m.done)

    differs : (y : Call) → In y (b ∷ []) → a ≢ y
    differs y (inl e) h = o.other (ap (λ (z : Call). z.number) (h ∙ sym e))
    differs y (inr i) h = absurd i

    follows : (y : Call) → In y (b ∷ []) → precedes y a ≡ false
    follows y (inl e) = ap (λ z. precedes z a) (sym e) ∙ o.precedence
    follows y (inr i) = absurd i

    shows : (before after : List Call) (r : Call) → a ∷ b ∷ [] ≡ before ++ r ∷ after → is_view r ≡ true → (k : ℕ) → shown r k ≡ last_written k None before
    shows [] after r split v k = let same : a ≡ r = cc in ap (λ z. shown z k) (sym same) ∙ o.nothing (ap (λ z. is_view z) same ∙ v) k
    shows (x ∷ []) after r split v k =
        let same : b ≡ r = cc in
        let before : a ≡ x = cc in
        ap (λ z. shown z k) (sym same) ∙ o.latest (ap (λ z. is_view z) same ∙ v) k ∙ ap (λ z. last_written k None (z ∷ [])) before
    shows (x ∷ y ∷ []) after r split v k = absurd (cc)
    shows (x ∷ y ∷ z ∷ before) after r split v k = absurd (cc)

-- the call of a number
abbrev call : List Event → ℕ → Call
call es n = call_numbered (calls_of es) n

completed_beside_an_update : (c : Call) → In c (calls_of worked.view_before_update) → is_completed c ≡ true → In c (call worked.view_before_update 1 ∷ call worked.view_before_update 0 ∷ [])
unfolding calls_of
completed_beside_an_update c (inl e) done = inr (inl e)
completed_beside_an_update c (inr (inl e)) done = inl e
completed_beside_an_update c (inr (inr i)) done = absurd i

a_view_may_stand_before_the_update_that_it_overlaps : IsLegalOrder (calls_of worked.view_before_update) (call worked.view_before_update 1 ∷ call worked.view_before_update 0 ∷ [])
unfolding calls_of is_completed is_view shown precedes
a_view_may_stand_before_the_update_that_it_overlaps = two_calls _ _ _ (record {
  first = record { there = inr (inl refl); done = inl refl };
  second = record { there = inl refl; done = inl refl };
  other = λ h. absurd (omega (arith, h));
  precedence = refl;
  completed = completed_beside_an_update;
  nothing = λ v k. refl;
  latest = λ v. absurd (false≢true v);
})

completed_beside_pending_updates : (c : Call) → In c (calls_of worked.seen_pending) → is_completed c ≡ true → In c (call worked.seen_pending 0 ∷ call worked.seen_pending 2 ∷ [])
unfolding calls_of is_completed
completed_beside_pending_updates c (inl e) done = inl e
completed_beside_pending_updates c (inr (inl e)) done = absurd (false≢true (ap (λ z. is_completed z) e ∙ done))
completed_beside_pending_updates c (inr (inr (inl e))) done = inr (inl e)
completed_beside_pending_updates c (inr (inr (inr i))) done = absurd i

-- of two pending updates the order has the one that the view shows
a_seen_pending_update_may_stand : IsLegalOrder (calls_of worked.seen_pending) (call worked.seen_pending 0 ∷ call worked.seen_pending 2 ∷ [])
unfolding calls_of is_completed is_update is_view shown precedes
a_seen_pending_update_may_stand = two_calls _ _ _ (record {
  first = record { there = inl refl; done = inr refl };
  second = record { there = inr (inr (inl refl)); done = inl refl };
  other = λ h. absurd (omega (arith, h));
  precedence = refl;
  completed = completed_beside_pending_updates;
  nothing = λ v. absurd (false≢true v);
  latest = λ v k. refl;
})

still_written : (k : ℕ) (o : Option Entry) (p : Operation) → is_some o ≡ true → is_some (written_by p k o) ≡ true
still_written k o (Updates e) s = go (e.component == k)
  where
    go : (b : Bool) → is_some (cond b (Some e) o) ≡ true
    go true = refl
    go false = s
still_written k o (Views answer) s = s

stays_written : (k : ℕ) (o : Option Entry) (xs : List Call) → is_some o ≡ true → is_some (last_written k o xs) ≡ true
stays_written k o [] s = s
stays_written k o (x ∷ xs) s = stays_written k (written_by x.operation k o) xs (still_written k o x.operation s)

-- the ended update of component 0 is written wherever it stands
is_written : (o : Option Entry) (xs : List Call) → In (call worked.stale_view 0) xs → is_some (last_written 0 o xs) ≡ true
unfolding calls_of
is_written o [] i = absurd i
is_written o (x ∷ xs) (inl e) = stays_written 0 (written_by x.operation 0 o) xs (ap (λ (z : Call). is_some (written_by z.operation 0 o)) e)
is_written o (x ∷ xs) (inr i) = is_written (written_by x.operation 0 o) xs i

-- the update precedes the view, so it stands before it, and the view shows nothing
a_stale_view_is_not_atomic : IsAtomic (calls_of worked.stale_view) → ⊥
unfolding calls_of is_completed is_view shown precedes
a_stale_view_is_not_atomic a =
    let calls = calls_of worked.stale_view in
    let update = call worked.stale_view 0 in
    let view = call worked.stale_view 1 in
    let there = In-from_Contains a.0 update (a.1.completed update (Contains-from_In calls update (inl refl)) refl) in
    let p = around view a.0 (In-from_Contains a.0 view (a.1.completed view (Contains-from_In calls view (inr (inl refl))) refl)) in
    let later = Pairs-right (λ x y. precedes y x ≡ false) p.before (view ∷ p.after) (Pairs-from_AllPairs _ (p.before ++ view ∷ p.after) (subst (AllPairs (λ x y. precedes y x ≡ false)) p.same a.1.precedence)) in
    let shows : None ≡ last_written 0 None p.before = a.1.latest p.before p.after view p.same refl 0 in
    elim (In-append_cases update p.before (view ∷ p.after) (subst (In update) p.same there)) [
      | inl before ↦ absurd (false≢true (ap is_some shows ∙ is_written None p.before before))
      | inr (inl e) ↦ absurd (omega (arith, ap (λ (z : Call). z.number) e))
      | inr (inr after) ↦ absurd (false≢true (sym (later.0 update after)))
    ]
