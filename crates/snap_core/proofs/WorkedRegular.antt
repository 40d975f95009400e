-- Regular histories, on worked histories.
use Rattle.std.proofs.Common.{◌≡◌, ◌&&◌, Bool, ℕ, true, false, List, Some, refl, sym, ap, ◌∙◌, inl, inr, arith}
use Rattle.std.specs.List.{list_any}
use Rattle.std.proofs.lemmas.Bool.{false≢true}
use Rattle.snap_core.specs.declared.entry.Entry.{Entry}
use Rattle.snap_core.specs.Calls.{Call, Operation, Updates, Views, calls_of, precedes, is_view, shown, shown_number, call_numbered}
use Rattle.snap_core.specs.Events.{Event}
use Rattle.snap_core.specs.Regular.{IsBegunBeforeEnd, IsRegular, IsViewOf, IsUpdateOf}
use Rattle.snap_core.proofs.Facts.{shown_in}
use Rattle.snap_core.proofs.Lists.{In, In-from_Contains, Contains-from_In, any_from}
use Rattle.snap_core.proofs.Worked as worked
use Rattle.snap_core.proofs.Worked.{entry}

-- the calls of a history of two calls
abbrev first_of : List Event → Call
first_of es = call_numbered (calls_of es) 0

abbrev second_of : List Event → Call
second_of es = call_numbered (calls_of es) 1

-- the view shows nothing, and the update ended before it began
a_stale_view_is_not_regular : IsRegular (calls_of worked.stale_view) → ⊥
unfolding calls_of is_view shown_number shown precedes
a_stale_view_is_not_regular r =
    let calls = calls_of worked.stale_view in
    let view : IsViewOf calls (second_of worked.stale_view) = record { there = Contains-from_In calls _ (inr (inl refl)); completed = refl } in
    let update : IsUpdateOf calls (first_of worked.stale_view) (entry 0 1 7) = record { there = Contains-from_In calls _ (inl refl); writes = refl } in
    false≢true (sym (r.not_old (second_of worked.stale_view) (first_of worked.stale_view) (entry 0 1 7) view update (omega arith)))

-- the only update begins after the view's end
not_early : (c : Call) → c.operation ≡ Updates (entry 0 1 7) → IsBegunBeforeEnd c (first_of worked.view_of_the_future) → In c (calls_of worked.view_of_the_future) → ⊥
unfolding calls_of
not_early c w b (inl e) = let view : (first_of worked.view_of_the_future).operation ≡ Updates (entry 0 1 7) = ap (λ (z : Call). z.operation) e ∙ w in absurd (cc)
not_early c w b (inr (inl e)) =
    let begun : 2 ≡ c.begun = ap (λ (z : Call). z.begun) e in
    let place : 1 ≡ b.place = cc in
    omega (arith, b.before, begun, place)
not_early c w b (inr (inr i)) = absurd i

a_view_of_the_future_is_not_regular : IsRegular (calls_of worked.view_of_the_future) → ⊥
unfolding calls_of is_view shown_number shown precedes
a_view_of_the_future_is_not_regular r =
    let calls = calls_of worked.view_of_the_future in
    let view : IsViewOf calls (first_of worked.view_of_the_future) = record { there = Contains-from_In calls _ (inl refl); completed = refl } in
    let u = r.not_early (first_of worked.view_of_the_future) 0 (entry 0 1 7) view refl in
    not_early u.0 u.1.writes u.2 (In-from_Contains calls u.0 u.1.there)

value_of : Operation → ℕ
value_of (Updates e) = e.value
value_of (Views answer) = 0

-- the only update writes another value
not_written : (c : Call) → c.operation ≡ Updates (entry 0 1 8) → In c (calls_of worked.wrong_value) → ⊥
unfolding calls_of value_of
not_written c w (inl e) = let other : Updates (entry 0 1 7) ≡ Updates (entry 0 1 8) = ap (λ (z : Call). z.operation) e ∙ w in absurd (omega (arith, ap value_of other))
not_written c w (inr (inl e)) = let view : (second_of worked.wrong_value).operation ≡ Updates (entry 0 1 8) = ap (λ (z : Call). z.operation) e ∙ w in absurd (cc)
not_written c w (inr (inr i)) = absurd i

a_value_that_was_never_written_is_not_regular : IsRegular (calls_of worked.wrong_value) → ⊥
unfolding calls_of is_view shown_number shown precedes
a_value_that_was_never_written_is_not_regular r =
    let calls = calls_of worked.wrong_value in
    let view : IsViewOf calls (second_of worked.wrong_value) = record { there = Contains-from_In calls _ (inr (inl refl)); completed = refl } in
    let u = r.not_early (second_of worked.wrong_value) 0 (entry 0 1 8) view refl in
    not_written u.0 u.1.writes (In-from_Contains calls u.0 u.1.there)

-- the calls of a history of three calls
abbrev third_of : List Event → Call
third_of es = call_numbered (calls_of es) 2

no_call_precedes_the_view_of_a_missed_update : list_any (λ r. list_any (λ c. precedes c r && is_view r) (calls_of worked.missed_update)) (calls_of worked.missed_update) ≡ false
unfolding calls_of precedes is_view
no_call_precedes_the_view_of_a_missed_update = refl

not_before : (c r : Call) → In c (calls_of worked.missed_update) → In r (calls_of worked.missed_update) → is_view r ≡ true → precedes c r ≡ false
not_before c r i j v = go (precedes c r) refl
  where
    calls : List Call
    calls = calls_of worked.missed_update

    go : (b : Bool) → precedes c r ≡ b → b ≡ false
    go false q = refl
    go true q =
        let inner = any_from (λ z. precedes z r && is_view r) calls c i (ap (λ z. z && is_view r) q ∙ v) in
        absurd (false≢true (sym no_call_precedes_the_view_of_a_missed_update ∙ any_from (λ z. list_any (λ y. precedes y z && is_view z) calls) calls r j inner))

the_view_of_a_missed_update : (r : Call) → In r (calls_of worked.missed_update) → is_view r ≡ true → first_of worked.missed_update ≡ r
unfolding calls_of is_view
the_view_of_a_missed_update r (inl e) v = e
the_view_of_a_missed_update r (inr (inl e)) v = absurd (false≢true (ap (λ z. is_view z) e ∙ v))
the_view_of_a_missed_update r (inr (inr (inl e))) v = absurd (false≢true (ap (λ z. is_view z) e ∙ v))
the_view_of_a_missed_update r (inr (inr (inr i))) v = absurd i

shows_the_other : (k : ℕ) (e : Entry) → shown (first_of worked.missed_update) k ≡ Some e → entry 1 1 6 ≡ e
unfolding calls_of
shows_the_other k e s = elim (shown_in (first_of worked.missed_update) k e s).0 [ inl q ↦ q | inr i ↦ absurd i ]

-- the update that it shows begins inside the view, and the one that it misses does not precede it
a_missed_update_is_regular : IsRegular (calls_of worked.missed_update)
unfolding calls_of
a_missed_update_is_regular =
    let calls = calls_of worked.missed_update in
    record {
      not_old = λ r c e v u less. not_before c r (In-from_Contains calls c u.there) (In-from_Contains calls r v.there) v.completed;
      not_early = λ r k e v s.
          let same = the_view_of_a_missed_update r (In-from_Contains calls r v.there) v.completed in
          let shows = shows_the_other k e (ap (λ z. shown z k) same ∙ s) in (
            third_of worked.missed_update,
            record { there = Contains-from_In calls _ (inr (inr (inl refl))); writes = ap Updates shows },
            record { place = 5; ends = ap (λ (z : Call). z.ended) (sym same); before = omega arith },
          );
    }
