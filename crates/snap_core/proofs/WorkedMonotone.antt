-- Monotone histories, on worked histories.
use Rattle.std.proofs.Common.{◌≡◌, ℕ, false, List, refl, sym, ◌∙◌, inl, inr, arith}
use Rattle.std.specs.List.{list_any}
use Rattle.std.proofs.lemmas.Bool.{false≢true}
use Rattle.snap_core.specs.Calls.{Call, calls_of, precedes, is_view, shown, shown_number, call_numbered}
use Rattle.snap_core.specs.Events.{Event}
use Rattle.snap_core.specs.Monotone.{IsMonotone}
use Rattle.snap_core.specs.Regular.{IsViewOf}
use Rattle.snap_core.proofs.Lists.{In-from_Contains, Contains-from_In, any_from}
use Rattle.snap_core.proofs.Worked as worked

-- the call of a number
abbrev call : List Event → ℕ → Call
call es n = call_numbered (calls_of es) n

-- call 1 shows the update and call 2, which begins after its end, does not
a_new_old_inversion_is_not_monotone : IsMonotone (calls_of worked.new_then_old) → ⊥
unfolding calls_of is_view shown_number shown precedes
a_new_old_inversion_is_not_monotone h =
    let calls = calls_of worked.new_then_old in
    let newer : IsViewOf calls (call worked.new_then_old 1) = record { there = Contains-from_In calls _ (inr (inl refl)); completed = refl } in
    let older : IsViewOf calls (call worked.new_then_old 2) = record { there = Contains-from_In calls _ (inr (inr (inl refl))); completed = refl } in
    absurd (omega (arith, h (call worked.new_then_old 1) (call worked.new_then_old 2) newer older refl 0))

-- call 3, which begins after the end of call 2, shows more of component 0 and less of component 1
views_forward_and_back_are_not_monotone : IsMonotone (calls_of worked.forward_and_back) → ⊥
unfolding calls_of is_view shown_number shown precedes
views_forward_and_back_are_not_monotone h =
    let calls = calls_of worked.forward_and_back in
    let earlier : IsViewOf calls (call worked.forward_and_back 2) = record { there = Contains-from_In calls _ (inr (inr (inl refl))); completed = refl } in
    let later : IsViewOf calls (call worked.forward_and_back 3) = record { there = Contains-from_In calls _ (inr (inr (inr (inl refl)))); completed = refl } in
    absurd (omega (arith, h (call worked.forward_and_back 2) (call worked.forward_and_back 3) earlier later refl 1))

no_call_precedes_another_where_views_are_crossed : list_any (λ r. list_any (precedes r) (calls_of worked.crossed_views)) (calls_of worked.crossed_views) ≡ false
unfolding calls_of precedes
no_call_precedes_another_where_views_are_crossed = refl

-- each of two views shows an update that the other does not, and they overlap
crossed_views_are_monotone : IsMonotone (calls_of worked.crossed_views)
crossed_views_are_monotone r s v w before k =
    let calls = calls_of worked.crossed_views in
    let second = any_from (precedes r) calls s (In-from_Contains calls s w.there) before in
    let first = any_from (λ a. list_any (precedes a) calls) calls r (In-from_Contains calls r v.there) second in
    absurd (false≢true (sym no_call_precedes_another_where_views_are_crossed ∙ first))
