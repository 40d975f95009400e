-- The calls of worked histories, by computation.
use Rattle.std.specs.Prelude.{ℕ, Bool, true, false, List, [], ◌∷◌, ◌≡◌, Option, Some, None, refl, map}
use Rattle.snap_core.specs.Calls.{Call, calls_of, precedes, is_view, shown, shown_number, views_of, call_numbered}
use Rattle.snap_core.specs.Events.{Event}
use Rattle.snap_core.proofs.Worked as worked
use Rattle.snap_core.proofs.Worked.{entry}

abbrev numbers : List Call → List ℕ
numbers calls = map (λ (c : Call). c.number) calls

abbrev begins : List Call → List ℕ
begins calls = map (λ (c : Call). c.begun) calls

abbrev ends : List Call → List (Option ℕ)
ends calls = map (λ (c : Call). c.ended) calls

calls_are_numbered_by_their_begins : numbers (calls_of worked.atomic_run) ≡ 0 ∷ 1 ∷ 2 ∷ 3 ∷ 4 ∷ []
unfolding calls_of
calls_are_numbered_by_their_begins = refl

a_call_begins_at_the_place_of_its_begin : begins (calls_of worked.atomic_run) ≡ 0 ∷ 2 ∷ 3 ∷ 4 ∷ 7 ∷ []
unfolding calls_of
a_call_begins_at_the_place_of_its_begin = refl

a_call_ends_at_the_next_event_of_its_process : ends (calls_of worked.atomic_run) ≡ Some 1 ∷ Some 9 ∷ Some 5 ∷ Some 6 ∷ Some 8 ∷ []
unfolding calls_of
a_call_ends_at_the_next_event_of_its_process = refl

pending_calls_have_no_end : ends (calls_of worked.all_pending) ≡ None ∷ None ∷ None ∷ None ∷ []
unfolding calls_of
pending_calls_have_no_end = refl

one_of_two_pending_updates : ends (calls_of worked.seen_pending) ≡ None ∷ None ∷ Some 3 ∷ []
unfolding calls_of
one_of_two_pending_updates = refl

-- the calls of these two numbers
abbrev first_precedes : List Event → ℕ → ℕ → Bool
first_precedes es a b = precedes (call_numbered (calls_of es) a) (call_numbered (calls_of es) b)

an_ended_update_precedes_a_later_view : first_precedes worked.stale_view 0 1 ≡ true
unfolding calls_of precedes
an_ended_update_precedes_a_later_view = refl

nothing_precedes_an_earlier_call : first_precedes worked.stale_view 1 0 ≡ false
unfolding calls_of precedes
nothing_precedes_an_earlier_call = refl

calls_that_overlap_precede_neither_way : first_precedes worked.view_before_update 0 1 ≡ false
unfolding calls_of precedes
calls_that_overlap_precede_neither_way = refl

a_pending_call_precedes_nothing : first_precedes worked.seen_pending 0 2 ≡ false
unfolding calls_of precedes
a_pending_call_precedes_nothing = refl

pending_views_are_no_completed_views : numbers (views_of (calls_of worked.all_pending)) ≡ []
unfolding calls_of views_of is_view
pending_views_are_no_completed_views = refl

completed_views_stand_by_call_number : numbers (views_of (calls_of worked.atomic_run)) ≡ 2 ∷ 4 ∷ []
unfolding calls_of views_of is_view
completed_views_stand_by_call_number = refl

a_view_shows_its_entry : shown (call_numbered (calls_of worked.wrong_value) 1) 0 ≡ Some (entry 0 1 8)
unfolding calls_of shown
a_view_shows_its_entry = refl

an_unlisted_component_has_number_0 : shown_number (call_numbered (calls_of worked.stale_view) 1) 0 ≡ 0
unfolding calls_of shown_number shown
an_unlisted_component_has_number_0 = refl
