-- Refusals of worked events and entries, by computation.
use Rattle.std.proofs.Common.{arith}
use Rattle.std.specs.Prelude.{[], ◌∷◌, ◌≡◌, refl, Some, None}
use Rattle.snap_core.specs.declared.history.EventRefusal.TheVariants.{TooMany, Busy, Idle, OtherOp, Writer, Number, Order}
use Rattle.snap_core.specs.declared.limit.Limit.{Limit}
use Rattle.snap_core.specs.declared.writers.Writers.TheVariants.{One, Many}
use Rattle.snap_core.specs.declared.view.ViewRefusal.TheVariants.{NotRising, ZeroNumber}
use Rattle.snap_core.specs.Entries.{view_refusal}
use Rattle.snap_core.specs.Limits.{event_limit}
use Rattle.snap_core.specs.UsualLimits.{usual_limit}
use Rattle.snap_core.specs.Calls.{calls_of}
use Rattle.snap_core.specs.Refusals.{refusal_of}
use Rattle.snap_core.specs.Events.{BeginUpdate, BeginView, EndUpdate, EndView}
use Rattle.snap_core.proofs.Worked.{entry}

abbrev one_event : Limit
one_event = record { events = 1; writers = One; fits = (omega arith, omega arith) }

abbrev many_writers : Limit
many_writers = record { events = event_limit; writers = Many; fits = (omega arith, omega arith) }

second_begin_is_busy : refusal_of usual_limit (BeginView 0 ∷ []) (BeginView 0) ≡ Some Busy
unfolding refusal_of
second_begin_is_busy = refl

end_without_begin_is_idle : refusal_of usual_limit [] (EndView 0 []) ≡ Some Idle
unfolding refusal_of
end_without_begin_is_idle = refl

end_of_the_other_kind : refusal_of usual_limit (BeginView 0 ∷ []) (EndUpdate 0) ≡ Some OtherOp
unfolding refusal_of
end_of_the_other_kind = refl

skipped_number : refusal_of usual_limit [] (BeginUpdate 0 (entry 0 2 1)) ≡ Some Number
unfolding refusal_of
skipped_number = refl

second_writer : refusal_of usual_limit (BeginUpdate 0 (entry 0 1 1) ∷ EndUpdate 0 ∷ []) (BeginUpdate 1 (entry 0 2 1)) ≡ Some Writer
unfolding refusal_of
second_writer = refl

next_number_is_taken : refusal_of usual_limit (BeginUpdate 0 (entry 0 1 1) ∷ EndUpdate 0 ∷ []) (BeginUpdate 0 (entry 0 2 1)) ≡ None
unfolding refusal_of
next_number_is_taken = refl

a_second_writer_comes_before_its_number : refusal_of usual_limit (BeginUpdate 0 (entry 0 1 1) ∷ EndUpdate 0 ∷ []) (BeginUpdate 1 (entry 0 9 1)) ≡ Some Writer
unfolding refusal_of
a_second_writer_comes_before_its_number = refl

a_full_history_is_tested_first : refusal_of one_event (BeginView 0 ∷ []) (BeginView 0) ≡ Some TooMany
unfolding refusal_of
a_full_history_is_tested_first = refl

-- where a component has many writers

a_second_writer_is_taken : refusal_of many_writers (BeginUpdate 0 (entry 0 1 1) ∷ []) (BeginUpdate 1 (entry 0 2 1)) ≡ None
unfolding refusal_of
a_second_writer_is_taken = refl

its_number_is_the_next : refusal_of many_writers (BeginUpdate 0 (entry 0 1 1) ∷ []) (BeginUpdate 1 (entry 0 1 1)) ≡ Some Number
unfolding refusal_of
its_number_is_the_next = refl

a_higher_number_may_not_end_first : refusal_of many_writers (BeginUpdate 0 (entry 0 1 1) ∷ BeginUpdate 1 (entry 0 2 1) ∷ []) (EndUpdate 1) ≡ Some Order
unfolding refusal_of calls_of
a_higher_number_may_not_end_first = refl

the_lower_number_may : refusal_of many_writers (BeginUpdate 0 (entry 0 1 1) ∷ BeginUpdate 1 (entry 0 2 1) ∷ []) (EndUpdate 0) ≡ None
unfolding refusal_of calls_of
the_lower_number_may = refl

then_the_higher_one_may : refusal_of many_writers (BeginUpdate 0 (entry 0 1 1) ∷ BeginUpdate 1 (entry 0 2 1) ∷ EndUpdate 0 ∷ []) (EndUpdate 1) ≡ None
unfolding refusal_of calls_of
then_the_higher_one_may = refl

another_component_may_end_first : refusal_of many_writers (BeginUpdate 0 (entry 0 1 1) ∷ BeginUpdate 1 (entry 1 1 1) ∷ []) (EndUpdate 1) ≡ None
unfolding refusal_of calls_of
another_component_may_end_first = refl

no_entries_are_a_view : view_refusal [] ≡ None
no_entries_are_a_view = refl

falling_components_come_before_a_zero_number : view_refusal (entry 1 1 1 ∷ entry 0 0 1 ∷ []) ≡ Some NotRising
falling_components_come_before_a_zero_number = refl

a_component_stands_once : view_refusal (entry 1 1 1 ∷ entry 1 2 1 ∷ []) ≡ Some NotRising
a_component_stands_once = refl

a_number_is_at_least_1 : view_refusal (entry 0 0 1 ∷ []) ≡ Some ZeroNumber
a_number_is_at_least_1 = refl
