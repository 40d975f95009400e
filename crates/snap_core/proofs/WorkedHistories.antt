-- Which worked lists of events are histories.
use Rattle.std.proofs.Common.{◌≡◌, ◌&&◌, Bool, true, List, [], ◌∷◌, ◌++◌, append_assoc, append-nil, Option, Some, None, refl, sym, subst, inl, inr, arith}
use Rattle.std.specs.Prelude.{is_none}
use Rattle.std.proofs.lemmas.Bool.{false≢true}
use Rattle.snap_core.specs.declared.history.EventRefusal.{EventRefusal}
use Rattle.snap_core.specs.Events.{Event, BeginUpdate, BeginView, EndUpdate, IsHistory, IsWellFormed, IsSingleWriter, IsNumbered}
use Rattle.snap_core.specs.UsualLimits.{greatest_limit}
use Rattle.snap_core.specs.Refusals.{refusal_of}
use Rattle.snap_core.proofs.Lists.{Contains-from_In}
use Rattle.snap_core.proofs.Picks.{accepted_none}
use Rattle.snap_core.proofs.Pushes.{history_nil, history_push}
use Rattle.snap_core.proofs.Worked as worked
use Rattle.snap_core.proofs.Worked.{entry}

-- no event meets a refusal after those before it
are_taken : List Event → List Event → Bool
are_taken before [] = true
are_taken before (e ∷ es) = is_none (refusal_of greatest_limit before e) && are_taken (before ++ e ∷ []) es

taken_behind : (before es : List Event) → IsHistory before → are_taken before es ≡ true → IsHistory (before ++ es)
unfolding are_taken
taken_behind before [] h t = subst IsHistory (sym (append-nil before)) h
taken_behind before (e ∷ es) h t = go (refusal_of greatest_limit before e) refl (λ g u. taken_behind (before ++ e ∷ []) es g u) t
  where
    go : (o : Option EventRefusal) → refusal_of greatest_limit before e ≡ o → (IsHistory (before ++ e ∷ []) → are_taken (before ++ e ∷ []) es ≡ true → IsHistory ((before ++ e ∷ []) ++ es))
        → (is_none o && are_taken (before ++ e ∷ []) es) ≡ true → IsHistory (before ++ e ∷ es)
    go None r rest u = subst IsHistory (append_assoc before (e ∷ []) es) (rest (history_push before e h (accepted_none greatest_limit before e r).0) u)
    go (Some r) q rest u = absurd (false≢true u)

taken : (es : List Event) → are_taken [] es ≡ true → IsHistory es
taken es t = taken_behind [] es history_nil t

pub an_atomic_run_is_a_history : IsHistory worked.atomic_run
unfolding are_taken refusal_of
an_atomic_run_is_a_history = taken worked.atomic_run refl

pub a_stale_view_is_in_a_history : IsHistory worked.stale_view
unfolding are_taken refusal_of
a_stale_view_is_in_a_history = taken worked.stale_view refl

pub pending_calls_are_in_a_history : IsHistory worked.all_pending
unfolding are_taken refusal_of
pending_calls_are_in_a_history = taken worked.all_pending refl

pub crossed_views_are_in_a_history : IsHistory worked.crossed_views
unfolding are_taken refusal_of
crossed_views_are_in_a_history = taken worked.crossed_views refl

pub a_view_of_the_future_is_in_a_history : IsHistory worked.view_of_the_future
unfolding are_taken refusal_of
a_view_of_the_future_is_in_a_history = taken worked.view_of_the_future refl

pub a_new_old_inversion_is_in_a_history : IsHistory worked.new_then_old
unfolding are_taken refusal_of
a_new_old_inversion_is_in_a_history = taken worked.new_then_old refl

pub a_missed_update_is_in_a_history : IsHistory worked.missed_update
unfolding are_taken refusal_of
a_missed_update_is_in_a_history = taken worked.missed_update refl

pub a_seen_pending_update_is_in_a_history : IsHistory worked.seen_pending
unfolding are_taken refusal_of
a_seen_pending_update_is_in_a_history = taken worked.seen_pending refl

pub a_view_before_an_update_is_in_a_history : IsHistory worked.view_before_update
unfolding are_taken refusal_of
a_view_before_an_update_is_in_a_history = taken worked.view_before_update refl

pub a_wrong_value_is_in_a_history : IsHistory worked.wrong_value
unfolding are_taken refusal_of
a_wrong_value_is_in_a_history = taken worked.wrong_value refl

pub a_largest_number_is_in_a_history : IsHistory worked.largest_number
unfolding are_taken refusal_of
a_largest_number_is_in_a_history = taken worked.largest_number refl

pub a_stale_and_a_wrong_view_are_in_a_history : IsHistory worked.stale_and_wrong
unfolding are_taken refusal_of
a_stale_and_a_wrong_view_are_in_a_history = taken worked.stale_and_wrong refl

pub views_forward_and_back_are_in_a_history : IsHistory worked.forward_and_back
unfolding are_taken refusal_of
views_forward_and_back_are_in_a_history = taken worked.forward_and_back refl

two_begins_take_no_turns : IsWellFormed (BeginView 0 ∷ BeginView 0 ∷ []) → ⊥
two_begins_take_no_turns w = (w 0).0

an_end_of_the_other_kind_takes_no_turn : IsWellFormed (BeginView 0 ∷ EndUpdate 0 ∷ []) → ⊥
an_end_of_the_other_kind_takes_no_turn w = (w 0).0

abbrev two_writers : List Event
two_writers = BeginUpdate 0 (entry 0 1 1) ∷ BeginUpdate 1 (entry 0 2 1) ∷ []

a_component_has_one_writer : IsSingleWriter two_writers → ⊥
a_component_has_one_writer s = absurd (omega (arith, s 0 1 (entry 0 1 1) (entry 0 2 1) (Contains-from_In two_writers _ (inl refl)) (Contains-from_In two_writers _ (inr (inl refl))) refl))

numbers_begin_at_1 : IsNumbered (BeginUpdate 0 (entry 0 2 1) ∷ []) → ⊥
numbers_begin_at_1 n = absurd (omega (arith, n [] [] 0 (entry 0 2 1) refl))
