-- Small histories that are cut at a moment, each named by what it shows.
use Rattle.std.proofs.Common.{◌≡◌, ◌≢◌, ◌⊎◌, ℕ, zero, suc, ◌<◌, true, false, List, [], ◌∷◌, ◌++◌, get_or, Option, Some, None, refl, sym, ap, ◌∙◌, inl, inr, arith, subst}
use Rattle.std.specs.List.{Contains}
use Rattle.std.proofs.lemmas.Bool.{false≢true}
use Rattle.snap_core.specs.declared.entry.Entry.{Entry}
use Rattle.snap_core.specs.declared.event.Event.{Event}
use Rattle.snap_core.specs.declared.event.Event.TheVariants.{BeginUpdate, BeginView, EndUpdate, EndView}
use Rattle.snap_core.specs.Calls.{Call, Views, Updates, call_numbered, calls_of, is_view, precedes, shown, shown_number}
use Rattle.snap_core.specs.Monotone.{IsMonotone}
use Rattle.snap_core.specs.Orders.{is_completed, is_update, last_written, IsAtomic, written_by}
use Rattle.snap_core.specs.Regular.{IsRegular, IsViewOf, IsUpdateOf}
use Rattle.snap_core.proofs.Lists.{In, In-from_Contains, Contains-from_In, AllPairs-from_Pairs, around, In-append_left}
use Rattle.snap_core.specs.Events.{IsHistory}
use Rattle.snap_core.proofs.Pushes.{history_nil, history_push}
use Rattle.std.proofs.lemmas.List.Elements.{All-contains}
use Rattle.snap_core.proofs.Worked.{entry}
use Rattle.snap_theory.specs.Renumbered.{renumbered}
use Rattle.snap_theory.proofs.Empty.{atomic_from_nothing}
use Rattle.snap_theory.proofs.Joined.{regular_joins}
use Rattle.snap_theory.proofs.Legal.{Stands}
use Rattle.snap_core.specs.declared.writers.Writers.TheVariants.{One}
use Rattle.snap_theory.specs.Windows.{IsQuiet, left_by, nothing, IsRegularFrom, IsLegalOrderFrom, IsAtomicFrom}

-- an update that has ended
abbrev an_update : List Event
an_update = BeginUpdate 0 (entry 0 1 7) ∷ EndUpdate 0 ∷ []

-- after it a view shows it
abbrev a_view_of_it : List Event
a_view_of_it = BeginView 1 ∷ EndView 1 (entry 0 1 7 ∷ []) ∷ []

-- after it a view shows nothing
abbrev a_stale_view : List Event
a_stale_view = BeginView 1 ∷ EndView 1 [] ∷ []

abbrev the_view : Call
the_view = record { number = 0; process = 1; operation = Views (Some (entry 0 1 7 ∷ [])); begun = 0; ended = Some 1 }

abbrev the_stale_view : Call
the_stale_view = record { number = 0; process = 1; operation = Views (Some []); begun = 0; ended = Some 1 }

the_moment_behind_an_ended_update_is_quiet : IsQuiet an_update
unfolding calls_of is_completed
the_moment_behind_an_ended_update_is_quiet zero d l = refl
the_moment_behind_an_ended_update_is_quiet (suc k) d l = absurd (omega arith)

the_moment_beside_an_open_update_is_not_quiet : IsQuiet (BeginUpdate 0 (entry 0 1 7) ∷ []) → ⊥
unfolding calls_of is_completed
the_moment_beside_an_open_update_is_not_quiet q = false≢true (q 0 the_view (omega arith))

an_update_is_left : left_by an_update 0 ≡ Some (entry 0 1 7)
unfolding calls_of
an_update_is_left = refl

nothing_is_left_of_another_component : left_by an_update 1 ≡ None
unfolding calls_of
nothing_is_left_of_another_component = refl

-- the view shows what was left, and nothing more
shows_left : (k : ℕ) → shown the_view k ≡ left_by an_update k
unfolding calls_of shown
shows_left k = refl

only_view : (k : ℕ) (d : Call) → k < 1 → Contains (the_view ∷ []) (get_or (the_view ∷ []) k d) × ((is_completed (get_or (the_view ∷ []) k d) ≡ true) ⊎ (is_update (get_or (the_view ∷ []) k d) ≡ true))
unfolding is_completed
only_view zero d l = (Contains-from_In (the_view ∷ []) _ (inl refl), inl refl)
only_view (suc k) d l = absurd (omega arith)

shows_it : (before after : List Call) (r : Call) → the_view ∷ [] ≡ before ++ r ∷ after → is_view r ≡ true → (k : ℕ) → shown r k ≡ last_written k (left_by an_update k) before
shows_it [] after r split v k = let same : the_view ≡ r = cc in ap (λ z. shown z k) (sym same) ∙ shows_left k
shows_it (x ∷ []) after r split v k = absurd (cc)
shows_it (x ∷ y ∷ before) after r split v k = absurd (cc)

-- cut at a quiet moment: the view after it is atomic from what was left
a_view_may_show_what_was_left : IsAtomicFrom (left_by an_update) (calls_of a_view_of_it)
unfolding calls_of
a_view_may_show_what_was_left = (
  the_view ∷ [],
  record {
    only = only_view;
    distinct = AllPairs-from_Pairs (λ a b. a ≢ b) (the_view ∷ []) (λ y i. absurd i, tt);
    completed = λ c i done. i;
    precedence = AllPairs-from_Pairs (λ a b. precedes b a ≡ false) (the_view ∷ []) (λ y i. absurd i, tt);
    latest = shows_it;
  },
)

view_of_it : IsViewOf (calls_of a_view_of_it) the_view
unfolding calls_of is_view
view_of_it = record { there = Contains-from_In (the_view ∷ []) _ (inl refl); completed = refl }

no_update_behind : (c : Call) → IsUpdateOf (calls_of a_view_of_it) c (entry 0 1 7) → In c (the_view ∷ []) → ⊥
no_update_behind c u (inl e) = let view : the_view.operation ≡ Updates (entry 0 1 7) = ap (λ (z : Call). z.operation) e ∙ u.writes in absurd (cc)
no_update_behind c u (inr i) = i

-- where the beginning is forgotten, nobody has written what the view shows
a_forgotten_beginning_is_a_fault : IsRegularFrom nothing (calls_of a_view_of_it) → ⊥
unfolding calls_of shown
a_forgotten_beginning_is_a_fault h = elim (h.not_early the_view 0 (entry 0 1 7) view_of_it refl) [
  | inl q ↦ cc
  | inr u ↦ no_update_behind u.0 u.1 (In-from_Contains (calls_of a_view_of_it) u.0 u.1.there)
]

-- a view that shows less than was left is no regular one from there
a_view_of_less_than_was_left_is_not_regular : IsRegularFrom (left_by an_update) (calls_of a_stale_view) → ⊥
unfolding calls_of is_view shown_number shown
a_view_of_less_than_was_left_is_not_regular h =
    let view : IsViewOf (the_stale_view ∷ []) the_stale_view = record { there = Contains-from_In (the_stale_view ∷ []) _ (inl refl); completed = refl } in
    absurd (omega (arith, h.not_less the_stale_view 0 view))

-- cut while a view is open: it shows what nobody wrote, and neither side has it whole
abbrev an_open_view : List Event
an_open_view = BeginView 1 ∷ []

abbrev its_end : List Event
its_end = EndView 1 (entry 0 1 7 ∷ []) ∷ []

the_moment_beside_an_open_view_is_not_quiet : IsQuiet an_open_view → ⊥
unfolding calls_of is_completed
the_moment_beside_an_open_view_is_not_quiet q = false≢true (q 0 the_view (omega arith))

no_split : (before after : List Call) (r : Call) → [] ≡ before ++ r ∷ after → ⊥
no_split [] after r s = cc
no_split (x ∷ before) after r s = cc

no_calls : (left : ℕ → Option Entry) (calls : List Call) → ((c : Call) → In c calls → is_completed c ≡ false) → IsLegalOrderFrom left calls []
no_calls left calls pending = record {
  only = λ k d l. absurd (omega arith);
  distinct = AllPairs-from_Pairs (λ a b. a ≢ b) [] tt;
  completed = λ c i done. absurd (false≢true (sym (pending c (In-from_Contains _ _ i)) ∙ done));
  precedence = AllPairs-from_Pairs (λ a b. precedes b a ≡ false) [] tt;
  latest = λ before after r s v k. absurd (no_split before after r s);
}

pending_view : (c : Call) → In c (calls_of an_open_view) → is_completed c ≡ false
unfolding calls_of is_completed
pending_view c (inl e) = ap (λ z. is_completed z) (sym e)
pending_view c (inr i) = absurd i

the_side_before_an_open_view_ends_is_atomic : IsAtomicFrom nothing (calls_of an_open_view)
the_side_before_an_open_view_ends_is_atomic = ([], no_calls nothing (calls_of an_open_view) pending_view)

the_side_behind_it_is_atomic : IsAtomicFrom (left_by an_open_view) (calls_of its_end)
unfolding calls_of
the_side_behind_it_is_atomic = ([], no_calls (left_by an_open_view) [] (λ c i. absurd i))

the_whole_is_not_regular : IsRegular (calls_of (an_open_view ++ its_end)) → ⊥
unfolding calls_of shown
the_whole_is_not_regular h = let u = h.not_early the_view 0 (entry 0 1 7) view_of_it refl in no_update_behind u.0 u.1 (In-from_Contains (calls_of (an_open_view ++ its_end)) u.0 u.1.there)

the_whole_is_a_history : IsHistory (an_open_view ++ its_end)
the_whole_is_a_history =
    history_push (BeginView 1 ∷ []) (EndView 1 (entry 0 1 7 ∷ [])) (history_push [] (BeginView 1) history_nil (record { not_busy = refl; not_idle = refl; not_other = refl; writer = refl; number = refl; order = refl }))
    (record { not_busy = refl; not_idle = refl; not_other = refl; writer = refl; number = refl; order = refl })

nothing_written : (xs : List Call) → ((c : Call) → In c xs → the_view ≡ c) → (k : ℕ) → last_written k None xs ≡ None
nothing_written [] h k = refl
nothing_written (x ∷ xs) h k = ap (λ (z : Call). last_written k (written_by z.operation k None) xs) (sym (h x (inl refl))) ∙ nothing_written xs (λ c i. h c (inr i)) k

is_the_view : (c : Call) → In c (the_view ∷ []) → the_view ≡ c
is_the_view c (inl e) = e
is_the_view c (inr i) = absurd i

the_whole_is_not_atomic : IsAtomic (calls_of (an_open_view ++ its_end)) → ⊥
unfolding calls_of is_view is_completed shown
the_whole_is_not_atomic a =
    let whole : List Call = the_view ∷ [] in
    let p = around the_view a.0 (In-from_Contains a.0 the_view (a.1.completed the_view (Contains-from_In whole the_view (inl refl)) refl)) in
    let there : (c : Call) → In c p.before → the_view ≡ c = λ c i. is_the_view c (In-from_Contains whole c (All-contains (Stands whole) a.0 c a.1.only (Contains-from_In a.0 c (subst (In c) (sym p.same) (In-append_left c p.before (the_view ∷ p.after) i)))).0) in
    let shows : Some (entry 0 1 7) ≡ None = a.1.latest p.before p.after the_view p.same refl 0 ∙ nothing_written p.before there 0 in
    absurd (cc)

-- so the law is false where a call may be open
the_moment_must_be_quiet : ((before after : List Event) → IsHistory (before ++ after) → IsAtomic (calls_of before) × IsAtomicFrom (left_by before) (calls_of after) → IsAtomic (calls_of (before ++ after))) → ⊥
the_moment_must_be_quiet law = the_whole_is_not_atomic (law an_open_view its_end the_whole_is_a_history ((atomic_from_nothing One (calls_of an_open_view)).0 the_side_before_an_open_view_ends_is_atomic, the_side_behind_it_is_atomic))

-- the law on a cut at a quiet moment: a view of less than was left is a fault of the whole
the_cut_is_in_a_history : IsHistory (an_update ++ a_stale_view)
the_cut_is_in_a_history =
    history_push (BeginUpdate 0 (entry 0 1 7) ∷ EndUpdate 0 ∷ BeginView 1 ∷ []) (EndView 1 [])
    (history_push (BeginUpdate 0 (entry 0 1 7) ∷ EndUpdate 0 ∷ []) (BeginView 1)
    (history_push (BeginUpdate 0 (entry 0 1 7) ∷ []) (EndUpdate 0)
    (history_push [] (BeginUpdate 0 (entry 0 1 7)) history_nil (record { not_busy = refl; not_idle = refl; not_other = refl; writer = refl; number = refl; order = refl }))
    (record { not_busy = refl; not_idle = refl; not_other = refl; writer = refl; number = refl; order = refl }))
    (record { not_busy = refl; not_idle = refl; not_other = refl; writer = refl; number = refl; order = refl }))
    (record { not_busy = refl; not_idle = refl; not_other = refl; writer = refl; number = refl; order = refl })

a_view_of_less_than_was_left_is_a_fault_of_the_whole : IsRegular (calls_of (an_update ++ a_stale_view)) → ⊥
a_view_of_less_than_was_left_is_a_fault_of_the_whole r =
    a_view_of_less_than_was_left_is_not_regular ((regular_joins One an_update a_stale_view the_cut_is_in_a_history the_moment_behind_an_ended_update_is_quiet).0 r).1

-- with numbers from 1, a view of what was left lists nothing
what_was_left_is_not_listed : renumbered (left_by an_update) a_view_of_it ≡ a_stale_view
unfolding calls_of
what_was_left_is_not_listed = refl

the_next_update_has_number_1 : renumbered (left_by an_update) (BeginUpdate 0 (entry 0 2 8) ∷ EndUpdate 0 ∷ []) ≡ BeginUpdate 0 (entry 0 1 8) ∷ EndUpdate 0 ∷ []
unfolding calls_of
the_next_update_has_number_1 = refl

-- cut while an update is open: a view beside it need not show it, and what was left says that it must
abbrev an_open_update : List Event
an_open_update = BeginUpdate 0 (entry 0 1 7) ∷ []

an_open_update_is_left : left_by an_open_update 0 ≡ Some (entry 0 1 7)
unfolding calls_of
an_open_update_is_left = refl

-- the whole is atomic, as `WorkedVerdicts` shows of `view_before_update`
abbrev a_view_beside_it : List Event
a_view_beside_it = BeginView 1 ∷ EndView 1 [] ∷ EndUpdate 0 ∷ []

a_view_beside_an_open_update_is_not_regular_from_it : IsRegularFrom (left_by an_open_update) (calls_of a_view_beside_it) → ⊥
unfolding calls_of is_view shown_number shown
a_view_beside_an_open_update_is_not_regular_from_it h =
    let view : IsViewOf (the_stale_view ∷ []) the_stale_view = record { there = Contains-from_In (the_stale_view ∷ []) _ (inl refl); completed = refl } in
    absurd (omega (arith, h.not_less the_stale_view 0 view))

-- monotone alone does not join: an earlier view shows a number that no update has
abbrev a_view_of_no_update : List Event
a_view_of_no_update = BeginView 1 ∷ EndView 1 (entry 0 5 7 ∷ []) ∷ []

one_view_is_monotone : (x : Call) → IsMonotone (x ∷ [])
one_view_is_monotone x r s v w before k = omega (arith, number r v, number s w)
  where
    number : (c : Call) → IsViewOf (x ∷ []) c → shown_number x k ≡ shown_number c k
    number c u = elim (In-from_Contains (x ∷ []) c u.there) [ inl e ↦ ap (λ z. shown_number z k) e | inr i ↦ absurd i ]

the_side_of_that_view_is_monotone : IsMonotone (calls_of a_view_of_no_update)
unfolding calls_of
the_side_of_that_view_is_monotone = one_view_is_monotone _

the_side_behind_that_view_is_monotone : IsMonotone (calls_of a_stale_view)
unfolding calls_of
the_side_behind_that_view_is_monotone = one_view_is_monotone _

the_two_together_are_not_monotone : IsMonotone (calls_of (a_view_of_no_update ++ a_stale_view)) → ⊥
unfolding calls_of is_view shown_number shown precedes
the_two_together_are_not_monotone h =
    let calls = calls_of (a_view_of_no_update ++ a_stale_view) in
    let earlier : IsViewOf calls (call_numbered calls 0) = record { there = Contains-from_In calls _ (inl refl); completed = refl } in
    let other : IsViewOf calls (call_numbered calls 1) = record { there = Contains-from_In calls _ (inr (inl refl)); completed = refl } in
    absurd (omega (arith, h (call_numbered calls 0) (call_numbered calls 1) earlier other refl 0))
