-- A window that ends.
use Rattle.std.proofs.Common.{◌≡◌, ◌↔◌, ℕ, Bool, true, false, cond, ◌&&◌, List, [], ◌∷◌, ◌++◌, append-nil, map, length, refl, sym, ap, ◌∙◌, subst, inl, inr, arith}
use Rattle.std.specs.Prelude.{IsTrue}
use Rattle.std.specs.List.{All, count_by}
use Rattle.std.proofs.lemmas.Bool.{and_parts, and_from, not-false, not_from_true}
use Rattle.std.proofs.lemmas.List.Elements.{All-append, All-contains}
use Rattle.snap_core.proofs.OrderedPushes.{is_ordered_by}
use Rattle.snap_core.specs.Limited.{LimitedEvents}
use Rattle.snap_core.specs.declared.event.Event.{Event}
use Rattle.snap_core.specs.Calls.{Call, calls_of, views_of}
use Rattle.snap_core.specs.Bounded.{IsBoundedBy, IsHistoryBy}
use Rattle.snap_core.specs.Orders.{is_completed}
use Rattle.snap_core.specs.Regular.{IsRegular}
use Rattle.snap_core.proofs.Begun.{begins}
use Rattle.snap_core.proofs.Fits.{bytes_of_events}
use Rattle.snap_core.proofs.Lists.{In, Contains-from_In, In-append_right, count-cons}
use Rattle.snap_core.proofs.Members.{In-map, In-from_map}
use Rattle.snap_index.specs.Updates.{is_pending}
use Rattle.snap_conditions.specs.Tally.{CountsNoFault, CountsNoLocalFault, tally_of}
use Rattle.snap_conditions.proofs.Ranges.{no_fault_by_tally, regular_by_tally}
use Rattle.snap_theory.specs.Renumbered.{ShowsNoLess, renumbered}
use Rattle.snap_theory.specs.Versions.{IsAtomicBy}
use Rattle.snap_theory.specs.Windows.{IsAtomicFromBy, IsQuiet, IsRegularFrom, left_by}
use Rattle.snap_theory.proofs.GoingOn.{histories_join, well_formed_before}
use Rattle.snap_theory.proofs.Joined.{atomic_joins, back_moved, regular_joins}
use Rattle.snap_theory.proofs.Moved.{moved, moved_completed}
use Rattle.snap_theory.proofs.OrderLaws.{atomic_by_exactly}
use Rattle.snap_theory.proofs.Orders.{All-from_In}
use Rattle.snap_theory.proofs.Renumbered.{call_by, calls_by, image_by}
use Rattle.snap_theory.proofs.Splits.{calls_split}
use Rattle.snap_theory.proofs.Windows.{atomic_is_renumbered, regular_is_renumbered}
use Rattle.snap_windows.specs.declared.judge.WindowJudge.{WindowJudge}
use Rattle.snap_windows.specs.Last.{HasLast}
use Rattle.snap_windows.specs.Taken.{HasTaken}
use Rattle.snap_windows.proofs.Ends.{shows_by_events}

pub both_are : (a b : Bool) → IsTrue (a && b) ↔ (IsTrue a × IsTrue b)
both_are a b = (λ t. and_parts a b t, λ p. and_from a b p.0 p.1)

-- a window has an open call where the whole has one

completed_unless : (c : Call) → is_pending c ≡ false → is_completed c ≡ true
unfolding is_pending
completed_unless c h = not-false _ h

pending_unless : (c : Call) → is_completed c ≡ true → is_pending c ≡ false
unfolding is_pending
pending_unless c h = not_from_true _ h

none_counted : (calls : List Call) → count_by is_pending calls ≡ 0 → (c : Call) → In c calls → is_completed c ≡ true
none_counted [] h c i = absurd i
none_counted (x ∷ xs) h c (inl s) = subst (λ z. is_completed z ≡ true) s (completed_unless x (go (is_pending x) refl))
  where
    go : (b : Bool) → is_pending x ≡ b → is_pending x ≡ false
    go true t = absurd (omega (arith, h, count-cons is_pending x xs, ap {B = ℕ} (λ b. cond b 1 0) t))
    go false t = t
none_counted (x ∷ xs) h c (inr i) = none_counted xs (omega (arith, h, count-cons is_pending x xs)) c i

counted_none : (calls : List Call) → ((c : Call) → In c calls → is_completed c ≡ true) → count_by is_pending calls ≡ 0
counted_none [] h = refl
counted_none (x ∷ xs) h = omega (arith, count-cons is_pending x xs, ap {B = ℕ} (λ b. cond b 1 0) (pending_unless x (h x (inl refl))), counted_none xs (λ c i. h c (inr i)))

abbrev AreCompleted : List Call → Type 0
AreCompleted calls = (c : Call) → In c calls → is_completed c ≡ true

window_to : (left : _) (since : List Event) → AreCompleted (calls_of (renumbered left since)) → AreCompleted (calls_of since)
window_to left since h c i = sym ((image_by left since).completed c) ∙ h (call_by left c) (subst (In (call_by left c)) (sym (calls_by left since)) (In-map (call_by left) (calls_of since) c i))

window_from : (left : _) (since : List Event) → AreCompleted (calls_of since) → AreCompleted (calls_of (renumbered left since))
window_from left since h c i =
    let o = In-from_map (call_by left) (calls_of since) c (subst (In c) (calls_by left since) i) in
    ap is_completed (sym o.is) ∙ (image_by left since).completed o.it ∙ h o.it o.there

pub quiet_by_window : (before since : List Event) → IsQuiet before → (count_by is_pending (calls_of (renumbered (left_by before) since)) ≡ 0) ↔ IsQuiet (before ++ since)
quiet_by_window before since quiet = (to, from)
  where
    move : Call → Call
    move = moved (begins before) (length before)

    split : calls_of (before ++ since) ≡ calls_of before ++ map move (calls_of since)
    split = calls_split before since quiet ∙ ap (λ z. calls_of before ++ z) (back_moved before since)

    to : count_by is_pending (calls_of (renumbered (left_by before) since)) ≡ 0 → IsQuiet (before ++ since)
    to h =
        let done = window_to (left_by before) since (none_counted _ h) in
        subst (All (λ c. is_completed c ≡ true)) (sym split) (All-append (λ c. is_completed c ≡ true) (calls_of before) (map move (calls_of since)) quiet
        (All-from_In (λ c. is_completed c ≡ true) (map move (calls_of since)) (λ c i. let o = In-from_map move (calls_of since) c i in ap is_completed (sym o.is) ∙ moved_completed _ _ o.it ∙ done o.it o.there)))

    from : IsQuiet (before ++ since) → count_by is_pending (calls_of (renumbered (left_by before) since)) ≡ 0
    from h = counted_none _ (window_from (left_by before) since (λ c i.
        sym (moved_completed (begins before) (length before) c)
        ∙ All-contains (λ z. is_completed z ≡ true) (calls_of (before ++ since)) (move c) h (Contains-from_In _ _ (subst (In (move c)) (sym split) (In-append_right (move c) (calls_of before) _ (In-map move (calls_of since) c i))))))

-- what a window is, by its tally and by what its views show

shows_no_less : (judge : WindowJudge) (before since : List Event) → HasTaken judge before since → IsTrue judge.shows ↔ ShowsNoLess (left_by before) (calls_of since)
shows_no_less judge before since h =
    let w = well_formed_before (left_by before) since (is_ordered_by judge.most.writers _ ((histories_join judge.most.writers before since h.quiet).0 h.history).1).well_formed in
    let e = shows_by_events (left_by before) since w in
    (λ t. e.1 (h.shows.0 t), λ s. h.shows.1 (e.0 s))

window_history : (judge : WindowJudge) (before since : List Event) → HasTaken judge before since → IsBoundedBy judge.window.limit.writers judge.window.events → IsBoundedBy judge.most.writers (renumbered (left_by before) since)
window_history judge before since h b = subst (IsBoundedBy judge.most.writers) h.window (subst (λ l. IsBoundedBy l.writers judge.window.events) h.limit b)

pub regular_window : (judge : WindowJudge) (before since : List Event) (b v : Bool) → HasTaken judge before since → IsBoundedBy judge.window.limit.writers judge.window.events →
    (IsTrue b ↔ CountsNoLocalFault (tally_of (calls_of judge.window.events) (views_of (calls_of judge.window.events)))) → (IsTrue v ↔ (IsTrue judge.shows × IsTrue b)) → IsTrue v ↔ IsRegularFrom (left_by before) (calls_of since)
regular_window judge before since b v h k counts both =
    let es = renumbered (left_by before) since in
    let w = window_history judge before since h k in
    let law = regular_by_tally es (is_ordered_by judge.most.writers es w.history) (bytes_of_events es w.fit) in
    let law2 = regular_is_renumbered judge.most.writers before since h.history h.fit h.quiet in
    let shows = shows_no_less judge before since h in
    let counts2 : IsTrue b ↔ CountsNoLocalFault (tally_of (calls_of es) (views_of (calls_of es))) = subst (λ z. IsTrue b ↔ CountsNoLocalFault (tally_of (calls_of z) (views_of (calls_of z)))) h.window counts in (
      λ t. let p = both.0 t in law2.1 (shows.0 p.0, law.0 (counts2.0 p.1)),
      λ r. let s = law2.0 r in both.1 (shows.1 s.0, counts2.1 (law.1 s.1)),
    )

pub atomic_window : (judge : WindowJudge) (before since : List Event) (b v : Bool) → HasTaken judge before since → IsBoundedBy judge.window.limit.writers judge.window.events →
    (IsTrue b ↔ CountsNoFault (tally_of (calls_of judge.window.events) (views_of (calls_of judge.window.events)))) → (IsTrue v ↔ (IsTrue judge.shows × IsTrue b)) → IsTrue v ↔ IsAtomicFromBy judge.most.writers (left_by before) (calls_of since)
atomic_window judge before since b v h k counts both =
    let es = renumbered (left_by before) since in
    let w = window_history judge before since h k in
    let law = atomic_by_exactly judge.most.writers es w.history (bytes_of_events es w.fit) in
    let none = no_fault_by_tally (calls_of es) in
    let law2 = atomic_is_renumbered judge.most.writers before since h.history h.fit h.quiet in
    let shows = shows_no_less judge before since h in
    let counts2 : IsTrue b ↔ CountsNoFault (tally_of (calls_of es) (views_of (calls_of es))) = subst (λ z. IsTrue b ↔ CountsNoFault (tally_of (calls_of z) (views_of (calls_of z)))) h.window counts in (
      λ t. let p = both.0 t in law2.1 (shows.0 p.0, law.1 (none.0 (counts2.0 p.1))),
      λ a. let s = law2.0 a in both.1 (shows.1 s.0, counts2.1 (none.1 (law.0 s.1))),
    )

-- the whole, by its last window

pub regular_whole : (judge : WindowJudge) (before since : List Event) (v w : Bool) → HasTaken judge before since → (IsTrue v ↔ IsRegularFrom (left_by before) (calls_of since)) → (IsTrue w ↔ (IsTrue judge.regular × IsTrue v)) → IsTrue w ↔ IsRegular (calls_of (before ++ since))
regular_whole judge before since v w h is both =
    let law = regular_joins judge.most.writers before since h.history h.quiet in (
      λ t. let p = both.0 t in law.1 (h.regular.0 p.0, is.0 p.1),
      λ r. let s = law.0 r in both.1 (h.regular.1 s.0, is.1 s.1),
    )

pub atomic_whole : (judge : WindowJudge) (before since : List Event) (v w : Bool) → HasTaken judge before since → (IsTrue v ↔ IsAtomicFromBy judge.most.writers (left_by before) (calls_of since)) → (IsTrue w ↔ (IsTrue judge.atomic × IsTrue v)) → IsTrue w ↔ IsAtomicBy judge.most.writers (calls_of (before ++ since))
atomic_whole judge before since v w h is both =
    let law = atomic_joins judge.most.writers before since h.history h.quiet in (
      λ t. let p = both.0 t in law.1 (h.atomic.0 p.0, is.0 p.1),
      λ r. let s = law.0 r in both.1 (h.atomic.1 s.0, is.1 s.1),
    )

-- the judge after a cut
pub cut_taken : (judge : WindowJudge) (before since : List Event) (window : LimitedEvents) (regular atomic : Bool) → HasTaken judge before since → IsQuiet (before ++ since) → window.events ≡ [] → window.limit ≡ judge.most → (IsTrue regular ↔ IsRegular (calls_of (before ++ since))) → (IsTrue atomic ↔ IsAtomicBy judge.most.writers (calls_of (before ++ since))) →
    HasTaken (record { left = judge.last; last = judge.last; window = window; shows = true; regular = regular; atomic = atomic; most = judge.most }) (before ++ since) []
cut_taken judge before since window regular atomic h quiet empty same r a = record {
  history = subst (IsHistoryBy judge.most.writers) (sym (append-nil (before ++ since))) h.history;
  fit = λ k d l. absurd (omega (arith, l));
  quiet = quiet;
  left = h.last;
  last = subst (HasLast judge.last) (sym (append-nil (before ++ since))) h.last;
  window = empty;
  limit = same;
  shows = (λ t k d l. absurd (omega (arith, l)), λ z. refl);
  regular = r;
  atomic = a;
}
