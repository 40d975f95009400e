-- What a judge has taken, with one event more.
use Rattle.std.proofs.Common.{◌≡◌, ◌↔◌, ℕ, List, [], ◌∷◌, ◌++◌, append_assoc, refl, sym, ap, ◌∙◌, subst, inl, inr, Option}
use Rattle.std.specs.Prelude.{Bool, IsTrue}
use Rattle.std.specs.List.{All}
use Rattle.std.proofs.lemmas.List.Elements.{All-append, All-contains}
use Rattle.snap_core.specs.Limited.{LimitedEvents}
use Rattle.snap_core.specs.declared.entry.Entry.{Entry}
use Rattle.snap_core.specs.declared.event.Event.{Event}
use Rattle.snap_core.specs.Bounded.{IsHistoryBy}
use Rattle.snap_core.specs.Events.{EventFits, IsSingleWriter}
use Rattle.snap_core.specs.Refusals.{IsAcceptedBy}
use Rattle.snap_core.specs.declared.writers.Writers.TheVariants.{One}
use Rattle.snap_core.proofs.Lists.{Contains-from_In, In-append_left, In-append_right}
use Rattle.snap_theory.specs.Renumbered.{renumbered, renumbered_event}
use Rattle.snap_theory.specs.Windows.{left_by}
use Rattle.snap_theory.proofs.Orders.{All-from_In}
use Rattle.snap_theory.proofs.Sides.{history_front}
use Rattle.snap_windows.specs.declared.judge.WindowJudge.{WindowJudge}
use Rattle.snap_windows.specs.declared.last.Wrote.{Wrote}
use Rattle.snap_windows.specs.Last.{HasLast, HasLeft}
use Rattle.snap_windows.specs.Missed.{EventShowsNoLess}
use Rattle.snap_windows.specs.Taken.{HasTaken}
use Rattle.snap_windows.proofs.Left.{left_is_last}
use Rattle.snap_windows.proofs.Refused.{IsFree}
use Rattle.snap_windows.proofs.Taking.{renumbered_more, taken_more}

All-one : (P : Event → Type 0) (x : Event) → P x → All P (x ∷ [])
All-one P x h = All-from_In P (x ∷ []) (λ y i. elim i [ inl s ↦ subst P s h | inr z ↦ absurd z ])

pub All-more : (P : Event → Type 0) (xs : List Event) (x : Event) → All P (xs ++ x ∷ []) ↔ (All P xs × P x)
All-more P xs x = (
  λ h. (
    All-from_In P xs (λ y i. All-contains P (xs ++ x ∷ []) y h (Contains-from_In _ _ (In-append_left y xs (x ∷ []) i))),
    All-contains P (xs ++ x ∷ []) x h (Contains-from_In _ _ (In-append_right x xs (x ∷ []) (inl refl))),
  ),
  λ h. All-append P xs (x ∷ []) h.0 (All-one P x h.1),
)

-- where a component has one writer, it has one in the ended windows
pub single_writer : (judge : WindowJudge) (before since : List Event) → HasTaken judge before since → judge.most.writers ≡ One → IsSingleWriter before
single_writer judge before since h one = (subst (λ z. IsHistoryBy z before) one (history_front judge.most.writers before since h.history)).single_writer

-- what a call knows of an event, by the table of what was left
pub known : (judge : WindowJudge) (before since : List Event) (x renumbered : Event) → HasTaken judge before since → ((f : ℕ → Option Entry) → HasLeft judge.left f → renumbered ≡ renumbered_event f x) → renumbered ≡ renumbered_event (left_by before) x
known judge before since x renumbered h is = is (left_by before) (left_is_last judge.left before h.left)

pub more : (judge : WindowJudge) (last : List (Option Wrote)) (window : LimitedEvents) (shows : Bool) (before since : List Event) (x : Event) → HasTaken judge before since →
    IsFree judge.most judge.window.events (renumbered_event (left_by before) x) before x → EventFits x → HasLast last ((before ++ since) ++ x ∷ []) → window.events ≡ judge.window.events ++ renumbered_event (left_by before) x ∷ [] → window.limit ≡ judge.window.limit →
    (IsTrue shows ↔ (IsTrue judge.shows × EventShowsNoLess (left_by before) x)) →
    HasTaken (record { left = judge.left; last = last; window = window; shows = shows; regular = judge.regular; atomic = judge.atomic; most = judge.most }) before (since ++ x ∷ [])
more judge last window shows before since x h f fits noted pushed same both =
    let left = left_by before in
    record {
      history = taken_more judge.most.writers before since x h.history h.quiet (subst (λ z. IsAcceptedBy judge.most.writers z (renumbered_event left x)) h.window f.accepted) f.writer;
      fit = (All-more EventFits since x).1 (h.fit, fits);
      quiet = h.quiet;
      left = h.left;
      last = subst (HasLast last) (append_assoc before since (x ∷ [])) noted;
      window = pushed ∙ ap (λ z. z ++ renumbered_event left x ∷ []) h.window ∙ sym (renumbered_more left since x);
      limit = same ∙ h.limit;
      shows = (
        λ t. let p = both.0 t in (All-more (EventShowsNoLess left) since x).1 (h.shows.0 p.0, p.1),
        λ a. let p = (All-more (EventShowsNoLess left) since x).0 a in both.1 (h.shows.1 p.0, p.1),
      );
      regular = h.regular;
      atomic = h.atomic;
    }
