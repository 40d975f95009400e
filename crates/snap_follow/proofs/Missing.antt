-- What the views of a window miss, with one event more.
use Rattle.std.proofs.Common.{◌+◌, ◌++◌, ◌∙◌, List, [], ◌∷◌, zero, suc, Option, Some, None, append_assoc, arith, ap, length, refl, subst, sym}
use Rattle.std.specs.Prelude.{All, MatchOption}
use Rattle.std.proofs.lemmas.List.Elements.{All-append}
use Rattle.snap_core.specs.declared.entry.Entry.{Entry}
use Rattle.snap_core.specs.declared.event.Event.{Event}
use Rattle.snap_theory.specs.Windows.{left_by}
use Rattle.snap_windows.specs.Missed.{EventMisses, EventShowsNoLess}
use Rattle.snap_windows.specs.Taken.{HasTaken}
use Rattle.snap_windows.specs.declared.judge.WindowJudge.{WindowJudge}
use Rattle.snap_follow.specs.declared.span.Place.{Place}
use Rattle.snap_follow.specs.Misses.{AreMissed, MissesNext, first_missed}
use Rattle.snap_follow.specs.Places.{IsPlaceOfEvent}
use Rattle.snap_follow.proofs.Placing.{Grows}

pub missed_grown : (all new : List Place) (before window : List Event) (missed : Option (Entry × Place)) → Grows all new → AreMissed all before window missed → AreMissed new before window missed
missed_grown all new before window None grows h = h
missed_grown all new before window (Some missed) grows h = record {
  front = h.front;
  view = h.view;
  behind = h.behind;
  parts = h.parts;
  shown = h.shown;
  misses = h.misses;
  place_is = grows (length before + length h.front + 1) missed.1 h.place_is;
}

pub none_missed : (all : List Place) (before : List Event) → AreMissed all before [] None
none_missed all before k d l = absurd (omega (arith, l))

one_shown : (P : Event → Type 0) (x : Event) → P x → All P (x ∷ [])
one_shown P x p zero d l = p
one_shown P x p (suc k) d l = absurd (omega (arith, l))

by_found : (all grown : List Place) (before since : List Event) (x : Event) (p : Place) (old : Option (Entry × Place)) (found : Option Entry) → Grows all grown → IsPlaceOfEvent grown (length before + length since + 1) p →
    MatchOption found (EventShowsNoLess (left_by before) x) (EventMisses (left_by before) x) → AreMissed all before since old → AreMissed grown before (since ++ x ∷ []) (first_missed old found p)
by_found all grown before since x p None None grows now found h = All-append (EventShowsNoLess (left_by before)) since (x ∷ []) h (one_shown (EventShowsNoLess (left_by before)) x found)
by_found all grown before since x p None (Some entry) grows now found h = record {
  front = since;
  view = x;
  behind = [];
  parts = refl;
  shown = h;
  misses = found;
  place_is = now;
}
by_found all grown before since x p (Some missed) found grows now is h = record {
  front = h.front;
  view = h.view;
  behind = h.behind ++ x ∷ [];
  parts = ap (λ z. z ++ x ∷ []) h.parts ∙ append_assoc h.front (h.view ∷ h.behind) (x ∷ []);
  shown = h.shown;
  misses = h.misses;
  place_is = grows (length before + length h.front + 1) missed.1 h.place_is;
}

-- one event more has come
pub missed_more : (judge : WindowJudge) (all grown : List Place) (before since : List Event) (x : Event) (p : Place) (old new : Option (Entry × Place)) → HasTaken judge before since → MissesNext judge x old p new → Grows all grown →
    IsPlaceOfEvent grown (length before + length since + 1) p → AreMissed all before since old → AreMissed grown before (since ++ x ∷ []) new
missed_more judge all grown before since x p old new taken next grows now h =
    subst (AreMissed grown before (since ++ x ∷ [])) (sym next.1) (by_found all grown before since x p old next.0 grows now (next.2 before since taken) h)
