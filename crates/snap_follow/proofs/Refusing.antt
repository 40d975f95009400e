-- Why a line is refused.
use Rattle.std.proofs.Common.{◌≡◌, ◌≤◌, ◌⊎◌, ℕ, true, false, List, [], ◌∷◌, ◌++◌, append_assoc, length, Some, Result, Ok, Err, refl, sym, ap, ◌∙◌, subst, inl, inr, arith}
use Rattle.std.specs.Prelude.{IfErr}
use Rattle.std.proofs.lemmas.Bool.{false≢true}
use Rattle.snap_core.specs.declared.event.Event.{Event}
use Rattle.snap_core.specs.Bounded.{IsHistoryBy}
use Rattle.snap_format.specs.Rows.{rows_of}
use Rattle.snap_format.specs.Stamps.{stamped_row}
use Rattle.snap_text.specs.Fields.{Fields, row_event}
use Rattle.snap_windows.specs.Taken.{HasTaken}
use Rattle.snap_follow.specs.declared.follow.Ended.{Ended}
use Rattle.snap_follow.specs.declared.follow.Ended.TheVariants.{Refused, Late, Memory}
use Rattle.snap_follow.specs.declared.follow.Follow.{Follow}
use Rattle.snap_follow.specs.declared.span.Place.{Place}
use Rattle.snap_format.specs.Layout.{is_header_row}
use Rattle.snap_follow.specs.declared.form.Form.TheVariants.{Stamped}
use Rattle.snap_follow.specs.Followed.{AreEvents, IsLack, IsPlain, RefusesLine, StopsAt}
use Rattle.snap_follow.specs.inside.Refusals.{IsRefusal, ended_by}
use Rattle.snap_core.specs.declared.history.EventRefusal.{EventRefusal}
use Rattle.snap_core.specs.declared.history.EventRefusal.TheVariants as refusals
use Rattle.snap_windows.specs.declared.judge.WindowJudge.{WindowJudge}

abbrev first_or : Fields → List Fields → Fields
first_or row [] = row
first_or row (x ∷ xs) = x

abbrev pub event_or : {E : Type 0} → Event → Result Event E → Event
event_or x (Ok y) = y
event_or x (Err e) = x

abbrev rest_of : List Fields → List Fields
rest_of [] = []
rest_of (x ∷ xs) = xs

abbrev stamp_or : {E : Type 0} → Result (ℕ × Event) E → ℕ
stamp_or (Ok x) = x.0
stamp_or (Err e) = 0

-- the only record of a line has one stamp
pub stamped_same : (line : List ℕ) (row other : Fields) (x y : ℕ × Event) → rows_of line ≡ row ∷ [] → stamped_row row ≡ Ok x → rows_of line ≡ other ∷ [] → stamped_row other ≡ Ok y → x.0 ≡ y.0
stamped_same line row other x y one is two same = sym (ap stamp_or is) ∙ ap (λ z. stamp_or (stamped_row z)) (ap (first_or row) (sym one ∙ two)) ∙ ap stamp_or same

no_first : (x : Fields) (xs : List Fields) → x ∷ xs ≡ [] → ⊥
no_first x xs e = omega (arith, ap length e)

-- an event that the judge refuses
pub event_refused : (f : Follow) (line : List ℕ) (why : Ended) (row : Fields) (x : Event) → f.headed ≡ true → rows_of line ≡ row ∷ [] → row_event row ≡ Ok x →
    ((before since : List Event) → HasTaken f.judge before since → IsHistoryBy f.judge.most.writers (before ++ (since ++ x ∷ [])) → IsLack f.judge since why) → RefusesLine f line why
event_refused f line why row x old rows event refused least most texts lines events h (inl none) = absurd (no_first row [] (sym rows ∙ none))
event_refused f line why row x old rows event refused least most texts lines events h (inr (inl (o, plain, head, is, header))) = absurd (false≢true (sym o ∙ old))
event_refused f line why row x old rows event refused least most texts lines events h (inr (inr (o, plain, other, y, is, spelled, history))) = (
  refused h.before h.since h.taken (subst (IsHistoryBy f.judge.most.writers) (ap (λ z. z ++ y ∷ []) h.windows ∙ append_assoc h.before h.since (y ∷ []) ∙ ap (λ z. h.before ++ (h.since ++ z ∷ [])) same) history),
  inr (old, λ none. no_first row [] (sym rows ∙ none)),
)
  where
    same : y ≡ x
    same = sym (ap (event_or y) (ap row_event (ap (first_or row) (sym rows ∙ is)) ∙ spelled)) ∙ ap (event_or y) event

-- what has a stamp does not go on with a recording without stamps, so nothing is said of it
pub stamped_refused : (f : Follow) (line : List ℕ) (why : Ended) → f.headed ≡ true → f.form ≡ Some Stamped → (rows_of line ≡ [] → why ≡ Memory) → RefusesLine f line why
stamped_refused f line why old stamped none least most texts lines events h (inl nothing) = (subst (IsLack f.judge h.since) (sym (none nothing)) tt, inl (none nothing))
stamped_refused f line why old stamped none least most texts lines events h (inr (inl (o, plain, head, is, header))) = absurd (plain stamped)
stamped_refused f line why old stamped none least most texts lines events h (inr (inr (o, plain, row, x, is, spelled, history))) = absurd (plain stamped)

-- a line that is no header, and one that has another form than the texts before
pub header_refused : (f : Follow) (line : List ℕ) (why : Ended) (first : Fields) (later : List Fields) → f.headed ≡ false → rows_of line ≡ first ∷ later → (IsPlain f → (is_header_row first ≡ true) × (later ≡ []) → ⊥) → RefusesLine f line why
header_refused f line why first later old rows other least most texts lines events h (inl none) = absurd (no_first first later (sym rows ∙ none))
header_refused f line why first later old rows other least most texts lines events h (inr (inl (o, plain, head, is, header))) =
    absurd (other plain (ap is_header_row (ap (first_or first) (sym rows ∙ is)) ∙ header, ap rest_of (sym rows ∙ is)))
header_refused f line why first later old rows other least most texts lines events h (inr (inr (o, plain, row, x, is, spelled, history))) = absurd (false≢true (sym old ∙ o))

-- a refusal that says one thing says another
pub on_err : {X E : Type 0} (r : Result X E) (P Q : E → Type 0) → IfErr r P → ((e : E) → P e → Q e) → IfErr r Q
on_err (Ok x) P Q h f = tt
on_err (Err e) P Q h f = f e h

-- an event with which the events are a history is refused for lack of room or of memory
pub lack_by : (judge : WindowJudge) (since : List Event) (place : Place) (refusal : EventRefusal) → (refusal ≡ refusals.TooMany) ⊎ (refusal ≡ refusals.Memory) →
    (refusal ≡ refusals.TooMany → judge.most.events ≤ length since) → IsLack judge since (ended_by place refusal)
lack_by judge since place refusal (inl full) most = subst (λ z. IsLack judge since (ended_by place z)) (sym full) (refl, most full)
lack_by judge since place refusal (inr lacking) most = subst (λ z. IsLack judge since (ended_by place z)) (sym lacking) tt

-- a line that is refused, and not for want of memory, stops the recording
pub stops_at : (f : Follow) (line : List ℕ) (why : Ended) → IsRefusal why → RefusesLine f line why → StopsAt f line
stops_at f line (Refused place fault) is refuses least most texts lines events h goes_on =
    let lack = refuses least most texts lines events h goes_on in
    (subst (λ z. z.events ≤ length h.since) h.most_is lack.0.1, go lack.1)
  where
    go : (Refused place fault ≡ Memory) ⊎ AreEvents f (rows_of line) → AreEvents f (rows_of line)
    go (inl memory) = absurd (subst IsRefusal memory is)
    go (inr events) = events
stops_at f line (Late place) is refuses least most texts lines events h goes_on = absurd (refuses least most texts lines events h goes_on).0
stops_at f line Memory is refuses least most texts lines events h goes_on = absurd is
