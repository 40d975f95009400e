-- What the first refusal of an event says.
use Rattle.std.proofs.Common.{◌≡◌, ◌≤◌, Bool, true, false, cond, List, length, Option, Some, None, refl, sym, ap, ◌∙◌}
use Rattle.std.specs.Prelude.{nat_le}
use Rattle.std.proofs.lemmas.Bool.{leb-true}
use Rattle.snap_core.specs.declared.limit.Limit.{Limit}
use Rattle.snap_core.specs.declared.event.Event.{Event}
use Rattle.snap_core.specs.declared.history.EventRefusal.{EventRefusal}
use Rattle.snap_core.specs.declared.history.EventRefusal.TheVariants.{TooMany, Busy, Idle, OtherOp, Writer, Number, Order, Memory}
use Rattle.snap_core.specs.Refusals.{IsAcceptedBy, breaks_order, breaks_writer, has_other_number, is_busy, is_idle, is_other, refusal_of}
use Rattle.snap_core.proofs.Picks.{pick, picked, accepted_none}
use Rattle.snap_windows.specs.inside.Refused.{behind_writer, first_refusal}

-- a history that accepts an event refuses it for its length alone
accepted_refusal : (limit : Limit) (es : List Event) (e : Event) → IsAcceptedBy limit.writers es e → refusal_of limit es e ≡ cond (nat_le limit.events (length es)) (Some TooMany) None
accepted_refusal limit es e by = picked limit es e (nat_le limit.events (length es)) false false false false false false refl by.not_busy by.not_idle by.not_other by.writer by.number by.order

too_many : (limit : Limit) (es : List Event) (e : Event) → refusal_of limit es e ≡ Some TooMany → limit.events ≤ length es
too_many limit es e h = go (nat_le limit.events (length es)) refl (is_busy es e) refl (is_idle es e) refl (is_other es e) refl (breaks_writer limit.writers es e) refl (has_other_number es e) refl (breaks_order limit.writers es e) refl
  where
    by : (b i o w n r : Bool) → nat_le limit.events (length es) ≡ false → is_busy es e ≡ b → is_idle es e ≡ i → is_other es e ≡ o → breaks_writer limit.writers es e ≡ w → has_other_number es e ≡ n → breaks_order limit.writers es e ≡ r → pick false b i o w n r ≡ Some TooMany
    by b i o w n r h1 h2 h3 h4 h5 h6 h7 = sym (picked limit es e false b i o w n r h1 h2 h3 h4 h5 h6 h7) ∙ h

    go : (t : Bool) → nat_le limit.events (length es) ≡ t → (b : Bool) → is_busy es e ≡ b → (i : Bool) → is_idle es e ≡ i → (o : Bool) → is_other es e ≡ o → (w : Bool) → breaks_writer limit.writers es e ≡ w → (n : Bool) → has_other_number es e ≡ n → (r : Bool) → breaks_order limit.writers es e ≡ r → limit.events ≤ length es
    go true h1 b h2 i h3 o h4 w h5 n h6 r h7 = leb-true limit.events (length es) h1
    go false h1 true h2 i h3 o h4 w h5 n h6 r h7 = absurd (let g = by true i o w n r h1 h2 h3 h4 h5 h6 h7 in cc)
    go false h1 false h2 true h3 o h4 w h5 n h6 r h7 = absurd (let g = by false true o w n r h1 h2 h3 h4 h5 h6 h7 in cc)
    go false h1 false h2 false h3 true h4 w h5 n h6 r h7 = absurd (let g = by false false true w n r h1 h2 h3 h4 h5 h6 h7 in cc)
    go false h1 false h2 false h3 false h4 true h5 n h6 r h7 = absurd (let g = by false false false true n r h1 h2 h3 h4 h5 h6 h7 in cc)
    go false h1 false h2 false h3 false h4 false h5 true h6 r h7 = absurd (let g = by false false false false true r h1 h2 h3 h4 h5 h6 h7 in cc)
    go false h1 false h2 false h3 false h4 false h5 false h6 true h7 = absurd (let g = by false false false false false true h1 h2 h3 h4 h5 h6 h7 in cc)
    go false h1 false h2 false h3 false h4 false h5 false h6 false h7 = absurd (let g = by false false false false false false h1 h2 h3 h4 h5 h6 h7 in cc)

writer_none : (b : Bool) (o : Option EventRefusal) → behind_writer b o ≡ None → (o ≡ None) × (b ≡ false)
writer_none true None h = absurd (cc)
writer_none true (Some Number) h = absurd (cc)
writer_none true (Some TooMany) h = absurd (cc)
writer_none true (Some Busy) h = absurd (cc)
writer_none true (Some Idle) h = absurd (cc)
writer_none true (Some OtherOp) h = absurd (cc)
writer_none true (Some Writer) h = absurd (cc)
writer_none true (Some Order) h = absurd (cc)
writer_none true (Some Memory) h = absurd (cc)
writer_none false o h = (h, refl)

writer_too_many : (b : Bool) (o : Option EventRefusal) → behind_writer b o ≡ Some TooMany → o ≡ Some TooMany
writer_too_many true None h = absurd (cc)
writer_too_many true (Some Number) h = absurd (cc)
writer_too_many true (Some TooMany) h = refl
writer_too_many true (Some Busy) h = absurd (cc)
writer_too_many true (Some Idle) h = absurd (cc)
writer_too_many true (Some OtherOp) h = absurd (cc)
writer_too_many true (Some Writer) h = absurd (cc)
writer_too_many true (Some Order) h = absurd (cc)
writer_too_many true (Some Memory) h = absurd (cc)
writer_too_many false o h = h

-- nothing refuses the event
pub record IsFree (limit : Limit) (window : List Event) (renumbered : Event) (before : List Event) (event : Event) : Type 0 where
  pub none : refusal_of limit window renumbered ≡ None
  pub accepted : IsAcceptedBy limit.writers window renumbered
  pub writer : breaks_writer limit.writers before event ≡ false

pub free : (limit : Limit) (window : List Event) (renumbered : Event) (before : List Event) (event : Event) → first_refusal limit window renumbered before event ≡ None → IsFree limit window renumbered before event
free limit window renumbered before event h =
    let w = writer_none (breaks_writer limit.writers before event) (refusal_of limit window renumbered) h in
    record { none = w.0; accepted = (accepted_none limit window renumbered w.0).0; writer = w.1 }

-- an event that both sides accept is refused for the length alone
pub refused_for_length : (limit : Limit) (window : List Event) (renumbered : Event) (before : List Event) (event : Event) (why : EventRefusal) → IsAcceptedBy limit.writers window renumbered → breaks_writer limit.writers before event ≡ false →
    first_refusal limit window renumbered before event ≡ Some why → why ≡ TooMany
refused_for_length limit window renumbered before event why a f h =
    go (nat_le limit.events (length window)) (sym (accepted_refusal limit window renumbered a) ∙ ap (λ z. behind_writer z (refusal_of limit window renumbered)) (sym f) ∙ h)
  where
    go : (b : Bool) → cond b (Some TooMany) None ≡ Some why → why ≡ TooMany
    go true g = cc
    go false g = absurd (cc)

-- a refusal for the length comes to a full window
pub full : (limit : Limit) (window : List Event) (renumbered : Event) (before : List Event) (event : Event) → first_refusal limit window renumbered before event ≡ Some TooMany → limit.events ≤ length window
full limit window renumbered before event h = too_many limit window renumbered (writer_too_many (breaks_writer limit.writers before event) (refusal_of limit window renumbered) h)
