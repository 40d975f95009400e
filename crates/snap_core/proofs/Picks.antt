-- The first refusal that applies, test by test.
use Rattle.std.proofs.Common.{◌≡◌, ◌<◌, ◌≤◌, Bool, true, false, cond, List, length, Option, Some, None, refl, sym, ap, ◌∙◌}
use Rattle.std.specs.Prelude.{nat_le}
use Rattle.snap_core.specs.declared.history.EventRefusal.{EventRefusal}
use Rattle.snap_core.specs.declared.history.EventRefusal.TheVariants.{TooMany, Busy, Idle, OtherOp, Writer, Number, Order}
use Rattle.snap_core.specs.Events.{Event}
use Rattle.snap_core.specs.declared.limit.Limit.{Limit}
use Rattle.snap_core.specs.Refusals.{refusal_of, is_busy, is_idle, is_other, breaks_writer, breaks_order, has_other_number, IsAcceptedBy}
use Rattle.std.proofs.lemmas.Bool.{le-leb, lt-leb, leb-false}

abbrev pub pick : Bool → Bool → Bool → Bool → Bool → Bool → Bool → Option EventRefusal
pick t b i o w n r = cond t (Some TooMany) (cond b (Some Busy) (cond i (Some Idle) (cond o (Some OtherOp) (cond w (Some Writer) (cond n (Some Number) (cond r (Some Order) None))))))

pub picked : (limit : Limit) (es : List Event) (e : Event) (t b i o w n r : Bool) → nat_le limit.events (length es) ≡ t → is_busy es e ≡ b → is_idle es e ≡ i → is_other es e ≡ o → breaks_writer limit.writers es e ≡ w → has_other_number es e ≡ n → breaks_order limit.writers es e ≡ r → refusal_of limit es e ≡ pick t b i o w n r
unfolding refusal_of
picked limit es e t b i o w n r h1 h2 h3 h4 h5 h6 h7 =
    ap (λ z. pick z (is_busy es e) (is_idle es e) (is_other es e) (breaks_writer limit.writers es e) (has_other_number es e) (breaks_order limit.writers es e)) h1
    ∙ ap (λ z. pick t z (is_idle es e) (is_other es e) (breaks_writer limit.writers es e) (has_other_number es e) (breaks_order limit.writers es e)) h2
    ∙ ap (λ z. pick t b z (is_other es e) (breaks_writer limit.writers es e) (has_other_number es e) (breaks_order limit.writers es e)) h3
    ∙ ap (λ z. pick t b i z (breaks_writer limit.writers es e) (has_other_number es e) (breaks_order limit.writers es e)) h4
    ∙ ap (λ z. pick t b i o z (has_other_number es e) (breaks_order limit.writers es e)) h5
    ∙ ap (λ z. pick t b i o w z (breaks_order limit.writers es e)) h6
    ∙ ap (λ z. pick t b i o w n z) h7

pub is_long : (limit : Limit) (es : List Event) → limit.events ≤ length es → nat_le limit.events (length es) ≡ true
is_long limit es h = le-leb limit.events (length es) h

pub is_short : (limit : Limit) (es : List Event) → length es < limit.events → nat_le limit.events (length es) ≡ false
is_short limit es h = lt-leb limit.events (length es) h

-- where no refusal applies, the event is accepted
pub accepted_none : (limit : Limit) (es : List Event) (e : Event) → refusal_of limit es e ≡ None → IsAcceptedBy limit.writers es e × (length es < limit.events)
accepted_none limit es e h = go (nat_le limit.events (length es)) refl (is_busy es e) refl (is_idle es e) refl (is_other es e) refl (breaks_writer limit.writers es e) refl (has_other_number es e) refl (breaks_order limit.writers es e) refl
  where
    by : (t b i o w n r : Bool) → nat_le limit.events (length es) ≡ t → is_busy es e ≡ b → is_idle es e ≡ i → is_other es e ≡ o → breaks_writer limit.writers es e ≡ w → has_other_number es e ≡ n → breaks_order limit.writers es e ≡ r → pick t b i o w n r ≡ None
    by t b i o w n r h1 h2 h3 h4 h5 h6 h7 = sym (picked limit es e t b i o w n r h1 h2 h3 h4 h5 h6 h7) ∙ h

    go : (t : Bool) → nat_le limit.events (length es) ≡ t → (b : Bool) → is_busy es e ≡ b → (i : Bool) → is_idle es e ≡ i → (o : Bool) → is_other es e ≡ o → (w : Bool) → breaks_writer limit.writers es e ≡ w → (n : Bool) → has_other_number es e ≡ n → (r : Bool) → breaks_order limit.writers es e ≡ r → IsAcceptedBy limit.writers es e × (length es < limit.events)
    go true h1 b h2 i h3 o h4 w h5 n h6 r h7 = absurd (let g = by true b i o w n r h1 h2 h3 h4 h5 h6 h7 in cc)
    go false h1 true h2 i h3 o h4 w h5 n h6 r h7 = absurd (let g = by false true i o w n r h1 h2 h3 h4 h5 h6 h7 in cc)
    go false h1 false h2 true h3 o h4 w h5 n h6 r h7 = absurd (let g = by false false true o w n r h1 h2 h3 h4 h5 h6 h7 in cc)
    go false h1 false h2 false h3 true h4 w h5 n h6 r h7 = absurd (let g = by false false false true w n r h1 h2 h3 h4 h5 h6 h7 in cc)
    go false h1 false h2 false h3 false h4 true h5 n h6 r h7 = absurd (let g = by false false false false true n r h1 h2 h3 h4 h5 h6 h7 in cc)
    go false h1 false h2 false h3 false h4 false h5 true h6 r h7 = absurd (let g = by false false false false false true r h1 h2 h3 h4 h5 h6 h7 in cc)
    go false h1 false h2 false h3 false h4 false h5 false h6 true h7 = absurd (let g = by false false false false false false true h1 h2 h3 h4 h5 h6 h7 in cc)
    go false h1 false h2 false h3 false h4 false h5 false h6 false h7 = (record { not_busy = h2; not_idle = h3; not_other = h4; writer = h5; number = h6; order = h7 }, leb-false limit.events (length es) h1)

pub refused_full : (limit : Limit) (es : List Event) (e : Event) → limit.events ≤ length es → refusal_of limit es e ≡ Some TooMany
unfolding refusal_of
refused_full limit es e h = rw (le-leb limit.events (length es) h) refl
