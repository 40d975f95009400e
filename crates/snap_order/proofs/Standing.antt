-- When a call may stand after others, by its operation and what it answered.
use Rattle.std.proofs.Common.{◌≡◌, ◌↔◌, ℕ, false, List, Option, Some, None, sym, ap, ◌∙◌, subst, inl, inr}
use Rattle.std.specs.Prelude.{is_some, Contains}
use Rattle.std.proofs.lemmas.Bool.{false≢true}
use Rattle.snap_core.specs.declared.entry.Entry.{Entry}
use Rattle.snap_core.specs.declared.event.Event.{Event}
use Rattle.snap_core.specs.Ordered.{IsOrdered}
use Rattle.snap_core.specs.Calls.{Call, Views, calls_of, is_before, is_view, is_answer, entries_of}
use Rattle.snap_core.specs.Orders.{is_completed, is_update, is_writing}
use Rattle.snap_core.proofs.Ordered.{are_ordered_calls}
use Rattle.snap_index.specs.IndexedCalls.{indexed_op, answer_of, answered_by}
use Rattle.snap_index.specs.declared.call.CallOp.TheVariants.{Update, View}
use Rattle.snap_index.proofs.IndexedCalls.{update_from, view_from}
use Rattle.snap_order.specs.inside.Shown.{ShowsLast}
use Rattle.snap_order.specs.inside.Stands.{MayStand}

pub update_stands : (c : Call) (e : Entry) (last : List (Option Entry)) (latest : ℕ) → indexed_op c.operation ≡ Update e → is_before c.ended latest ≡ false → MayStand c last latest
unfolding is_update is_view
update_stands c e last latest h early =
    let w = update_from c.operation e h in
    record { precedes_none = early; stands = inr (ap is_writing w); shows = λ v. absurd (false≢true (sym (ap is_answer w) ∙ v)) }

pub view_stands : (es : List Event) → IsOrdered es → (c : Call) (s : List Entry) (last : List (Option Entry)) (latest : ℕ) → Contains (calls_of es) c → indexed_op c.operation ≡ View → Some s ≡ answer_of c → is_before c.ended latest ≡ false →
    MayStand c last latest ↔ ShowsLast s last
unfolding is_completed is_view
view_stands es h c s last latest i o a early =
    let v = view_from c.operation o in
    let w : c.operation ≡ Views (Some s) = v.1 ∙ ap Views (sym (a ∙ ap answered_by v.1)) in
    let e = (are_ordered_calls es h).answered c (record { there = i; completed = ap is_answer w }) in (
      λ m. subst (λ z. ShowsLast (entries_of z) last) w (m.shows (ap is_answer w)),
      λ f. record { precedes_none = early; stands = inl (ap is_some e.ends); shows = λ x. subst (λ z. ShowsLast (entries_of z) last) (sym w) f },
    )

pub pending_never : (es : List Event) → IsOrdered es → (c : Call) (last : List (Option Entry)) (latest : ℕ) → Contains (calls_of es) c → indexed_op c.operation ≡ View → None ≡ answer_of c → MayStand c last latest → ⊥
unfolding is_completed is_update
pending_never es h c last latest i o a m =
    let v = view_from c.operation o in
    let w : c.operation ≡ Views None = v.1 ∙ ap Views (sym (a ∙ ap answered_by v.1)) in
    elim m.stands [
      | inl x ↦ false≢true (sym (ap is_some ((are_ordered_calls es h).unanswered c i w)) ∙ x)
      | inr x ↦ false≢true (sym (ap is_writing w) ∙ x)
    ]
