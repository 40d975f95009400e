-- The rank of a printed call, by its operation and its views.
use Rattle.std.proofs.Common.{rules, ◌≡◌, ◌≤◌, ◌+◌, ◌*◌, ◌||◌, ℕ, Bool, true, false, cond, List, length, Option, Some, None, Fits, w32, refl, sym, ap, ◌∙◌, arith}
use Rattle.std.specs.Prelude.{is_some, nat_le}
use Rattle.std.specs.Bool.{then_some}
use Rattle.std.specs.List.{list_any}
use Rattle.snap_core.specs.declared.entry.Entry.{Entry}
use Rattle.snap_core.specs.declared.event.Event.{Event}
use Rattle.snap_core.specs.Calls.{Call, Views, calls_of, views_of, shown_number}
use Rattle.snap_core.specs.Bounded.{IsBoundedOrdered}
use Rattle.snap_core.specs.Events.{event_cap}
use Rattle.snap_views.proofs.Sizes.{few_views}
use Rattle.snap_index.specs.IndexedCalls.{indexed_op, answered_by, answer_of}
use Rattle.snap_index.specs.declared.call.CallOp.TheVariants.{Update, View}
use Rattle.snap_index.proofs.IndexedCalls.{update_from, view_from}
use Rattle.snap_theory.specs.Levels.{update_level, view_level, rank_by, rank, stands_by, is_printed}
use Rattle.snap_theory.specs.Keys.{rank_of}
use Rattle.snap_order.proofs.Places.{any_views}

pub rank_fits : (es : List Event) (level : ℕ) → IsBoundedOrdered es → level ≤ length (views_of (calls_of es)) → 2 * level + 1 ≤ 2 * event_cap + 1
rank_fits es level k l = omega (arith, l, few_views es k)

pub word_fits : (n : ℕ) → n ≤ 2 * event_cap + 1 → Fits w32 n
word_fits n l = search (rules, l)

pub update_rank : (calls : List Call) (c : Call) (e : Entry) (b : Bool) → indexed_op c.operation ≡ Update e → (is_some c.ended || list_any (λ r. nat_le e.number (shown_number r e.component)) (views_of calls)) ≡ b →
    cond b (Some (2 * update_level calls e)) None ≡ rank_of calls c
unfolding rank is_printed
update_rank calls c e b o h =
    let w = update_from c.operation e o in
    let shown : stands_by calls c.ended c.operation ≡ b =
    ap (stands_by calls c.ended) w ∙ ap (λ z. is_some c.ended || z) (sym (any_views calls (λ r. nat_le e.number (shown_number r e.component)))) ∙ h in
    sym (ap (λ z. cond z (Some (rank_by calls c c.operation)) None) shown ∙ ap (λ z. cond b (Some (rank_by calls c z)) None) w)

pub answered_view : (c : Call) (es : List Entry) → indexed_op c.operation ≡ View → Some es ≡ answer_of c → c.operation ≡ Views (Some es)
answered_view c es o h = let v = view_from c.operation o in v.1 ∙ ap Views (sym (h ∙ ap answered_by v.1))

pub view_rank : (calls : List Call) (c : Call) (es : List Entry) (level : ℕ) → c.operation ≡ Views (Some es) → level ≡ view_level calls c → Some (2 * level + 1) ≡ rank_of calls c
unfolding rank is_printed
view_rank calls c es level w l =
    ap (λ z. Some (2 * z + 1)) l
    ∙ sym (ap (λ z. cond (stands_by calls c.ended z) (Some (rank_by calls c c.operation)) None) w ∙ ap (λ z. Some (rank_by calls c z)) w)

pub no_rank : (calls : List Call) (c : Call) → indexed_op c.operation ≡ View → None ≡ answer_of c → None ≡ rank_of calls c
unfolding rank is_printed
no_rank calls c o h =
    let v = view_from c.operation o in
    let a : v.0 ≡ None = sym (h ∙ ap answered_by v.1) in
    let w : c.operation ≡ Views None = v.1 ∙ ap Views a in
    sym (ap (λ z. cond (stands_by calls c.ended z) (Some (rank_by calls c c.operation)) None) w)

-- the test of an update, by its two ways
pub by_end : (ended o : Option ℕ) (any value result : Bool) → ended ≡ o → result ≡ is_some ended → result ≡ true → value ≡ result → (is_some o || any) ≡ value
by_end ended o any value result e r t v = ap (λ z. z || any) (sym (ap is_some e) ∙ sym r ∙ t) ∙ sym (v ∙ t)

pub by_view : (ended o : Option ℕ) (any value result : Bool) → ended ≡ o → result ≡ is_some ended → result ≡ false → value ≡ any → (is_some o || any) ≡ value
by_view ended o any value result e r t v = ap (λ z. z || any) (sym (ap is_some e) ∙ sym r ∙ t) ∙ sym v

pub then_some_is : (b : Bool) (n : ℕ) → then_some b n ≡ cond b (Some n) None
then_some_is true n = refl
then_some_is false n = refl
