-- What the look-ups of an index answer.
use Rattle.std.proofs.Common.{◌≡◌, ◌≤◌, ℕ, suc, Bool, List, length, map, find, get_or, slice_get, Option, Some, None, sym, ap, ◌∙◌, subst, arith, Bor}
use Rattle.std.specs.List.{count_by}
use Rattle.std.specs.Prelude.{is_some, nat_lt}
use Rattle.std.specs.Option.{option_map, option_copied, IfSome}
use Rattle.std.proofs.lemmas.List.{length-map}
use Rattle.std.proofs.lemmas.List.Sums.{count_by-le-length}
use Rattle.std.proofs.lemmas.Option.{slice_get-map}
use Rattle.snap_core.specs.declared.event.Event.{Event}
use Rattle.snap_core.specs.Ordered.{IsOrdered}
use Rattle.snap_core.specs.Bounded.{IsBoundedOrdered}
use Rattle.snap_core.specs.Events.{event_cap}
use Rattle.snap_core.specs.Calls.{calls_of, views_of, is_update_numbered, Call as SpecCall}
use Rattle.snap_index.specs.declared.call.Call.{Call}
use Rattle.snap_index.specs.declared.call.Write.{Write}
use Rattle.snap_index.specs.declared.index.CompletedView.{CompletedView}
use Rattle.snap_index.specs.IndexedCalls.{as_indexed, number_of, write_of}
use Rattle.snap_index.specs.Updates.{is_update_of, updates_of}
use Rattle.snap_index.specs.inside.Tables.{IsIndex, number_kept}
use Rattle.snap_index.proofs.IndexedCalls.{call_count_within, view_count_within, at_own_number, mapped_some, got}
use Rattle.snap_core.proofs.Members.{In-find}
use Rattle.snap_index.proofs.Numbers.{nth_update, no_update_zero, update_count_is}

-- the fields of an index, by the history that a clause sees
pub seen : (inside es : List Event) (calls : List Call) (views : List CompletedView) (updates : List (List Write)) (pending : ℕ) → inside ≡ es → IsIndex inside calls views updates pending → IsIndex es calls views updates pending
seen inside es calls views updates pending e i = subst (λ z. IsIndex z calls views updates pending) e i

pub views_few : (es : List Event) (calls : List Call) (views : List CompletedView) (updates : List (List Write)) (pending : ℕ) → IsIndex es calls views updates pending → length views ≤ event_cap
views_few es calls views updates pending i =
    let l = sym (length-map views number_kept) ∙ ap length i.tables.of_views ∙ length-map (views_of (calls_of es)) number_of in
    omega (arith, l, view_count_within (calls_of es), call_count_within es, i.kept.short)

-- what is kept of the view at a place, by what a slice of the views gives there
pub kept_at : {X : Type 0} (f : SpecCall → X) (g : CompletedView → X) (calls : List SpecCall) (items views : List CompletedView) (i : ℕ) (r o : Option (Bor CompletedView)) → map g items ≡ map f (views_of calls) → views ≡ items →
    is_some r ≡ nat_lt i (length views) → IfSome r (λ x. x.now ≡ get_or views i x.now) → r ≡ o → option_map g (option_copied o) ≡ option_map f (slice_get (views_of calls) i)
kept_at f g calls items views i r o e v s h is =
    sym (ap (λ z. option_map g (option_copied z)) is) ∙ ap (option_map g) (got views r i s h) ∙ sym (slice_get-map g views i) ∙ ap (λ z. slice_get z i) (ap (map g) v ∙ e) ∙ slice_get-map f (views_of calls) i

pub row_is : (k : ℕ) (calls : List SpecCall) → length (map write_of (updates_of k calls)) ≡ count_by (is_update_of k) calls
row_is k calls = length-map (updates_of k calls) write_of ∙ update_count_is k calls

pub row_few : (es : List Event) → IsBoundedOrdered es → (k : ℕ) → length (map write_of (updates_of k (calls_of es))) ≤ event_cap
row_few es h k = omega (arith, row_is k (calls_of es), count_by-le-length (is_update_of k) (calls_of es), call_count_within es, h.short)

-- what the n-th of the updates of a component writes
pub update_in_row : (es : List Event) → IsOrdered es → (k n place : ℕ) → n ≡ suc place → slice_get (map write_of (updates_of k (calls_of es))) place ≡ option_map write_of (find (is_update_numbered k n) (calls_of es))
update_in_row es h k n place e = slice_get-map write_of (updates_of k (calls_of es)) place ∙ ap (option_map write_of) (sym (nth_update es h k place n e))

pub no_zero : (es : List Event) → IsOrdered es → (k n : ℕ) → n ≡ 0 → None ≡ option_map write_of (find (is_update_numbered k n) (calls_of es))
no_zero es h k n e = sym (ap (option_map write_of) (no_update_zero es h k n e))

-- the call at the number of what was found
pub call_of_update : (es : List Event) (p : SpecCall → Bool) (c : ℕ) → option_map number_of (find p (calls_of es)) ≡ Some c → option_map as_indexed (slice_get (calls_of es) c) ≡ option_map as_indexed (find p (calls_of es))
call_of_update es p c h =
    let m = mapped_some number_of (find p (calls_of es)) c h in
    let f = In-find p (calls_of es) m.from m.is in
    ap (λ z. option_map as_indexed (slice_get (calls_of es) z)) (sym m.to) ∙ ap (option_map as_indexed) (at_own_number es m.from f.0) ∙ sym (ap (option_map as_indexed) m.is)
