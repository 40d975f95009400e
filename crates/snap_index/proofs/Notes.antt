-- What one call more adds to the tables.
use Rattle.std.proofs.Common.{◌≡◌, ◌<◌, ◌≤◌, ◌+◌, ℕ, Bool, true, false, cond, List, [], ◌∷◌, ◌++◌, append-nil, length, map, take, get_or, set, replicate, Option, Some, None, refl, sym, ap, ◌∙◌, inl, inr, arith, get_or-set_same, get_or-set_other, length-set, length-take-le}
use Rattle.std.specs.Prelude.{is_some, not, filter, ◌==◌}
use Rattle.std.specs.List.{count_by}
use Rattle.std.proofs.lemmas.Bool.{eq-eqb, ne_eqb, cases_eq}
use Rattle.std.proofs.lemmas.List.{take_more, map-append, get_or-replicate, length-replicate}
use Rattle.std.proofs.lemmas.List.Elements.{filter-append}
use Rattle.std.proofs.lemmas.List.Sums.{sum_by-append, count_by-le-length}
use Rattle.snap_core.specs.declared.entry.Entry.{Entry}
use Rattle.snap_core.specs.declared.event.Event.{Event}
use Rattle.snap_core.specs.Ordered.{IsOrdered}
use Rattle.snap_core.specs.Bounded.{IsBoundedOrdered}
use Rattle.snap_core.specs.Calls.{Operation, Updates, Views, calls_of, views_of, nobody, call_numbered, is_view, Call as SpecCall}
use Rattle.snap_core.specs.Orders.{is_completed}
use Rattle.snap_core.proofs.Lists.{count-cons}
use Rattle.snap_core.proofs.Histories.{numbered_calls, byte_components}
use Rattle.snap_core.proofs.Fits.{bytes_of_events}
use Rattle.snap_index.specs.declared.call.CallOp.{CallOp}
use Rattle.snap_index.specs.declared.call.CallOp.TheVariants.{Update, View}
use Rattle.snap_index.specs.declared.call.Call.{Call}
use Rattle.snap_index.specs.declared.call.Write.{Write}
use Rattle.snap_index.specs.declared.index.CompletedView.{CompletedView}
use Rattle.snap_index.specs.IndexedCalls.{as_indexed, indexed_op, number_of, write_of, value_written, entries_shown, answer_of}
use Rattle.snap_index.specs.Updates.{is_update_of, updates_of, is_pending}
use Rattle.snap_index.specs.inside.Tables.{AreTables, number_kept, entries_kept}
use Rattle.snap_index.proofs.IndexedCalls.{numbered_there, update_from}
use Rattle.snap_index.proofs.Ends.{view_by_answer, entries_by_answer}

-- a list with one more at its end where a test holds
abbrev pub put_where : {X : Type 0} → Bool → X → List X → List X
put_where true x xs = xs ++ x ∷ []
put_where false x xs = xs

-- what is put of a call among the updates of component k
abbrev pub is_indexed_update : CallOp → ℕ → Bool
is_indexed_update (Update e) k = e.component == k
is_indexed_update View k = false

abbrev indexed_value : CallOp → ℕ
indexed_value (Update e) = e.value
indexed_value View = 0

-- what call c writes, by its bare form
abbrev indexed_write : ℕ → Call → Write
indexed_write c x = record { call = c; value = indexed_value x.op; begun = x.begun; ended = x.ended }

-- what is put of call c after the updates of its component
pub record Puts (x : Call) (c : ℕ) (updates new_updates : List (List Write)) : Type 0 where
  pub size : length new_updates ≡ length updates
  pub rows : (k : ℕ) → k < 256 → get_or new_updates k [] ≡ put_where (is_indexed_update x.op k) (indexed_write c x) (get_or updates k [])

-- what is put of call r after the completed views
pub record Shows (r : SpecCall) (views new_views : List CompletedView) : Type 0 where
  pub numbers : map number_kept new_views ≡ put_where (is_view r) r.number (map number_kept views)
  pub entries : map entries_kept new_views ≡ put_where (is_view r) (entries_shown r) (map entries_kept views)

filter_more : {X : Type 0} (f : SpecCall → X) (x : X) (p : SpecCall → Bool) (calls : List SpecCall) (c : ℕ) → c < length calls → (b : Bool) → p (call_numbered calls c) ≡ b → f (call_numbered calls c) ≡ x →
    map f (filter p (take (c + 1) calls)) ≡ put_where b x (map f (filter p (take c calls)))
filter_more f x p calls c l b e n =
    ap (λ z. map f (filter p z)) (take_more calls c nobody l)
    ∙ ap (map f) (filter-append p (take c calls) (call_numbered calls c ∷ []))
    ∙ ap (λ t. map f (filter p (take c calls) ++ cond t (call_numbered calls c ∷ []) [])) e
    ∙ map-append f (filter p (take c calls)) (cond b (call_numbered calls c ∷ []) [])
    ∙ put b
  where
    put : (b : Bool) → map f (filter p (take c calls)) ++ map f (cond b (call_numbered calls c ∷ []) []) ≡ put_where b x (map f (filter p (take c calls)))
    put true = ap (λ z. map f (filter p (take c calls)) ++ z ∷ []) n
    put false = append-nil _

indexed_update_is : (o : Operation) (k n p b : ℕ) (e : Option ℕ) → is_update_of k (record { number = n; process = p; operation = o; begun = b; ended = e }) ≡ is_indexed_update (indexed_op o) k
unfolding is_update_of
indexed_update_is (Updates d) k n p b e = refl
indexed_update_is (Views a) k n p b e = refl

write_at : (r : SpecCall) (c : ℕ) (x : Call) → r.number ≡ c → x ≡ as_indexed r → write_of r ≡ indexed_write c x
write_at r c x n e =
    ap (λ m. record { call = m; value = value_written r.operation; begun = r.begun; ended = r.ended }) n
    ∙ ap (λ v. record { call = c; value = v; begun = r.begun; ended = r.ended }) (value_at r.operation)
    ∙ ap (indexed_write c) (sym e)
  where
    value_at : (o : Operation) → value_written o ≡ indexed_value (indexed_op o)
    value_at (Updates d) = refl
    value_at (Views a) = refl

pub noted : (es : List Event) → IsOrdered es → (c : ℕ) → c < length (calls_of es) → (x : Call) → x ≡ as_indexed (call_numbered (calls_of es) c) →
    (views new_views : List CompletedView) (updates new_updates : List (List Write)) (pending new_pending : ℕ) →
    Shows (call_numbered (calls_of es) c) views new_views → Puts x c updates new_updates →
    new_pending ≡ pending + cond (is_some x.ended) 0 1 →
    AreTables (take c (calls_of es)) views updates pending → AreTables (take (c + 1) (calls_of es)) new_views new_updates new_pending
unfolding views_of updates_of is_pending is_completed
noted es h c l x e views new_views updates new_updates pending new_pending v u p t =
    let calls = calls_of es in
    let r = call_numbered (calls_of es) c in
    let number : r.number ≡ c = numbered_calls es c nobody l in
    record {
      size = u.size ∙ t.size;
      of_views = v.numbers ∙ ap (put_where (is_view r) r.number) t.of_views ∙ sym (filter_more number_of r.number is_view calls c l (is_view r) refl refl);
      of_shown = v.entries ∙ ap (put_where (is_view r) (entries_shown r)) t.of_shown ∙ sym (filter_more entries_shown (entries_shown r) is_view calls c l (is_view r) refl refl);
      of_updates = λ k m.
          u.rows k m ∙ ap (put_where (is_indexed_update x.op k) (indexed_write c x)) (t.of_updates k m)
          ∙ sym (filter_more write_of (indexed_write c x) (is_update_of k) calls c l (is_indexed_update x.op k) (updates_at k) (write_at r c x number e));
      of_pending =
          let more = ap (count_by is_pending) (take_more calls c nobody l) ∙ sum_by-append (λ y. cond (is_pending y) 1 0) (take c calls) (r ∷ []) in
          let one = count-cons is_pending r [] in
          let flip : cond (is_some x.ended) 0 1 ≡ cond (not (is_some r.ended)) 1 0 = ap {B = ℕ} (λ (z : Call). cond (is_some z.ended) 0 1) e ∙ flipped (is_some r.ended) in
          omega (arith, p, t.of_pending, more, one, flip);
    }
  where
    updates_at : (k : ℕ) → is_update_of k (call_numbered (calls_of es) c) ≡ is_indexed_update x.op k
    updates_at k = let r = call_numbered (calls_of es) c in indexed_update_is r.operation k r.number r.process r.begun r.ended ∙ ap (λ (z : Call). is_indexed_update z.op k) (sym e)

    flipped : (b : Bool) → ◌≡◌ {A = ℕ} (cond b 0 1) (cond (not b) 1 0)
    flipped true = refl
    flipped false = refl

pub none_noted : (calls : List SpecCall) (updates : List (List Write)) → updates ≡ replicate 256 [] → AreTables (take 0 calls) [] updates 0
unfolding views_of updates_of
none_noted calls updates e = record {
  size = ap length e ∙ length-replicate {A = List Write} 256 [];
  of_views = refl;
  of_shown = refl;
  of_updates = λ k l. ap (λ z. get_or z k []) e ∙ get_or-replicate 256 k [] [] l;
  of_pending = refl;
}

-- a row that was put to
row_put : {X : Type 0} (updates : List (List X)) (j : ℕ) (c : X) (k : ℕ) → j < length updates → get_or (set updates j (get_or updates j [] ++ c ∷ [])) k [] ≡ put_where (j == k) c (get_or updates k [])
row_put updates j c k l = elim (cases_eq j k) [
  | inl same ↦
      ap (λ z. get_or (set updates j (get_or updates j [] ++ c ∷ [])) z []) (sym same)
      ∙ get_or-set_same updates j (get_or updates j [] ++ c ∷ []) [] l
      ∙ ap (λ z. get_or updates z [] ++ c ∷ []) same
      ∙ sym (ap (λ t. put_where t c (get_or updates k [])) (eq-eqb j k same))
  | inr other ↦
      get_or-set_other updates j k (get_or updates j [] ++ c ∷ []) [] (λ h. other (sym h))
      ∙ sym (ap (λ t. put_where t c (get_or updates k [])) (ne_eqb j k other))
]

pub pending_few : (calls : List SpecCall) (c : ℕ) (views : List CompletedView) (updates : List (List Write)) (pending : ℕ) → c ≤ length calls → AreTables (take c calls) views updates pending → pending ≤ c
pending_few calls c views updates pending l t = omega (arith, t.of_pending, count_by-le-length is_pending (take c calls), length-take-le {A = SpecCall})

-- what a call puts among the completed views, by its answer
pub none_shown : (r : SpecCall) (views new_views : List CompletedView) → answer_of r ≡ None → new_views ≡ views → Shows r views new_views
unfolding is_view
none_shown r views new_views a v =
    let b : is_view r ≡ false = view_by_answer r.operation ∙ ap is_some a in
    record {
      numbers = ap (map number_kept) v ∙ sym (ap (λ z. put_where z r.number (map number_kept views)) b);
      entries = ap (map entries_kept) v ∙ sym (ap (λ z. put_where z (entries_shown r) (map entries_kept views)) b);
    }

pub one_shown : (r : SpecCall) (y : CompletedView) (views new_views : List CompletedView) → r.number ≡ y.call → answer_of r ≡ Some y.view.now → new_views ≡ views ++ y ∷ [] → Shows r views new_views
unfolding is_view
one_shown r y views new_views n a v = record { numbers = put number_of number_kept (sym n); entries = put entries_shown entries_kept (sym (entries_by_answer r.operation y.view.now a)) }
  where
    put : {X : Type 0} (f : SpecCall → X) (g : CompletedView → X) → g y ≡ f r → map g new_views ≡ put_where (is_view r) (f r) (map g views)
    put f g e =
        ap (map g) v ∙ map-append g views (y ∷ []) ∙ ap (λ z. map g views ++ z ∷ []) e
        ∙ sym (ap (λ z. put_where z (f r) (map g views)) (view_by_answer r.operation ∙ ap is_some a))

-- what a call puts among the updates, by its kind
pub updates_of_update : (x : Call) (e : Entry) (c : ℕ) (updates new_updates : List (List Write)) → e.component < length updates → x.op ≡ Update e →
    new_updates ≡ set updates e.component (get_or updates e.component [] ++ record { call = c; value = e.value; begun = x.begun; ended = x.ended } ∷ []) → Puts x c updates new_updates
updates_of_update x e c updates new_updates l h u = record {
  size = ap length u ∙ length-set updates e.component (get_or updates e.component [] ++ write (Update e) ∷ []);
  rows = λ k m. ap (λ z. get_or z k []) u ∙ row_put updates e.component (write (Update e)) k l ∙ sym (ap (λ o. put_where (is_indexed_update o k) (write o) (get_or updates k [])) h);
}
  where
    write : CallOp → Write
    write o = record { call = c; value = indexed_value o; begun = x.begun; ended = x.ended }

pub updates_of_view : (x : Call) (c : ℕ) (updates new_updates : List (List Write)) → x.op ≡ View → new_updates ≡ updates → Puts x c updates new_updates
updates_of_view x c updates new_updates h u = record {
  size = ap length u;
  rows = λ k m. ap (λ z. get_or z k []) u ∙ sym (ap (λ o. put_where (is_indexed_update o k) (indexed_write c x) (get_or updates k [])) h);
}

-- an update's component is a byte
pub component_fits : (es : List Event) → IsBoundedOrdered es → (c : ℕ) → c < length (calls_of es) → (x : Call) → x ≡ as_indexed (call_numbered (calls_of es) c) → (e : Entry) → x.op ≡ Update e → e.component < 256
component_fits es h c l x is e op =
    byte_components es (bytes_of_events es h.fit) (call_numbered (calls_of es) c) e
    (record { there = numbered_there (calls_of es) c l; writes = update_from _ e (sym (ap (λ (z : Call). z.op) is) ∙ op) })

-- what a call adds to the pending ones
pub pending_at : (pending new_pending : ℕ) (ended : Option ℕ) (b : Bool) → is_some ended ≡ b → new_pending ≡ pending + cond b 0 1 → new_pending ≡ pending + cond (is_some ended) 0 1
pending_at pending new_pending ended b e p = p ∙ ap {B = ℕ} (λ z. pending + cond z 0 1) (sym e)
