-- What follows from the answers of an index: where calls stand, which updates there are, and what views show.
use Rattle.std.proofs.Common.{◌≡◌, ◌<◌, ◌≤◌, ◌-◌, ◌&&◌, ℕ, Bool, true, false, List, length, find, slice_get, Some, None, refl, sym, ap, ◌∙◌, subst, inl, inr, arith}
use Rattle.std.specs.Prelude.{filter, ◌==◌}
use Rattle.std.specs.List.{count_by}
use Rattle.std.specs.Option.{option_map, option_and_then}
use Rattle.std.proofs.lemmas.Bool.{eqb-true, false≢true, cases_order}
use Rattle.std.proofs.lemmas.List.Elements.{All-contains}
use Rattle.std.proofs.lemmas.Option.{slice_get-get_or, slice_get_within, slice_get_past, get_or_from_slice_get}
use Rattle.snap_core.specs.declared.entry.Entry.{Entry}
use Rattle.snap_core.specs.declared.event.Event.{Event}
use Rattle.snap_core.specs.declared.event.Event.TheVariants.{BeginUpdate, BeginView, EndUpdate, EndView}
use Rattle.snap_core.specs.Entries.{AreEntries}
use Rattle.snap_core.specs.Ordered.{IsOrdered}
use Rattle.snap_core.specs.Bounded.{IsBoundedOrdered}
use Rattle.snap_core.specs.Events.{EventFits}
use Rattle.snap_core.specs.Calls.{Call, Operation, Updates, Views, calls_of, views_of, nobody, call_numbered, is_view, is_answer, is_update_numbered, writes_number, entries_of}
use Rattle.snap_core.specs.Regular.{IsUpdateOf}
use Rattle.snap_core.proofs.Lists.{In, Contains-from_In, In-get_or, In-from_filter}
use Rattle.snap_core.proofs.Ends.{IsEndOf, call_end, answered_part}
use Rattle.snap_index.specs.IndexedCalls.{as_indexed, answer_of}
use Rattle.snap_index.specs.Updates.{is_update_of, updates_of}
use Rattle.snap_index.proofs.IndexedCalls.{at_own_number}
use Rattle.snap_core.proofs.Members.{In-find, In-slice_get}
use Rattle.snap_index.proofs.Ends.{shown_by}
use Rattle.snap_index.proofs.Numbers.{nth_update, no_update_zero, update_count_is}

pub call_within : (calls : List Call) (c : ℕ) → c < length calls → slice_get calls c ≡ Some (call_numbered calls c)
call_within calls c l = slice_get-get_or calls c nobody l

pub indexed_within : (calls : List Call) (c : ℕ) → c < length calls → option_map as_indexed (slice_get calls c) ≡ Some (as_indexed (call_numbered calls c))
indexed_within calls c l = ap (option_map as_indexed) (call_within calls c l)

-- what a completed view shows is its answer
pub answer_within : (calls : List Call) (c : ℕ) → c < length calls → is_view (call_numbered calls c) ≡ true → option_and_then answer_of (slice_get calls c) ≡ Some (entries_of (call_numbered calls c).operation)
unfolding is_view
answer_within calls c l v = ap (option_and_then answer_of) (call_within calls c l) ∙ shown_by (call_numbered calls c).operation v

-- a call of the calls stands at its number
pub own_number : (es : List Event) (c : Call) → In c (calls_of es) → call_numbered (calls_of es) c.number ≡ c
own_number es c i = get_or_from_slice_get (calls_of es) c.number c nobody (at_own_number es c i)

pub number_within : (es : List Event) (c : Call) → In c (calls_of es) → c.number < length (calls_of es)
number_within es c i = slice_get_within (calls_of es) c.number c (at_own_number es c i)

-- the i-th completed view
pub record IsViewAt (es : List Event) (i : ℕ) (r : Call) : Type 0 where
  pub is : slice_get (views_of (calls_of es)) i ≡ Some r
  pub there : In r (calls_of es)
  pub view : is_view r ≡ true
  pub within : r.number < length (calls_of es)
  pub own : call_numbered (calls_of es) r.number ≡ r

pub view_within : (es : List Event) (i : ℕ) → i < length (views_of (calls_of es)) → IsViewAt es i (call_numbered (views_of (calls_of es)) i)
unfolding views_of
view_within es i l =
    let r = call_numbered (filter is_view (calls_of es)) i in
    let f = In-from_filter is_view (calls_of es) r (In-get_or (filter is_view (calls_of es)) i nobody l) in
    record {
      is = slice_get-get_or (filter is_view (calls_of es)) i nobody l;
      there = f.0;
      view = f.1;
      within = number_within es r f.0;
      own = own_number es r f.0;
    }

-- what a completed view shows is what a `View` keeps
view_fits : (o : Operation) (x : Event) → is_answer o ≡ true → IsEndOf o x → EventFits x → AreEntries (entries_of o)
view_fits (Updates e) x t i f = absurd (false≢true t)
view_fits (Views None) x t i f = absurd (false≢true t)
view_fits (Views (Some s)) (BeginUpdate p e) t i f = absurd i
view_fits (Views (Some s)) (BeginView p) t i f = absurd i
view_fits (Views (Some s)) (EndUpdate p) t i f = absurd i
view_fits (Views (Some s)) (EndView p q) t i f = let same : s ≡ q = cc in subst AreEntries (sym same) f.1

pub view_entries : (es : List Event) → IsBoundedOrdered es → (i : ℕ) (r : Call) → slice_get (views_of (calls_of es)) i ≡ Some r → AreEntries (entries_of r.operation)
unfolding views_of is_view
view_entries es h i r is =
    let v = In-from_filter is_view (calls_of es) r (In-slice_get (views_of (calls_of es)) i r is) in
    let there = Contains-from_In (calls_of es) r v.0 in
    let e = answered_part es r (record { there = there; completed = v.1 }) in
    let x = call_end es h.history.well_formed r e.place there e.ends in
    let fits = All-contains EventFits es x.event h.fit (Contains-from_In es x.event (In-slice_get es e.place x.event x.there)) in
    view_fits r.operation x.event v.1 x.ends fits

-- the update of a number
pub record IsUpdateAt (es : List Event) (k n : ℕ) (c : Call) : Type 0 where
  pub is : find (is_update_numbered k n) (calls_of es) ≡ Some c
  pub entry : Entry
  pub update : IsUpdateOf (calls_of es) c entry
  pub component : entry.component ≡ k
  pub number : entry.number ≡ n
  pub there : In c (calls_of es)
  pub within : c.number < length (calls_of es)
  pub own : call_numbered (calls_of es) c.number ≡ c

both : (a b : Bool) → (a && b) ≡ true → (a ≡ true) × (b ≡ true)
both true b h = (refl, h)
both false b h = absurd (false≢true h)

pub update_found : (es : List Event) (k n : ℕ) (c : Call) → find (is_update_numbered k n) (calls_of es) ≡ Some c → IsUpdateAt es k n c
unfolding is_update_numbered
update_found es k n c h =
    let f = In-find (is_update_numbered k n) (calls_of es) c h in
    go f.0 c.operation refl f.1
  where
    go : In c (calls_of es) → (o : Operation) → c.operation ≡ o → writes_number c.operation k n ≡ true → IsUpdateAt es k n c
    go i (Updates e) w t =
        let b = both (e.component == k) (e.number == n) (sym (ap (λ z. writes_number z k n) w) ∙ t) in
        record {
          is = h;
          entry = e;
          update = record { there = Contains-from_In (calls_of es) c i; writes = w };
          component = eqb-true e.component k b.0;
          number = eqb-true e.number n b.1;
          there = i;
          within = number_within es c i;
          own = own_number es c i;
        }
    go i (Views a) w t = absurd (let g : false ≡ true = sym (ap (λ z. writes_number z k n) w) ∙ t in cc)

pub update_beyond : (es : List Event) → IsOrdered es → (k n : ℕ) → count_by (is_update_of k) (calls_of es) < n → find (is_update_numbered k n) (calls_of es) ≡ None
update_beyond es h k n l =
    nth_update es h k (n - 1) n (omega arith) ∙ slice_get_past (updates_of k (calls_of es)) (n - 1) (omega (arith, update_count_is k (calls_of es)))

pub no_update_0 : (es : List Event) → IsOrdered es → (k : ℕ) → find (is_update_numbered k 0) (calls_of es) ≡ None
no_update_0 es h k = no_update_zero es h k 0 refl

pub update_bounds : (es : List Event) → IsOrdered es → (k n : ℕ) (c : Call) → find (is_update_numbered k n) (calls_of es) ≡ Some c → (0 < n) × (n ≤ count_by (is_update_of k) (calls_of es))
update_bounds es h k n c e = (positive, few)
  where
    positive : 0 < n
    positive = elim (cases_order n 0) [
      | inl z ↦ absurd (let g : None ≡ Some c = sym (no_update_zero es h k n z) ∙ e in cc)
      | inr (inl z) ↦ absurd (omega arith)
      | inr (inr z) ↦ z
    ]

    few : n ≤ count_by (is_update_of k) (calls_of es)
    few = elim (cases_order n (count_by (is_update_of k) (calls_of es))) [
      | inl z ↦ omega arith
      | inr (inl z) ↦ omega arith
      | inr (inr z) ↦ absurd (let g : None ≡ Some c = sym (update_beyond es h k n z) ∙ e in cc)
    ]
