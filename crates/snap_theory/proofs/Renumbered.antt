-- The calls of a renumbered history, and what its views show.
use Rattle.std.proofs.Common.{◌≡◌, ℕ, suc, ◌-◌, ◌<◌, Bool, true, false, cond, List, [], ◌∷◌, map, Option, Some, None, refl, sym, ap, ◌∙◌, inl, inr, arith, nat_lt}
use Rattle.std.specs.Prelude.{◌==◌, filter}
use Rattle.std.proofs.lemmas.Bool.{ltb-true, ltb-false, eqb-true, ne_eqb, and_parts}
use Rattle.snap_core.specs.declared.entry.Entry.{Entry}
use Rattle.snap_core.specs.declared.event.Event.{Event}
use Rattle.snap_core.specs.declared.event.Event.TheVariants.{BeginUpdate, BeginView, EndUpdate, EndView}
use Rattle.snap_core.specs.Entries.{number_in, rises, entry_of}
use Rattle.snap_core.specs.Events.{process_of, EventFits}
use Rattle.snap_core.specs.Calls.{Call, Operation, Updates, Views, next_place, next_answer, answer_at, calls_from, calls_of, precedes, is_view, is_answer, shown, shown_number, entries_of}
use Rattle.snap_core.specs.Orders.{is_completed, is_update, is_writing}
use Rattle.snap_core.proofs.Lists.{In}
use Rattle.snap_core.proofs.Facts.{shown_in}
use Rattle.snap_theory.specs.Renumbered.{renumbered_entry, is_later, renumbered_entries, renumbered_event, renumbered}
use Rattle.snap_theory.proofs.Images.{IsImage}
use Rattle.snap_theory.proofs.Moved.{of_one_number}

abbrev answer_by : (ℕ → Option Entry) → Option (List Entry) → Option (List Entry)
answer_by left None = None
answer_by left (Some es) = Some (renumbered_entries left es)

abbrev pub operation_by : (ℕ → Option Entry) → Operation → Operation
operation_by left (Updates e) = Updates (renumbered_entry left e)
operation_by left (Views answer) = Views (answer_by left answer)

abbrev pub call_by : (ℕ → Option Entry) → Call → Call
call_by left c = record { number = c.number; process = c.process; operation = operation_by left c.operation; begun = c.begun; ended = c.ended }

pub process_same : (left : ℕ → Option Entry) (x : Event) → process_of (renumbered_event left x) ≡ process_of x
process_same left (BeginUpdate p e) = refl
process_same left (BeginView p) = refl
process_same left (EndUpdate p) = refl
process_same left (EndView p es) = refl

answer_same : (left : ℕ → Option Entry) (x : Event) → answer_at (renumbered_event left x) ≡ answer_by left (answer_at x)
answer_same left (BeginUpdate p e) = refl
answer_same left (BeginView p) = refl
answer_same left (EndUpdate p) = refl
answer_same left (EndView p es) = refl

next_place_same : (left : ℕ → Option Entry) (p place : ℕ) (es : List Event) → next_place p place (renumbered left es) ≡ next_place p place es
next_place_same left p place [] = refl
next_place_same left p place (x ∷ es) =
    ap (λ z. cond (z == p) (Some place) (next_place p (suc place) (renumbered left es))) (process_same left x)
    ∙ ap (λ z. cond (process_of x == p) (Some place) z) (next_place_same left p (suc place) es)

next_answer_same : (left : ℕ → Option Entry) (p : ℕ) (es : List Event) → next_answer p (renumbered left es) ≡ answer_by left (next_answer p es)
next_answer_same left p [] = refl
next_answer_same left p (x ∷ es) =
    ap (λ z. cond (z == p) (answer_at (renumbered_event left x)) (next_answer p (renumbered left es))) (process_same left x)
    ∙ go (process_of x == p) (next_answer_same left p es)
  where
    go : (b : Bool) → next_answer p (renumbered left es) ≡ answer_by left (next_answer p es) → cond b (answer_at (renumbered_event left x)) (next_answer p (renumbered left es)) ≡ answer_by left (cond b (answer_at x) (next_answer p es))
    go true h = answer_same left x
    go false h = h

calls_from_by : (left : ℕ → Option Entry) (n place : ℕ) (es : List Event) → calls_from n place (renumbered left es) ≡ map (call_by left) (calls_from n place es)
calls_from_by left n place [] = refl
calls_from_by left n place (BeginUpdate p e ∷ es) =
    let head : Option ℕ → Call = λ z. record { number = n; process = p; operation = Updates (renumbered_entry left e); begun = place; ended = z } in
    ap (λ z. head z ∷ calls_from (suc n) (suc place) (renumbered left es)) (next_place_same left p (suc place) es)
    ∙ ap (λ z. head (next_place p (suc place) es) ∷ z) (calls_from_by left (suc n) (suc place) es)
calls_from_by left n place (BeginView p ∷ es) =
    let head : Option (List Entry) → Option ℕ → Call = λ y z. record { number = n; process = p; operation = Views y; begun = place; ended = z } in
    ap (λ y. head y (next_place p (suc place) (renumbered left es)) ∷ calls_from (suc n) (suc place) (renumbered left es)) (next_answer_same left p es)
    ∙ ap (λ z. head (answer_by left (next_answer p es)) z ∷ calls_from (suc n) (suc place) (renumbered left es)) (next_place_same left p (suc place) es)
    ∙ ap (λ z. head (answer_by left (next_answer p es)) (next_place p (suc place) es) ∷ z) (calls_from_by left (suc n) (suc place) es)
calls_from_by left n place (EndUpdate p ∷ es) = calls_from_by left n (suc place) es
calls_from_by left n place (EndView p s ∷ es) = calls_from_by left n (suc place) es

pub calls_by : (left : ℕ → Option Entry) (es : List Event) → calls_of (renumbered left es) ≡ map (call_by left) (calls_of es)
unfolding calls_of
calls_by left es = calls_from_by left 0 0 es

-- each entry of a view in its renumbered form, where one is left of it
abbrev pub lowered : (ℕ → Option Entry) → Option Entry → Option Entry
lowered left None = None
lowered left (Some e) = cond (is_later left e) (Some (renumbered_entry left e)) None

-- entries after one that rises are of greater components
above : (d e : Entry) (es : List Entry) → rises (e ∷ es) ≡ true → In d es → e.component < d.component
above d e [] h i = absurd i
above d e (x ∷ es) h (inl s) = let p = and_parts (nat_lt e.component x.component) (rises (x ∷ es)) h in omega (arith, ltb-true e.component x.component p.0, ap (λ (z : Entry). z.component) s)
above d e (x ∷ es) h (inr i) = let p = and_parts (nat_lt e.component x.component) (rises (x ∷ es)) h in omega (arith, ltb-true e.component x.component p.0, above d x es p.1 i)

pub rises_tail : (e : Entry) (es : List Entry) → rises (e ∷ es) ≡ true → rises es ≡ true
rises_tail e [] h = refl
rises_tail e (x ∷ es) h = (and_parts (nat_lt e.component x.component) (rises (x ∷ es)) h).1

entry_none : (left : ℕ → Option Entry) (k : ℕ) (es : List Entry) → ((d : Entry) → In d es → d.component ≡ k → ⊥) → entry_of k (renumbered_entries left es) ≡ None
entry_none left k [] h = refl
entry_none left k (e ∷ es) h = go (is_later left e) (entry_none left k es (λ d i. h d (inr i)))
  where
    go : (b : Bool) → entry_of k (renumbered_entries left es) ≡ None → entry_of k (map (renumbered_entry left) (cond b (e ∷ filter (is_later left) es) (filter (is_later left) es))) ≡ None
    go true r = ap (λ z. cond z (Some (renumbered_entry left e)) (entry_of k (renumbered_entries left es))) (ne_eqb e.component k (h e (inl refl))) ∙ r
    go false r = r

entry_lowered : (left : ℕ → Option Entry) (k : ℕ) (es : List Entry) → rises es ≡ true → entry_of k (renumbered_entries left es) ≡ lowered left (entry_of k es)
entry_lowered left k [] h = refl
entry_lowered left k (e ∷ es) h = go (e.component == k) refl (is_later left e) refl (entry_lowered left k es (rises_tail e es h))
  where
    go : (b : Bool) → (e.component == k) ≡ b → (l : Bool) → is_later left e ≡ l → entry_of k (renumbered_entries left es) ≡ lowered left (entry_of k es)
        → entry_of k (map (renumbered_entry left) (cond l (e ∷ filter (is_later left) es) (filter (is_later left) es))) ≡ lowered left (cond b (Some e) (entry_of k es))
    go true t true u r = ap (λ z. cond z (Some (renumbered_entry left e)) (entry_of k (renumbered_entries left es))) t ∙ sym (ap (λ z. cond z (Some (renumbered_entry left e)) None) u)
    go true t false u r = entry_none left k es (λ d i s. omega (arith, above d e es h i, s, eqb-true e.component k t)) ∙ sym (ap (λ z. cond z (Some (renumbered_entry left e)) None) u)
    go false t true u r = ap (λ z. cond z (Some (renumbered_entry left e)) (entry_of k (renumbered_entries left es))) t ∙ r
    go false t false u r = r

operation_lowered : (left : ℕ → Option Entry) (k : ℕ) (o : Operation) → rises (entries_of o) ≡ true → entry_of k (entries_of (operation_by left o)) ≡ lowered left (entry_of k (entries_of o))
operation_lowered left k (Updates e) h = refl
operation_lowered left k (Views None) h = refl
operation_lowered left k (Views (Some es)) h = entry_lowered left k es h

-- the entries of a view rise
abbrev pub Rises : Call → Type 0
Rises r = rises (entries_of r.operation) ≡ true

pub shown_by : (left : ℕ → Option Entry) (r : Call) (k : ℕ) → Rises r → shown (call_by left r) k ≡ lowered left (shown r k)
unfolding shown
shown_by left r k h = operation_lowered left k r.operation h

pub number_by : (left : ℕ → Option Entry) (r : Call) (k : ℕ) → Rises r → shown_number (call_by left r) k ≡ shown_number r k - number_in (left k)
unfolding shown_number
number_by left r k h = go (shown r k) refl
  where
    at : (e : Entry) → e.component ≡ k → (b : Bool) → is_later left e ≡ b → number_in (cond b (Some (renumbered_entry left e)) None) ≡ e.number - number_in (left k)
    at e c true l = ap (λ z. e.number - number_in (left z)) c
    at e c false l = omega (arith, ltb-false (number_in (left e.component)) e.number l, ap (λ z. number_in (left z)) c)

    go : (o : Option Entry) → shown r k ≡ o → number_in (shown (call_by left r) k) ≡ number_in (shown r k) - number_in (left k)
    go None e = ap number_in (shown_by left r k h ∙ ap (lowered left) e) ∙ (let z : 0 ≡ 0 - number_in (left k) = omega arith in z) ∙ ap (λ z. number_in z - number_in (left k)) (sym e)
    go (Some d) e = ap number_in (shown_by left r k h ∙ ap (lowered left) e) ∙ at d (shown_in r k d e).1 (is_later left d) refl ∙ ap (λ z. number_in z - number_in (left k)) (sym e)

-- the answers of a list of events rise
answer_rises : (es : List Event) → ((x : Event) → In x es → EventFits x) → (p : ℕ) (s : List Entry) → next_answer p es ≡ Some s → rises s ≡ true
answer_rises [] h p s e = absurd (let g : None ≡ Some s = e in cc)
answer_rises (x ∷ es) h p s e = go (process_of x == p) e (answer_rises es (λ y i. h y (inr i)) p s)
  where
    at : (y : Event) → EventFits y → answer_at y ≡ Some s → rises s ≡ true
    at (BeginUpdate q d) f g = absurd (let c : None ≡ Some s = g in cc)
    at (BeginView q) f g = absurd (let c : None ≡ Some s = g in cc)
    at (EndUpdate q) f g = absurd (let c : None ≡ Some s = g in cc)
    at (EndView q d) f g = let c : Some d ≡ Some s = g in let same : d ≡ s = cc in ap rises (sym same) ∙ f.1.rising

    go : (b : Bool) → cond b (answer_at x) (next_answer p es) ≡ Some s → (next_answer p es ≡ Some s → rises s ≡ true) → rises s ≡ true
    go true g rest = at x (h x (inl refl)) g
    go false g rest = rest g

calls_rise : (n place : ℕ) (es : List Event) → ((x : Event) → In x es → EventFits x) → (c : Call) → In c (calls_from n place es) → Rises c
calls_rise n place [] h c i = absurd i
calls_rise n place (BeginUpdate p e ∷ es) h c (inl s) = ap (λ (z : Call). rises (entries_of z.operation)) (sym s)
calls_rise n place (BeginUpdate p e ∷ es) h c (inr i) = calls_rise (suc n) (suc place) es (λ x j. h x (inr j)) c i
calls_rise n place (BeginView p ∷ es) h c (inl s) = ap (λ (z : Call). rises (entries_of z.operation)) (sym s) ∙ go (next_answer p es) refl
  where
    go : (o : Option (List Entry)) → next_answer p es ≡ o → rises (entries_of (Views o)) ≡ true
    go None e = refl
    go (Some s) e = answer_rises es (λ x j. h x (inr j)) p s e
calls_rise n place (BeginView p ∷ es) h c (inr i) = calls_rise (suc n) (suc place) es (λ x j. h x (inr j)) c i
calls_rise n place (EndUpdate p ∷ es) h c i = calls_rise n (suc place) es (λ x j. h x (inr j)) c i
calls_rise n place (EndView p s ∷ es) h c i = calls_rise n (suc place) es (λ x j. h x (inr j)) c i

pub views_rise : (es : List Event) → ((x : Event) → In x es → EventFits x) → (c : Call) → In c (calls_of es) → Rises c
unfolding calls_of
views_rise es h c i = calls_rise 0 0 es h c i

-- what renumbering keeps

pub by_view : (left : ℕ → Option Entry) (c : Call) → is_view (call_by left c) ≡ is_view c
unfolding is_view
by_view left c = go c.operation
  where
    go : (o : Operation) → is_answer (operation_by left o) ≡ is_answer o
    go (Updates e) = refl
    go (Views None) = refl
    go (Views (Some es)) = refl

by_update : (left : ℕ → Option Entry) (c : Call) → is_update (call_by left c) ≡ is_update c
unfolding is_update
by_update left c = go c.operation
  where
    go : (o : Operation) → is_writing (operation_by left o) ≡ is_writing o
    go (Updates e) = refl
    go (Views answer) = refl

by_completed : (left : ℕ → Option Entry) (c : Call) → is_completed (call_by left c) ≡ is_completed c
unfolding is_completed
by_completed left c = refl

pub by_precedes : (left : ℕ → Option Entry) (a b : Call) → precedes (call_by left a) (call_by left b) ≡ precedes a b
unfolding precedes
by_precedes left a b = refl

pub image_by : (left : ℕ → Option Entry) (es : List Event) → IsImage (call_by left) (calls_of es)
image_by left es = record {
  completed = by_completed left;
  update = by_update left;
  view = by_view left;
  precedence = λ a b i j. by_precedes left a b;
  apart = λ a b i j e. of_one_number es a b i j (ap (λ (z : Call). z.number) e);
}

-- an update, renumbered and back

pub record UpdateBy (left : ℕ → Option Entry) (c : Call) (e : Entry) : Type 0 where
  pub entry : Entry
  pub writes : c.operation ≡ Updates entry
  pub is : renumbered_entry left entry ≡ e

pub update_by : (left : ℕ → Option Entry) (c : Call) (e : Entry) → (call_by left c).operation ≡ Updates e → UpdateBy left c e
update_by left c e h = go c.operation refl h
  where
    go : (o : Operation) → c.operation ≡ o → operation_by left o ≡ Updates e → UpdateBy left c e
    go (Updates d) s g = record { entry = d; writes = s; is = cc }
    go (Views answer) s g = absurd (cc)
