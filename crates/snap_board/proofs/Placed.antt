-- A history that is regular by the places of its events is regular.
use Rattle.std.proofs.Common.{◌≡◌, ℕ, zero, suc, ◌+◌, ◌-◌, ◌<◌, Bool, true, false, cond, List, [], ◌∷◌, ◌++◌, append_assoc, length, Some, None, refl, sym, ap, ◌∙◌, subst, inl, inr, arith}
use Rattle.std.specs.Prelude.{◌==◌}
use Rattle.std.specs.List.{Contains}
use Rattle.std.proofs.lemmas.Bool.{false≢true, false_from_ne_true, eq-eqb}
use Rattle.std.proofs.lemmas.List.{length-append}
use mathlib.Core.Option.{some-injective, some-ne-none}
use Rattle.snap_core.specs.declared.entry.Entry.{Entry}
use Rattle.snap_core.specs.declared.event.Event.{Event}
use Rattle.snap_core.specs.declared.event.Event.TheVariants.{BeginUpdate, BeginView, EndUpdate, EndView}
use Rattle.snap_core.specs.Entries.{entry_of, number_in}
use Rattle.snap_core.specs.Events.{process_of, Ends, events_of, IsHistory}
use Rattle.snap_core.specs.Calls.{Call, Updates, Views, next_answer, answer_at, calls_from, calls_of, precedes, is_view, is_answer, entries_of, shown, shown_number}
use Rattle.snap_core.specs.Regular.{IsViewOf, IsUpdateOf, IsBegunBeforeEnd, IsRegular}
use Rattle.snap_core.proofs.Lists.{In, Contains-from_In}
use Rattle.snap_core.proofs.Facts.{precedes_to}
use Rattle.snap_core.proofs.Begun.{Next, nothing, found, next, ends_it, operation_at, call_at, Begun}
use Rattle.snap_core.proofs.Ends.{begun_of}
use Rattle.snap_core.proofs.Histories.{are_calls}
use Rattle.snap_board.specs.inside.Placed.{At, IsSpan, IsRegularByPlaces}

-- the element after a front
pub at_split : (xs : List Event) (x : Event) (ys : List Event) → At (xs ++ x ∷ ys) (length xs) x
at_split [] x ys = refl
at_split (z ∷ xs) x ys = at_split xs x ys

at_front : (xs ys : List Event) (l : ℕ) (e : Event) → l < length xs → At (xs ++ ys) l e → At xs l e
at_front [] ys l e lt a = absurd (omega arith)
at_front (x ∷ xs) ys zero e lt a = a
at_front (x ∷ xs) ys (suc l) e lt a = at_front xs ys l e (omega arith) a

at_back : (xs ys : List Event) (n l : ℕ) (e : Event) → n ≡ length xs + l → At (xs ++ ys) n e → At ys l e
at_back [] ys n l e q a = let same : n ≡ l = omega (arith, q) in subst (λ z. At ys z e) same a
at_back (x ∷ xs) ys zero l e q a = absurd (omega (arith, q))
at_back (x ∷ xs) ys (suc n) l e q a = at_back xs ys n l e (omega (arith, q)) a

-- a list without events of a process has none of it at any place
none_at : (p : ℕ) (xs : List Event) → events_of p xs ≡ [] → (l : ℕ) (e : Event) → At xs l e → process_of e ≡ p → ⊥
none_at p [] none l e a same = some-ne-none e (sym a)
none_at p (x ∷ xs) none l e a same = go (process_of x == p) refl none (none_at p xs) l a
  where
    go : (b : Bool) → (process_of x == p) ≡ b → cond b (x ∷ events_of p xs) (events_of p xs) ≡ []
        → (events_of p xs ≡ [] → (l : ℕ) (e : Event) → At xs l e → process_of e ≡ p → ⊥) → (l : ℕ) → At (x ∷ xs) l e → ⊥
    go true t n rest l a' = absurd (cc)
    go false t n rest zero a' = false≢true (sym t ∙ eq-eqb _ _ (ap process_of (some-injective _ _ a') ∙ same))
    go false t n rest (suc l) a' = rest n l e a' same

-- where a call begins and ends
pub record Spans (es : List Event) (c : Call) (place : ℕ) : Type 0 where
  pub begin : Event
  pub end : Event
  pub begins : At es c.begun begin
  pub ends : At es place end
  pub span : IsSpan es (process_of begin) c.begun place
  pub pair : Ends begin end
  pub process : process_of end ≡ process_of begin
  pub operation : c.operation ≡ operation_at begin (end ∷ [])

operation_by : (b x : Event) (mid rest : List Event) → process_of x ≡ process_of b → events_of (process_of b) mid ≡ [] → next_answer (process_of b) (mid ++ x ∷ rest) ≡ answer_at x → operation_at b (mid ++ x ∷ rest) ≡ operation_at b (x ∷ [])
operation_by (BeginUpdate p e) x mid rest same none answer = refl
operation_by (BeginView p) x mid rest same none answer = ap Views (answer ∙ sym (ap (λ b. cond b (answer_at x) None) (eq-eqb _ _ same)))
operation_by (EndUpdate p) x mid rest same none answer = refl
operation_by (EndView p s) x mid rest same none answer = refl

pub spans : (es : List Event) → IsHistory es → (c : Call) (place : ℕ) → Contains (calls_of es) c → c.ended ≡ Some place → Spans es c place
spans es h c place i e = at (next (process_of b.event) (suc c.begun) b.after)
  where
    b : Begun 0 0 es c
    b = begun_of es c i

    at : Next (process_of b.event) (suc c.begun) b.after → Spans es c place
    at (nothing x y z) = absurd (let g : None ≡ Some place = sym x ∙ sym (ap (λ (w : Call). w.ended) b.is) ∙ e in cc)
    at (found mid x rest split same none where_ answer) = record {
      begin = b.event;
      end = x;
      begins = subst (λ z. At es z b.event) (sym begun_is) (subst (λ z. At z (length b.before) b.event) (sym b.split) (at_split b.before b.event b.after));
      ends = subst (λ z. At es z x) (sym place_is) (subst (λ z. At z (length front) x) (sym whole) (at_split front x rest));
      span = record { order = omega (arith, begun_is, place_is, size); quiet = quiet };
      pair = ends_it es h.well_formed b.before mid rest b.event x (b.split ∙ ap (λ z. b.before ++ b.event ∷ z) split) b.opens same none;
      process = same;
      operation =
          ap (λ (w : Call). w.operation) b.is ∙ ap (λ z. operation_at b.event z) split
          ∙ operation_by b.event x mid rest same none (sym (ap (λ z. next_answer (process_of b.event) z) split) ∙ answer);
    }
      where
        front : List Event
        front = b.before ++ b.event ∷ mid

        whole : es ≡ front ++ x ∷ rest
        whole = b.split ∙ ap (λ z. b.before ++ b.event ∷ z) split ∙ sym (append_assoc b.before (b.event ∷ mid) (x ∷ rest))

        size : length front ≡ length b.before + suc (length mid)
        size = length-append b.before (b.event ∷ mid)

        begun_is : c.begun ≡ length b.before
        begun_is = omega (arith, b.at_place)

        place_is : place ≡ length front
        place_is =
            let g : Some place ≡ Some (suc c.begun + length mid) = sym e ∙ ap (λ (w : Call). w.ended) b.is ∙ where_ in
            let k : place ≡ suc c.begun + length mid = cc in
            omega (arith, k, begun_is, size)

        quiet : (l : ℕ) (e : Event) → c.begun < l → l < place → At es l e → process_of e ≡ process_of b.event → ⊥
        quiet l e lo hi a q =
            let m : ℕ = l - suc (length b.before) in
            let l_is : l ≡ length (b.before ++ b.event ∷ []) + m = let s = length-append b.before (b.event ∷ []) in omega (arith, s, begun_is) in
            let first : At (front ++ x ∷ rest) l e = subst (λ z. At z l e) whole a in
            let second : At front l e = at_front front (x ∷ rest) l e (omega (arith, place_is)) first in
            let third : At ((b.before ++ b.event ∷ []) ++ mid) l e = subst (λ z. At z l e) (sym (append_assoc b.before (b.event ∷ []) mid)) second in
            let fourth : At mid m e = at_back (b.before ++ b.event ∷ []) mid l m e l_is third in
            none_at (process_of b.event) mid none m e fourth q

-- a view's begin and end
pub record ViewSpan (es : List Event) (r : Call) (place : ℕ) : Type 0 where
  pub process : ℕ
  pub entries : List Entry
  pub begins : At es r.begun (BeginView process)
  pub ends : At es place (EndView process entries)
  pub span : IsSpan es process r.begun place
  pub shows : entries_of r.operation ≡ entries

pub view_span : (es : List Event) (r : Call) (place : ℕ) → is_view r ≡ true → Spans es r place → ViewSpan es r place
unfolding is_view
view_span es r place v s = go s.begin s.end refl refl s.pair
  where
    completed : is_answer (operation_at s.begin (s.end ∷ [])) ≡ true
    completed = sym (ap is_answer s.operation) ∙ v

    go : (b x : Event) → s.begin ≡ b → s.end ≡ x → Ends b x → ViewSpan es r place
    go (BeginUpdate p e) x i j t = absurd (let g : false ≡ true = sym (ap (λ z. is_answer (operation_at z (s.end ∷ []))) i) ∙ completed in false≢true g)
    go (BeginView p) (EndView q xs) i j t =
        let same : q ≡ p = sym (ap process_of j) ∙ s.process ∙ ap process_of i in
        let end_is : s.end ≡ EndView p xs = j ∙ ap (λ z. EndView z xs) same in
        record {
          process = p;
          entries = xs;
          begins = subst (At es r.begun) i s.begins;
          ends = subst (At es place) end_is s.ends;
          span = subst (λ z. IsSpan es z r.begun place) (ap process_of i) s.span;
          shows =
              ap entries_of (s.operation ∙ ap (λ z. operation_at z (s.end ∷ [])) i ∙ ap (λ z. operation_at (BeginView p) (z ∷ [])) end_is)
              ∙ ap (λ b. entries_of (Views (cond b (Some xs) None))) (eq-eqb p p refl);
        }
    go (BeginView p) (BeginUpdate q d) i j t = absurd t
    go (BeginView p) (BeginView q) i j t = absurd t
    go (BeginView p) (EndUpdate q) i j t = absurd t
    go (EndUpdate p) x i j t = absurd t
    go (EndView p xs) x i j t = absurd t

-- an update's begin and end
record UpdateSpan (es : List Event) (c : Call) (e : Entry) (place : ℕ) : Type 0 where
  process : ℕ
  begins : At es c.begun (BeginUpdate process e)
  ends : At es place (EndUpdate process)
  span : IsSpan es process c.begun place

update_span : (es : List Event) (c : Call) (e : Entry) (place : ℕ) → c.operation ≡ Updates e → Spans es c place → UpdateSpan es c e place
update_span es c e place w s = go s.begin s.end refl refl s.pair
  where
    writes : operation_at s.begin (s.end ∷ []) ≡ Updates e
    writes = sym s.operation ∙ w

    go : (b x : Event) → s.begin ≡ b → s.end ≡ x → Ends b x → UpdateSpan es c e place
    go (BeginUpdate p d) (EndUpdate q) i j t =
        let same : q ≡ p = sym (ap process_of j) ∙ s.process ∙ ap process_of i in
        let g : Updates d ≡ Updates e = sym (ap (λ z. operation_at z (s.end ∷ [])) i) ∙ writes in
        let entry : d ≡ e = cc in
        record {
          process = p;
          begins = subst (At es c.begun) (i ∙ ap (BeginUpdate p) entry) s.begins;
          ends = subst (At es place) (j ∙ ap EndUpdate same) s.ends;
          span = subst (λ z. IsSpan es z c.begun place) (ap process_of i) s.span;
        }
    go (BeginUpdate p d) (BeginUpdate q f) i j t = absurd t
    go (BeginUpdate p d) (BeginView q) i j t = absurd t
    go (BeginUpdate p d) (EndView q xs) i j t = absurd t
    go (BeginView p) x i j t = absurd (let g : operation_at (BeginView p) (s.end ∷ []) ≡ Updates e = sym (ap (λ z. operation_at z (s.end ∷ [])) i) ∙ writes in cc)
    go (EndUpdate p) x i j t = absurd t
    go (EndView p xs) x i j t = absurd t

-- the update that begins at a place
pub record UpdateAt (calls : List Call) (place : ℕ) (e : Entry) : Type 0 where
  pub call : Call
  pub there : In call calls
  pub writes : call.operation ≡ Updates e
  pub begins : call.begun ≡ place

pub update_at : (n place : ℕ) (es : List Event) (i q : ℕ) (e : Entry) → At es i (BeginUpdate q e) → UpdateAt (calls_from n place es) (place + i) e
update_at n place [] i q e a = absurd (some-ne-none (BeginUpdate q e) (sym a))
update_at n place (x ∷ es) zero q e a = subst (λ z. UpdateAt (calls_from n place (z ∷ es)) (place + 0) e) (sym (some-injective _ _ a))
    record { call = call_at n place (BeginUpdate q e) es; there = inl refl; writes = refl; begins = omega arith }
update_at n place (BeginUpdate p d ∷ es) (suc i) q e a =
    let r = update_at (suc n) (suc place) es i q e a in record { call = r.call; there = inr r.there; writes = r.writes; begins = omega (arith, r.begins) }
update_at n place (BeginView p ∷ es) (suc i) q e a =
    let r = update_at (suc n) (suc place) es i q e a in record { call = r.call; there = inr r.there; writes = r.writes; begins = omega (arith, r.begins) }
update_at n place (EndUpdate p ∷ es) (suc i) q e a =
    let r = update_at n (suc place) es i q e a in record { call = r.call; there = r.there; writes = r.writes; begins = omega (arith, r.begins) }
update_at n place (EndView p s ∷ es) (suc i) q e a =
    let r = update_at n (suc place) es i q e a in record { call = r.call; there = r.there; writes = r.writes; begins = omega (arith, r.begins) }

not_old_part : (es : List Event) → IsHistory es → IsRegularByPlaces es → (r c : Call) (e : Entry) → IsViewOf (calls_of es) r → IsUpdateOf (calls_of es) c e → shown_number r e.component < e.number → precedes c r ≡ false
unfolding shown_number shown
not_old_part es h g r c e v u less = false_from_ne_true (precedes c r) before
  where
    before : precedes c r ≡ true → ⊥
    before t =
        let p = precedes_to c r t in
        let a = (are_calls es h).answered r v in
        let s = view_span es r a.place v.completed (spans es h r a.place v.there a.ends) in
        let w = update_span es c e p.place u.writes (spans es h c p.place u.there p.ends) in
        g.fresh r.begun a.place s.process s.entries s.begins s.ends s.span c.begun p.place w.process e w.begins w.ends w.span
        (subst (λ xs. number_in (entry_of e.component xs) < e.number) s.shows less) p.before

not_early_part : (es : List Event) → IsHistory es → IsRegularByPlaces es → (r : Call) (k : ℕ) (e : Entry) → IsViewOf (calls_of es) r → shown r k ≡ Some e → (c : Call) × IsUpdateOf (calls_of es) c e × IsBegunBeforeEnd c r
unfolding shown calls_of
not_early_part es h g r k e v is =
    let a = (are_calls es h).answered r v in
    let s = view_span es r a.place v.completed (spans es h r a.place v.there a.ends) in
    let w = g.real r.begun a.place s.process s.entries s.begins s.ends s.span k e (subst (λ xs. entry_of k xs ≡ Some e) s.shows is) in
    let c = update_at 0 0 es w.0 w.1 e w.2 in (
      c.call,
      record { there = Contains-from_In (calls_from 0 0 es) c.call c.there; writes = c.writes },
      record { place = a.place; ends = a.ends; before = omega (arith, c.begins, w.3) },
    )

pub regular_by_places : (es : List Event) → IsHistory es → IsRegularByPlaces es → IsRegular (calls_of es)
regular_by_places es h g = record { not_old = not_old_part es h g; not_early = not_early_part es h g }
