-- What one event more makes of the updates of a list of events.
use Rattle.std.proofs.Common.{◌≡◌, ◌⊎◌, ℕ, suc, ◌+◌, ◌<◌, Bool, true, false, cond, List, [], ◌∷◌, ◌++◌, append_assoc, length, Option, Some, None, refl, sym, ap, ◌∙◌, subst, inl, inr, arith}
use Rattle.std.specs.Prelude.{◌==◌}
use Rattle.std.proofs.lemmas.Bool.{eqb-true, eq-eqb}
use Rattle.std.proofs.lemmas.List.{length-append}
use Rattle.std.proofs.lemmas.List.Elements.{filter-append}
use Rattle.snap_core.specs.declared.entry.Entry.{Entry}
use Rattle.snap_core.specs.Events.{Event, BeginUpdate, BeginView, EndUpdate, EndView, process_of, IsBegin, Ends, events_of, IsWellFormed}
use Rattle.snap_core.specs.Calls.{Call, next_place, calls_from, calls_of}
use Rattle.snap_core.specs.Refusals.{last_event}
use Rattle.snap_core.specs.Regular.{IsUpdateOf}
use Rattle.snap_core.proofs.Lists.{In, Contains-from_In}
use Rattle.snap_core.proofs.Begun.{Compared, alike, first, second, compare_splits, Next, nothing, found, next, no_event, ends_it, begins, operation_at, call_at, call_placed, Begun, update_event}
use Rattle.snap_core.proofs.Ends.{begun_of}
use Rattle.snap_core.proofs.Pushes.{nil_split, last_of, last_is, last_of_push}

-- the place of a process's next event, with one event more
place_kept : (p place : ℕ) (ys : List Event) (x : Event) (n : ℕ) → next_place p place ys ≡ Some n → next_place p place (ys ++ x ∷ []) ≡ Some n
place_kept p place [] x n h = absurd (cc)
place_kept p place (y ∷ ys) x n h = go (process_of y == p) refl h (place_kept p (suc place) ys x n)
  where
    go : (b : Bool) → (process_of y == p) ≡ b → next_place p place (y ∷ ys) ≡ Some n → (next_place p (suc place) ys ≡ Some n → next_place p (suc place) (ys ++ x ∷ []) ≡ Some n) → next_place p place (y ∷ ys ++ x ∷ []) ≡ Some n
    go true t e rest =
        ap (λ b. cond b (Some place) (next_place p (suc place) (ys ++ x ∷ []))) t
        ∙ sym (ap (λ b. cond b (Some place) (next_place p (suc place) ys)) t) ∙ e
    go false t e rest =
        ap (λ b. cond b (Some place) (next_place p (suc place) (ys ++ x ∷ []))) t
        ∙ rest (sym (ap (λ b. cond b (Some place) (next_place p (suc place) ys)) t) ∙ e)

place_new : (p place : ℕ) (ys : List Event) (x : Event) → next_place p place ys ≡ None → next_place p place (ys ++ x ∷ []) ≡ cond (process_of x == p) (Some (place + length ys)) None
place_new p place [] x h = let e : place ≡ place + 0 = omega arith in ap (λ n. cond (process_of x == p) (Some n) None) e
place_new p place (y ∷ ys) x h = go (process_of y == p) refl h (place_new p (suc place) ys x)
  where
    go : (b : Bool) → (process_of y == p) ≡ b → next_place p place (y ∷ ys) ≡ None → (next_place p (suc place) ys ≡ None → next_place p (suc place) (ys ++ x ∷ []) ≡ cond (process_of x == p) (Some (suc place + length ys)) None) → next_place p place (y ∷ ys ++ x ∷ []) ≡ cond (process_of x == p) (Some (place + suc (length ys))) None
    go true t e rest = absurd (let g : Some place ≡ None = sym (ap (λ b. cond b (Some place) (next_place p (suc place) ys)) t) ∙ e in cc)
    go false t e rest =
        let n : suc place + length ys ≡ place + suc (length ys) = omega arith in
        ap (λ b. cond b (Some place) (next_place p (suc place) (ys ++ x ∷ []))) t
        ∙ rest (sym (ap (λ b. cond b (Some place) (next_place p (suc place) ys)) t) ∙ e)
        ∙ ap (λ n. cond (process_of x == p) (Some n) None) n

-- the last event of a process, if it has none after this one
pub last_at : (p : ℕ) (before : List Event) (y : Event) (mid : List Event) → process_of y ≡ p → events_of p mid ≡ [] → last_event p None (before ++ y ∷ mid) ≡ Some y
last_at p before y mid same none =
    last_is p None (before ++ y ∷ mid)
    ∙ ap (last_of None) (filter-append (λ e. process_of e == p) before (y ∷ mid) ∙ ap (λ b. events_of p before ++ cond b (y ∷ events_of p mid) (events_of p mid)) (eq-eqb _ _ same) ∙ ap (λ z. events_of p before ++ y ∷ z) none)
    ∙ last_of_push None (events_of p before) y

-- where the last event of a process stands
pub record LastAt (p : ℕ) (es : List Event) (y : Event) : Type 0 where
  pub before : List Event
  pub after : List Event
  pub split : es ≡ before ++ y ∷ after
  pub process : process_of y ≡ p
  pub none : events_of p after ≡ []

-- the last event of a process stands in the list, or before it
from_last : (p : ℕ) (o : Option Event) (es : List Event) (y : Event) → last_event p o es ≡ Some y → LastAt p es y ⊎ ((o ≡ Some y) × (events_of p es ≡ []))
from_last p o [] y e = inr (e, refl)
from_last p o (z ∷ es) y e = go (process_of z == p) refl e (from_last p (Some z) es y) (from_last p o es y)
  where
    later : LastAt p es y → LastAt p (z ∷ es) y
    later r = record { before = z ∷ r.before; after = r.after; split = ap (λ w. z ∷ w) r.split; process = r.process; none = r.none }

    go : (b : Bool) → (process_of z == p) ≡ b → last_event p (cond (process_of z == p) (Some z) o) es ≡ Some y →
        (last_event p (Some z) es ≡ Some y → LastAt p es y ⊎ ((Some z ≡ Some y) × (events_of p es ≡ []))) →
        (last_event p o es ≡ Some y → LastAt p es y ⊎ ((o ≡ Some y) × (events_of p es ≡ []))) → LastAt p (z ∷ es) y ⊎ ((o ≡ Some y) × (events_of p (z ∷ es) ≡ []))
    go true t g here rest = elim (here (sym (ap (λ b. last_event p (cond b (Some z) o) es) t) ∙ g)) [
      | inl r ↦ inl (later r)
      | inr r ↦ let same : z ≡ y = let q = r.0 in cc in inl (record { before = []; after = es; split = ap (λ w. w ∷ es) same; process = ap process_of (sym same) ∙ eqb-true _ _ t; none = r.1 })
    ]
    go false t g here rest = elim (rest (sym (ap (λ b. last_event p (cond b (Some z) o) es) t) ∙ g)) [
      | inl r ↦ inl (later r)
      | inr r ↦ inr (r.0, ap (λ b. cond b (z ∷ events_of p es) (events_of p es)) t ∙ r.1)
    ]

pub last_split : (p : ℕ) (es : List Event) (y : Event) → last_event p None es ≡ Some y → LastAt p es y
last_split p es y h = elim (from_last p None es y h) [
  | inl r ↦ r
  | inr r ↦ absurd (let g = r.0 in cc)
]

-- an update of the longer list: it begins with the last event, or it was there, and ends as it did or with the last event
pub data Pushed (es : List Event) (x : Event) (c : Call) (e : Entry) : Type 0 where
  begins_now : (p : ℕ) → x ≡ BeginUpdate p e → c.begun ≡ length es → c.ended ≡ None → Pushed es x c e
  as_before : (d : Call) → IsUpdateOf (calls_of es) d e → c.begun < length es → c.ended ≡ d.ended → Pushed es x c e
  ends_now : (d : Call) → IsUpdateOf (calls_of es) d e → c.begun < length es → d.ended ≡ None → c.ended ≡ Some (length es) → (p : ℕ) → x ≡ EndUpdate p → last_event p None es ≡ Some (BeginUpdate p e) → Pushed es x c e

-- what ends an update
ends_update : (p : ℕ) (e : Entry) (x : Event) → Ends (BeginUpdate p e) x → x ≡ EndUpdate (process_of x)
ends_update p e (BeginUpdate q d) h = absurd h
ends_update p e (BeginView q) h = absurd h
ends_update p e (EndUpdate q) h = refl
ends_update p e (EndView q s) h = absurd h

call_in : (es before mid : List Event) (m spot : ℕ) (y : Event) → es ≡ before ++ y ∷ mid → IsBegin y → m ≡ begins before → spot ≡ length before → In (call_at m spot y mid) (calls_of es)
unfolding calls_of
call_in es before mid m spot y s i a b = subst (λ z. In (call_at m spot y mid) (calls_from 0 0 z)) (sym s) (call_placed 0 0 m spot before y mid i (omega (arith, a)) (omega (arith, b)))

pub pushed : (es : List Event) (x : Event) → IsWellFormed (es ++ x ∷ []) → (c : Call) (e : Entry) → IsUpdateOf (calls_of (es ++ x ∷ [])) c e → Pushed es x c e
pushed es x w c e u = go (compare_splits es x [] b.before b.event b.after b.split)
  where
    b : Begun 0 0 (es ++ x ∷ []) c
    b = begun_of (es ++ x ∷ []) c u.there

    is : b.event ≡ BeginUpdate (process_of b.event) e
    is = update_event b.event b.after e (sym (ap (λ (z : Call). z.operation) b.is) ∙ u.writes)

    p : ℕ
    p = process_of b.event

    ended : c.ended ≡ next_place p (suc c.begun) b.after
    ended = ap (λ (z : Call). z.ended) b.is

    old : (mid : List Event) → es ≡ b.before ++ b.event ∷ mid → b.after ≡ mid ++ x ∷ [] → Pushed es x c e
    old mid s t = at (next p (suc c.begun) mid)
      where
        d : Call
        d = call_at c.number c.begun b.event mid

        there : IsUpdateOf (calls_of es) d e
        there = record {
          there = Contains-from_In (calls_of es) d (call_in es b.before mid c.number c.begun b.event s b.opens (omega (arith, b.at_number)) (omega (arith, b.at_place)));
          writes = ap (λ z. operation_at z mid) is;
        }

        before : c.begun < length es
        before = omega (arith, b.at_place, ap length s ∙ length-append b.before (b.event ∷ mid))

        at : Next p (suc c.begun) mid → Pushed es x c e
        at (found m y rest r q n f a) = as_before d there before (ended ∙ ap (next_place p (suc c.begun)) t ∙ place_kept p (suc c.begun) mid x _ f ∙ sym f)
        at (nothing f n a) = last (process_of x == p) refl
          where
            now : c.ended ≡ cond (process_of x == p) (Some (suc c.begun + length mid)) None
            now = ended ∙ ap (next_place p (suc c.begun)) t ∙ place_new p (suc c.begun) mid x f

            last : (same : Bool) → (process_of x == p) ≡ same → Pushed es x c e
            last false g = as_before d there before (now ∙ ap (λ z. cond z (Some (suc c.begun + length mid)) None) g ∙ sym f)
            last true g =
                let same = eqb-true _ _ g in
                let ends = ends_it (es ++ x ∷ []) w b.before mid [] b.event x (b.split ∙ ap (λ z. b.before ++ b.event ∷ z) t) b.opens same n in
                let now_is = ends_update p e x (subst (λ z. Ends z x) is ends) in
                let place : suc c.begun + length mid ≡ length es = omega (arith, b.at_place, ap length s ∙ length-append b.before (b.event ∷ mid)) in
                ends_now d there before f (now ∙ ap (λ z. cond z (Some (suc c.begun + length mid)) None) g ∙ ap Some place) p (now_is ∙ ap EndUpdate same)
                (ap (last_event p None) s ∙ last_at p b.before b.event mid refl n ∙ ap Some is)

    go : Compared es x [] b.before b.event b.after → Pushed es x c e
    go (alike s t r) = begins_now p (t ∙ is) (omega (arith, b.at_place, ap length s)) (ended ∙ ap (next_place p (suc c.begun)) (sym r))
    go (first mid s t) = absurd (nil_split mid b.event b.after t)
    go (second mid s t) = old mid s t

-- an update of the shorter list is one of the longer one: it ends as it did, or with the last event
pub record Stays (es : List Event) (x : Event) (d : Call) (e : Entry) : Type 0 where
  pub call : Call
  pub update : IsUpdateOf (calls_of (es ++ x ∷ [])) call e
  pub ends : (call.ended ≡ d.ended) ⊎ ((d.ended ≡ None) × (call.ended ≡ Some (length es)))

pub stays : (es : List Event) (x : Event) (d : Call) (e : Entry) → IsUpdateOf (calls_of es) d e → Stays es x d e
stays es x d e u = record {
  call = c;
  update = record {
    there = Contains-from_In (calls_of (es ++ x ∷ [])) c (call_in (es ++ x ∷ []) b.before (b.after ++ x ∷ []) d.number d.begun b.event split b.opens (omega (arith, b.at_number)) (omega (arith, b.at_place)));
    writes = ap (λ z. operation_at z (b.after ++ x ∷ [])) is;
  };
  ends = at (next p (suc d.begun) b.after);
}
  where
    b : Begun 0 0 es d
    b = begun_of es d u.there

    p : ℕ
    p = process_of b.event

    is : b.event ≡ BeginUpdate p e
    is = update_event b.event b.after e (sym (ap (λ (z : Call). z.operation) b.is) ∙ u.writes)

    c : Call
    c = call_at d.number d.begun b.event (b.after ++ x ∷ [])

    split : es ++ x ∷ [] ≡ b.before ++ b.event ∷ (b.after ++ x ∷ [])
    split = ap (λ z. z ++ x ∷ []) b.split ∙ append_assoc b.before (b.event ∷ b.after) (x ∷ [])

    ended : d.ended ≡ next_place p (suc d.begun) b.after
    ended = ap (λ (z : Call). z.ended) b.is

    at : Next p (suc d.begun) b.after → (c.ended ≡ d.ended) ⊎ ((d.ended ≡ None) × (c.ended ≡ Some (length es)))
    at (found m y rest r q n f a) = inl (place_kept p (suc d.begun) b.after x _ f ∙ sym f ∙ sym ended)
    at (nothing f n a) = last (process_of x == p) refl
      where
        now : c.ended ≡ cond (process_of x == p) (Some (suc d.begun + length b.after)) None
        now = place_new p (suc d.begun) b.after x f

        last : (same : Bool) → (process_of x == p) ≡ same → (c.ended ≡ d.ended) ⊎ ((d.ended ≡ None) × (c.ended ≡ Some (length es)))
        last false g = inl (now ∙ ap (λ z. cond z (Some (suc d.begun + length b.after)) None) g ∙ sym f ∙ sym ended)
        last true g =
            let place : suc d.begun + length b.after ≡ length es = omega (arith, b.at_place, ap length b.split ∙ length-append b.before (b.event ∷ b.after)) in
            inr (ended ∙ f, now ∙ ap (λ z. cond z (Some (suc d.begun + length b.after)) None) g ∙ ap Some place)

-- the update that the last event of a process begins is open, and ends with the next event of the process
pub record OpenUpdate (es : List Event) (x : Event) (e : Entry) : Type 0 where
  pub call : Call
  pub update : IsUpdateOf (calls_of es) call e
  pub pending : call.ended ≡ None
  pub later : Call
  pub ended : IsUpdateOf (calls_of (es ++ x ∷ [])) later e
  pub ends : later.ended ≡ Some (length es)

pub open_update : (es : List Event) (x : Event) (p q : ℕ) (e : Entry) → process_of x ≡ p → last_event p None es ≡ Some (BeginUpdate q e) → OpenUpdate es x e
open_update es x p q e same h =
    let l = last_split p es (BeginUpdate q e) h in
    let y = BeginUpdate q e in
    let d = call_at (begins l.before) (length l.before) y l.after in
    let c = call_at (begins l.before) (length l.before) y (l.after ++ x ∷ []) in
    let split : es ++ x ∷ [] ≡ l.before ++ y ∷ (l.after ++ x ∷ []) = ap (λ z. z ++ x ∷ []) l.split ∙ append_assoc l.before (y ∷ l.after) (x ∷ []) in
    let none = none_next q (suc (length l.before)) l.after (subst (λ z. events_of z l.after ≡ []) (sym l.process) l.none) in
    let place : suc (length l.before) + length l.after ≡ length es = omega (arith, ap length l.split ∙ length-append l.before (y ∷ l.after)) in
    record {
      call = d;
      update = record { there = Contains-from_In (calls_of es) d (call_in es l.before l.after (begins l.before) (length l.before) y l.split tt refl refl); writes = refl };
      pending = none;
      later = c;
      ended = record { there = Contains-from_In (calls_of (es ++ x ∷ [])) c (call_in (es ++ x ∷ []) l.before (l.after ++ x ∷ []) (begins l.before) (length l.before) y split tt refl refl); writes = refl };
      ends = place_new q (suc (length l.before)) l.after x none ∙ ap (λ z. cond z (Some (suc (length l.before) + length l.after)) None) (eq-eqb _ _ (same ∙ sym l.process)) ∙ ap Some place;
    }
  where
    none_next : (p place : ℕ) (ys : List Event) → events_of p ys ≡ [] → next_place p place ys ≡ None
    none_next p place ys h = at (next p place ys)
      where
        at : Next p place ys → next_place p place ys ≡ None
        at (nothing f n a) = f
        at (found m y rest r q n f a) = absurd (no_event p m y rest q (sym (ap (events_of p) r) ∙ h))
