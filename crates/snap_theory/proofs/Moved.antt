-- Calls that are moved to later numbers and places.
use Rattle.std.proofs.Common.{◌≡◌, ◌⊎◌, ℕ, suc, ◌+◌, ◌<◌, ◌≤◌, Bool, true, false, cond, List, [], ◌∷◌, map, Option, Some, None, refl, sym, ap, ◌∙◌, subst, inl, inr, arith, nat_lt}
use Rattle.std.specs.Prelude.{◌==◌, is_some}
use Rattle.std.proofs.lemmas.Bool.{ltb-true, lt-ltb, cases_lt, false_from_ne_true}
use Rattle.snap_core.specs.declared.entry.Entry.{Entry}
use Rattle.snap_core.specs.declared.event.Event.{Event}
use Rattle.snap_core.specs.declared.event.Event.TheVariants.{BeginUpdate, BeginView, EndUpdate, EndView}
use Rattle.snap_core.specs.Entries.{number_in}
use Rattle.snap_core.specs.Events.{process_of}
use Rattle.snap_core.specs.Calls.{Call, Updates, Views, next_place, next_answer, calls_from, calls_of, precedes, is_before, is_view, shown, shown_number}
use Rattle.snap_core.specs.Monotone.{IsMonotone}
use Rattle.snap_core.specs.Orders.{is_completed, is_update, last_written, written_by}
use Rattle.snap_core.specs.Regular.{IsViewOf, IsUpdateOf, IsBegunBeforeEnd}
use Rattle.snap_core.proofs.Lists.{In, In-from_Contains, Contains-from_In, Pairs}
use Rattle.snap_core.proofs.Begun.{numbers_rise}
use Rattle.snap_core.specs.declared.writers.Writers.{Writers}
use Rattle.snap_core.specs.declared.writers.Writers.TheVariants.{One, Many}
use Rattle.snap_theory.specs.Windows.{IsRegularFrom, IsAtomicFromBy}
use Rattle.snap_theory.proofs.Images.{IsImage, Shows, atomic_image, atomic_origin, in_order_image, in_order_origin}
use Rattle.snap_core.proofs.Members.{In-map, In-from_map}

abbrev pub shifted : ℕ → Option ℕ → Option ℕ
shifted m None = None
shifted m (Some n) = Some (m + n)

abbrev pub moved : ℕ → ℕ → Call → Call
moved n m c = record { number = n + c.number; process = c.process; operation = c.operation; begun = m + c.begun; ended = shifted m c.ended }

next_place-moved : (p m place : ℕ) (es : List Event) → next_place p (m + place) es ≡ shifted m (next_place p place es)
next_place-moved p m place [] = refl
next_place-moved p m place (e ∷ es) = go (process_of e == p) (ap (λ z. next_place p z es) (next m place) ∙ next_place-moved p m (suc place) es)
  where
    next : (m place : ℕ) → suc (m + place) ≡ m + suc place
    next m place = omega arith

    go : (b : Bool) → next_place p (suc (m + place)) es ≡ shifted m (next_place p (suc place) es) → cond b (Some (m + place)) (next_place p (suc (m + place)) es) ≡ shifted m (cond b (Some place) (next_place p (suc place) es))
    go true h = refl
    go false h = h

later_numbers : (n m a b : ℕ) (es : List Event) → a ≡ n → b ≡ m → calls_from a b es ≡ calls_from n m es
later_numbers n m a b es e f = ap (λ z. calls_from z b es) e ∙ ap (λ z. calls_from n z es) f

pub calls_from-moved : (n m number place : ℕ) (es : List Event) → calls_from (n + number) (m + place) es ≡ map (moved n m) (calls_from number place es)
calls_from-moved n m number place [] = refl
calls_from-moved n m number place (BeginUpdate p e ∷ es) =
    let a : suc (n + number) ≡ n + suc number = omega arith in
    let b : suc (m + place) ≡ m + suc place = omega arith in
    let end = ap (λ z. next_place p z es) b ∙ next_place-moved p m (suc place) es in
    let head : Option ℕ → Call = λ z. record { number = n + number; process = p; operation = Updates e; begun = m + place; ended = z } in
    ap (λ z. head z ∷ calls_from (suc (n + number)) (suc (m + place)) es) end
    ∙ ap (λ z. head (shifted m (next_place p (suc place) es)) ∷ z) (later_numbers (n + suc number) (m + suc place) (suc (n + number)) (suc (m + place)) es a b ∙ calls_from-moved n m (suc number) (suc place) es)
calls_from-moved n m number place (BeginView p ∷ es) =
    let a : suc (n + number) ≡ n + suc number = omega arith in
    let b : suc (m + place) ≡ m + suc place = omega arith in
    let end = ap (λ z. next_place p z es) b ∙ next_place-moved p m (suc place) es in
    let head : Option ℕ → Call = λ z. record { number = n + number; process = p; operation = Views (next_answer p es); begun = m + place; ended = z } in
    ap (λ z. head z ∷ calls_from (suc (n + number)) (suc (m + place)) es) end
    ∙ ap (λ z. head (shifted m (next_place p (suc place) es)) ∷ z) (later_numbers (n + suc number) (m + suc place) (suc (n + number)) (suc (m + place)) es a b ∙ calls_from-moved n m (suc number) (suc place) es)
calls_from-moved n m number place (EndUpdate p ∷ es) =
    let b : suc (m + place) ≡ m + suc place = omega arith in
    later_numbers (n + number) (m + suc place) (n + number) (suc (m + place)) es refl b ∙ calls_from-moved n m number (suc place) es
calls_from-moved n m number place (EndView p s ∷ es) =
    let b : suc (m + place) ≡ m + suc place = omega arith in
    later_numbers (n + number) (m + suc place) (n + number) (suc (m + place)) es refl b ∙ calls_from-moved n m number (suc place) es

-- what the move keeps

moved_shown : (n m : ℕ) (r : Call) (k : ℕ) → shown (moved n m r) k ≡ shown r k
unfolding shown
moved_shown n m r k = refl

moved_number : (n m : ℕ) (r : Call) (k : ℕ) → shown_number (moved n m r) k ≡ shown_number r k
unfolding shown_number
moved_number n m r k = ap number_in (moved_shown n m r k)

moved_view : (n m : ℕ) (c : Call) → is_view (moved n m c) ≡ is_view c
unfolding is_view
moved_view n m c = refl

moved_update : (n m : ℕ) (c : Call) → is_update (moved n m c) ≡ is_update c
unfolding is_update
moved_update n m c = refl

pub moved_completed : (n m : ℕ) (c : Call) → is_completed (moved n m c) ≡ is_completed c
unfolding is_completed
moved_completed n m c = go c.ended
  where
    go : (o : Option ℕ) → is_some (shifted m o) ≡ is_some o
    go None = refl
    go (Some e) = refl

less_moved : (m a b : ℕ) → nat_lt (m + a) (m + b) ≡ nat_lt a b
less_moved m a b = elim (cases_lt a b) [
  | inl l ↦ lt-ltb (m + a) (m + b) (omega arith) ∙ sym (lt-ltb a b l)
  | inr g ↦ false_from_ne_true _ (λ h. omega (arith, ltb-true (m + a) (m + b) h)) ∙ sym (false_from_ne_true (nat_lt a b) (λ h. omega (arith, ltb-true a b h)))
]

pub before_moved : (m place : ℕ) (o : Option ℕ) → is_before (shifted m o) (m + place) ≡ is_before o place
before_moved m place None = refl
before_moved m place (Some e) = less_moved m e place

moved_precedes : (n m : ℕ) (a b : Call) → precedes (moved n m a) (moved n m b) ≡ precedes a b
unfolding precedes
moved_precedes n m a b = before_moved m b.begun a.ended

-- calls are known by their numbers
pub one_number : (calls : List Call) → Pairs (λ a b. a.number < b.number) calls → (a b : Call) → In a calls → In b calls → a.number ≡ b.number → a ≡ b
one_number [] p a b i j e = absurd i
one_number (x ∷ xs) p a b (inl i) (inl j) e = sym i ∙ j
one_number (x ∷ xs) p a b (inl i) (inr j) e = absurd (omega (arith, p.0 b j, ap (λ (z : Call). z.number) i, e))
one_number (x ∷ xs) p a b (inr i) (inl j) e = absurd (omega (arith, p.0 a i, ap (λ (z : Call). z.number) j, e))
one_number (x ∷ xs) p a b (inr i) (inr j) e = one_number xs p.1 a b i j e

pub of_one_number : (es : List Event) (a b : Call) → In a (calls_of es) → In b (calls_of es) → a.number ≡ b.number → a ≡ b
unfolding calls_of
of_one_number es a b i j e = one_number (calls_from 0 0 es) (numbers_rise 0 0 es) a b i j e

moved_image : (n m : ℕ) (es : List Event) → IsImage (moved n m) (calls_of es)
moved_image n m es = record {
  completed = moved_completed n m;
  update = moved_update n m;
  view = moved_view n m;
  precedence = λ a b i j. moved_precedes n m a b;
  apart = λ a b i j e. of_one_number es a b i j (let s : n + a.number ≡ n + b.number = ap (λ (z : Call). z.number) e in omega (arith, s));
}

last_moved : (n m k : ℕ) (o : Option Entry) (xs : List Call) → last_written k o (map (moved n m) xs) ≡ last_written k o xs
last_moved n m k o [] = refl
last_moved n m k o (x ∷ xs) = last_moved n m k (written_by x.operation k o) xs

-- a view shows the last update after the move as before it
moved_shows : (n m : ℕ) (left : ℕ → Option Entry) (before : List Call) (r : Call) → Shows left r before → Shows left (moved n m r) (map (moved n m) before)
moved_shows n m left before r s k = moved_shown n m r k ∙ s k ∙ sym (last_moved n m k (left k) before)

unmoved_shows : (n m : ℕ) (left : ℕ → Option Entry) (before : List Call) (r : Call) → Shows left (moved n m r) (map (moved n m) before) → Shows left r before
unmoved_shows n m left before r s k = sym (moved_shown n m r k) ∙ s k ∙ last_moved n m k (left k) before

pub atomic_moved : (writers : Writers) (n m : ℕ) (es : List Event) (left : ℕ → Option Entry) → IsAtomicFromBy writers left (calls_of es) → IsAtomicFromBy writers left (map (moved n m) (calls_of es))
atomic_moved One n m es left = atomic_image (moved n m) (calls_of es) left left (moved_image n m es) (λ before r among i v. moved_shows n m left before r)
atomic_moved Many n m es left = in_order_image (moved n m) (calls_of es) left left (moved_image n m es) (λ before r among i v. moved_shows n m left before r) (λ a b i j h. h)

pub atomic_unmoved : (writers : Writers) (n m : ℕ) (es : List Event) (left : ℕ → Option Entry) → IsAtomicFromBy writers left (map (moved n m) (calls_of es)) → IsAtomicFromBy writers left (calls_of es)
atomic_unmoved One n m es left = atomic_origin (moved n m) (calls_of es) left left (moved_image n m es) (λ before r among i v. unmoved_shows n m left before r)
atomic_unmoved Many n m es left = in_order_origin (moved n m) (calls_of es) left left (moved_image n m es) (λ before r among i v. unmoved_shows n m left before r) (λ a b i j h. h)

-- views and updates, moved and back

view_moved : (n m : ℕ) (calls : List Call) (r : Call) → IsViewOf calls r → IsViewOf (map (moved n m) calls) (moved n m r)
view_moved n m calls r v = record { there = Contains-from_In _ _ (In-map (moved n m) calls r (In-from_Contains _ _ v.there)); completed = moved_view n m r ∙ v.completed }

pub update_moved : (n m : ℕ) (calls : List Call) (c : Call) (e : Entry) → IsUpdateOf calls c e → IsUpdateOf (map (moved n m) calls) (moved n m c) e
update_moved n m calls c e u = record { there = Contains-from_In _ _ (In-map (moved n m) calls c (In-from_Contains _ _ u.there)); writes = u.writes }

record ViewOrigin (n m : ℕ) (calls : List Call) (r : Call) : Type 0 where
  it : Call
  view : IsViewOf calls it
  is : moved n m it ≡ r

view_origin : (n m : ℕ) (calls : List Call) (r : Call) → IsViewOf (map (moved n m) calls) r → ViewOrigin n m calls r
view_origin n m calls r v =
    let o = In-from_map (moved n m) calls r (In-from_Contains _ _ v.there) in
    record { it = o.it; view = record { there = Contains-from_In _ _ o.there; completed = sym (moved_view n m o.it) ∙ ap is_view o.is ∙ v.completed }; is = o.is }

record UpdateOrigin (n m : ℕ) (calls : List Call) (c : Call) (e : Entry) : Type 0 where
  it : Call
  update : IsUpdateOf calls it e
  is : moved n m it ≡ c

update_origin : (n m : ℕ) (calls : List Call) (c : Call) (e : Entry) → IsUpdateOf (map (moved n m) calls) c e → UpdateOrigin n m calls c e
update_origin n m calls c e u =
    let o = In-from_map (moved n m) calls c (In-from_Contains _ _ u.there) in
    record { it = o.it; update = record { there = Contains-from_In _ _ o.there; writes = ap (λ (z : Call). z.operation) o.is ∙ u.writes }; is = o.is }

begun_moved : (n m : ℕ) (c r : Call) → IsBegunBeforeEnd c r → IsBegunBeforeEnd (moved n m c) (moved n m r)
begun_moved n m c r b = record { place = m + b.place; ends = ap (shifted m) b.ends; before = omega (arith, b.before) }

begun_unmoved : (n m : ℕ) (c r : Call) → IsBegunBeforeEnd (moved n m c) (moved n m r) → IsBegunBeforeEnd c r
begun_unmoved n m c r b = go r.ended refl b.ends
  where
    go : (o : Option ℕ) → r.ended ≡ o → shifted m o ≡ Some b.place → IsBegunBeforeEnd c r
    go None e h = absurd (cc)
    go (Some end) e h = let s : m + end ≡ b.place = cc in record { place = end; ends = e; before = omega (arith, s, b.before) }

pub regular_moved : (n m : ℕ) (left : ℕ → Option Entry) (calls : List Call) → IsRegularFrom left calls → IsRegularFrom left (map (moved n m) calls)
regular_moved n m left calls h = record { not_old = not_old; not_less = not_less; not_early = not_early }
  where
    number : (r : Call) (o : ViewOrigin n m calls r) (k : ℕ) → shown_number r k ≡ shown_number o.it k
    number r o k = sym (ap (λ z. shown_number z k) o.is) ∙ moved_number n m o.it k

    not_old : (r c : Call) (e : Entry) → IsViewOf (map (moved n m) calls) r → IsUpdateOf (map (moved n m) calls) c e → shown_number r e.component < e.number → precedes c r ≡ false
    not_old r c e v u l =
        let o = view_origin n m calls r v in
        let w = update_origin n m calls c e u in
        sym (ap (λ z. precedes z r) w.is) ∙ sym (ap (λ z. precedes (moved n m w.it) z) o.is) ∙ moved_precedes n m w.it o.it ∙ h.not_old o.it w.it e o.view w.update (omega (arith, l, number r o e.component))

    not_less : (r : Call) (k : ℕ) → IsViewOf (map (moved n m) calls) r → number_in (left k) ≤ shown_number r k
    not_less r k v = let o = view_origin n m calls r v in omega (arith, h.not_less o.it k o.view, number r o k)

    not_early : (r : Call) (k : ℕ) (e : Entry) → IsViewOf (map (moved n m) calls) r → shown r k ≡ Some e → (left k ≡ Some e) ⊎ ((c : Call) × IsUpdateOf (map (moved n m) calls) c e × IsBegunBeforeEnd c r)
    not_early r k e v s =
        let o = view_origin n m calls r v in
        elim (h.not_early o.it k e o.view (sym (moved_shown n m o.it k) ∙ ap (λ z. shown z k) o.is ∙ s)) [
          | inl q ↦ inl q
          | inr u ↦ inr (moved n m u.0, update_moved n m calls u.0 e u.1, subst (IsBegunBeforeEnd (moved n m u.0)) o.is (begun_moved n m u.0 o.it u.2))
        ]

pub regular_unmoved : (n m : ℕ) (left : ℕ → Option Entry) (calls : List Call) → IsRegularFrom left (map (moved n m) calls) → IsRegularFrom left calls
regular_unmoved n m left calls h = record {
  not_old = λ r c e v u l. sym (moved_precedes n m c r) ∙ h.not_old (moved n m r) (moved n m c) e (view_moved n m calls r v) (update_moved n m calls c e u) (omega (arith, l, moved_number n m r e.component));
  not_less = λ r k v. omega (arith, h.not_less (moved n m r) k (view_moved n m calls r v), moved_number n m r k);
  not_early = not_early;
}
  where
    not_early : (r : Call) (k : ℕ) (e : Entry) → IsViewOf calls r → shown r k ≡ Some e → (left k ≡ Some e) ⊎ ((c : Call) × IsUpdateOf calls c e × IsBegunBeforeEnd c r)
    not_early r k e v s = elim (h.not_early (moved n m r) k e (view_moved n m calls r v) (moved_shown n m r k ∙ s)) [
      | inl q ↦ inl q
      | inr u ↦ inr (let w = update_origin n m calls u.0 e u.1 in (w.it, w.update, begun_unmoved n m w.it r (subst (λ z. IsBegunBeforeEnd z (moved n m r)) (sym w.is) u.2)))
    ]

pub monotone_moved : (n m : ℕ) (calls : List Call) → IsMonotone calls → IsMonotone (map (moved n m) calls)
monotone_moved n m calls h r s v w before k =
    let o = view_origin n m calls r v in
    let q = view_origin n m calls s w in
    let l = h o.it q.it o.view q.view (sym (moved_precedes n m o.it q.it) ∙ ap (λ z. precedes z (moved n m q.it)) o.is ∙ ap (precedes r) q.is ∙ before) k in
    omega (arith, l, moved_number n m o.it k, moved_number n m q.it k, ap (λ z. shown_number z k) o.is, ap (λ z. shown_number z k) q.is)

pub monotone_unmoved : (n m : ℕ) (calls : List Call) → IsMonotone (map (moved n m) calls) → IsMonotone calls
monotone_unmoved n m calls h r s v w before k =
    omega (arith, h (moved n m r) (moved n m s) (view_moved n m calls r v) (view_moved n m calls s w) (moved_precedes n m r s ∙ before) k, moved_number n m r k, moved_number n m s k)
