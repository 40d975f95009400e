-- The faults of a view by the updates around it.
use Rattle.std.proofs.Common.{◌≡◌, ℕ, zero, suc, ◌+◌, ◌<◌, ◌≤◌, false, ◌&&◌, ◌||◌, List, [], ◌∷◌, length, get_or, Option, Some, None, refl, sym, ap, ◌∙◌, subst, inl, inr, arith}
use Rattle.std.specs.Prelude.{◌==◌, nat_lt}
use Rattle.std.specs.List.{All, range_with_len}
use Rattle.std.proofs.lemmas.Bool.{le-ltb, ltb-false, or_from, cases_lt, eq-eqb, ne_eqb}
use Rattle.snap_core.specs.declared.event.Event.{Event}
use Rattle.snap_core.specs.declared.entry.Entry.{Entry}
use Rattle.snap_core.specs.Entries.{AreEntries, EntryFits, number_in}
use Rattle.snap_core.specs.Bounded.{IsBoundedOrdered}
use Rattle.snap_core.specs.Calls.{Call, calls_of, entries_of, is_before, shown, shown_number}
use Rattle.snap_core.proofs.Facts.{shown_number_at}
use Rattle.snap_core.proofs.Ordered.{are_ordered_calls}
use Rattle.snap_core.proofs.Lists.{In}
use Rattle.snap_core.proofs.Rising.{entry_at}
use Rattle.snap_index.specs.IndexedCalls.{value_written}
use Rattle.snap_index.proofs.Known.{update_found}
use Rattle.snap_conditions.specs.declared.shown_and_next.ShownAndNext.{ShownAndNext}
use Rattle.snap_conditions.specs.inside.ShownAndNext.{AreAround, IsOfEntries, IsOfView, IsValueOf, IsWritten, begin_shown, end_next}
use Rattle.snap_theory.specs.Faults.{components, old_fault, early_fault, proximity_faults, write_faults, missed_at, writes_entry}
use Rattle.snap_conditions.specs.Parts.{no_part, part_of}
use Rattle.snap_conditions.specs.PartValue.{PartValue}
use Rattle.snap_conditions.specs.inside.Limits.{IsLimit}
use Rattle.snap_conditions.specs.inside.Places.{value_of, end_of, begin_of, begin_of_shown, is_written, value_or_none, begin_or_0, IsNoLater}
use Rattle.snap_views.specs.Seen.{end_or_never}
use Rattle.snap_theory.specs.Updates.{update_of}
use Rattle.snap_views.specs.Rows.{number_among}
use Rattle.snap_conditions.specs.Tally.{reported_proximity, reported_write}
use Rattle.snap_theory.proofs.Entries.{nothing}
use Rattle.snap_conditions.proofs.Finds.{shown_at, none_behind}
use Rattle.snap_conditions.proofs.OneView.{proximity_alone, write_alone}
use Rattle.snap_conditions.proofs.Places.{old_by_place, early_by_place, behind_begin}
use Rattle.snap_views.proofs.Rows.{among_is_shown}
use Rattle.snap_theory.proofs.FaultLists.{filter_none, flat_map_none}
use Rattle.snap_conditions.proofs.NoUpdates.{no_update_past, none_of_none}

-- an end by the number that stands for it

before_end : (o : Option ℕ) (p : ℕ) → p ≤ 4294967295 → is_before o p ≡ nat_lt (end_or_never o) p
before_end None p l = sym (le-ltb 4294967295 p l)
before_end (Some e) p l = refl

pub some_end : (o : Option ℕ) (x : ℕ) → x ≡ end_or_never o → x < 4294967295 → o ≡ Some x
some_end None x e l = absurd (omega (arith, e, l))
some_end (Some p) x e l = ap Some (sym e)

-- an update that ended has a number that fits its type
pub number_fits : (es : List Event) → IsBoundedOrdered es → (j n ended : ℕ) → end_of (update_of (calls_of es) j n) ≡ Some ended → n < 4294967296
number_fits es kept j n ended e = elim (cases_lt n 4294967296) [
  | inl l ↦ l
  | inr l ↦ absurd (let gone : None ≡ Some ended = sym (ap end_of (no_update_past es kept j n (omega (arith, l)))) ∙ e in cc)
]

-- where the updates stand around the view that was looked at last

-- numbers that are the same below a limit have the same updates, for from it on there is none
same_update : (es : List Event) → IsBoundedOrdered es → (limit k m n : ℕ) (next : ℕ → ℕ) → IsLimit (calls_of es) limit → (k < limit → m ≡ n) → k < 256 → update_of (calls_of es) k (next m) ≡ update_of (calls_of es) k (next n)
same_update es kept limit k m n next h same b = elim (cases_lt k limit) [
  | inl l ↦ ap (λ z. update_of (calls_of es) k (next z)) (same l)
  | inr l ↦
      let none = h.none k (omega (arith, l)) b in
      none_of_none es kept k (next m) none ∙ sym (none_of_none es kept k (next n) none)
]

pub around_seen : (es : List Event) → IsBoundedOrdered es → (r : Call) (updates : ShownAndNext) → IsOfEntries (calls_of es) updates → updates.entries.now ≡ entries_of r.operation → IsOfView (calls_of es) r updates
around_seen es kept r updates a same = record {
  limit = a.limit;
  numbers = numbers;
  values = λ k l. a.around.values k l ∙ ap (λ o. value_or_none (value_of o)) (update k (λ n. n) l);
  begins = begins;
  ends = ends;
  latest = λ k l. omega (arith, a.latest k l, begins k l);
  earliest = λ k l. omega (arith, a.earliest k l, ends k l);
  written = λ t. subst (All (IsWritten (calls_of es))) same (a.written t);
}
  where
    numbers : (k : ℕ) → k < updates.limit → get_or updates.numbers k 0 ≡ shown_number r k
    numbers k l = a.numbers k l ∙ ap (λ es. number_among es k) same ∙ among_is_shown r k

    update : (k : ℕ) (next : ℕ → ℕ) → k < 256 → update_of (calls_of es) k (next (get_or updates.numbers k 0)) ≡ update_of (calls_of es) k (next (shown_number r k))
    update k next l = same_update es kept updates.limit k _ _ next a.limit (numbers k) l

    begins : (k : ℕ) → k < 256 → get_or updates.begins k 0 ≡ begin_shown (calls_of es) r k
    begins k l = a.around.begins k l ∙ ap (λ o. begin_or_0 (begin_of o)) (update k (λ n. n) l)

    ends : (k : ℕ) → k < 256 → get_or updates.ends k 0 ≡ end_next (calls_of es) r k
    ends k l = a.around.ends k l ∙ ap (λ o. end_or_never (end_of o)) (update k suc l)

-- the tests of a view alone

pub old_around : (es : List Event) → IsBoundedOrdered es → (r : Call) (updates : ShownAndNext) (k : ℕ) → IsOfView (calls_of es) r updates → k < 256 → r.begun ≤ 4294967295 → old_fault (calls_of es) r k ≡ nat_lt (get_or updates.ends k 0) r.begun
old_around es kept r updates k a l fits =
    old_by_place (calls_of es) (are_ordered_calls es kept.history) r k ∙ before_end (end_of (update_of (calls_of es) k (suc (shown_number r k)))) r.begun fits ∙ ap (λ z. nat_lt z r.begun) (sym (a.ends k l))

pub early_around : (es : List Event) → IsBoundedOrdered es → (r : Call) (updates : ShownAndNext) (k : ℕ) → IsOfView (calls_of es) r updates → k < 256 → early_fault (calls_of es) r k ≡ is_before r.ended (get_or updates.begins k 0)
early_around es kept r updates k a l =
    early_by_place (calls_of es) (are_ordered_calls es kept.history) r k ∙ behind_begin r.ended (begin_of (update_of (calls_of es) k (shown_number r k))) ∙ ap (is_before r.ended) (sym (a.begins k l))

below : (n a k : ℕ) → In k (range_with_len a n) → k < a + n
below zero a k i = absurd i
below (suc n) a k (inl e) = omega (arith, e)
below (suc n) a k (inr i) = omega (arith, below n (a + 1) k i)

-- an end that a place is not after has no earlier place after it
not_behind : (ended : Option ℕ) (x y : ℕ) → x ≤ y → is_before ended y ≡ false → is_before ended x ≡ false
not_behind None x y l f = refl
not_behind (Some p) x y l f = le-ltb p x (omega (arith, l, ltb-false p y f))

-- a view that begins before all ends and ends after all begins
pub none_near : (es : List Event) → IsBoundedOrdered es → (r : Call) (updates : ShownAndNext) → IsOfView (calls_of es) r updates → r.begun ≤ 4294967295 → r.begun ≤ updates.earliest → is_before r.ended updates.latest ≡ false →
    part_of (reported_proximity (calls_of es)) (proximity_faults (calls_of es) (r ∷ [])) ≡ no_part
none_near es kept r updates a fits l f = proximity_alone calls r ∙ ap (part_of (λ k. reported_proximity calls (r, k))) (filter_none (λ k. old_fault calls r k || early_fault calls r k) components not)
  where
    calls : List Call
    calls = calls_of es

    not : (k : ℕ) → In k components → (old_fault calls r k || early_fault calls r k) ≡ false
    not k i =
        let m : k < 256 = omega (arith, below 256 0 k i) in
        or_from _ _ (old_around es kept r updates k a m fits ∙ le-ltb (get_or updates.ends k 0) r.begun (omega (arith, l, a.earliest k m, a.ends k m)))
        (early_around es kept r updates k a m ∙ not_behind r.ended (get_or updates.begins k 0) updates.latest (omega (arith, a.latest k m, a.begins k m)) f)

-- where the updates that a view shows begin, entry by entry

pub begin_at : (calls : List Call) (r : Call) (updates : ShownAndNext) (i : ℕ) → IsOfView calls r updates → AreEntries (entries_of r.operation) → i < length (entries_of r.operation) → (get_or (entries_of r.operation) i nothing).component < 256 →
    get_or updates.begins (get_or (entries_of r.operation) i nothing).component 0 ≡ begin_or_0 (begin_of_shown calls (entries_of r.operation) i)
begin_at calls r updates i a shape l byte =
    let e = get_or (entries_of r.operation) i nothing in
    a.begins e.component byte ∙ ap (λ n. begin_or_0 (begin_of (update_of calls e.component n))) (shown_number_at r e.component e (shown_at r i nothing shape l))

no_later : (o : Option ℕ) (latest : ℕ) → begin_or_0 o ≤ latest → IsNoLater o (Some latest)
no_later None latest h = tt
no_later (Some begun) latest h = h

-- where an update that a view misses ends after all begins
pub none_missed_at : (es : List Event) → IsBoundedOrdered es → (r : Call) (updates : ShownAndNext) (j : ℕ) → IsOfView (calls_of es) r updates → AreEntries (entries_of r.operation) → updates.latest ≤ 4294967295 → updates.latest ≤ end_next (calls_of es) r j →
    part_of reported_write (missed_at (calls_of es) r j) ≡ no_part
none_missed_at es kept r updates j a shape fits l =
    none_behind es kept r j (Some updates.latest) shape (λ i m. no_later _ updates.latest (latest i m)) (before_end (end_of (update_of calls j (suc (shown_number r j)))) updates.latest fits ∙ le-ltb (end_next calls r j) updates.latest l)
  where
    calls : List Call
    calls = calls_of es

    latest : (i : ℕ) → i < length (entries_of r.operation) → begin_or_0 (begin_of_shown calls (entries_of r.operation) i) ≤ updates.latest
    latest i m =
        let e = get_or (entries_of r.operation) i nothing in
        let byte = (shape.fit i nothing m).0 in
        omega (arith, a.latest e.component byte, a.begins e.component byte, begin_at calls r updates i a shape m byte)

empty : {X F : Type 0} (f : X → F) (xs : List X) → part_of f xs ≡ no_part → xs ≡ []
empty f [] h = refl
empty {X} {F} f (x ∷ xs) h = absurd (omega (arith, ap (λ (p : PartValue F). p.count) h))

pub none_missed_around : (es : List Event) → IsBoundedOrdered es → (r : Call) (updates : ShownAndNext) → IsOfView (calls_of es) r updates → AreEntries (entries_of r.operation) → updates.latest ≤ 4294967295 → updates.latest ≤ updates.earliest →
    part_of reported_write (write_faults (calls_of es) (r ∷ [])) ≡ no_part
none_missed_around es kept r updates a shape fits l =
    let calls = calls_of es in
    write_alone calls r
    ∙ ap (part_of reported_write) (flat_map_none (missed_at calls r) components (λ j i. empty reported_write (missed_at calls r j) (none_missed_at es kept r updates j a shape fits (omega (arith, l, a.earliest j (omega (arith, below 256 0 j i)))))))

-- an entry of a view, by the value of the update that it shows

written_of : (es : List Event) → IsBoundedOrdered es → (e : Entry) → EntryFits e → (o : Option Call) → update_of (calls_of es) e.component e.number ≡ o → is_written o e ≡ (value_or_none (value_of o) == e.value)
written_of es kept e fits None is = sym (ne_eqb 4294967296 e.value (λ same. omega (arith, same, fits.2)))
written_of es kept e fits (Some c) is =
    let u = update_found es e.component e.number c is in
    ap (λ o. writes_entry o e) u.update.writes
    ∙ ap (λ b. b && ((u.entry.number == e.number) && (u.entry.value == e.value))) (eq-eqb _ _ u.component)
    ∙ ap (λ b. b && (u.entry.value == e.value)) (eq-eqb _ _ u.number)
    ∙ ap (λ v. v == e.value) (sym (ap value_written u.update.writes))

-- by the value that is kept at its component
pub written_by_value : (es : List Event) → IsBoundedOrdered es → (updates : ShownAndNext) (e : Entry) → IsValueOf (calls_of es) updates e → EntryFits e →
    is_written (update_of (calls_of es) e.component e.number) e ≡ (get_or updates.values e.component 0 == e.value)
written_by_value es kept updates e value fits = written_of es kept e fits (update_of (calls_of es) e.component e.number) refl ∙ ap (λ v. v == e.value) (sym value)

-- the values kept around a view are those of its entries
pub value_around : (calls : List Call) (r : Call) (updates : ShownAndNext) (e : Entry) → IsOfView calls r updates → shown r e.component ≡ Some e → EntryFits e → IsValueOf calls updates e
value_around calls r updates e a is fits =
    a.values e.component fits.0 ∙ ap (λ n. value_or_none (value_of (update_of calls e.component n))) (shown_number_at r e.component e is)

-- where their numbers are looked up below the limit, for from it on there is no update
pub values_around : (es : List Event) → IsBoundedOrdered es → (updates : ShownAndNext) (entries : List Entry) → IsLimit (calls_of es) updates.limit → AreAround (calls_of es) updates →
    ((k : ℕ) → k < updates.limit → get_or updates.numbers k 0 ≡ number_among entries k) → AreEntries entries → All (IsValueOf (calls_of es) updates) entries
values_around es kept updates entries limit around numbers shape = λ i d l.
    let e = get_or entries i d in
    let byte = (shape.fit i d l).0 in
    around.values e.component byte
    ∙ ap (λ o. value_or_none (value_of o)) (same_update es kept updates.limit e.component (get_or updates.numbers e.component 0) e.number (λ n. n) limit
    (λ b. numbers e.component b ∙ ap number_in (entry_at entries i d e.component shape.rising l refl)) byte)
