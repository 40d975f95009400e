-- What is found of a view at one entry, at one component and against one other view.
use Rattle.std.proofs.Common.{◌≡◌, ℕ, suc, ◌<◌, Bool, true, false, not, ◌↔◌, ◌&&◌, ◌||◌, List, length, get_or, Option, Some, None, refl, sym, ap, ◌∙◌, [], ◌∷◌, inl, inr, subst, arith}
use Rattle.std.specs.Prelude.{IsTrue, if◌then◌else◌, nat_lt}
use Rattle.std.specs.Bool.{then_some}
use Rattle.std.specs.List.{All}
use Rattle.std.proofs.lemmas.List.{length-map, get_or-map}
use Rattle.std.proofs.lemmas.Bool.{false≢true, false_from_ne_true}
use Rattle.snap_core.proofs.Lists.{In}
use Rattle.snap_core.specs.declared.entry.Entry.{Entry}
use Rattle.snap_core.specs.declared.event.Event.{Event}
use Rattle.snap_core.specs.Entries.{AreEntries, value_in}
use Rattle.snap_core.specs.Bounded.{IsBoundedOrdered}
use Rattle.snap_core.specs.Calls.{Call, calls_of, entries_of, is_before, precedes, shown, shown_number}
use Rattle.snap_core.proofs.Facts.{shown_number_at}
use Rattle.snap_core.proofs.Ordered.{are_ordered_calls}
use Rattle.snap_conditions.specs.declared.fault.IntegrityFault.{IntegrityFault}
use Rattle.snap_conditions.specs.declared.fault.ProximityFault.{ProximityFault}
use Rattle.snap_conditions.specs.declared.fault.Side.{Side}
use Rattle.snap_conditions.specs.declared.fault.Side.TheVariants.{Old, Early}
use Rattle.snap_views.specs.Rows.{IsLessSomewhere}
use Rattle.snap_conditions.specs.Rows.{first_less}
use Rattle.snap_theory.specs.Faults.{integrity_fault, integrity_faults, old_fault, early_fault, read_fault, write_fault, listed, missed_at, exceeds, least_exceeding}
use Rattle.snap_conditions.specs.Parts.{no_part, part_of, found_at}
use Rattle.snap_conditions.specs.inside.ShownAndNext.{IsWritten}
use Rattle.snap_conditions.specs.inside.Places.{end_of, begin_of, begins_behind, begin_of_shown, is_written, IsNoLater}
use Rattle.snap_theory.specs.Updates.{update_of}
use Rattle.snap_conditions.specs.Tally.{reported_integrity, reported_proximity, reported_write}
use Rattle.snap_theory.proofs.Entries.{sorted, nothing}
use Rattle.snap_theory.proofs.Exceeding.{exceeds_from, exceeds_to}
use Rattle.snap_conditions.proofs.Leasts.{find_same}
use Rattle.snap_conditions.proofs.Places.{integrity_by_update, old_by_place, early_by_place, write_by_place, behind_none}
use Rattle.snap_conditions.proofs.OneView.{integrity_alone, missed_part}
use Rattle.snap_theory.proofs.FaultLists.{filter_none}
use Rattle.snap_views.proofs.Shown.{small}
use Rattle.snap_views.proofs.Rows.{entry_at}

-- what a view shows of a component that it lists
pub shown_at : (r : Call) (i : ℕ) (x : Entry) → AreEntries (entries_of r.operation) → i < length (entries_of r.operation) → shown r (get_or (entries_of r.operation) i x).component ≡ Some (get_or (entries_of r.operation) i x)
unfolding shown
shown_at r i x h l = entry_at (entries_of r.operation) i x (sorted (entries_of r.operation) h) l

pub integrity_found : (es : List Event) → IsBoundedOrdered es → (r : Call) (e : Entry) → shown r e.component ≡ Some e →
    found_at (λ k. reported_integrity (r, k)) (integrity_fault (calls_of es) r) e.component ≡ then_some (not (is_written (update_of (calls_of es) e.component e.number) e)) (record { view = r.number; entry = e })
integrity_found es kept r e s =
    let E : ℕ → ℕ → Entry = λ n v. record { component = e.component; number = n; value = v } in
    let F : Entry → IntegrityFault = λ d. record { view = r.number; entry = d } in
    ap (λ b. then_some b (reported_integrity (r, e.component))) (integrity_by_update (calls_of es) (are_ordered_calls es kept.history) r e.component e s)
    ∙ ap (λ d. then_some (not (is_written (update_of (calls_of es) e.component e.number) e)) (F d))
    (ap (λ n. E n (value_in (shown r e.component))) (shown_number_at r e.component e s) ∙ ap (λ o. E e.number (value_in o)) s)

in_place : {X : Type 0} (xs : List X) (x d : X) → In x xs → (i : ℕ) × (i < length xs) × (get_or xs i d ≡ x)
in_place [] x d h = absurd h
in_place (y ∷ ys) x d (inl e) = (0, omega arith, e)
in_place (y ∷ ys) x d (inr h) = let r = in_place ys x d h in (suc r.0, omega (arith, r.1), r.2)

-- where each entry is an update's
pub none_unwritten : (es : List Event) → IsBoundedOrdered es → (r : Call) → AreEntries (entries_of r.operation) → All (IsWritten (calls_of es)) (entries_of r.operation) → part_of reported_integrity (integrity_faults (calls_of es) (r ∷ [])) ≡ no_part
none_unwritten es kept r shape written = integrity_alone calls r ∙ ap (part_of (λ k. reported_integrity (r, k))) (filter_none (integrity_fault calls r) (listed r) not_found)
  where
    calls : List Call
    calls = calls_of es

    entries : List Entry
    entries = entries_of r.operation

    not_found : (k : ℕ) → In k (listed r) → integrity_fault calls r k ≡ false
    not_found k i =
        let p = in_place (listed r) k 0 i in
        let within : p.0 < length entries = omega (arith, p.1, length-map entries (λ (e : Entry). e.component)) in
        let e = get_or entries p.0 nothing in
        let same : e.component ≡ k = sym (get_or-map (λ (d : Entry). d.component) entries p.0 nothing 0 within) ∙ p.2 in
        ap (integrity_fault calls r) (sym same) ∙ integrity_by_update calls (are_ordered_calls es kept.history) r e.component e (shown_at r p.0 nothing shape within) ∙ ap not (written p.0 nothing within)

-- a view at a component, by the tests of its two sides

abbrev pub proximity_at : List Call → Call → ℕ → Option ProximityFault
proximity_at calls r k = found_at (λ k. reported_proximity calls (r, k)) (λ k. old_fault calls r k || early_fault calls r k) k

abbrev pub sided : Call → ℕ → Side → ProximityFault
sided r k side = record { view = r.number; component = k; number = shown_number r k; side = side }

pub found_old : (calls : List Call) (r : Call) (k : ℕ) → old_fault calls r k ≡ true → proximity_at calls r k ≡ Some (sided r k Old)
found_old calls r k t = ap (λ b. then_some (b || early_fault calls r k) (sided r k (if b then Old else Early))) t

pub found_early : (calls : List Call) (r : Call) (k : ℕ) → old_fault calls r k ≡ false → early_fault calls r k ≡ true → proximity_at calls r k ≡ Some (sided r k Early)
found_early calls r k f t = ap (λ b. then_some (b || early_fault calls r k) (sided r k (if b then Old else Early))) f ∙ ap (λ b. then_some b (sided r k Early)) t

pub found_neither : (calls : List Call) (r : Call) (k : ℕ) → old_fault calls r k ≡ false → early_fault calls r k ≡ false → proximity_at calls r k ≡ None
found_neither calls r k f g = ap (λ b. then_some (b || early_fault calls r k) (sided r k (if b then Old else Early))) f ∙ ap (λ b. then_some b (sided r k Early)) g

-- the tests by places of a view of which n is shown

pub old_here : (es : List Event) → IsBoundedOrdered es → (r : Call) (k n : ℕ) → n ≡ shown_number r k → old_fault (calls_of es) r k ≡ is_before (end_of (update_of (calls_of es) k (suc n))) r.begun
old_here es kept r k n s = old_by_place (calls_of es) (are_ordered_calls es kept.history) r k ∙ ap (λ m. is_before (end_of (update_of (calls_of es) k (suc m))) r.begun) (sym s)

pub early_here : (es : List Event) → IsBoundedOrdered es → (r : Call) (k n : ℕ) → n ≡ shown_number r k → early_fault (calls_of es) r k ≡ begins_behind r.ended (begin_of (update_of (calls_of es) k n))
early_here es kept r k n s = early_by_place (calls_of es) (are_ordered_calls es kept.history) r k ∙ ap (λ m. begins_behind r.ended (begin_of (update_of (calls_of es) k m))) (sym s)

pub neither_found : (es : List Event) → IsBoundedOrdered es → (r : Call) (k n : ℕ) → n ≡ shown_number r k → is_before (end_of (update_of (calls_of es) k (suc n))) r.begun ≡ false →
    begins_behind r.ended (begin_of (update_of (calls_of es) k n)) ≡ false → proximity_at (calls_of es) r k ≡ None
neither_found es kept r k n s f g = found_neither (calls_of es) r k (old_here es kept r k n s ∙ f) (early_here es kept r k n s ∙ g)

-- a view against another

pub exceeds_by_number : (r s : Call) (b : Bool) → AreEntries (entries_of r.operation) → IsTrue b ↔ IsLessSomewhere (shown_number s) (shown_number r) → exceeds r s ≡ b
exceeds_by_number r s true h d = let m = d.0 refl in exceeds_from r s m.0 m.2
exceeds_by_number r s false h d = false_from_ne_true (exceeds r s) (λ t. let m = exceeds_to r s t in false≢true (d.1 (m.component, small r m.component h (omega (arith, m.more)), m.more)))

pub read_fault_is : (r s : Call) (more less before : Bool) → AreEntries (entries_of r.operation) → AreEntries (entries_of s.operation) → IsTrue more ↔ IsLessSomewhere (shown_number s) (shown_number r) →
    IsTrue less ↔ IsLessSomewhere (shown_number r) (shown_number s) → before ≡ is_before r.ended s.begun → read_fault r s ≡ (more && (before || less))
unfolding read_fault precedes
read_fault_is r s more less before h g m l b =
    ap (λ z. z && (precedes r s || exceeds s r)) (exceeds_by_number r s more h m)
    ∙ ap (λ z. more && (precedes r s || z)) (exceeds_by_number s r less g l)
    ∙ ap (λ z. more && (z || less)) (sym b)

-- the component of a read fault, by the numbers of both views
pub least_by_numbers : (r s : Call) (f g : ℕ → ℕ) → ((k : ℕ) → k < 256 → f k ≡ shown_number r k) → ((k : ℕ) → k < 256 → g k ≡ shown_number s k) → first_less g f ≡ least_exceeding r s
unfolding least_exceeding first_less
least_by_numbers r s f g x y =
    find_same (λ k. nat_lt (g k) (f k)) (λ k. nat_lt (shown_number s k) (shown_number r k)) 256 0 (λ j l m. ap (λ n. nat_lt n (f j)) (y j m) ∙ ap (nat_lt (shown_number s j)) (x j m))

-- an update that a view misses, against those that it shows

pub never : (o : Option ℕ) → begins_behind None o ≡ false
never None = refl
never (Some b) = refl

pub none_missed : (es : List Event) → IsBoundedOrdered es → (r : Call) (j : ℕ) → end_of (update_of (calls_of es) j (suc (shown_number r j))) ≡ None → part_of reported_write (missed_at (calls_of es) r j) ≡ no_part
none_missed es kept r j none =
    let calls = calls_of es in
    let shown_begin : ℕ → Option ℕ = λ k. begin_of (update_of calls k (shown_number r k)) in
    missed_part calls r j
    ∙ ap (part_of (λ k. reported_write (r, j, k))) (filter_none (write_fault calls r j) (listed r) (λ k i. write_by_place calls (are_ordered_calls es kept.history) r j k ∙ ap (λ o. begins_behind o (shown_begin k)) none ∙ never (shown_begin k)))

-- where no update that the view shows begins after the end of the update that it misses
pub none_behind : (es : List Event) → IsBoundedOrdered es → (r : Call) (j : ℕ) (latest : Option ℕ) → AreEntries (entries_of r.operation) →
    ((i : ℕ) → i < length (entries_of r.operation) → IsNoLater (begin_of_shown (calls_of es) (entries_of r.operation) i) latest) →
    begins_behind (end_of (update_of (calls_of es) j (suc (shown_number r j)))) latest ≡ false → part_of reported_write (missed_at (calls_of es) r j) ≡ no_part
none_behind es kept r j latest shape no_later none = missed_part calls r j ∙ ap (part_of (λ k. reported_write (r, j, k))) (filter_none (write_fault calls r j) (listed r) not)
  where
    calls : List Call
    calls = calls_of es

    entries : List Entry
    entries = entries_of r.operation

    not : (k : ℕ) → In k (listed r) → write_fault calls r j k ≡ false
    not k i =
        let p = in_place (listed r) k 0 i in
        let within : p.0 < length entries = omega (arith, p.1, length-map entries (λ (e : Entry). e.component)) in
        let e = get_or entries p.0 nothing in
        let same : e.component ≡ k = sym (get_or-map (λ (d : Entry). d.component) entries p.0 nothing 0 within) ∙ p.2 in
        let number : e.number ≡ shown_number r k = sym (shown_number_at r e.component e (shown_at r p.0 nothing shape within)) ∙ ap (shown_number r) same in
        write_by_place calls (are_ordered_calls es kept.history) r j k
        ∙ behind_none _ (begin_of (update_of calls k (shown_number r k))) latest (subst (λ n. IsNoLater (begin_of (update_of calls k n)) latest) number (subst (λ c. IsNoLater (begin_of (update_of calls c e.number)) latest) same (no_later p.0 within))) none
