-- Lists of faults against the tests.
use Rattle.std.proofs.Common.{◌≡◌, ℕ, zero, suc, ◌+◌, ◌<◌, ◌≤◌, Bool, true, false, cond, ◌&&◌, ◌||◌, List, [], ◌∷◌, ◌++◌, map, Option, Some, None, refl, sym, ap, ◌∙◌, subst, inl, inr, arith}
use Rattle.std.specs.List.{list_any, filter, flat_map, range_with_len}
use Rattle.std.proofs.lemmas.Bool.{false≢true, false_from_ne_true, and_parts, or_parts, or_from, cases_eq}
use Rattle.snap_core.specs.declared.entry.Entry.{Entry}
use Rattle.snap_core.specs.Calls.{Call, precedes, is_view, shown, shown_number, entries_of}
use Rattle.snap_core.specs.Regular.{IsViewOf, IsUpdateOf}
use Rattle.snap_core.specs.Calls.{is_update_numbered, views_of}
use Rattle.snap_theory.specs.Faults.{is_unwritten, integrity_fault, old_fault, early_fault, read_fault, write_fault, components, listed, integrity_faults, proximity_faults, read_faults, write_faults, HasNoLocalFault, HasNoFault}
use Rattle.snap_core.proofs.Lists.{In, In-from_Contains, Contains-from_In, In-filter, In-from_filter, any_to}
use Rattle.snap_core.proofs.Members.{In-map}
use Rattle.snap_core.proofs.Facts.{ShowsEntry, shown_in, shows_positive}
use Rattle.snap_theory.proofs.Local.{PassesLocal, PassesAll, numbered_to}
use Rattle.snap_core.proofs.Ordered.{AreOrderedCalls}

filter_fails : {X : Type 0} (p : X → Bool) (xs : List X) → filter p xs ≡ [] → (x : X) → In x xs → p x ≡ false
filter_fails p xs e x i = false_from_ne_true (p x) (λ t. subst (In x) e (In-filter p xs x i t))

pub filter_none : {X : Type 0} (p : X → Bool) (xs : List X) → ((x : X) → In x xs → p x ≡ false) → filter p xs ≡ []
filter_none p [] h = refl
filter_none p (x ∷ xs) h = ap (λ b. cond b (x ∷ filter p xs) (filter p xs)) (h x (inl refl)) ∙ filter_none p xs (λ y i. h y (inr i))

map_nil : {X Y : Type 0} (f : X → Y) (xs : List X) → map f xs ≡ [] → xs ≡ []
map_nil f [] e = refl
map_nil f (x ∷ xs) e = absurd (cc e)

append_nil : {X : Type 0} (xs ys : List X) → xs ++ ys ≡ [] → (xs ≡ []) × (ys ≡ [])
append_nil [] ys e = (refl, e)
append_nil (x ∷ xs) ys e = absurd (cc e)

flat_map_nil : {X Y : Type 0} (f : X → List Y) (xs : List X) → flat_map f xs ≡ [] → (x : X) → In x xs → f x ≡ []
flat_map_nil f [] e x i = absurd i
flat_map_nil f (y ∷ xs) e x (inl i) = ap f (sym i) ∙ (append_nil (f y) (flat_map f xs) e).0
flat_map_nil f (y ∷ xs) e x (inr i) = flat_map_nil f xs (append_nil (f y) (flat_map f xs) e).1 x i

pub flat_map_none : {X Y : Type 0} (f : X → List Y) (xs : List X) → ((x : X) → In x xs → f x ≡ []) → flat_map f xs ≡ []
flat_map_none f [] h = refl
flat_map_none f (x ∷ xs) h = ap (λ z. z ++ flat_map f xs) (h x (inl refl)) ∙ flat_map_none f xs (λ y i. h y (inr i))

pub in_range : (n a k : ℕ) → a ≤ k → k < a + n → In k (range_with_len a n)
in_range zero a k l m = absurd (omega arith)
in_range (suc n) a k l m = elim (cases_eq a k) [
  | inl e ↦ inl e
  | inr other ↦ inr (in_range n (a + 1) k (omega (arith, other)) (omega arith))
]

-- the components of the updates are bytes
abbrev pub HaveByteComponents : List Call → Type 0
HaveByteComponents calls = (c : Call) (e : Entry) → IsUpdateOf calls c e → e.component < 256

pub in_views : (calls : List Call) (r : Call) → IsViewOf calls r → In r (views_of calls)
unfolding views_of
in_views calls r v = In-filter is_view calls r (In-from_Contains calls r v.there) v.completed

pub from_views : (calls : List Call) (r : Call) → In r (views_of calls) → IsViewOf calls r
unfolding views_of
from_views calls r i = let p = In-from_filter is_view calls r i in record { there = Contains-from_In calls r p.0; completed = p.1 }

in_listed : (r : Call) (k : ℕ) (e : Entry) → shown r k ≡ Some e → In k (listed r)
in_listed r k e s =
    let i = shown_in r k e s in
    subst (λ z. In z (listed r)) i.1 (In-map (λ (d : Entry). d.component) (entries_of r.operation) e i.0)

pub nothing_unwritten : (calls : List Call) (r : Call) (k : ℕ) → shown r k ≡ None → integrity_fault calls r k ≡ false
unfolding integrity_fault
nothing_unwritten calls r k s = ap (is_unwritten calls) s

integrity_from : (calls : List Call) → integrity_faults calls (views_of calls) ≡ [] → (r : Call) (k : ℕ) → IsViewOf calls r → integrity_fault calls r k ≡ false
unfolding integrity_faults
integrity_from calls e r k v = go (shown r k) refl
  where
    go : (o : Option Entry) → shown r k ≡ o → integrity_fault calls r k ≡ false
    go None s = nothing_unwritten calls r k s
    go (Some d) s =
        filter_fails (integrity_fault calls r) (listed r) (map_nil (λ k. (r, k)) (filter (integrity_fault calls r) (listed r))
        (flat_map_nil (λ r. map (λ k. (r, k)) (filter (integrity_fault calls r) (listed r))) (views_of calls) e r (in_views calls r v))) k (in_listed r k d s)

proximity_from : (calls : List Call) → proximity_faults calls (views_of calls) ≡ [] → (r : Call) (k : ℕ) → IsViewOf calls r → k < 256 → (old_fault calls r k ≡ false) × (early_fault calls r k ≡ false)
unfolding proximity_faults
proximity_from calls e r k v l =
    or_parts _ _ (filter_fails (λ k. old_fault calls r k || early_fault calls r k) components (map_nil (λ k. (r, k)) (filter (λ k. old_fault calls r k || early_fault calls r k) components)
    (flat_map_nil (λ r. map (λ k. (r, k)) (filter (λ k. old_fault calls r k || early_fault calls r k) components)) (views_of calls) e r (in_views calls r v))) k (in_range 256 0 k (omega arith) l))

old_component : (calls : List Call) → HaveByteComponents calls → (r : Call) (k : ℕ) → old_fault calls r k ≡ true → k < 256
unfolding old_fault
old_component calls b r k h =
    let x = any_to (λ a. is_update_numbered k (suc (shown_number r k)) a && precedes a r) calls h in
    let n = numbered_to calls k (suc (shown_number r k)) x.it x.there (and_parts _ _ x.passes).0 in
    omega (arith, b x.it n.entry n.update, n.component)

early_component : (calls : List Call) → HaveByteComponents calls → (r : Call) (k : ℕ) → early_fault calls r k ≡ true → k < 256
unfolding early_fault
early_component calls b r k h =
    let x = any_to (λ a. is_update_numbered k (shown_number r k) a && precedes r a) calls h in
    let n = numbered_to calls k (shown_number r k) x.it x.there (and_parts _ _ x.passes).0 in
    omega (arith, b x.it n.entry n.update, n.component)

pub tests_from_local : (calls : List Call) → HaveByteComponents calls → HasNoLocalFault calls → PassesLocal calls
tests_from_local calls b h = record {
  integrity = integrity_from calls h.integrity;
  old = λ r k v. false_from_ne_true _ (λ t. false≢true (sym (proximity_from calls h.proximity r k v (old_component calls b r k t)).0 ∙ t));
  early = λ r k v. false_from_ne_true _ (λ t. false≢true (sym (proximity_from calls h.proximity r k v (early_component calls b r k t)).1 ∙ t));
}

pub read_from : (calls : List Call) → read_faults calls (views_of calls) ≡ [] → (r s : Call) → IsViewOf calls r → IsViewOf calls s → read_fault r s ≡ false
unfolding read_faults
read_from calls e r s v w =
    filter_fails (read_fault r) (views_of calls) (map_nil (λ s. (r, s)) (filter (read_fault r) (views_of calls))
    (flat_map_nil (λ r. map (λ s. (r, s)) (filter (read_fault r) (views_of calls))) (views_of calls) e r (in_views calls r v))) s (in_views calls s w)

write_at : (calls : List Call) → write_faults calls (views_of calls) ≡ [] → (r : Call) (j k : ℕ) → IsViewOf calls r → j < 256 → In k (listed r) → write_fault calls r j k ≡ false
unfolding write_faults
write_at calls e r j k v l i =
    filter_fails (write_fault calls r j) (listed r) (map_nil (λ k. (r, j, k)) (filter (write_fault calls r j) (listed r))
    (flat_map_nil (λ j. map (λ k. (r, j, k)) (filter (write_fault calls r j) (listed r))) components
    (flat_map_nil (λ r. flat_map (λ j. map (λ k. (r, j, k)) (filter (write_fault calls r j) (listed r))) components) (views_of calls) e r (in_views calls r v)) j (in_range 256 0 j (omega arith) l))) k i

-- a view shows the component of which it has a write fault
pub write_shows : (calls : List Call) → AreOrderedCalls calls → (r : Call) (j k : ℕ) → write_fault calls r j k ≡ true → ShowsEntry r k
unfolding write_fault
write_shows calls f r j k h =
    let x = any_to (λ a. is_update_numbered j (suc (shown_number r j)) a && list_any (λ b. is_update_numbered k (shown_number r k) b && precedes a b) calls) calls h in
    let p = and_parts (is_update_numbered j (suc (shown_number r j)) x.it) (list_any (λ b. is_update_numbered k (shown_number r k) b && precedes x.it b) calls) x.passes in
    let y = any_to (λ b. is_update_numbered k (shown_number r k) b && precedes x.it b) calls p.1 in
    let n = numbered_to calls k (shown_number r k) y.it y.there (and_parts (is_update_numbered k (shown_number r k) y.it) (precedes x.it y.it) y.passes).0 in
    shows_positive r k (omega (arith, f.positive y.it n.entry n.update, n.number))

-- the components that a write fault is of
record WriteAt (r : Call) (j k : ℕ) : Type 0 where
  missed : j < 256
  lists : In k (listed r)

write_components : (calls : List Call) → AreOrderedCalls calls → HaveByteComponents calls → (r : Call) (j k : ℕ) → write_fault calls r j k ≡ true → WriteAt r j k
unfolding write_fault
write_components calls f b r j k h =
    let x = any_to (λ a. is_update_numbered j (suc (shown_number r j)) a && list_any (λ b. is_update_numbered k (shown_number r k) b && precedes a b) calls) calls h in
    let p = and_parts _ _ x.passes in
    let m = numbered_to calls j (suc (shown_number r j)) x.it x.there p.0 in
    let s = write_shows calls f r j k h in
    record { missed = omega (arith, b x.it m.entry m.update, m.component); lists = in_listed r k s.entry s.is }

pub tests_from_none : (calls : List Call) → AreOrderedCalls calls → HaveByteComponents calls → HasNoFault calls → PassesAll calls
tests_from_none calls f b h = record {
  local = tests_from_local calls b h.local;
  read = read_from calls h.read;
  write = λ r j k v. false_from_ne_true _ (λ t. let w = write_components calls f b r j k t in false≢true (sym (write_at calls h.write r j k v w.missed w.lists) ∙ t));
}

pub local_from_passes : (calls : List Call) → PassesLocal calls → HasNoLocalFault calls
unfolding integrity_faults proximity_faults
local_from_passes calls t = record {
  integrity = flat_map_none _ (views_of calls) (λ r i. ap (map (λ k. (r, k))) (filter_none (integrity_fault calls r) (listed r) (λ k j. t.integrity r k (from_views calls r i))));
  proximity = flat_map_none _ (views_of calls) (λ r i. ap (map (λ k. (r, k))) (filter_none (λ k. old_fault calls r k || early_fault calls r k) components (λ k j. or_from _ _ (t.old r k (from_views calls r i)) (t.early r k (from_views calls r i)))));
}

pub read_none : (calls : List Call) → ((r s : Call) → IsViewOf calls r → IsViewOf calls s → read_fault r s ≡ false) → read_faults calls (views_of calls) ≡ []
unfolding read_faults
read_none calls h = flat_map_none _ (views_of calls) (λ r i. ap (map (λ s. (r, s))) (filter_none (read_fault r) (views_of calls) (λ s j. h r s (from_views calls r i) (from_views calls s j))))

pub none_from_passes : (calls : List Call) → PassesAll calls → HasNoFault calls
unfolding write_faults
none_from_passes calls t = record {
  local = local_from_passes calls t.local;
  read = read_none calls t.read;
  write = flat_map_none _ (views_of calls) (λ r i. flat_map_none _ components (λ j l. ap (map (λ k. (r, j, k))) (filter_none (write_fault calls r j) (listed r) (λ k m. t.write r j k (from_views calls r i)))));
}
