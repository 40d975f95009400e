-- The first fault of a history is one of its faults, and there is none exactly where it has no fault.
use Rattle.std.proofs.Common.{◌≡◌, ◌⊎◌, ℕ, Bool, true, false, cond, ◌||◌, List, [], ◌∷◌, map, Option, Some, None, refl, sym, ap, ◌∙◌, subst, inl, inr}
use Rattle.std.specs.List.{filter, flat_map}
use Rattle.std.specs.Option.{option_map, option_or}
use Rattle.std.proofs.lemmas.Bool.{false≢true}
use Rattle.snap_core.specs.Calls.{Call, views_of}
use Rattle.snap_core.specs.Regular.{IsViewOf}
use Rattle.snap_core.proofs.Lists.{In, In-append_cases, In-from_filter}
use Rattle.snap_theory.specs.Faults.{integrity_fault, old_fault, early_fault, read_fault, write_fault, components, listed, missed_at, first_of, integrity_faults, proximity_faults, read_faults, write_faults, HasNoFault, HasNoLocalFault}
use Rattle.snap_theory.proofs.FaultLists.{from_views}
use Rattle.snap_theory.specs.FaultWitnesses.{Fault, Integrity, Old, Early, Read, Write, IsFaultOf, is_local}
use Rattle.snap_theory.specs.First.{proximity_of, first_integrity, first_proximity, first_read, first_write, first_fault}

-- where an element of a list of lists comes from

record Source {X Y : Type 0} (f : X → List Y) (xs : List X) (y : Y) : Type 0 where
  from : X
  there : In from xs
  listed_there : In y (f from)

source_of : {X Y : Type 0} (f : X → List Y) (xs : List X) (y : Y) → In y (flat_map f xs) → Source f xs y
source_of f [] y i = absurd i
source_of f (x ∷ xs) y i = elim (In-append_cases y (f x) (flat_map f xs) i) [
  | inl j ↦ record { from = x; there = inl refl; listed_there = j }
  | inr j ↦ let r = source_of f xs y j in record { from = r.from; there = inr r.there; listed_there = r.listed_there }
]

record Image {X Y : Type 0} (f : X → Y) (xs : List X) (y : Y) : Type 0 where
  from : X
  there : In from xs
  is : f from ≡ y

image_of : {X Y : Type 0} (f : X → Y) (xs : List X) (y : Y) → In y (map f xs) → Image f xs y
image_of f [] y i = absurd i
image_of f (x ∷ xs) y (inl e) = record { from = x; there = inl refl; is = e }
image_of f (x ∷ xs) y (inr i) = let r = image_of f xs y i in record { from = r.from; there = inr r.there; is = r.is }

first_there : {X : Type 0} (xs : List X) (x : X) → first_of xs ≡ Some x → In x xs
first_there [] x e = absurd (cc e)
first_there (y ∷ ys) x e = let s : y ≡ x = cc in inl s

no_first : {X : Type 0} (xs : List X) → first_of xs ≡ None → xs ≡ []
no_first [] e = refl
no_first (x ∷ xs) e = absurd (cc e)

-- the members of the lists of faults

integrity_member : (calls : List Call) (f : Call × ℕ) → In f (integrity_faults calls (views_of calls)) → IsFaultOf calls (Integrity f.0 f.1)
unfolding integrity_faults
integrity_member calls f i =
    let s = source_of (λ r. map (λ k. (r, k)) (filter (integrity_fault calls r) (listed r))) (views_of calls) f i in
    let m = image_of (λ (k : ℕ). (s.from, k)) (filter (integrity_fault calls s.from) (listed s.from)) f s.listed_there in
    let p = In-from_filter (integrity_fault calls s.from) (listed s.from) m.from m.there in
    subst (λ (z : Call × ℕ). IsFaultOf calls (Integrity z.0 z.1)) m.is (from_views calls s.from s.there, p.1)

proximity_is : (calls : List Call) (r : Call) (k : ℕ) → IsViewOf calls r → (old_fault calls r k || early_fault calls r k) ≡ true → IsFaultOf calls (proximity_of calls (r, k))
proximity_is calls r k v t = go (old_fault calls r k) refl
  where
    go : (b : Bool) → old_fault calls r k ≡ b → IsFaultOf calls (cond (old_fault calls r k) (Old r k) (Early r k))
    go true e = subst (λ b. IsFaultOf calls (cond b (Old r k) (Early r k))) (sym e) (v, e)
    go false e = subst (λ b. IsFaultOf calls (cond b (Old r k) (Early r k))) (sym e) (v, ap (λ b. b || early_fault calls r k) (sym e) ∙ t)

proximity_member : (calls : List Call) (f : Call × ℕ) → In f (proximity_faults calls (views_of calls)) → IsFaultOf calls (proximity_of calls f)
unfolding proximity_faults
proximity_member calls f i =
    let s = source_of (λ r. map (λ k. (r, k)) (filter (λ k. old_fault calls r k || early_fault calls r k) components)) (views_of calls) f i in
    let m = image_of (λ (k : ℕ). (s.from, k)) (filter (λ k. old_fault calls s.from k || early_fault calls s.from k) components) f s.listed_there in
    let p = In-from_filter (λ k. old_fault calls s.from k || early_fault calls s.from k) components m.from m.there in
    subst (λ (z : Call × ℕ). IsFaultOf calls (proximity_of calls z)) m.is (proximity_is calls s.from m.from (from_views calls s.from s.there) p.1)

read_member : (calls : List Call) (f : Call × Call) → In f (read_faults calls (views_of calls)) → IsFaultOf calls (Read f.0 f.1)
unfolding read_faults
read_member calls f i =
    let s = source_of (λ r. map (λ s. (r, s)) (filter (read_fault r) (views_of calls))) (views_of calls) f i in
    let m = image_of (λ (o : Call). (s.from, o)) (filter (read_fault s.from) (views_of calls)) f s.listed_there in
    let p = In-from_filter (read_fault s.from) (views_of calls) m.from m.there in
    subst (λ (z : Call × Call). IsFaultOf calls (Read z.0 z.1)) m.is (from_views calls s.from s.there, from_views calls m.from p.0, p.1)

write_member : (calls : List Call) (f : Call × ℕ × ℕ) → In f (write_faults calls (views_of calls)) → IsFaultOf calls (Write f.0 f.1 f.2)
unfolding write_faults
write_member calls f i =
    let s = source_of (λ r. flat_map (missed_at calls r) components) (views_of calls) f i in
    let t = source_of (missed_at calls s.from) components f s.listed_there in
    let m = image_of (λ (k : ℕ). (s.from, t.from, k)) (filter (write_fault calls s.from t.from) (listed s.from)) f t.listed_there in
    let p = In-from_filter (write_fault calls s.from t.from) (listed s.from) m.from m.there in
    subst (λ (z : Call × ℕ × ℕ). IsFaultOf calls (Write z.0 z.1 z.2)) m.is (from_views calls s.from s.there, p.1)

-- the first of each kind

pub record First {X : Type 0} (of : X → Fault) (xs : List X) (f : Fault) : Type 0 where
  pub it : X
  pub first : first_of xs ≡ Some it
  pub there : In it xs
  pub is : of it ≡ f

first_mapped : {X : Type 0} (of : X → Fault) (xs : List X) (f : Fault) → option_map of (first_of xs) ≡ Some f → First of xs f
first_mapped of [] f e = absurd (cc e)
first_mapped of (x ∷ xs) f e = let s : of x ≡ f = cc in record { it = x; first = refl; there = inl refl; is = s }

pub integrity_is : (calls : List Call) (f : Fault) → first_integrity calls ≡ Some f → IsFaultOf calls f × (is_local f ≡ true)
unfolding first_integrity
integrity_is calls f e =
    let x = first_mapped (λ (f : Call × ℕ). Integrity f.0 f.1) (integrity_faults calls (views_of calls)) f e in
    (subst (IsFaultOf calls) x.is (integrity_member calls x.it x.there), ap is_local (sym x.is))

pub proximity_first : (calls : List Call) (f : Fault) → first_proximity calls ≡ Some f → IsFaultOf calls f × (is_local f ≡ true)
unfolding first_proximity
proximity_first calls f e =
    let x = first_mapped (proximity_of calls) (proximity_faults calls (views_of calls)) f e in
    (subst (IsFaultOf calls) x.is (proximity_member calls x.it x.there), ap is_local (sym x.is) ∙ either (old_fault calls x.it.0 x.it.1) (Old x.it.0 x.it.1) (Early x.it.0 x.it.1) refl refl)
  where
    either : (b : Bool) (g h : Fault) → is_local g ≡ true → is_local h ≡ true → is_local (cond b g h) ≡ true
    either true g h s t = s
    either false g h s t = t

pub read_is : (calls : List Call) (f : Fault) → first_read calls ≡ Some f → IsFaultOf calls f
unfolding first_read
read_is calls f e =
    let x = first_mapped (λ (f : Call × Call). Read f.0 f.1) (read_faults calls (views_of calls)) f e in
    subst (IsFaultOf calls) x.is (read_member calls x.it x.there)

pub write_is : (calls : List Call) (f : Fault) → first_write calls ≡ Some f → IsFaultOf calls f
unfolding first_write
write_is calls f e =
    let x = first_mapped (λ (f : Call × ℕ × ℕ). Write f.0 f.1 f.2) (write_faults calls (views_of calls)) f e in
    subst (IsFaultOf calls) x.is (write_member calls x.it x.there)

-- and of all

or_cases_of : (o p : Option Fault) (f : Fault) → option_or o p ≡ Some f → (o ≡ Some f) ⊎ ((o ≡ None) × (p ≡ Some f))
or_cases_of None p f e = inr (refl, e)
or_cases_of (Some x) p f e = inl e

or_none : (o p : Option Fault) → option_or o p ≡ None → (o ≡ None) × (p ≡ None)
or_none None p e = (refl, e)
or_none (Some x) p e = absurd (cc e)

-- a fault of one view alone comes first
pub record IsFirst (calls : List Call) (f : Fault) : Type 0 where
  pub fault : IsFaultOf calls f
  pub local : is_local f ≡ false → HasNoLocalFault calls

none_local : (calls : List Call) → first_integrity calls ≡ None → first_proximity calls ≡ None → HasNoLocalFault calls
unfolding first_integrity first_proximity
none_local calls i p = record {
  integrity = no_first (integrity_faults calls (views_of calls)) (unmapped (λ (f : Call × ℕ). Integrity f.0 f.1) (first_of (integrity_faults calls (views_of calls))) i);
  proximity = no_first (proximity_faults calls (views_of calls)) (unmapped (proximity_of calls) (first_of (proximity_faults calls (views_of calls))) p);
}
  where
    unmapped : {X : Type 0} (g : X → Fault) (o : Option X) → option_map g o ≡ None → o ≡ None
    unmapped g None e = refl
    unmapped g (Some x) e = absurd (cc e)

pub first_is : (calls : List Call) (f : Fault) → first_fault calls ≡ Some f → IsFirst calls f
first_is calls f e = elim (or_cases_of (first_integrity calls) _ f e) [
  | inl i ↦ let x = integrity_is calls f i in record { fault = x.0; local = λ l. absurd (false≢true (sym l ∙ x.1)) }
  | inr n ↦ elim (or_cases_of (first_proximity calls) _ f n.1) [
    | inl i ↦ let x = proximity_first calls f i in record { fault = x.0; local = λ l. absurd (false≢true (sym l ∙ x.1)) }
    | inr m ↦ elim (or_cases_of (first_read calls) _ f m.1) [
      | inl i ↦ record { fault = read_is calls f i; local = λ l. none_local calls n.0 m.0 }
      | inr o ↦ record { fault = write_is calls f o.1; local = λ l. none_local calls n.0 m.0 }
    ]
  ]
]

read_none : (calls : List Call) → first_read calls ≡ None → read_faults calls (views_of calls) ≡ []
unfolding first_read
read_none calls e = go (read_faults calls (views_of calls)) refl e
  where
    go : (xs : List (Call × Call)) → read_faults calls (views_of calls) ≡ xs → option_map (λ (f : Call × Call). Read f.0 f.1) (first_of (read_faults calls (views_of calls))) ≡ None → read_faults calls (views_of calls) ≡ []
    go [] s t = s
    go (x ∷ xs) s t = absurd (let g = sym (ap (λ z. option_map (λ (f : Call × Call). Read f.0 f.1) (first_of z)) s) ∙ t in cc)

write_none : (calls : List Call) → first_write calls ≡ None → write_faults calls (views_of calls) ≡ []
unfolding first_write
write_none calls e = go (write_faults calls (views_of calls)) refl e
  where
    go : (xs : List (Call × ℕ × ℕ)) → write_faults calls (views_of calls) ≡ xs → option_map (λ (f : Call × ℕ × ℕ). Write f.0 f.1 f.2) (first_of (write_faults calls (views_of calls))) ≡ None → write_faults calls (views_of calls) ≡ []
    go [] s t = s
    go (x ∷ xs) s t = absurd (let g = sym (ap (λ z. option_map (λ (f : Call × ℕ × ℕ). Write f.0 f.1 f.2) (first_of z)) s) ∙ t in cc)

pub none_is : (calls : List Call) → first_fault calls ≡ None → HasNoFault calls
none_is calls e =
    let a = or_none (first_integrity calls) _ e in
    let b = or_none (first_proximity calls) _ a.1 in
    let c = or_none (first_read calls) (first_write calls) b.1 in
    record { local = none_local calls a.0 b.0; read = read_none calls c.0; write = write_none calls c.1 }
