-- The tests of faults by the places where single updates begin and end.
use Rattle.std.proofs.Common.{◌≡◌, ℕ, suc, Bool, true, false, not, ◌&&◌, ◌||◌, cond, List, [], ◌∷◌, Option, Some, None, refl, sym, ap, ◌∙◌, inl, inr, arith}
use Rattle.std.specs.Prelude.{◌==◌, find}
use Rattle.std.specs.List.{list_any}
use Rattle.std.proofs.lemmas.Bool.{false≢true, false_from_ne_true, and_parts, le-ltb, ltb-false}
use Rattle.snap_core.specs.declared.entry.Entry.{Entry}
use Rattle.snap_core.specs.Calls.{Call, Operation, Updates, Views, is_update_numbered, writes_number, precedes, is_before, shown, shown_number}
use Rattle.snap_core.proofs.Lists.{In, any_to}
use Rattle.snap_core.proofs.Ordered.{AreOrderedCalls}
use Rattle.snap_theory.specs.Faults.{writes_entry, is_unwritten, integrity_fault, old_fault, early_fault, write_fault}
use Rattle.snap_conditions.specs.inside.Places.{end_of, begin_of, begins_behind, begin_or_0, is_written, IsNoLater}
use Rattle.snap_theory.specs.Updates.{update_of}
use Rattle.snap_theory.proofs.Local.{numbered_to}

abbrev holds_of : {X : Type 0} → (X → Bool) → Option X → Bool
holds_of q None = false
holds_of q (Some x) = q x

-- of elements that a test tells from all others the first is the only one
any_one : {X : Type 0} (p q : X → Bool) (xs : List X) → ((a b : X) → In a xs → In b xs → p a ≡ true → p b ≡ true → a ≡ b) → list_any (λ a. p a && q a) xs ≡ holds_of q (find p xs)
any_one p q [] one = refl
any_one {X} p q (x ∷ xs) one = go (p x) refl (any_one p q xs (λ a b i j. one a b (inr i) (inr j)))
  where
    none_behind : p x ≡ true → q x ≡ false → list_any (λ a. p a && q a) xs ≡ false
    none_behind t f = false_from_ne_true _ (λ h.
        let y = any_to (λ a. p a && q a) xs h in
        let s = and_parts (p y.it) (q y.it) y.passes in
        let same = one x y.it (inl refl) (inr y.there) t s.0 in
        false≢true (sym f ∙ ap q same ∙ s.1))

    at : (c : Bool) → p x ≡ true → q x ≡ c → (c || list_any (λ a. p a && q a) xs) ≡ c
    at true t e = refl
    at false t e = none_behind t e

    go : (b : Bool) → p x ≡ b → list_any (λ a. p a && q a) xs ≡ holds_of q (find p xs) → ((b && q x) || list_any (λ a. p a && q a) xs) ≡ holds_of q (cond b (Some x) (find p xs))
    go true t rest = at (q x) t refl
    go false t rest = rest

any_update : (calls : List Call) → AreOrderedCalls calls → (k n : ℕ) (q : Call → Bool) → list_any (λ a. is_update_numbered k n a && q a) calls ≡ holds_of q (update_of calls k n)
any_update calls f k n q = any_one (is_update_numbered k n) q calls one
  where
    one : (a b : Call) → In a calls → In b calls → is_update_numbered k n a ≡ true → is_update_numbered k n b ≡ true → a ≡ b
    one a b i j s t =
        let x = numbered_to calls k n a i s in
        let y = numbered_to calls k n b j t in
        f.one a b x.entry y.entry x.update y.update (x.component ∙ sym y.component) (x.number ∙ sym y.number)

pub old_by_place : (calls : List Call) → AreOrderedCalls calls → (r : Call) (k : ℕ) → old_fault calls r k ≡ is_before (end_of (update_of calls k (suc (shown_number r k)))) r.begun
unfolding old_fault precedes
old_by_place calls f r k = any_update calls f k (suc (shown_number r k)) (λ a. is_before a.ended r.begun) ∙ at (update_of calls k (suc (shown_number r k)))
  where
    at : (o : Option Call) → holds_of (λ a. is_before a.ended r.begun) o ≡ is_before (end_of o) r.begun
    at None = refl
    at (Some a) = refl

pub early_by_place : (calls : List Call) → AreOrderedCalls calls → (r : Call) (k : ℕ) → early_fault calls r k ≡ begins_behind r.ended (begin_of (update_of calls k (shown_number r k)))
unfolding early_fault precedes
early_by_place calls f r k = any_update calls f k (shown_number r k) (λ a. is_before r.ended a.begun) ∙ at (update_of calls k (shown_number r k))
  where
    at : (o : Option Call) → holds_of (λ a. is_before r.ended a.begun) o ≡ begins_behind r.ended (begin_of o)
    at None = refl
    at (Some a) = refl

pub write_by_place : (calls : List Call) → AreOrderedCalls calls → (r : Call) (j k : ℕ) →
    write_fault calls r j k ≡ begins_behind (end_of (update_of calls j (suc (shown_number r j)))) (begin_of (update_of calls k (shown_number r k)))
unfolding write_fault precedes
write_by_place calls f r j k =
    any_update calls f j (suc (shown_number r j)) (λ a. list_any (λ b. is_update_numbered k (shown_number r k) b && is_before a.ended b.begun) calls)
    ∙ missed (update_of calls j (suc (shown_number r j)))
  where
    never : (o : Option Call) → false ≡ begins_behind None (begin_of o)
    never None = refl
    never (Some b) = refl

    shows : (a : Call) (o : Option Call) → holds_of (λ b. is_before a.ended b.begun) o ≡ begins_behind a.ended (begin_of o)
    shows a None = refl
    shows a (Some b) = refl

    missed : (o : Option Call) → holds_of (λ a. list_any (λ b. is_update_numbered k (shown_number r k) b && is_before a.ended b.begun) calls) o ≡ begins_behind (end_of o) (begin_of (update_of calls k (shown_number r k)))
    missed None = never (update_of calls k (shown_number r k))
    missed (Some a) = any_update calls f k (shown_number r k) (λ b. is_before a.ended b.begun) ∙ shows a (update_of calls k (shown_number r k))

any_same : {X : Type 0} (p q : X → Bool) (xs : List X) → ((x : X) → p x ≡ q x) → list_any p xs ≡ list_any q xs
any_same p q [] h = refl
any_same p q (x ∷ xs) h = ap (λ b. b || list_any p xs) (h x) ∙ ap (λ b. q x || b) (any_same p q xs h)

of_its_number : (o : Operation) (e : Entry) → writes_entry o e ≡ (writes_number o e.component e.number && writes_entry o e)
of_its_number (Updates d) e = twice (d.component == e.component) (d.number == e.number) (d.value == e.value)
  where
    twice : (a b c : Bool) → (a && (b && c)) ≡ ((a && b) && (a && (b && c)))
    twice true true c = refl
    twice true false c = refl
    twice false b c = refl
of_its_number (Views answer) e = refl

any_written : (calls : List Call) → AreOrderedCalls calls → (e : Entry) → list_any (λ c. writes_entry c.operation e) calls ≡ is_written (update_of calls e.component e.number) e
unfolding is_update_numbered
any_written calls f e =
    any_same (λ c. writes_entry c.operation e) (λ c. is_update_numbered e.component e.number c && writes_entry c.operation e) calls (λ c. of_its_number c.operation e)
    ∙ any_update calls f e.component e.number (λ c. writes_entry c.operation e) ∙ at (update_of calls e.component e.number)
  where
    at : (o : Option Call) → holds_of (λ c. writes_entry c.operation e) o ≡ is_written o e
    at None = refl
    at (Some c) = refl

pub integrity_by_update : (calls : List Call) → AreOrderedCalls calls → (r : Call) (k : ℕ) (e : Entry) → shown r k ≡ Some e → integrity_fault calls r k ≡ not (is_written (update_of calls e.component e.number) e)
unfolding integrity_fault
integrity_by_update calls f r k e s = ap (is_unwritten calls) s ∙ ap not (any_written calls f e)

-- begins in their order

-- a begin by the number that stands for it
pub behind_begin : (ended o : Option ℕ) → begins_behind ended o ≡ is_before ended (begin_or_0 o)
behind_begin None None = refl
behind_begin None (Some b) = refl
behind_begin (Some p) None = sym (le-ltb p 0 (omega arith))
behind_begin (Some p) (Some b) = refl

-- an end after which no begin stands has none after it that is no later
pub behind_none : (ended begun latest : Option ℕ) → IsNoLater begun latest → begins_behind ended latest ≡ false → begins_behind ended begun ≡ false
behind_none ended None latest h f = refl
behind_none ended (Some begun) None h f = absurd h
behind_none None (Some begun) (Some latest) h f = refl
behind_none (Some place) (Some begun) (Some latest) h f = le-ltb place begun (omega (arith, h, ltb-false place latest f))
