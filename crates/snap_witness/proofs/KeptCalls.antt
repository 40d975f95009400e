-- The calls of a witness are what is left of the calls that it keeps, one for one.
use Rattle.std.proofs.Common.{◌≡◌, ◌⊎◌, ℕ, suc, Bool, true, false, cond, List, [], ◌∷◌, length, refl, sym, ap, ◌∙◌, subst, inl, inr, arith}
use Rattle.snap_core.specs.declared.event.Event.{Event}
use Rattle.snap_core.specs.Events.{IsBegin}
use Rattle.snap_core.specs.Bounded.{IsBoundedOrdered}
use Rattle.snap_core.specs.Calls.{Call, calls_from, calls_of}
use Rattle.snap_core.proofs.Begun.{begun, call_at}
use Rattle.snap_core.proofs.Lists.{Contains-from_In, In}
use Rattle.snap_theory.specs.Choices.{IsChoice}
use Rattle.snap_theory.specs.FaultWitnesses.{Fault, IsFaultOf, fault_calls, fault_updates, fault_views, fault_witness}
use Rattle.snap_theory.specs.Kept.{is_place_of, kept_call, kept_event, kept_events, kept_from, rank}
use Rattle.snap_theory.specs.Witness.{numbers_of, witness_of}
use Rattle.snap_theory.proofs.Chosen.{chosen_is_choice}
use Rattle.snap_theory.proofs.FaultWitnesses.{are_witnesses}
use Rattle.snap_theory.proofs.Kept.{Whole, begin_kept, calls_begin, calls_end, end_kept, from_kept, from_left, kept_to, kind, rank_kept, rank_left, whole_begin, whole_end}
use Rattle.snap_theory.proofs.Witnesses.{are_chosen}
use Rattle.snap_witness.specs.Keeping.{as_kept, calls_begun, calls_kept}

listed_kept : (keeps : ℕ → Bool) (numbers : ℕ → ℕ) (place n m r : ℕ) (es : List Event) → r ≡ rank keeps place → Whole keeps (calls_from n place es) →
    calls_from m r (kept_from keeps numbers place es) ≡ as_kept keeps numbers m (calls_begun keeps (calls_from n place es))
listed_kept keeps numbers place n m r [] s w = refl
listed_kept keeps numbers place n m r (x ∷ es) s w = go (λ n m r. listed_kept keeps numbers (suc place) n m r es) (kind x) (keeps place) refl
  where
    K : List Event
    K = kept_from keeps numbers (suc place) es

    y : Event
    y = kept_event numbers x

    c : Call
    c = call_at n place x es

    More : Type 0
    More = (n m r : ℕ) → r ≡ rank keeps (suc place) → Whole keeps (calls_from n (suc place) es) → calls_from m r K ≡ as_kept keeps numbers m (calls_begun keeps (calls_from n (suc place) es))

    Goal : Type 0
    Goal = calls_from m r (kept_from keeps numbers place (x ∷ es)) ≡ as_kept keeps numbers m (calls_begun keeps (calls_from n place (x ∷ es)))

    front : IsBegin x → keeps place ≡ true → calls_from m r (kept_from keeps numbers place (x ∷ es)) ≡ call_at m r y K ∷ calls_from (suc m) (suc r) K
    front b p = ap (calls_from m r) (from_kept keeps numbers place x es p) ∙ calls_begin m r y K (begin_kept numbers x b)

    head_of : (q : ℕ) → (call_at m r y K ≡ kept_call keeps numbers q c) ⊎ In (kept_call keeps numbers q c) (calls_from (suc m) (suc r) K) → call_at m r y K ≡ kept_call keeps numbers m c
    head_of q (inl e) = e ∙ ap (λ z. kept_call keeps numbers z c) (sym (ap (λ (d : Call). d.number) e))
    head_of q (inr i) = absurd (let g = begun (suc m) (suc r) K (kept_call keeps numbers q c) i in omega (arith, g.at_place, s))

    head : IsBegin x → keeps place ≡ true → call_at m r y K ≡ kept_call keeps numbers m c
    head b p =
        let k = kept_to keeps numbers place n m r (x ∷ es) s w c (subst (In c) (sym (calls_begin n place x es b)) (inl refl)) p in
        head_of k.number (subst (In (kept_call keeps numbers k.number c)) (front b p) k.there)

    source : IsBegin x → (kept : Bool) → keeps place ≡ kept →
        calls_begun keeps (calls_from n place (x ∷ es)) ≡ cond kept (c ∷ calls_begun keeps (calls_from (suc n) (suc place) es)) (calls_begun keeps (calls_from (suc n) (suc place) es))
    source b kept p =
        ap (calls_begun keeps) (calls_begin n place x es b)
        ∙ ap (λ z. cond z (c ∷ calls_begun keeps (calls_from (suc n) (suc place) es)) (calls_begun keeps (calls_from (suc n) (suc place) es))) p

    go : More → IsBegin x ⊎ (IsBegin x → ⊥) → (p : Bool) → keeps place ≡ p → Goal
    go more (inl b) true p =
        front b p ∙ ap (λ z. z ∷ calls_from (suc m) (suc r) K) (head b p)
        ∙ ap (λ z. kept_call keeps numbers m c ∷ z) (more (suc n) (suc m) (suc r) (ap suc s ∙ sym (rank_kept keeps place p)) (whole_begin keeps n place x es b w))
        ∙ sym (ap (as_kept keeps numbers m) (source b true p))
    go more (inl b) false p =
        ap (calls_from m r) (from_left keeps numbers place x es p)
        ∙ more (suc n) m r (s ∙ sym (rank_left keeps place p)) (whole_begin keeps n place x es b w)
        ∙ sym (ap (as_kept keeps numbers m) (source b false p))
    go more (inr b) true p =
        ap (calls_from m r) (from_kept keeps numbers place x es p) ∙ calls_end m r y K (end_kept numbers x b)
        ∙ more n m (suc r) (ap suc s ∙ sym (rank_kept keeps place p)) (whole_end keeps n place x es b w)
        ∙ sym (ap (λ z. as_kept keeps numbers m (calls_begun keeps z)) (calls_end n place x es b))
    go more (inr b) false p =
        ap (calls_from m r) (from_left keeps numbers place x es p)
        ∙ more n m r (s ∙ sym (rank_left keeps place p)) (whole_end keeps n place x es b w)
        ∙ sym (ap (λ z. as_kept keeps numbers m (calls_begun keeps z)) (calls_end n place x es b))

pub calls_are_kept : (es : List Event) → IsBoundedOrdered es → (f : Fault) → IsFaultOf (calls_of es) f →
    calls_of (fault_witness es f) ≡ as_kept (is_place_of (fault_calls es f)) (numbers_of (fault_updates f)) 0 (calls_kept es f)
unfolding calls_of witness_of kept_events calls_kept
calls_are_kept es h f i =
    let chosen = are_chosen es (fault_views f) (fault_updates f) h.history (are_witnesses es h f i) in
    let choice : IsChoice (is_place_of (fault_calls es f)) (numbers_of (fault_updates f)) (calls_of es) = chosen_is_choice es h.history (fault_calls es f) (numbers_of (fault_updates f)) chosen in
    listed_kept (is_place_of (fault_calls es f)) (numbers_of (fault_updates f)) 0 0 0 0 es refl (λ c j i e. choice.whole c j (Contains-from_In (calls_of es) c i) e)

pub length-as_kept : (keeps : ℕ → Bool) (numbers : ℕ → ℕ) (n : ℕ) (cs : List Call) → length (as_kept keeps numbers n cs) ≡ length cs
length-as_kept keeps numbers n [] = refl
length-as_kept keeps numbers n (c ∷ cs) = ap suc (length-as_kept keeps numbers (suc n) cs)
