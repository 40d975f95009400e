-- Events with their stamps, in order.
use Rattle.std.proofs.Common.{◌≡◌, ℕ, zero, suc, ◌<◌, ◌≤◌, ◌⊎◌, ◌==◌, Bool, true, false, true≢false, cond, List, [], ◌∷◌, map, sym, refl, ap, ◌∙◌, subst, inl, inr, ⊎_elim, arith, eq-eqb, eqb-true}
use mathlib.Core.Option.{some, some-injective, some-ne-none}
use native.Mathlib.Decide.{dec_le, ℕ_discrete}
use lib.ListN.{get_elem?}
use Rattle.snap_core.specs.declared.event.Event.{Event}
use Rattle.snap_core.specs.Events.{process_of, events_of}
use Rattle.snap_board.specs.inside.Placed.{At}
use Rattle.snap_account.specs.Calls.{Mem}
use Rattle.snap_board.specs.History.{Stamped, events_in}
use Rattle.snap_account.proofs.Lists.{mem_at}

abbrev pub Stamp : Type 0
Stamp = ℕ × Event

-- places and stamps
pub stamped_at : (es : List Stamp) → Stamped es → (i j : ℕ) (x y : Stamp) → get_elem? es i ≡ some x → get_elem? es j ≡ some y → i < j → x.0 < y.0
stamped_at [] st i j x y ei ej lt = absurd (some-ne-none x (sym ei))
stamped_at (z ∷ es) st i zero x y ei ej lt = absurd (omega arith)
stamped_at (z ∷ es) st zero (suc j) x y ei ej lt = subst (λ (q : Stamp). q.0 < y.0) (some-injective _ _ ei) (st.0 y (mem_at es j y ej))
stamped_at (z ∷ es) st (suc i) (suc j) x y ei ej lt = stamped_at es st.1 i j x y ei ej (omega arith)

pub place_lt : (es : List Stamp) → Stamped es → (i j : ℕ) (x y : Stamp) → get_elem? es i ≡ some x → get_elem? es j ≡ some y → x.0 < y.0 → i < j
place_lt es st i j x y ei ej lt = at (dec_le j i)
  where
    same : j ≡ i → ⊥
    same e = let is : x ≡ y = some-injective _ _ (sym ei ∙ ap (λ k. get_elem? es k) (sym e) ∙ ej) in let s = ap (λ (q : Stamp). q.0) is in omega arith

    at : Dec (j ≤ i) → i < j
    at (yes le) = eq (ℕ_discrete j i)
      where
        eq : Dec (j ≡ i) → i < j
        eq (yes e) = absurd (same e)
        eq (no ne) = let less : j < i = omega arith in let l = stamped_at es st j i y x ej ei less in absurd (omega arith)
    at (no nle) = omega arith

pub mem_place : (es : List Stamp) (x : Stamp) → Mem x es → (i : ℕ) × (get_elem? es i ≡ some x)
mem_place [] x m = absurd m
mem_place (y ∷ es) x m = ⊎_elim (λ e. (0, ap some e)) (λ q. let r = mem_place es x q in (suc r.0, r.1)) m

pub event_at : (es : List Stamp) (i : ℕ) (e : Event) → At (events_in es) i e → (s : ℕ) × (get_elem? es i ≡ some (s, e))
event_at [] i e is = absurd (some-ne-none e (sym is))
event_at (x ∷ es) zero e is = (x.0, ap some (λ k. (x.0, some-injective _ _ is k)))
event_at (x ∷ es) (suc i) e is = event_at es i e is

pub at_event : (es : List Stamp) (i : ℕ) (x : Stamp) → get_elem? es i ≡ some x → At (events_in es) i x.1
at_event [] i x e = absurd (some-ne-none x (sym e))
at_event (y ∷ es) zero x e = ap (λ (q : Stamp). some q.1) (some-injective _ _ e)
at_event (y ∷ es) (suc i) x e = at_event es i x e

-- two lists with rising stamps and the same elements are one
pub unique : (xs ys : List Stamp) → Stamped xs → Stamped ys → ((x : Stamp) → Mem x xs → Mem x ys) → ((x : Stamp) → Mem x ys → Mem x xs) → xs ≡ ys
unique [] [] s t to from = refl
unique [] (y ∷ ys) s t to from = absurd (from y (inl refl))
unique (x ∷ xs) [] s t to from = absurd (to x (inl refl))
unique (x ∷ xs) (y ∷ ys) s t to from =
    let same : y ≡ x = ⊎_elim (λ e. e) (λ m. ⊎_elim (λ e. sym e) (λ m'. let a = t.0 x m in let b = s.0 y m' in absurd (omega arith)) (from y (inl refl))) (to x (inl refl)) in
    let eq = ap (λ (q : Stamp). q.0) same in
    let rest = unique xs ys s.1 t.1
    (λ z m. ⊎_elim (λ e. let a = s.0 z m in let b = ap (λ (q : Stamp). q.0) e in absurd (omega arith)) (λ q. q) (to z (inr m)))
    (λ z m. ⊎_elim (λ e. let a = t.0 z m in let b = ap (λ (q : Stamp). q.0) e in absurd (omega arith)) (λ q. q) (from z (inr m))) in
    λ i. sym same i ∷ rest i

-- the events of one process
pub pick : ℕ → List Stamp → List Stamp
pick p [] = []
pick p (x ∷ xs) = cond (process_of x.1 == p) (x ∷ pick p xs) (pick p xs)

pub mem_cond : (b : Bool) (xs ys : List Stamp) (x : Stamp) → Mem x (cond b xs ys) → ((b ≡ true) × Mem x xs) ⊎ ((b ≡ false) × Mem x ys)
mem_cond true xs ys x m = inl (refl, m)
mem_cond false xs ys x m = inr (refl, m)

pub pick_mem : (p : ℕ) (es : List Stamp) (x : Stamp) → Mem x (pick p es) → Mem x es × (process_of x.1 ≡ p)
unfolding pick
pick_mem p [] x m = absurd m
pick_mem p (y ∷ es) x m = ⊎_elim
    (λ (t : ((process_of y.1 == p) ≡ true) × Mem x (y ∷ pick p es)). ⊎_elim
    (λ (e : y ≡ x). (inl e, ap (λ (q : Stamp). process_of q.1) (sym e) ∙ eqb-true (process_of y.1) p t.0))
    (λ q. let r = pick_mem p es x q in (inr r.0, r.1))
    t.1)
    (λ (t : ((process_of y.1 == p) ≡ false) × Mem x (pick p es)). let r = pick_mem p es x t.1 in (inr r.0, r.1))
    (mem_cond (process_of y.1 == p) (y ∷ pick p es) (pick p es) x m)

pub in_cond : (b : Bool) (xs ys : List Stamp) (x : Stamp) → (b ≡ true → Mem x xs) → (b ≡ false → Mem x ys) → Mem x (cond b xs ys)
in_cond true xs ys x t f = t refl
in_cond false xs ys x t f = f refl

pub mem_pick : (p : ℕ) (es : List Stamp) (x : Stamp) → Mem x es → process_of x.1 ≡ p → Mem x (pick p es)
unfolding pick
mem_pick p [] x m is = absurd m
mem_pick p (y ∷ es) x m is = in_cond (process_of y.1 == p) (y ∷ pick p es) (pick p es) x
    (λ t. ⊎_elim (λ e. inl e) (λ q. inr (mem_pick p es x q is)) m)
    (λ f. ⊎_elim (λ (e : y ≡ x). absurd (true≢false (sym (eq-eqb (process_of y.1) p (ap (λ (q : Stamp). process_of q.1) e ∙ is)) ∙ f))) (λ q. mem_pick p es x q is) m)

pub stamped_cond : (b : Bool) (xs ys : List Stamp) → Stamped xs → Stamped ys → Stamped (cond b xs ys)
stamped_cond true xs ys s t = s
stamped_cond false xs ys s t = t

pub stamped_pick : (p : ℕ) (es : List Stamp) → Stamped es → Stamped (pick p es)
unfolding pick
stamped_pick p [] st = tt
stamped_pick p (y ∷ es) st = let r = stamped_pick p es st.1 in stamped_cond (process_of y.1 == p) (y ∷ pick p es) (pick p es) ((λ z m. st.0 z (pick_mem p es z m).0), r) r

pub map_cond : (b : Bool) (xs ys : List Stamp) (us vs : List Event) → map (λ (x : Stamp). x.1) xs ≡ us → map (λ (x : Stamp). x.1) ys ≡ vs → map (λ (x : Stamp). x.1) (cond b xs ys) ≡ cond b us vs
map_cond true xs ys us vs e f = e
map_cond false xs ys us vs e f = f

pub pick_history : (p : ℕ) (es : List Stamp) → events_in (pick p es) ≡ events_of p (events_in es)
unfolding pick
pick_history p [] = refl
pick_history p (x ∷ es) = let r = pick_history p es in map_cond (process_of x.1 == p) (x ∷ pick p es) (pick p es) _ _ (ap (λ l. x.1 ∷ l) r) r
