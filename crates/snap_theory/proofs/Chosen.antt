-- The places of some calls of a history keep these calls and no others.
use Rattle.std.proofs.Common.{◌≡◌, ℕ, suc, ◌+◌, Bool, true, false, ◌||◌, List, [], ◌∷◌, ◌++◌, length, Option, Some, None, refl, sym, ap, ◌∙◌, subst, inl, inr, arith, append_assoc, length-append}
use Rattle.std.specs.Prelude.{◌==◌}
use Rattle.std.specs.List.{Contains}
use Rattle.std.proofs.lemmas.Bool.{or_cases, eqb-true, eq-eqb, false≢true}
use Rattle.snap_core.specs.declared.event.Event.{Event}
use Rattle.snap_core.specs.Events.{process_of, events_of}
use Rattle.snap_core.specs.Calls.{Call, calls_of}
use Rattle.snap_core.proofs.Lists.{In, Contains-from_In, any_from, any_to}
use Rattle.snap_core.proofs.Begun.{Compared, alike, first, second, compare_splits, Next, nothing, found, next, Begun, begins, call_at, no_event}
use Rattle.snap_core.proofs.Ends.{begun_of}
use Rattle.snap_theory.specs.Kept.{ends_at, is_place_of}
use Rattle.snap_theory.specs.Choices.{IsChoice, AreChosen}
use Rattle.snap_core.specs.Ordered.{IsOrdered}
use Rattle.snap_core.proofs.Ordered.{are_ordered_calls}

-- a call by its begin
same_begun : (es : List Event) (a b : Call) → Contains (calls_of es) a → Contains (calls_of es) b → a.begun ≡ b.begun → a ≡ b
same_begun es a b i j e = go (compare_splits x.before x.event x.after y.before y.event y.after (sym x.split ∙ y.split))
  where
    x : Begun 0 0 es a
    x = begun_of es a i

    y : Begun 0 0 es b
    y = begun_of es b j

    go : Compared x.before x.event x.after y.before y.event y.after → a ≡ b
    go (alike s t u) =
        let g : begins x.before ≡ begins y.before = ap begins s in
        let n : a.number ≡ b.number = omega (arith, g, x.at_number, y.at_number) in
        x.is ∙ ap (λ z. call_at z a.begun x.event x.after) n ∙ ap (λ z. call_at b.number z x.event x.after) e ∙ ap (λ z. call_at b.number b.begun z x.after) t ∙ ap (call_at b.number b.begun y.event) u ∙ sym y.is
    go (first mid s t) = absurd (let l = ap length s ∙ length-append x.before (x.event ∷ mid) in omega (arith, l, x.at_place, y.at_place, e))
    go (second mid s t) = absurd (let l = ap length s ∙ length-append y.before (y.event ∷ mid) in omega (arith, l, x.at_place, y.at_place, e))

-- the end of a call, and the event there
record EndAt (es : List Event) (c : Call) (end : ℕ) : Type 0 where
  before : List Event
  opener : Event
  mid : List Event
  last : Event
  rest : List Event
  split : es ≡ (before ++ opener ∷ mid) ++ last ∷ rest
  same : process_of last ≡ process_of opener
  none : events_of (process_of opener) mid ≡ []
  at : c.begun ≡ length before
  at_end : end ≡ length (before ++ opener ∷ mid)

end_at : (es : List Event) (c : Call) (end : ℕ) → Contains (calls_of es) c → c.ended ≡ Some end → EndAt es c end
end_at es c end i h = go (next (process_of x.event) (suc c.begun) x.after)
  where
    x : Begun 0 0 es c
    x = begun_of es c i

    go : Next (process_of x.event) (suc c.begun) x.after → EndAt es c end
    go (nothing a b d) = absurd (let g : None ≡ Some end = sym a ∙ sym (ap (λ (z : Call). z.ended) x.is) ∙ h in cc)
    go (found mid y rest s q z a d) =
        let g : Some (suc c.begun + length mid) ≡ Some end = sym a ∙ sym (ap (λ (z : Call). z.ended) x.is) ∙ h in
        let e : suc c.begun + length mid ≡ end = cc in
        record {
          before = x.before;
          opener = x.event;
          mid = mid;
          last = y;
          rest = rest;
          split = x.split ∙ ap (λ w. x.before ++ x.event ∷ w) s ∙ sym (append_assoc x.before (x.event ∷ mid) (y ∷ rest));
          same = q;
          none = z;
          at = omega (arith, x.at_place);
          at_end = omega (arith, e, x.at_place, length-append x.before (x.event ∷ mid));
        }

-- two calls that end at one place begin at one
same_end : (es : List Event) (a b : Call) (end : ℕ) → Contains (calls_of es) a → Contains (calls_of es) b → a.ended ≡ Some end → b.ended ≡ Some end → a.begun ≡ b.begun
same_end es a b end i j g h = go (compare_splits (x.before ++ x.opener ∷ x.mid) x.last x.rest (y.before ++ y.opener ∷ y.mid) y.last y.rest (sym x.split ∙ y.split))
  where
    x : EndAt es a end
    x = end_at es a end i g

    y : EndAt es b end
    y = end_at es b end j h

    Ends : Type 0
    Ends = Compared (x.before ++ x.opener ∷ x.mid) x.last x.rest (y.before ++ y.opener ∷ y.mid) y.last y.rest

    inside : process_of x.opener ≡ process_of y.opener → Compared x.before x.opener x.mid y.before y.opener y.mid → a.begun ≡ b.begun
    inside p (alike s t u) = x.at ∙ ap length s ∙ sym y.at
    inside p (first mid s t) = absurd (no_event (process_of x.opener) mid y.opener y.mid (sym p) (sym (ap (events_of (process_of x.opener)) t) ∙ x.none))
    inside p (second mid s t) = absurd (no_event (process_of y.opener) mid x.opener x.mid p (sym (ap (events_of (process_of y.opener)) t) ∙ y.none))

    go : Ends → a.begun ≡ b.begun
    go (alike s t u) = inside (sym x.same ∙ ap process_of t ∙ y.same) (compare_splits x.before x.opener x.mid y.before y.opener y.mid s)
    go (first mid s t) = absurd (let l = ap length s ∙ length-append (x.before ++ x.opener ∷ x.mid) (x.last ∷ mid) in omega (arith, l, x.at_end, y.at_end))
    go (second mid s t) = absurd (let l = ap length s ∙ length-append (y.before ++ y.opener ∷ y.mid) (y.last ∷ mid) in omega (arith, l, x.at_end, y.at_end))

pub ends_true : (o : Option ℕ) (place : ℕ) → ends_at o place ≡ true → o ≡ Some place
ends_true None place h = absurd (false≢true h)
ends_true (Some end) place h = ap Some (eqb-true _ _ h)

-- a call whose begin is kept is one of the chosen
pub chosen_begun : (es : List Event) → IsOrdered es → (chosen : List Call) (numbers : ℕ → ℕ) → AreChosen chosen numbers (calls_of es) → (c : Call) → Contains (calls_of es) c → is_place_of chosen c.begun ≡ true → In c chosen
chosen_begun es h chosen numbers o c i k =
    let p = any_to (λ d. (d.begun == c.begun) || ends_at d.ended c.begun) chosen k in
    let j = o.there p.it (Contains-from_In chosen p.it p.there) in
    elim (or_cases (p.it.begun == c.begun) (ends_at p.it.ended c.begun) p.passes) [
      | inl e ↦ subst (λ d. In d chosen) (same_begun es p.it c j i (eqb-true _ _ e)) p.there
      | inr e ↦ absurd ((are_ordered_calls es h).apart p.it c c.begun j i (ends_true p.it.ended c.begun e) refl)
    ]

-- the places of a chosen call
pub begun_chosen : (chosen : List Call) (c : Call) → In c chosen → is_place_of chosen c.begun ≡ true
begun_chosen chosen c i = any_from (λ d. (d.begun == c.begun) || ends_at d.ended c.begun) chosen c i (ap (λ z. z || ends_at c.ended c.begun) (eq-eqb c.begun c.begun refl))

or_right : (a b : Bool) → b ≡ true → (a || b) ≡ true
or_right true b h = refl
or_right false b h = h

ended_chosen : (chosen : List Call) (c : Call) (end : ℕ) → In c chosen → c.ended ≡ Some end → is_place_of chosen end ≡ true
ended_chosen chosen c end i e = any_from (λ d. (d.begun == end) || ends_at d.ended end) chosen c i (or_right (c.begun == end) (ends_at c.ended end) (ap (λ z. ends_at z end) e ∙ eq-eqb end end refl))

-- a call whose end is kept is one of the chosen
chosen_ended : (es : List Event) → IsOrdered es → (chosen : List Call) (numbers : ℕ → ℕ) → AreChosen chosen numbers (calls_of es) → (c : Call) (end : ℕ) → Contains (calls_of es) c → c.ended ≡ Some end → is_place_of chosen end ≡ true → In c chosen
chosen_ended es h chosen numbers o c end i f k =
    let p = any_to (λ d. (d.begun == end) || ends_at d.ended end) chosen k in
    let j = o.there p.it (Contains-from_In chosen p.it p.there) in
    elim (or_cases (p.it.begun == end) (ends_at p.it.ended end) p.passes) [
      | inl e ↦ absurd ((are_ordered_calls es h).apart c p.it end i j f (eqb-true _ _ e))
      | inr e ↦ subst (λ d. In d chosen) (same_begun es p.it c j i (same_end es p.it c end j i (ends_true p.it.ended end e) f)) p.there
    ]

both : (a b : Bool) → (a ≡ true → b ≡ true) → (b ≡ true → a ≡ true) → a ≡ b
both true b f g = sym (f refl)
both false true f g = g refl
both false false f g = refl

pub chosen_is_choice : (es : List Event) → IsOrdered es → (chosen : List Call) (numbers : ℕ → ℕ) → AreChosen chosen numbers (calls_of es) → IsChoice (is_place_of chosen) numbers (calls_of es)
chosen_is_choice es h chosen numbers o = record {
  whole = λ c end i e. both (is_place_of chosen end) (is_place_of chosen c.begun)
      (λ k. begun_chosen chosen c (chosen_ended es h chosen numbers o c end i e k))
      (λ k. ended_chosen chosen c end (chosen_begun es h chosen numbers o c i k) e);
  one = λ c e u k. o.one c e (Contains-from_In chosen c (chosen_begun es h chosen numbers o c u.there k)) u.writes;
}
