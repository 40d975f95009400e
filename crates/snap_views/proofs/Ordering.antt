-- The sweep for the greatest sum before each place.
use Rattle.std.proofs.Common.{◌≡◌, ℕ, suc, ◌+◌, ◌-◌, ◌<◌, ◌≤◌, true, List, set, length, get_or, max, Some, sym, ap, ◌∙◌, subst, inl, inr, arith, get_or-set_same, get_or-set_other, length-set}
use Rattle.std.proofs.Math.Nat.{le-max_left, le-max_right}
use Rattle.std.specs.Prelude.{◌⊎◌}
use Rattle.std.proofs.lemmas.Bool.{cases_lt, cases_eq}
use Rattle.std.proofs.lemmas.List.{get_or_default}
use Rattle.std.proofs.lemmas.Option.{slice_get_within}
use Rattle.snap_core.specs.declared.event.Event.{Event}
use Rattle.snap_core.specs.Bounded.{IsBoundedOrdered}
use Rattle.snap_core.specs.Calls.{Call, calls_of, views_of, precedes, nobody}
use Rattle.snap_core.specs.Regular.{IsViewOf}
use Rattle.snap_core.proofs.Facts.{precedes_to, precedes_from}
use Rattle.snap_core.proofs.Ordered.{are_ordered_calls}
use Rattle.snap_core.proofs.Ends.{call_end}
use Rattle.snap_core.proofs.Lists.{Contains-from_In}
use Rattle.snap_views.specs.Quick.{shown_sum, AreOrdered}
use Rattle.snap_views.specs.Seen.{view_in}
use Rattle.snap_views.specs.inside.Sweeps.{IsSumBefore, IsSwept}
use Rattle.snap_views.proofs.Chains.{view_is}
use Rattle.snap_theory.proofs.FaultLists.{in_views}

-- a greater number is one of two
one_of : (a b : ℕ) → (max a b ≡ a) ⊎ (max a b ≡ b)
one_of a b = elim (cases_lt a b) [ inl l ↦ inr (omega (arith, l)) | inr l ↦ inl (omega (arith, l)) ]

-- one more view
pub view_swept : (calls : List Call) (n ended sum : ℕ) (sums : List ℕ) → n < length (views_of calls) → (view_in calls n).ended ≡ Some ended → sum ≡ shown_sum (view_in calls n) → suc ended < length sums → IsSwept calls n 0 sums →
    IsSwept calls (n + 1) 0 (set sums (ended + 1) (max (get_or sums (ended + 1) 0) sum))
view_swept calls n ended sum sums w e s l h = record {
  most = λ view end place m f b o next. elim (cases_eq place (ended + 1)) [
    | inl here ↦ elim (cases_lt view n) [
      | inl old ↦
          let before = h.most view end place old f b (omega (arith, o, size)) next in
          omega (arith, before, at_here place here, le-max_left (get_or sums (ended + 1) 0) sum, ap (λ z. get_or sums z 0) here)
      | inr new ↦
          let same : view ≡ n = omega (arith, m, new) in
          omega (arith, ap (λ z. shown_sum (view_in calls z)) same, s, at_here place here, le-max_right (get_or sums (ended + 1) 0) sum)
    ]
    | inr other ↦ elim (cases_lt view n) [
      | inl old ↦ omega (arith, h.most view end place old f b (omega (arith, o, size)) next, away place other)
      | inr new ↦
          let same : view ≡ n = omega (arith, m, new) in
          let ends : Some end ≡ Some ended = sym f ∙ ap (λ z. (view_in calls z).ended) same ∙ e in
          let is : end ≡ ended = cc in
          absurd (other (omega (arith, is, next (omega arith))))
    ]
  ];
  some = λ place o. elim (cases_eq place (ended + 1)) [
    | inl here ↦ elim (one_of (get_or sums (ended + 1) 0) sum) [
      | inl is ↦
          let value = at_here place here ∙ is ∙ ap (λ z. get_or sums z 0) (sym here) in
          elim (h.some place (omega (arith, o, size))) [ inl none ↦ inl (value ∙ none) | inr some ↦ inr (subst (IsSumBefore calls place) (sym value) some) ]
      | inr is ↦ inr (record { view = n; within = w; ended = ended; ends = e; before = omega (arith, here); is = at_here place here ∙ is ∙ s })
    ]
    | inr other ↦ elim (h.some place (omega (arith, o, size))) [ inl none ↦ inl (away place other ∙ none) | inr some ↦ inr (subst (IsSumBefore calls place) (sym (away place other)) some) ]
  ];
}
  where
    new : List ℕ
    new = set sums (ended + 1) (max (get_or sums (ended + 1) 0) sum)

    size : length new ≡ length sums
    size = length-set sums (ended + 1) (max (get_or sums (ended + 1) 0) sum)

    at_here : (place : ℕ) → place ≡ ended + 1 → get_or new place 0 ≡ max (get_or sums (ended + 1) 0) sum
    at_here place here = ap (λ z. get_or new z 0) here ∙ get_or-set_same sums (ended + 1) (max (get_or sums (ended + 1) 0) sum) 0 (omega (arith, l))

    away : (place : ℕ) → ¬ (place ≡ ended + 1) → get_or new place 0 ≡ get_or sums place 0
    away place other = get_or-set_other sums (ended + 1) place (max (get_or sums (ended + 1) 0) sum) 0 other

-- one more place
pub place_swept : (calls : List Call) (n at : ℕ) (sums : List ℕ) → 0 < at → at < length sums → IsSwept calls n at sums → IsSwept calls n (at + 1) (set sums at (max (get_or sums at 0) (get_or sums (at - 1) 0)))
place_swept calls n at sums p l h = record {
  most = λ view ended place m f b o next. elim (cases_eq place at) [
    | inl here ↦ elim (cases_eq (suc ended) at) [
      | inl last ↦ omega (arith, h.most view ended at m f (omega (arith, last)) l (λ _. last), at_here place here, le-max_left (get_or sums at 0) (get_or sums (at - 1) 0))
      | inr earlier ↦ omega (arith, h.most view ended (at - 1) m f (omega (arith, b, here, earlier)) (omega (arith, l)) (λ z. absurd (omega (arith, z, p))), at_here place here, le-max_right (get_or sums at 0) (get_or sums (at - 1) 0))
    ]
    | inr other ↦ omega (arith, h.most view ended place m f b (omega (arith, o, size)) (λ z. next (omega (arith, z, other))), away place other)
  ];
  some = λ place o. elim (cases_eq place at) [
    | inl here ↦ elim (one_of (get_or sums at 0) (get_or sums (at - 1) 0)) [
      | inl is ↦ stays place (at_here place here ∙ is ∙ ap (λ z. get_or sums z 0) (sym here)) (h.some place (omega (arith, o, size)))
      | inr is ↦ elim (h.some (at - 1) (omega (arith, l))) [
        | inl none ↦ inl (at_here place here ∙ is ∙ none)
        | inr some ↦ inr (record { view = some.view; within = some.within; ended = some.ended; ends = some.ends; before = omega (arith, some.before, here); is = at_here place here ∙ is ∙ some.is })
      ]
    ]
    | inr other ↦ stays place (away place other) (h.some place (omega (arith, o, size)))
  ];
}
  where
    new : List ℕ
    new = set sums at (max (get_or sums at 0) (get_or sums (at - 1) 0))

    size : length new ≡ length sums
    size = length-set sums at (max (get_or sums at 0) (get_or sums (at - 1) 0))

    at_here : (place : ℕ) → place ≡ at → get_or new place 0 ≡ max (get_or sums at 0) (get_or sums (at - 1) 0)
    at_here place here = ap (λ z. get_or new z 0) here ∙ get_or-set_same sums at (max (get_or sums at 0) (get_or sums (at - 1) 0)) 0 l

    away : (place : ℕ) → ¬ (place ≡ at) → get_or new place 0 ≡ get_or sums place 0
    away place other = get_or-set_other sums at place (max (get_or sums at 0) (get_or sums (at - 1) 0)) 0 other

    stays : (place : ℕ) → get_or new place 0 ≡ get_or sums place 0 → (get_or sums place 0 ≡ 0) ⊎ IsSumBefore calls place (get_or sums place 0) → (get_or new place 0 ≡ 0) ⊎ IsSumBefore calls place (get_or new place 0)
    stays place e (inl none) = inl (e ∙ none)
    stays place e (inr some) = inr (subst (IsSumBefore calls place) (sym e) some)

-- where a completed view begins and ends in its history
pub record ViewPlaces (es : List Event) (r : Call) : Type 0 where
  pub ended : ℕ
  pub ends : r.ended ≡ Some ended
  pub begins : r.begun < ended
  pub within : ended < length es

pub view_places : (es : List Event) → IsBoundedOrdered es → (r : Call) → IsViewOf (calls_of es) r → ViewPlaces es r
view_places es kept r v =
    let facts = are_ordered_calls es kept.history in
    let e = facts.answered r v in
    let at = call_end es kept.history.well_formed r e.place v.there e.ends in
    record { ended = e.place; ends = e.ends; begins = facts.rises r e.place v.there e.ends; within = slice_get_within es e.place at.event at.there }

-- no completed view with a greater sum precedes a call
abbrev pub NoneAbove : List Call → Call → Type 0
NoneAbove calls s = (r : Call) → IsViewOf calls r → precedes r s ≡ true → shown_sum r ≤ shown_sum s

pub none_above : (es : List Event) → IsBoundedOrdered es → (n : ℕ) (sums : List ℕ) (s : Call) → n ≡ length (views_of (calls_of es)) → length sums ≡ length es + 1 → IsSwept (calls_of es) n (length sums) sums → IsViewOf (calls_of es) s → get_or sums s.begun 0 ≤ shown_sum s → NoneAbove (calls_of es) s
none_above es kept n sums s e size h w l r v p =
    let x = precedes_to r s p in
    let y = view_places es kept s w in
    let i = Contains-from_In (views_of (calls_of es)) r (in_views (calls_of es) r v) in
    let is : view_in (calls_of es) i.0 ≡ r = get_or_default (views_of (calls_of es)) i.0 nobody r i.1 ∙ i.2 in
    let within : s.begun < length sums = omega (arith, y.begins, y.within, size) in
    let most = h.most i.0 x.place s.begun (omega (arith, i.1, e)) (ap (λ (z : Call). z.ended) is ∙ x.ends) x.before within (λ z. absurd (omega (arith, z, within))) in
    omega (arith, most, l, ap shown_sum is)

pub some_above : (es : List Event) → IsBoundedOrdered es → (n reached : ℕ) (sums : List ℕ) (s : Call) → length sums ≡ length es + 1 → IsSwept (calls_of es) n reached sums → IsViewOf (calls_of es) s → shown_sum s < get_or sums s.begun 0 → ¬ AreOrdered (calls_of es)
some_above es kept n reached sums s size h w l o =
    let y = view_places es kept s w in
    elim (h.some s.begun (omega (arith, y.begins, y.within, size))) [
      | inl none ↦ omega (arith, none, l)
      | inr some ↦
          let r = view_in (calls_of es) some.view in
          let le = o r s (view_is (calls_of es) some.view some.within) w (precedes_from r s (record { place = some.ended; ends = some.ends; before = some.before })) in
          omega (arith, le, l, some.is)
    ]

pub ordered_by_places : (calls : List Call) → ((place : ℕ) → place < length (views_of calls) → NoneAbove calls (view_in calls place)) → AreOrdered calls
ordered_by_places calls h r s v w p =
    let i = Contains-from_In (views_of calls) s (in_views calls s w) in
    let is : view_in calls i.0 ≡ s = get_or_default (views_of calls) i.0 nobody s i.1 ∙ i.2 in
    subst (λ z. shown_sum r ≤ shown_sum z) is (h i.0 i.1 r v (ap (precedes r) is ∙ p))
