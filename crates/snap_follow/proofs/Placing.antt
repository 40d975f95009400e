-- The places of events, with one event more.
use Rattle.std.proofs.Common.{◌≡◌, ◌+◌, ◌⊎◌, ◌++◌, ◌∙◌, ℕ, List, [], ◌∷◌, zero, suc, append_assoc, arith, ap, inl, inr, length, length-append, refl, subst, sym}
use Rattle.snap_core.specs.declared.event.Event.{Event}
use Rattle.snap_follow.specs.declared.span.Place.{Place}
use Rattle.snap_follow.specs.declared.span.Span.{Span}
use Rattle.snap_follow.specs.Places.{IsPlaceOfEvent, IsSpanIn}
use Rattle.snap_follow.specs.Spans.{HasOneMore, stop}

-- of a list and one thing more, each is that one or one of the others
pub snoc_cases : {A : Type 0} (xs : List A) (y : A) (front : List A) (x : A) (behind : List A) → xs ++ y ∷ [] ≡ front ++ x ∷ behind →
    ((behind ≡ []) × (front ≡ xs) × (x ≡ y)) ⊎ ((b : List A) × (xs ≡ front ++ x ∷ b))
snoc_cases [] y [] x behind is = inl (cc, refl, cc)
snoc_cases [] y (a ∷ front) x behind is = absurd (omega (arith, ap length is, length-append front (x ∷ behind)))
snoc_cases (z ∷ xs) y [] x behind is = inr (xs, cc)
snoc_cases {A} (z ∷ xs) y (a ∷ front) x behind is = go (snoc_cases xs y front x behind tails)
  where
    tails : xs ++ y ∷ [] ≡ front ++ x ∷ behind
    tails = cc

    heads : z ≡ a
    heads = cc

    go : ((behind ≡ []) × (front ≡ xs) × (x ≡ y)) ⊎ ((b : List A) × (xs ≡ front ++ x ∷ b)) → ((behind ≡ []) × (a ∷ front ≡ z ∷ xs) × (x ≡ y)) ⊎ ((b : List A) × (z ∷ xs ≡ (a ∷ front) ++ x ∷ b))
    go (inl p) = inl (p.0, ap (λ l. a ∷ l) p.1 ∙ ap (λ h. h ∷ xs) (sym heads), p.2)
    go (inr q) = inr (q.0, ap (λ l. z ∷ l) q.1 ∙ ap (λ h. h ∷ (front ++ x ∷ q.0)) heads)

-- places have grown: each event keeps its place
abbrev pub Grows : List Place → List Place → Type 0
Grows all new = (n : ℕ) (p : Place) → IsPlaceOfEvent all n p → IsPlaceOfEvent new n p

pub grows_by : (old new more : List Place) → new ≡ old ++ more → Grows old new
grows_by old new more is n p h = record { front = h.front; behind = h.behind ++ more; parts = is ∙ ap (λ z. z ++ more) h.parts ∙ append_assoc h.front (p ∷ h.behind) more; number = h.number }

-- the place of an event that comes last
pub place_last : (places : List Place) (n : ℕ) (p : Place) → n ≡ length places + 1 → IsPlaceOfEvent (places ++ p ∷ []) n p
place_last places n p is = record { front = places; behind = []; parts = refl; number = is }

pub span_grown : (span : Span) (all new : List Place) (others count : ℕ) → Grows all new → IsSpanIn span all others count → IsSpanIn span new others count
span_grown span all new others count grows h = record {
  first_at = λ some. grows (others + 1) span.first (h.first_at some);
  last_at = λ some. grows (others + count) span.last (h.last_at some);
}

pub span_of_none : (span : Span) (all : List Place) (others : ℕ) → IsSpanIn span all others 0
span_of_none span all others = record { first_at = λ some. absurd (omega (arith, some)); last_at = λ some. absurd (omega (arith, some)) }

-- a span with one event more
pub span_with : (old new : Span) (x : Event) (p : Place) (all grown : List Place) (others : ℕ) (since more : List Event) → HasOneMore old x p new → Grows all grown → old.events ≡ stop (length since) → length more ≡ length since + 1 →
    IsPlaceOfEvent grown (others + length more) p → IsSpanIn old all others (length since) → IsSpanIn new grown others (length more)
span_with old new x p all grown others since more one grows counted longer now h = record { first_at = λ _. first (length since) refl; last_at = λ _. subst (IsPlaceOfEvent grown (others + length more)) (sym one.2) now }
  where
    first : (k : ℕ) → k ≡ length since → IsPlaceOfEvent grown (others + 1) new.first
    first zero is =
        let none : old.events ≡ 0 = omega (arith, counted, is) in
        let same : others + length more ≡ others + 1 = omega (arith, longer, is) in
        subst (IsPlaceOfEvent grown (others + 1)) (sym (one.3 none)) (subst (λ z. IsPlaceOfEvent grown z p) same now)
    first (suc k) is =
        let some : old.events ≡ 0 → ⊥ = λ none. omega (arith, counted, is, none) in
        subst (IsPlaceOfEvent grown (others + 1)) (sym (one.4 some)) (grows (others + 1) old.first (h.first_at (omega (arith, is))))
