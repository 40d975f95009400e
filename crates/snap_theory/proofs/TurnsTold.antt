-- Events that tell calls are well-formed: each process alternates begins and ends.
use Rattle.std.proofs.Common.{◌≡◌, ◌⊎◌, ℕ, zero, suc, ◌≤◌, List, [], ◌∷◌, ◌++◌, append_assoc, length, Some, None, refl, sym, ap, ◌∙◌, subst, inl, inr, arith}
use Rattle.std.specs.Prelude.{◌==◌}
use Rattle.std.specs.List.{Contains}
use Rattle.std.proofs.lemmas.List.{length-append, map-append}
use Rattle.std.proofs.lemmas.List.Elements.{filter-append}
use Rattle.snap_core.specs.declared.event.Event.{Event}
use Rattle.snap_core.specs.Events.{process_of, IsBegin, Ends, TakeTurns, events_of, IsWellFormed}
use Rattle.snap_core.specs.Calls.{Call, Operation, Updates, Views}
use Rattle.snap_core.proofs.Begun.{Next, nothing, found, next, events_of-cons}
use Rattle.snap_core.proofs.Facts.{precedes_to}
use Rattle.snap_core.proofs.Lists.{In, Contains-from_In, In-append_left, In-append_right, In-append_cases}
use Rattle.snap_theory.specs.Telling.{Moment, begin_event, begin_of, end_event, end_of, AreSequential, IsBefore, IsMomentOf, Tells}
use Rattle.snap_theory.proofs.Images.{SplitOrigin, split_origin}
use Rattle.snap_theory.proofs.Telling.{After, unended, ended, after, ahead, begin_in, early, heard, no_moment, not_itself, not_opening, opens, process_begin, process_end}

-- the first event of a process, and those behind it
next_of : (p : ℕ) (mid : List Event) (x : Event) (rest : List Event) → process_of x ≡ p → events_of p mid ≡ [] → events_of p (mid ++ x ∷ rest) ≡ x ∷ events_of p rest
next_of p mid x rest same none = filter-append (λ e. process_of e == p) mid (x ∷ rest) ∙ ap (λ z. z ++ events_of p (x ∷ rest)) none ∙ events_of-cons p x rest same

-- the end of a call ends its begin
ends_begin : (p : ℕ) (o : Operation) → Ends (begin_event p o) (end_event p o)
ends_begin p (Updates e) = tt
ends_begin p (Views None) = tt
ends_begin p (Views (Some es)) = tt

module _ (calls : List Call) (events : List Event) (s : AreSequential calls) (t : Tells calls events) where
  -- each call of the process that begins among these moments ends there, if it ends
  abbrev Closed : ℕ → List Moment → Type 0
  Closed p front = (c : Call) → Contains calls c → c.process ≡ p → In (begin_of c) front → (place : ℕ) → c.ended ≡ Some place → In (end_of c place) front

  -- two calls of a process do not begin at one place
  pub one_begin : (a b : Call) → Contains calls a → Contains calls b → a.process ≡ b.process → a.begun ≡ b.begun → a ≡ b
  one_begin a b i j same begun = elim (s.turns a b i j same) [
    | inl one ↦ one
    | inr (inl h) ↦ absurd (let p = precedes_to a b h in let l = s.rises a p.place i p.ends in let m = p.before in omega (arith, l, m, begun))
    | inr (inr h) ↦ absurd (let p = precedes_to b a h in let l = s.rises b p.place j p.ends in let m = p.before in omega (arith, l, m, begun))
  ]

  -- the moments up to the end of a call, before which the process has no other
  closed_behind : (p : ℕ) (front mid : List Moment) (d : Call) (inner : List Moment) (end : ℕ) → Contains calls d → d.process ≡ p → d.ended ≡ Some end → Closed p front → events_of p (heard mid) ≡ [] → events_of p (heard inner) ≡ [] →
      Closed p (front ++ (mid ++ begin_of d ∷ (inner ++ end_of d end ∷ [])))
  closed_behind p front mid d inner end id pd ends closed none last c i pc there place e = in_front (In-append_cases (begin_of c) front _ there)
    where
      tail : List Moment
      tail = mid ++ begin_of d ∷ (inner ++ end_of d end ∷ [])

      own : process_of (begin_of c).event ≡ p
      own = process_begin c.process c.operation ∙ pc

      same_end : d ≡ c → In (end_of c place) (front ++ tail)
      same_end one =
          let q : Some end ≡ Some place = sym ends ∙ ap (λ (z : Call). z.ended) one ∙ e in
          let at : end ≡ place = cc in
          let is : end_of d end ≡ end_of c place = ap (λ z. end_of z end) one ∙ ap (end_of c) at in
          In-append_right (end_of c place) front tail (In-append_right (end_of c place) mid (begin_of d ∷ (inner ++ end_of d end ∷ [])) (inr (In-append_right (end_of c place) inner (end_of d end ∷ []) (inl is))))

      in_inner : In (begin_of c) inner ⊎ In (begin_of c) (end_of d end ∷ []) → In (end_of c place) (front ++ tail)
      in_inner (inl j) = absurd (no_moment calls events s t p inner (begin_of c) j own last)
      in_inner (inr (inl is)) = absurd (not_opening d.process d.operation (subst IsBegin (ap (λ (z : Moment). z.event) (sym is)) (opens c.process c.operation)))
      in_inner (inr (inr j)) = absurd j

      in_tail : In (begin_of c) mid ⊎ In (begin_of c) (begin_of d ∷ (inner ++ end_of d end ∷ [])) → In (end_of c place) (front ++ tail)
      in_tail (inl j) = absurd (no_moment calls events s t p mid (begin_of c) j own none)
      in_tail (inr (inl is)) = same_end (one_begin d c id i (pd ∙ sym pc) (ap (λ (z : Moment). z.place) is))
      in_tail (inr (inr j)) = in_inner (In-append_cases (begin_of c) inner (end_of d end ∷ []) j)

      in_front : In (begin_of c) front ⊎ In (begin_of c) tail → In (end_of c place) (front ++ tail)
      in_front (inl j) = In-append_left (end_of c place) front tail (closed c i pc j place e)
      in_front (inr j) = in_tail (In-append_cases (begin_of c) mid _ j)

  -- what the process does behind such moments
  abbrev Turns : ℕ → ℕ → Type 0
  Turns n p = (front back : List Moment) → t.moments ≡ front ++ back → length back ≤ n → Closed p front → TakeTurns (events_of p (heard back))

  turns_on : (n p : ℕ) → Turns n p → Turns (suc n) p
  turns_on n p on front back is short closed = go (next p 0 (heard back))
    where
      go : Next p 0 (heard back) → TakeTurns (events_of p (heard back))
      go (nothing a none ans) = subst TakeTurns (sym none) tt
      go (found mid x rest split px none at ans) = by owned.2
        where
          o : SplitOrigin (λ (m : Moment). m.event) back mid x rest
          o = split_origin (λ m. m.event) back mid rest x split

          whole : t.moments ≡ (front ++ o.front) ++ o.it ∷ o.back
          whole = is ∙ ap (λ z. front ++ z) o.split ∙ sym (append_assoc front o.front (o.it ∷ o.back))

          owned : IsMomentOf calls o.it
          owned = t.only o.it (Contains-from_In _ _ (subst (In o.it) (sym whole) (In-append_right o.it (front ++ o.front) (o.it ∷ o.back) (inl refl))))

          d : Call
          d = owned.0

          silent : events_of p (heard o.front) ≡ []
          silent = ap (events_of p) o.is_front ∙ none

          first : events_of p (heard back) ≡ x ∷ events_of p (heard o.back)
          first = ap (events_of p) split ∙ next_of p mid x rest px none ∙ ap (λ z. x ∷ events_of p z) (sym o.is_back)

          -- an end would follow the begin of its call
          no_end : (place : ℕ) → d.ended ≡ Some place → o.it ≡ end_of d place → ⊥
          no_end place e same = ended_in (In-append_cases (begin_of d) front o.front (ahead calls events s t (front ++ o.front) o.it o.back whole (begin_of d) (begin_in calls events s t d owned.1) before))
            where
              before : IsBefore (begin_of d) o.it
              before = subst (IsBefore (begin_of d)) (sym same) (inl (s.rises d place owned.1 e))

              process : d.process ≡ p
              process = sym (process_end d.process d.operation) ∙ ap (λ (z : Moment). process_of z.event) (sym same) ∙ ap process_of o.is ∙ px

              ended_in : In (begin_of d) front ⊎ In (begin_of d) o.front → ⊥
              ended_in (inl j) = not_itself o.it (early calls events s t (front ++ o.front) o.it o.back whole o.it (In-append_left o.it front o.front (subst (λ z. In z front) (sym same) (closed d owned.1 process j place e))))
              ended_in (inr j) = no_moment calls events s t p o.front (begin_of d) j (process_begin d.process d.operation ∙ process) silent

          begun : o.it ≡ begin_of d → TakeTurns (events_of p (heard back))
          begun same = subst TakeTurns (sym first) (turn (after calls events s t d owned.1 (front ++ o.front) o.back (whole ∙ ap (λ z. (front ++ o.front) ++ z ∷ o.back) same)))
            where
              is_begin : x ≡ begin_event d.process d.operation
              is_begin = sym o.is ∙ ap (λ (z : Moment). z.event) same

              process : d.process ≡ p
              process = sym (process_begin d.process d.operation) ∙ ap process_of (sym is_begin) ∙ px

              turn : After calls events s t d (front ++ o.front) o.back → TakeTurns (x ∷ events_of p (heard o.back))
              turn (unended e a b last) = subst (λ z. TakeTurns (x ∷ z)) (sym (ap (λ q. events_of q (heard o.back)) (sym process) ∙ last)) (subst IsBegin (sym is_begin) (opens d.process d.operation))
              turn (ended place inner rear e split_back a b last) =
                  let quiet : events_of p (heard inner) ≡ [] = ap (λ q. events_of q (heard inner)) (sym process) ∙ last in
                  let second : events_of p (heard o.back) ≡ end_event d.process d.operation ∷ events_of p (heard rear) =
                  ap (λ z. events_of p (heard z)) split_back ∙ ap (events_of p) (map-append (λ m. m.event) inner (end_of d place ∷ rear)) ∙ next_of p (heard inner) (end_event d.process d.operation) (heard rear) (process_end d.process d.operation ∙ process) quiet in
                  let fore = o.front ++ begin_of d ∷ (inner ++ end_of d place ∷ []) in
                  let rejoin : back ≡ fore ++ rear = joined inner rear place split_back in
                  let left : length rear ≤ n = omega (arith, short, ap length o.split, length-append o.front (o.it ∷ o.back), ap length split_back, length-append inner (end_of d place ∷ rear)) in
                  subst (λ z. TakeTurns (x ∷ z)) (sym second) (
                    subst (λ z. Ends z (end_event d.process d.operation)) (sym is_begin) (ends_begin d.process d.operation),
                    on (front ++ fore) rear (is ∙ ap (λ z. front ++ z) rejoin ∙ sym (append_assoc front fore rear)) left (closed_behind p front o.front d inner place owned.1 process e closed silent quiet),
                  )
                where
                  joined : (inner rear : List Moment) (place : ℕ) → o.back ≡ inner ++ end_of d place ∷ rear → back ≡ (o.front ++ begin_of d ∷ (inner ++ end_of d place ∷ [])) ++ rear
                  joined inner rear place split_back =
                      o.split ∙ ap (λ z. o.front ++ z ∷ o.back) same ∙ ap (λ z. o.front ++ begin_of d ∷ z) (split_back ∙ sym (append_assoc inner (end_of d place ∷ []) rear))
                      ∙ sym (append_assoc o.front (begin_of d ∷ (inner ++ end_of d place ∷ [])) rear)

          by : (o.it ≡ begin_of d) ⊎ ((place : ℕ) × (d.ended ≡ Some place) × (o.it ≡ end_of d place)) → TakeTurns (events_of p (heard back))
          by (inl same) = begun same
          by (inr (place, e, same)) = absurd (no_end place e same)

  turns_told : (n p : ℕ) → Turns n p
  turns_told zero p front [] is short closed = tt
  turns_told zero p front (m ∷ back) is short closed = absurd (omega (arith, short))
  turns_told (suc n) p front back is short closed = turns_on n p (turns_told n p) front back is short closed

  pub told_well_formed : IsWellFormed events
  told_well_formed p = subst (λ z. TakeTurns (events_of p z)) (sym t.told) (turns_told (length t.moments) p [] t.moments refl (omega arith) (λ c i pc j. absurd j))
