-- The begins and ends of cut calls: whose they are, and that no two have one place and one number.
use Rattle.std.proofs.Common.{◌≡◌, ◌≢◌, ℕ, Bool, false, List, [], ◌∷◌, eqb, Option, Some, None, refl, sym, ap, ◌∙◌, subst, inl, inr}
use Rattle.std.specs.Prelude.{◌&&◌}
use Rattle.std.specs.List.Sorted.{IsPermutation}
use Rattle.std.specs.List.{flat_map}
use Rattle.std.proofs.lemmas.Bool.{cases_eq, eq-eqb, ne_eqb, eqb-false, and_from, false≢true}
use Rattle.snap_core.specs.Calls.{Call}
use Rattle.snap_core.proofs.Lists.{In, Contains-from_In, Pairs, Pairs-weaker, Pairs-from_AllPairs}
use Rattle.snap_theory.specs.Intervals.{cut}
use Rattle.snap_theory.specs.Versioned.{AreVersioned}
use Rattle.snap_versions.specs.declared.moments.Ranked.{Ranked}
use Rattle.snap_versions.specs.Cuts.{end_or}
use Rattle.snap_versions.specs.Placed.{ArePlaced}
use Rattle.snap_versions.specs.inside.RankedMoments.{ranked_begin, ranked_end, ranked_ends, ranked_of}
use Rattle.snap_versions.proofs.Gathered.{Pairs-flat_map, Pairs-permutation, eqb_flips}
use Rattle.snap_versions.proofs.Kin.{Kin, begins_with, ends_with, same_call, one_begin}

-- the begin and the end of a cut call
abbrev pub begin_ranked : List Call → Call → Ranked
begin_ranked calls c = ranked_begin c.process c.operation c.begun (cut calls c).begun

abbrev pub end_ranked : Call → ℕ → Ranked
end_ranked c at = ranked_end c.process c.operation (end_or c.ended c.begun) at

-- r is the begin or the end of a cut call
pub data Part (calls : List Call) (c : Call) (r : Ranked) : Type 0 where
  Begin : begin_ranked calls c ≡ r → Part calls c r
  End : (at : ℕ) → (cut calls c).ended ≡ Some at → end_ranked c at ≡ r → Part calls c r

pub part : (calls : List Call) (c : Call) (r : Ranked) → In r (ranked_of calls c) → Part calls c r
part calls c r (inl e) = Begin e
part calls c r (inr i) = go (cut calls c).ended refl i
  where
    go : (ended : Option ℕ) → (cut calls c).ended ≡ ended → In r (ranked_ends c.process c.operation (end_or c.ended c.begun) ended) → Part calls c r
    go None is i = absurd i
    go (Some at) is (inl e) = End at is e
    go (Some at) is (inr i) = absurd i

pub begin_there : (calls : List Call) (c : Call) → In (begin_ranked calls c) (ranked_of calls c)
begin_there calls c = inl refl

pub end_there : (calls : List Call) (c : Call) (at : ℕ) → (cut calls c).ended ≡ Some at → In (end_ranked c at) (ranked_of calls c)
end_there calls c at is = inr (subst (λ o. In (end_ranked c at) (ranked_ends c.process c.operation (end_or c.ended c.begun) o)) (sym is) (inl refl))

-- two moments have two places or two numbers
abbrev pub Apart : Ranked → Ranked → Type 0
Apart a b = a.moment.at ≡ b.moment.at → a.number ≡ b.number → ⊥

-- a begin and an end have two places
begin_end : (calls : List Call) → ArePlaced calls → (a b : Call) → In a calls → In b calls → (at : ℕ) → (cut calls b).ended ≡ Some at → (cut calls a).begun ≢ at
begin_end calls p a b i j at ends same =
    let x = begins_with calls a i in
    let y = ends_with calls b at j ends in
    p.apart y.call x.call at (Contains-from_In calls y.call y.there) (Contains-from_In calls x.call x.there) y.ended (x.begun ∙ same)

-- moments of two calls
across : (calls : List Call) → AreVersioned calls → ArePlaced calls → (a b : Call) → In a calls → In b calls → a.begun ≢ b.begun → (r s : Ranked) → Part calls a r → Part calls b s → Apart r s
across calls v p a b i j other r s (Begin e) (Begin f) at number =
    let x = begins_with calls a i in
    let y = begins_with calls b j in
    let one = one_begin calls p y.call x.call y.there x.there (y.begun ∙ ap (λ (z : Ranked). z.moment.at) f ∙ sym at ∙ sym (ap (λ (z : Ranked). z.moment.at) e) ∙ sym x.begun) in
    other (ap (λ (z : Call). z.begun) (same_call calls v a b x.call i j x.kin (subst (λ z. Kin b z) one y.kin) (ap (λ (z : Ranked). z.number) e ∙ number ∙ sym (ap (λ (z : Ranked). z.number) f))))
across calls v p a b i j other r s (End m is e) (End n ends f) at number =
    let same : n ≡ m = ap (λ (z : Ranked). z.moment.at) f ∙ sym at ∙ sym (ap (λ (z : Ranked). z.moment.at) e) in
    let x = ends_with calls a m i is in
    let y = ends_with calls b n j ends in
    let one = p.ends y.call x.call m (Contains-from_In calls y.call y.there) (Contains-from_In calls x.call x.there) (y.ended ∙ ap Some same) x.ended in
    other (ap (λ (z : Call). z.begun) (same_call calls v a b x.call i j x.kin (subst (λ z. Kin b z) one y.kin) (ap (λ (z : Ranked). z.number) e ∙ number ∙ sym (ap (λ (z : Ranked). z.number) f))))
across calls v p a b i j other r s (Begin e) (End n ends f) at number =
    begin_end calls p a b i j n ends (ap (λ (z : Ranked). z.moment.at) e ∙ at ∙ sym (ap (λ (z : Ranked). z.moment.at) f))
across calls v p a b i j other r s (End m is e) (Begin f) at number =
    begin_end calls p b a j i m is (ap (λ (z : Ranked). z.moment.at) f ∙ sym at ∙ sym (ap (λ (z : Ranked). z.moment.at) e))

-- moments of one call
within : (calls : List Call) → ArePlaced calls → (c : Call) → In c calls → Pairs Apart (ranked_of calls c)
within calls p c i = go (cut calls c).ended refl
  where
    go : (ended : Option ℕ) → (cut calls c).ended ≡ ended → Pairs Apart (begin_ranked calls c ∷ ranked_ends c.process c.operation (end_or c.ended c.begun) ended)
    go None is = ((λ r j. absurd j), tt)
    go (Some at) is = (first, ((λ r j. absurd j), tt))
      where
        first : (r : Ranked) → In r (end_ranked c at ∷ []) → Apart (begin_ranked calls c) r
        first r (inl e) same number = begin_end calls p c c i i at is (same ∙ sym (ap (λ (z : Ranked). z.moment.at) e))
        first r (inr j) same number = absurd j

-- begins at two places, in another order
pub still_apart : (calls order : List Call) → ArePlaced calls → IsPermutation calls order → Pairs (λ a b. a.begun ≢ b.begun) order
still_apart calls order p same =
    Pairs-permutation (λ (a b : Call). eqb a.begun b.begun) (λ a b. eqb_flips a.begun b.begun) (λ (a b : Call). a.begun ≢ b.begun) (λ a b n. ne_eqb a.begun b.begun n) (λ a b n. eqb-false a.begun b.begun n)
    calls order same (Pairs-from_AllPairs (λ (a b : Call). a.begun ≢ b.begun) calls p.begins)

-- no two moments of the calls have one place and one number
pub moments_apart : (calls order : List Call) → AreVersioned calls → ArePlaced calls → IsPermutation calls order → ((c : Call) → In c order → In c calls) → Pairs Apart (flat_map (ranked_of calls) order)
moments_apart calls order v p same back =
    Pairs-flat_map Apart (ranked_of calls) order (λ c i. within calls p c (back c i))
    (Pairs-weaker (λ a b. a.begun ≢ b.begun) (λ a b. (r s : Ranked) → In r (ranked_of calls a) → In s (ranked_of calls b) → Apart r s) order
    (λ a b i j other r s k m. across calls v p a b (back a i) (back b j) other r s (part calls a r k) (part calls b s m)) (still_apart calls order p same))

-- the same in another order
abbrev is_same : Ranked → Ranked → Bool
is_same a b = eqb a.moment.at b.moment.at && eqb a.number b.number

apart_to : (a b : Ranked) → Apart a b → is_same a b ≡ false
apart_to a b h = elim (cases_eq a.moment.at b.moment.at) [
  | inr n ↦ ap (λ t. t && eqb a.number b.number) (ne_eqb _ _ n)
  | inl e ↦ ap (λ t. t && eqb a.number b.number) (eq-eqb _ _ e) ∙ ne_eqb _ _ (h e)
]

apart_from : (a b : Ranked) → is_same a b ≡ false → Apart a b
apart_from a b h e n = false≢true (sym h ∙ and_from _ _ (eq-eqb _ _ e) (eq-eqb _ _ n))

same_flips : (a b : Ranked) → is_same a b ≡ is_same b a
same_flips a b = ap (λ t. t && eqb a.number b.number) (eqb_flips a.moment.at b.moment.at) ∙ ap (λ t. eqb b.moment.at a.moment.at && t) (eqb_flips a.number b.number)

pub apart_in_order : (given order : List Ranked) → IsPermutation given order → Pairs Apart given → Pairs Apart order
apart_in_order given order = Pairs-permutation is_same same_flips Apart apart_to apart_from given order
