-- The updates of a component stand in the order of their numbers.
use Rattle.std.proofs.Common.{◌≡◌, ◌+◌, ◌&&◌, ℕ, zero, suc, Bool, true, false, cond, List, [], ◌∷◌, ◌++◌, append_assoc, length, find, slice_get, Some, None, refl, sym, ap, ◌∙◌, subst, arith}
use Rattle.std.specs.Prelude.{filter, ◌==◌}
use Rattle.std.specs.List.{count_by}
use Rattle.std.proofs.lemmas.Bool.{eq-eqb, ne_eqb, eqb-true}
use Rattle.std.proofs.lemmas.List.Sums.{sum_by-append, length-filter}
use Rattle.snap_core.specs.declared.event.Event.{Event}
use Rattle.snap_core.specs.declared.event.Event.TheVariants.{BeginUpdate, BeginView, EndUpdate, EndView}
use Rattle.snap_core.specs.Ordered.{IsOrdered}
use Rattle.snap_core.specs.Events.{IsNumbered, begins_update_of}
use Rattle.snap_core.specs.Calls.{Call, Updates, Views, next_place, next_answer, calls_from, calls_of, is_update_numbered}
use Rattle.snap_core.proofs.Lists.{count-cons}
use Rattle.snap_index.specs.Updates.{is_update_of, updates_of}

grown : (before : List Event) (x : Event) (es : List Event) → IsNumbered (before ++ x ∷ es) → IsNumbered ((before ++ x ∷ []) ++ es)
grown before x es h = subst IsNumbered (sym (append_assoc before (x ∷ []) es)) h

count_after : (k : ℕ) (before : List Event) (x : Event) → count_by (begins_update_of k) (before ++ x ∷ []) ≡ count_by (begins_update_of k) before + cond (begins_update_of k x) 1 0
count_after k before x = sum_by-append (λ y. cond (begins_update_of k y) 1 0) before (x ∷ []) ∙ (let c = count-cons (begins_update_of k) x [] in omega (arith, c))

-- the calls of a list in which the updates of component k begin from a number on
abbrev AreNumberedFrom : ℕ → ℕ → List Call → Type 0
AreNumberedFrom k b calls = (i : ℕ) → find (is_update_numbered k (suc (b + i))) calls ≡ slice_get (filter (is_update_of k) calls) i

-- one call more in front, which is no update of k
other_in_front : (k b : ℕ) (c : Call) (calls : List Call) → is_update_of k c ≡ false → ((m : ℕ) → is_update_numbered k m c ≡ false) → AreNumberedFrom k b calls → AreNumberedFrom k b (c ∷ calls)
other_in_front k b c calls f g h i =
    ap (λ t. cond t (Some c) (find (is_update_numbered k (suc (b + i))) calls)) (g (suc (b + i))) ∙ h i
    ∙ sym (ap (λ t. slice_get (cond t (c ∷ filter (is_update_of k) calls) (filter (is_update_of k) calls)) i) f)

-- one call more in front, the update of k with the first number
first_in_front : (k b : ℕ) (c : Call) (calls : List Call) → is_update_of k c ≡ true → ((m : ℕ) → is_update_numbered k m c ≡ (suc b == m)) → AreNumberedFrom k (suc b) calls → AreNumberedFrom k b (c ∷ calls)
first_in_front k b c calls f g h i = at i ∙ sym (ap (λ t. slice_get (cond t (c ∷ filter (is_update_of k) calls) (filter (is_update_of k) calls)) i) f)
  where
    at : (i : ℕ) → cond (is_update_numbered k (suc (b + i)) c) (Some c) (find (is_update_numbered k (suc (b + i))) calls) ≡ slice_get (c ∷ filter (is_update_of k) calls) i
    at zero = ap (λ t. cond t (Some c) (find (is_update_numbered k (suc (b + 0))) calls)) (g (suc (b + 0)) ∙ eq-eqb (suc b) (suc (b + 0)) (omega arith))
    at (suc j) =
        let e : suc (b + suc j) ≡ suc (suc b + j) = omega arith in
        ap (λ t. cond t (Some c) (find (is_update_numbered k (suc (b + suc j))) calls)) (g (suc (b + suc j)) ∙ ne_eqb (suc b) (suc (b + suc j)) (λ x. omega (arith, x)))
        ∙ ap (λ m. find (is_update_numbered k m) calls) e ∙ h j

same_start : (k b d : ℕ) (calls : List Call) → d ≡ b → AreNumberedFrom k d calls → AreNumberedFrom k b calls
same_start k b d calls e h i = ap (λ z. find (is_update_numbered k (suc (z + i))) calls) (sym e) ∙ h i

numbered_from : (k n place : ℕ) (before es : List Event) → IsNumbered (before ++ es) → AreNumberedFrom k (count_by (begins_update_of k) before) (calls_from n place es)
unfolding is_update_numbered is_update_of
numbered_from k n place before [] h = λ i. refl
numbered_from k n place before (BeginUpdate p e ∷ es) h = go (e.component == k) refl (numbered_from k (suc n) (suc place) (before ++ BeginUpdate p e ∷ []) es (grown before (BeginUpdate p e) es h))
  where
    b : ℕ
    b = count_by (begins_update_of k) before

    c : Call
    c = record { number = n; process = p; operation = Updates e; begun = place; ended = next_place p (suc place) es }

    after : count_by (begins_update_of k) (before ++ BeginUpdate p e ∷ []) ≡ b + cond (e.component == k) 1 0
    after = count_after k before (BeginUpdate p e)

    go : (t : Bool) → (e.component == k) ≡ t → AreNumberedFrom k (count_by (begins_update_of k) (before ++ BeginUpdate p e ∷ [])) (calls_from (suc n) (suc place) es) → AreNumberedFrom k b (c ∷ calls_from (suc n) (suc place) es)
    go true t rest =
        let one : cond (e.component == k) 1 0 ≡ 1 = ap {B = ℕ} (λ z. cond z 1 0) t in
        let number : e.number ≡ suc b = h before es p e refl ∙ ap (λ z. suc (count_by (begins_update_of z) before)) (eqb-true e.component k t) in
        first_in_front k b c (calls_from (suc n) (suc place) es) t
        (λ m. ap (λ z. z && (e.number == m)) t ∙ ap (λ z. z == m) number)
        (same_start k (suc b) _ (calls_from (suc n) (suc place) es) (omega (arith, after, one)) rest)
    go false t rest =
        let none : cond (e.component == k) 1 0 ≡ 0 = ap {B = ℕ} (λ z. cond z 1 0) t in
        other_in_front k b c (calls_from (suc n) (suc place) es) t
        (λ m. ap (λ z. z && (e.number == m)) t)
        (same_start k b _ (calls_from (suc n) (suc place) es) (omega (arith, after, none)) rest)
numbered_from k n place before (BeginView p ∷ es) h =
    let after = count_after k before (BeginView p) in
    let rest = numbered_from k (suc n) (suc place) (before ++ BeginView p ∷ []) es (grown before (BeginView p) es h) in
    other_in_front k (count_by (begins_update_of k) before) (record { number = n; process = p; operation = Views (next_answer p es); begun = place; ended = next_place p (suc place) es })
    (calls_from (suc n) (suc place) es) refl (λ m. refl)
    (same_start k (count_by (begins_update_of k) before) _ (calls_from (suc n) (suc place) es) (omega (arith, after)) rest)
numbered_from k n place before (EndUpdate p ∷ es) h =
    let after = count_after k before (EndUpdate p) in
    same_start k (count_by (begins_update_of k) before) _ (calls_from n (suc place) es) (omega (arith, after)) (numbered_from k n (suc place) (before ++ EndUpdate p ∷ []) es (grown before (EndUpdate p) es h))
numbered_from k n place before (EndView p s ∷ es) h =
    let after = count_after k before (EndView p s) in
    same_start k (count_by (begins_update_of k) before) _ (calls_from n (suc place) es) (omega (arith, after)) (numbered_from k n (suc place) (before ++ EndView p s ∷ []) es (grown before (EndView p s) es h))

-- update n of component k is the n-th of its updates
pub nth_update : (es : List Event) → IsOrdered es → (k i n : ℕ) → n ≡ suc i → find (is_update_numbered k n) (calls_of es) ≡ slice_get (updates_of k (calls_of es)) i
unfolding calls_of updates_of
nth_update es h k i n e =
    let m : n ≡ suc (0 + i) = omega arith in
    ap (λ z. find (is_update_numbered k z) (calls_from 0 0 es)) m ∙ same_start k 0 _ (calls_from 0 0 es) refl (numbered_from k 0 0 [] es h.numbered) i

-- there is no update 0
zero_from : (k n place : ℕ) (before es : List Event) → IsNumbered (before ++ es) → find (is_update_numbered k 0) (calls_from n place es) ≡ None
unfolding is_update_numbered
zero_from k n place before [] h = refl
zero_from k n place before (BeginUpdate p e ∷ es) h =
    let c : Call = record { number = n; process = p; operation = Updates e; begun = place; ended = next_place p (suc place) es } in
    let positive : (e.number == 0) ≡ false = ne_eqb e.number 0 (λ x. omega (arith, x, h before es p e refl)) in
    ap (λ t. cond t (Some c) (find (is_update_numbered k 0) (calls_from (suc n) (suc place) es))) (both (e.component == k) (e.number == 0) positive)
    ∙ zero_from k (suc n) (suc place) (before ++ BeginUpdate p e ∷ []) es (grown before (BeginUpdate p e) es h)
  where
    both : (a b : Bool) → b ≡ false → (a && b) ≡ false
    both true b f = f
    both false b f = refl
zero_from k n place before (BeginView p ∷ es) h = zero_from k (suc n) (suc place) (before ++ BeginView p ∷ []) es (grown before (BeginView p) es h)
zero_from k n place before (EndUpdate p ∷ es) h = zero_from k n (suc place) (before ++ EndUpdate p ∷ []) es (grown before (EndUpdate p) es h)
zero_from k n place before (EndView p s ∷ es) h = zero_from k n (suc place) (before ++ EndView p s ∷ []) es (grown before (EndView p s) es h)

pub no_update_zero : (es : List Event) → IsOrdered es → (k n : ℕ) → n ≡ 0 → find (is_update_numbered k n) (calls_of es) ≡ None
unfolding calls_of
no_update_zero es h k n e = ap (λ z. find (is_update_numbered k z) (calls_from 0 0 es)) e ∙ zero_from k 0 0 [] es h.numbered

pub update_count_is : (k : ℕ) (calls : List Call) → length (updates_of k calls) ≡ count_by (is_update_of k) calls
unfolding updates_of
update_count_is k calls = length-filter (is_update_of k) calls
