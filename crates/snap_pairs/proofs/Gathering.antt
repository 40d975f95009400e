-- Slots of pieces, and the claims that were gathered.
use Rattle.std.proofs.Common.{◌≡◌, ℕ, zero, suc, ◌<◌, Bool, true, false, cond, List, [], ◌∷◌, ◌++◌, Option, Some, None, Ok, All, MatchOption, length, get_or, set, sym, refl, ap, ◌∙◌, subst, ⊎_elim, inl, inr, arith, take, drop}
use Rattle.std.specs.Prelude.{map, is_some, filter, nat_lt, Any, IfOk, Result}
use Rattle.std.specs.declared.alloc.AllocError.{AllocError}
use Rattle.std.proofs.lemmas.List.{take-append-le, take_all, get_or-set_same, get_or-set_other, length-set}
use Rattle.std.proofs.lemmas.List.Elements.{All-push, All-weaker, All-head, All-tail}
use Rattle.std.proofs.lemmas.Bool.{cases_eq, cases_lt, ne_eqb}
use Rattle.std.proofs.lemmas.Bool.Decides.{eqb_tells, nat_tests}
use Rattle.snap_core.specs.Calls.{Call}
use Rattle.snap_conditions.specs.declared.tally.Tally.{Tally}
use Rattle.snap_core.specs.Sums.{one_if, times, total}
use Rattle.snap_threads.specs.Claiming.{ClaimView, CounterView, IsClaimOf, IsFinished, pieces_of}
use Rattle.snap_pairs.specs.inside.Pieces.{IsPieceTally, FitSlots, IsFull, IsAnswer, AreAnswers}
use Rattle.snap_pairs.specs.declared.worker.Answer.{Answer}
use Rattle.snap_pairs.specs.declared.worker.Drawn.{Drawn}
use Rattle.snap_threads.proofs.Closing.{all_front, all_last}

module _ (calls : List Call) (n : ℕ) where
  pub fit_set : (p : ℕ) (t : Tally) (slots : List (Option Tally)) → FitSlots calls n slots → IsPieceTally calls n p t → FitSlots calls n (set slots p (Some t))
  fit_set p t slots h is = record {
    count = length-set slots p (Some t) ∙ h.count;
    each = λ q lt. ⊎_elim
        (λ y. subst (λ k. MatchOption (get_or (set slots p (Some t)) k None) (Unit {0}) (IsPieceTally calls n k)) (sym y.1)
        (subst (λ (o : Option Tally). MatchOption o (Unit {0}) (IsPieceTally calls n p)) (sym (get_or-set_same slots p (Some t) None (omega (arith, h.count, is.0)))) is))
        (λ y. subst (λ (o : Option Tally). MatchOption o (Unit {0}) (IsPieceTally calls n q)) (sym (get_or-set_other slots p q (Some t) None y.1)) (h.each q lt))
        (eqb_tells q p);
  }

  -- the tally of a slot that is read
  pub piece_of : (i : ℕ) (slots : List (Option Tally)) (r : Option Tally) (t : Tally) → FitSlots calls n slots → i < length slots
      → r ≡ get_or slots i r → r ≡ Some t → IsPieceTally calls n i t
  piece_of i slots r t h lt is e =
      subst (λ (o : Option Tally). MatchOption o (Unit {0}) (IsPieceTally calls n i)) (default_free slots i None r lt ∙ sym is ∙ e) (h.each i (omega (arith, h.count)))
    where
      default_free : {A : Type 0} (l : List A) (i : ℕ) (d e : A) → i < length l → get_or l i d ≡ get_or l i e
      default_free [] i d e lt = absurd (omega arith)
      default_free (x ∷ xs) zero d e lt = refl
      default_free (x ∷ xs) (suc i) d e lt = default_free xs i d e (omega arith)

pub full_here : (p : ℕ) (t : Tally) (slots : List (Option Tally)) → p < length slots → IsFull (set slots p (Some t)) p
full_here p t slots lt = subst (λ (o : Option Tally). is_some o ≡ true) (sym (get_or-set_same slots p (Some t) None lt)) refl

-- a full slot stays full where a slot is filled
pub full_set : (p q : ℕ) (t : Tally) (slots : List (Option Tally)) → p < length slots → IsFull slots q → IsFull (set slots p (Some t)) q
full_set p q t slots lt full = ⊎_elim
    (λ y. subst (IsFull (set slots p (Some t))) (sym y.1) (full_here p t slots lt))
    (λ y. subst (λ (o : Option Tally). is_some o ≡ true) (sym (get_or-set_other slots p q (Some t) None y.1)) full)
    (eqb_tells q p)

-- what a slice that was lent whole leaves
pub take_whole : {X : Type 0} (n : ℕ) (xs ys : List X) → length xs ≡ n → take n (xs ++ drop (length xs) ys) ≡ xs
take_whole n xs ys e = take-append-le n xs (drop (length xs) ys) (omega arith) ∙ take_all n xs (omega arith)

map_full : (slots : List (Option Tally)) (pairs : List Drawn) → All (λ q. IsFull slots q.piece) pairs → All (IsFull slots) (map (λ (q : Drawn). q.piece) pairs)
map_full slots [] full k d lt = absurd (omega arith)
map_full slots (x ∷ xs) full zero d lt = full 0 x (omega arith)
map_full slots (x ∷ xs) full (suc k) d lt = map_full slots xs (λ j e less. full (suc j) e (omega arith)) k d (omega arith)

-- the claims that were gathered, and the slots of the pieces that they drew
pub record AreGathered (calls : List Call) (counter : CounterView) (claims : List ClaimView) (slots : List (Option Tally)) : Type 0 where
  pub of_counter : All (IsClaimOf counter) claims
  pub finished : All IsFinished claims
  pub fit : FitSlots calls counter.pieces slots
  pub full : All (λ claim. All (IsFull slots) (pieces_of claim)) claims

-- what holds of all answers holds of the last, and of those before it
module _ (calls : List Call) (counter : CounterView) (rest : List (Result Answer AllocError)) (last : Result Answer AllocError) (all : List (Result Answer AllocError)) where
  pub last_answer : (a : Answer) → all ≡ rest ++ last ∷ [] → AreAnswers calls counter all → last ≡ Ok a → IsAnswer calls counter a
  last_answer a is good ok = subst (λ r. IfOk r (IsAnswer calls counter)) ok (all_last (λ r. IfOk r (IsAnswer calls counter)) rest last (subst (AreAnswers calls counter) is good))

  pub answers_before : all ≡ rest ++ last ∷ [] → AreAnswers calls counter all → AreAnswers calls counter rest
  answers_before is good = all_front (λ r. IfOk r (IsAnswer calls counter)) rest last (subst (AreAnswers calls counter) is good)

-- one answer more was gathered
pub gathered_more : (calls : List Call) (counter : CounterView) (claims : List ClaimView) (slots now : List (Option Tally)) (a : Answer)
    → AreGathered calls counter claims slots → IsAnswer calls counter a
    → FitSlots calls counter.pieces now → ((p : ℕ) → IsFull slots p → IsFull now p) → All (λ q. IsFull now q.piece) a.pairs.items
    → AreGathered calls counter (claims ++ a.claim ∷ []) now
gathered_more calls counter claims slots now a h is fit kept full = record {
  of_counter = All-push (IsClaimOf counter) claims a.claim h.of_counter is.of_counter;
  finished = All-push IsFinished claims a.claim h.finished is.finished;
  fit = fit;
  full = All-push (λ claim. All (IsFull now) (pieces_of claim)) claims a.claim
      (All-weaker (λ claim. All (IsFull slots) (pieces_of claim)) (λ claim. All (IsFull now) (pieces_of claim)) (λ claim. All-weaker (IsFull slots) (IsFull now) kept (pieces_of claim)) claims h.full)
      (subst (All (IsFull now)) (sym is.covers) (map_full now a.pairs.items full));
}

-- what holds of each piece that was drawn holds of one that stands in the list
of_drawn : (P : ℕ → Type 0) (p n : ℕ) (xs : List ℕ) → p < n → 0 < times p xs → All P (filter (λ m. nat_lt m n) xs) → P p
of_drawn P p n [] low some h = absurd (omega arith)
of_drawn P p n (x ∷ xs) low some h = elim (cases_eq x p) [
  | inl e ↦
      let low' : nat_lt x n ≡ true = grind (arith, nat_tests) in
      subst P e (All-head P x (filter (λ m. nat_lt m n) xs) (subst (λ b. All P (cond b (x ∷ filter (λ m. nat_lt m n) xs) (filter (λ m. nat_lt m n) xs))) low' h))
  | inr ne ↦ let z = ap one_if (ne_eqb x p ne) in of_drawn P p n xs low (omega arith) (rest (nat_lt x n) h)
]
  where
    rest : (b : Bool) → All P (cond b (x ∷ filter (λ m. nat_lt m n) xs) (filter (λ m. nat_lt m n) xs)) → All P (filter (λ m. nat_lt m n) xs)
    rest true h = All-tail P x (filter (λ m. nat_lt m n) xs) h
    rest false h = h

-- a piece that some claim drew has its tally
pub drawn_full : (counter : CounterView) (p : ℕ) (claims : List ClaimView) (slots : List (Option Tally)) → p < counter.pieces → All (IsClaimOf counter) claims
    → 0 < total (λ claim. times p claim.drawn) claims → All (λ claim. All (IsFull slots) (pieces_of claim)) claims → IsFull slots p
drawn_full counter p [] slots low of some full = absurd (omega arith)
drawn_full counter p (x ∷ xs) slots low of some full = elim (cases_lt 0 (times p x.drawn)) [
  | inl there ↦ let own = (All-head (IsClaimOf counter) x xs of).1 in of_drawn (IsFull slots) p x.pieces x.drawn (omega (arith, own)) there (All-head (λ claim. All (IsFull slots) (pieces_of claim)) x xs full)
  | inr none ↦ drawn_full counter p xs slots low (All-tail (IsClaimOf counter) x xs of) (omega (arith, none)) (All-tail (λ claim. All (IsFull slots) (pieces_of claim)) x xs full)
]

pub some_of_all : {X : Type 0} (P : X → Type 0) (xs : List X) → 0 < length xs → All P xs → Any P xs
some_of_all P [] some h = absurd (omega arith)
some_of_all P (x ∷ xs) some h = (0, x, some, refl, h 0 x some)
