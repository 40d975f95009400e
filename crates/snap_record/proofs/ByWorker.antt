-- Records put in order by their workers.
use Rattle.std.proofs.Common.{◌≡◌, ◌≢◌, ℕ, zero, suc, ◌<◌, ◌≤◌, ◌==◌, true, false, List, [], ◌∷◌, ◌++◌, length, sym, refl, ◌∙◌, subst, ⊎_elim, arith, eq-eqb, length-append}
use Rattle.std.specs.List.Sorted.{IsPermutation}
use Rattle.std.proofs.lemmas.Bool.{cond-true, cond-false, cases_lt}
use Rattle.std.proofs.lemmas.Bool.Decides.{eqb_tells}
use Rattle.std.proofs.lemmas.List.Sorted.{IsPermutation-refl, IsPermutation-sym, IsPermutation-trans, IsPermutation-cons, IsPermutation-middle, IsPermutation-append_right, length_permutation}
use Rattle.snap_board.specs.declared.record.Record.{Record}
use Rattle.snap_core.specs.Sums.{total}
use Rattle.snap_board.specs.Settled.{falling}
use Rattle.snap_record.specs.Delivery.{of_worker, AreBelow}

pub of_worker-same : (p : ℕ) (x : Record) (xs : List Record) → x.process ≡ p → of_worker p (x ∷ xs) ≡ x ∷ of_worker p xs
of_worker-same p x xs is = cond-true (x.process == p) (x ∷ of_worker p xs) (of_worker p xs) (eq-eqb x.process p is)

pub of_worker-other : (p : ℕ) (x : Record) (xs : List Record) → x.process ≢ p → of_worker p (x ∷ xs) ≡ of_worker p xs
of_worker-other p x xs other = ⊎_elim (λ (y : ((x.process == p) ≡ true) × (x.process ≡ p)). absurd (other y.1))
    (λ (y : ((x.process == p) ≡ false) × (x.process ≢ p)). cond-false (x.process == p) (x ∷ of_worker p xs) (of_worker p xs) y.0) (eqb_tells x.process p)

-- the records of the workers below n, the highest worker's first
unfoldable pub by_worker : ℕ → List Record → List Record
by_worker zero xs = []
by_worker (suc p) xs = of_worker p xs ++ by_worker p xs

by_worker-nil : (n : ℕ) → by_worker n [] ≡ []
unfolding by_worker
by_worker-nil zero = refl
by_worker-nil (suc n) = by_worker-nil n

by_worker-out : (n : ℕ) (x : Record) (xs : List Record) → n ≤ x.process → by_worker n (x ∷ xs) ≡ by_worker n xs
unfolding by_worker
by_worker-out zero x xs le = refl
by_worker-out (suc n) x xs le = let ne : x.process ≢ n = omega arith in let first = of_worker-other n x xs ne in let rest = by_worker-out n x xs (omega arith) in λ i. first i ++ rest i

by_worker-in : (n : ℕ) (x : Record) (xs : List Record) → x.process < n → IsPermutation (x ∷ by_worker n xs) (by_worker n (x ∷ xs))
unfolding by_worker
by_worker-in zero x xs lt = absurd (omega arith)
by_worker-in (suc n) x xs lt = ⊎_elim
    (λ (y : ((x.process == n) ≡ true) × (x.process ≡ n)).
    let first = of_worker-same n x xs y.1 in let rest = by_worker-out n x xs (omega (arith, y.1)) in
    subst (IsPermutation (x ∷ (of_worker n xs ++ by_worker n xs))) (λ i. sym first i ++ sym rest i) (IsPermutation-refl (x ∷ (of_worker n xs ++ by_worker n xs))))
    (λ (y : ((x.process == n) ≡ false) × (x.process ≢ n)).
    let ne = y.1 in
    let rest = by_worker-in n x xs (omega arith) in
    IsPermutation-trans _ (of_worker n xs ++ x ∷ by_worker n xs) _
    (IsPermutation-sym _ _ (IsPermutation-middle (of_worker n xs) x (by_worker n xs)))
    (subst (λ l. IsPermutation (of_worker n xs ++ x ∷ by_worker n xs) (l ++ by_worker n (x ∷ xs))) (sym (of_worker-other n x xs ne)) (IsPermutation-append_right (of_worker n xs) _ _ rest)))
    (eqb_tells x.process n)

pub sorted_out : (n : ℕ) (xs : List Record) → AreBelow n xs → IsPermutation xs (by_worker n xs)
sorted_out n [] below = subst (IsPermutation []) (sym (by_worker-nil n)) (IsPermutation-refl [])
sorted_out n (x ∷ xs) below =
    let low : x.process < n = ⊎_elim (λ (l : x.process < n). l) (λ (l : n ≤ x.process). let e : x ∷ of_worker x.process xs ≡ [] = sym (of_worker-same x.process x xs refl) ∙ below x.process l in cc) (cases_lt x.process n) in
    let rest = sorted_out n xs (λ p le. let ne : x.process ≢ p = omega arith in sym (of_worker-other p x xs ne) ∙ below p le) in
    IsPermutation-trans _ (x ∷ by_worker n xs) _ (IsPermutation-cons x _ _ rest) (by_worker-in n x xs low)

length-by_worker : (n : ℕ) (xs : List Record) → length (by_worker n xs) ≡ total (λ p. length (of_worker p xs)) (falling n)
unfolding by_worker
length-by_worker zero xs = refl
length-by_worker (suc n) xs = let a = length-append (of_worker n xs) (by_worker n xs) in let r = length-by_worker n xs in omega arith

pub counted : (n : ℕ) (xs : List Record) → AreBelow n xs → length xs ≡ total (λ p. length (of_worker p xs)) (falling n)
counted n xs below = sym (length_permutation xs (by_worker n xs) (sorted_out n xs below)) ∙ length-by_worker n xs
