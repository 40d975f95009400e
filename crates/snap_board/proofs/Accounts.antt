-- The accounts of a closed board, one for each desk.
use Rattle.std.proofs.Common.{◌≡◌, ℕ, zero, suc, ◌<◌, List, [], ◌∷◌, map, drop, sym, refl, ap, ◌∙◌, inl, inr, ⊎_elim, arith}
use mathlib.Core.Option.{some-injective}
use native.Mathlib.Decide.{ℕ_discrete}
use lib.ListN.{get_elem?}
use Rattle.snap_account.specs.declared.account.Account.{Account}
use Rattle.snap_account.specs.Calls.{Mem}
use Rattle.snap_board.specs.Settled.{falling}

-- the desks of a closed board
pub hand_low : (n : ℕ) (hand : List Account) → map (λ (a : Account). a.desk) hand ≡ falling n → (a : Account) → Mem a hand → a.desk < n
hand_low n [] e a m = absurd m
hand_low zero (x ∷ hand) e a m = absurd (cc)
hand_low (suc n) (x ∷ hand) e a m =
    let first : x.desk ≡ n = some-injective _ _ (ap (λ (l : List ℕ). get_elem? l 0) e) in
    let rest : map (λ (c : Account). c.desk) hand ≡ falling n = ap (λ (l : List ℕ). drop 1 l) e in
    ⊎_elim (λ q. let s = ap (λ (c : Account). c.desk) q in omega arith) (λ q. let l = hand_low n hand rest a q in omega arith) m

pub hand_one : (n : ℕ) (hand : List Account) → map (λ (a : Account). a.desk) hand ≡ falling n → (a c : Account) → Mem a hand → Mem c hand → a.desk ≡ c.desk → a ≡ c
hand_one n [] e a c ma mc same = absurd ma
hand_one zero (x ∷ hand) e a c ma mc same = absurd (cc)
hand_one (suc n) (x ∷ hand) e a c ma mc same =
    let first : x.desk ≡ n = some-injective _ _ (ap (λ (l : List ℕ). get_elem? l 0) e) in
    let rest : map (λ (y : Account). y.desk) hand ≡ falling n = ap (λ (l : List ℕ). drop 1 l) e in
    ⊎_elim
    (λ p. ⊎_elim (λ q. sym p ∙ q) (λ q. let l = hand_low n hand rest c q in let s = ap (λ (y : Account). y.desk) p in absurd (omega arith)) mc)
    (λ p. ⊎_elim (λ q. let l = hand_low n hand rest a p in let s = ap (λ (y : Account). y.desk) q in absurd (omega arith)) (λ q. hand_one n hand rest a c p q same) mc)
    ma

pub hand_there : (n : ℕ) (hand : List Account) → map (λ (a : Account). a.desk) hand ≡ falling n → (k : ℕ) → k < n → (a : Account) × Mem a hand × (a.desk ≡ k)
hand_there zero hand e k lt = absurd (omega arith)
hand_there (suc n) [] e k lt = absurd (cc)
hand_there (suc n) (x ∷ hand) e k lt = at (ℕ_discrete k n) (λ l. hand_there n hand (ap (λ (y : List ℕ). drop 1 y) e) k l)
  where
    at : Dec (k ≡ n) → (k < n → (a : Account) × Mem a hand × (a.desk ≡ k)) → (a : Account) × Mem a (x ∷ hand) × (a.desk ≡ k)
    at (yes q) rest = (x, inl refl, some-injective _ _ (ap (λ (l : List ℕ). get_elem? l 0) e) ∙ sym q)
    at (no ne) rest = let r = rest (omega arith) in (r.0, inr r.1, r.2)
