-- Sums over the desks of a board, by the accounts and by the numbers of the desks.
use Rattle.std.proofs.Common.{◌≡◌, ℕ, zero, suc, ◌+◌, ◌<◌, ◌≤◌, ◌⊎◌, cond, List, [], ◌∷◌, map, refl, ap, ◌∙◌, inl, inr, ⊎_elim, arith}
use mathlib.Core.Option.{some-injective}
use lib.ListN.{get_elem?}
use Rattle.snap_core.specs.Sums.{total}
use Rattle.snap_account.specs.declared.account.Account.{Account}
use Rattle.snap_account.specs.Calls.{Mem}
use Rattle.snap_account.specs.Plays.{insert}
use Rattle.snap_board.specs.Settled.{falling}
use Rattle.std.proofs.lemmas.Bool.{lt-ltb}

pub first_desk : (n : ℕ) (a : Account) (hand : List Account) → map (λ (c : Account). c.desk) (a ∷ hand) ≡ falling (suc n) → (a.desk ≡ n) × (map (λ (c : Account). c.desk) hand ≡ falling n)
first_desk n a hand e = (some-injective _ _ (ap (λ (l : List ℕ). get_elem? l 0) e), ap (λ (l : List ℕ). Rattle.std.proofs.Common.drop 1 l) e)

-- f of each account is g of its desk
pub total_desks : (n : ℕ) (hand : List Account) (f : Account → ℕ) (g : ℕ → ℕ) → map (λ (c : Account). c.desk) hand ≡ falling n → ((a : Account) → Mem a hand → f a ≡ g a.desk) → total f hand ≡ total g (falling n)
total_desks zero [] f g e same = refl
total_desks (suc n) [] f g e same = absurd (cc)
total_desks zero (a ∷ hand) f g e same = absurd (cc)
total_desks (suc n) (a ∷ hand) f g e same =
    let h = first_desk n a hand e in
    let one : f a ≡ g n = same a (inl refl) ∙ ap g h.0 in
    let rest = total_desks n hand f g h.1 (λ c m. same c (inr m)) in omega arith

-- f is at most g at each number below n
pub total_below : (n : ℕ) (f g : ℕ → ℕ) → ((p : ℕ) → p < n → f p ≤ g p) → total f (falling n) ≤ total g (falling n)
total_below zero f g le = omega arith
total_below (suc n) f g le = let a = le n (omega arith) in let r = total_below n f g (λ p lt. le p (omega arith)) in omega arith

pub total_more : (m n : ℕ) (g : ℕ → ℕ) → m ≤ n → total g (falling m) ≤ total g (falling n)
total_more zero zero g le = omega arith
total_more (suc m) zero g le = absurd (omega arith)
total_more m (suc n) g le = ⊎_elim (λ (lt : m ≤ n). let r = total_more m n g lt in omega arith) (λ (e : m ≡ suc n). let s = ap (λ k. total g (falling k)) e in omega arith) (near m n le)
  where
    near : (m n : ℕ) → m ≤ suc n → (m ≤ n) ⊎ (m ≡ suc n)
    near m n le = grind arith

-- the first of the numbers stands last
pub total_first : (n : ℕ) (g : ℕ → ℕ) → total g (falling (suc n)) ≡ g 0 + total (λ p. g (suc p)) (falling n)
total_first zero g = refl
total_first (suc n) g = let r = total_first n g in omega (arith, r)

-- the account of a higher desk stands first
pub insert_high : (n : ℕ) (a : Account) (hand : List Account) → map (λ (c : Account). c.desk) hand ≡ falling n → a.desk ≡ n → insert a hand ≡ a ∷ hand
insert_high n a [] e is = refl
insert_high zero a (c ∷ hand) e is = absurd (cc)
insert_high (suc n) a (c ∷ hand) e is =
    let h = first_desk n c hand e in ap (λ t. cond t (a ∷ c ∷ hand) (c ∷ insert a hand)) (lt-ltb c.desk a.desk (omega (arith, h.0)))
