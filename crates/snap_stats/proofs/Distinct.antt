-- The different processes of calls, from the last call on.
use Rattle.std.proofs.Common.{◌≡◌, ◌<◌, ◌≤◌, ◌+◌, ◌-◌, ℕ, suc, Bool, true, false, cond, ◌||◌, List, [], ◌∷◌, length, get_or, set, map, drop, sym, ap, ◌∙◌, inl, inr, refl, arith, get_or-set_same, get_or-set_other, length-set}
use Rattle.std.specs.Prelude.{◌==◌}
use Rattle.std.specs.List.{list_any}
use Rattle.std.proofs.lemmas.Bool.{ne_eqb, eq-eqb, cases_eq}
use Rattle.std.proofs.lemmas.List.{drop_more}
use Rattle.snap_core.specs.Calls.{Call, call_numbered, nobody}
use Rattle.snap_stats.specs.Shown.{distinct_count, process_in}

-- the numbers that a list has have a mark
abbrev pub AreSeen : List ℕ → List Bool → Type 0
AreSeen ns seen = (n : ℕ) → n < length seen → get_or seen n false ≡ list_any (λ m. m == n) ns

pub seen_more : (ns : List ℕ) (seen new : List Bool) (p : ℕ) → p < length seen → AreSeen ns seen → new ≡ set seen p true → AreSeen (p ∷ ns) new
seen_more ns seen new p l h is n fits = let few : n < length seen = omega (arith, fits, ap length is, length-set seen p true) in
    ap (λ z. get_or z n false) is ∙ elim (cases_eq p n) [
      | inl e ↦ ap (λ z. get_or (set seen p true) z false) (sym e) ∙ get_or-set_same seen p true false l ∙ sym (ap (λ b. b || list_any (λ m. m == n) ns) (eq-eqb p n e))
      | inr e ↦ get_or-set_other seen p n true false (λ q. e (sym q)) ∙ h n few ∙ sym (ap (λ b. b || list_any (λ m. m == n) ns) (ne_eqb p n e))
    ]

pub seen_again : (ns : List ℕ) (seen : List Bool) (p : ℕ) → AreSeen ns seen → get_or seen p false ≡ true → AreSeen (p ∷ ns) seen
seen_again ns seen p h t n l = elim (cases_eq p n) [
  | inl e ↦ ap (λ z. get_or seen z false) (sym e) ∙ t ∙ sym (ap (λ b. b || list_any (λ m. m == n) ns) (eq-eqb p n e))
  | inr e ↦ h n l ∙ sym (ap (λ b. b || list_any (λ m. m == n) ns) (ne_eqb p n e))
]

-- one number more in front
pub count_new : (ns : List ℕ) (p n : ℕ) → list_any (λ m. m == p) ns ≡ false → n ≡ distinct_count ns → n + 1 ≡ distinct_count (p ∷ ns)
count_new ns p n new is = let one : cond (list_any (λ m. m == p) ns) 0 1 ≡ 1 = ap {B = ℕ} (λ b. cond b 0 1) new in omega (arith, one)

pub count_again : (ns : List ℕ) (p n : ℕ) → list_any (λ m. m == p) ns ≡ true → n ≡ distinct_count ns → n ≡ distinct_count (p ∷ ns)
count_again ns p n old is = let none : cond (list_any (λ m. m == p) ns) 0 1 ≡ 0 = ap {B = ℕ} (λ b. cond b 0 1) old in omega (arith, none)

-- there are no more different numbers than numbers
pub distinct_few : (ns : List ℕ) → distinct_count ns ≤ length ns
distinct_few [] = omega arith
distinct_few (n ∷ ns) = go (list_any (λ m. m == n) ns) refl (distinct_few ns)
  where
    go : (b : Bool) → list_any (λ m. m == n) ns ≡ b → distinct_count ns ≤ length ns → distinct_count (n ∷ ns) ≤ length (n ∷ ns)
    go true e few = let none : cond (list_any (λ m. m == n) ns) 0 1 ≡ 0 = ap {B = ℕ} (λ b. cond b 0 1) e in omega (arith, none, few)
    go false e few = let one : cond (list_any (λ m. m == n) ns) 0 1 ≡ 1 = ap {B = ℕ} (λ b. cond b 0 1) e in omega (arith, one, few)

-- the process of one call more
pub first_dropped : (calls : List Call) (n p : ℕ) → 0 < n → n ≤ length calls → p ≡ (call_numbered calls (n - 1)).process → map process_in (drop (n - 1) calls) ≡ p ∷ map process_in (drop n calls)
first_dropped calls n p pos within is =
    let next : n - 1 + 1 ≡ n = omega (arith, pos) in
    ap (map process_in) (drop_more calls (n - 1) nobody (omega (arith, pos, within))) ∙ ap (λ z. z ∷ map process_in (drop (n - 1 + 1) calls)) (sym is)
    ∙ ap (λ z. p ∷ map process_in (drop z calls)) next
