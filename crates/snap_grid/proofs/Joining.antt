-- The kinds of a block's rows, one row after another.
use Rattle.std.proofs.Common.{◌≡◌, ℕ, ◌+◌, ◌*◌, ◌<◌, ◌≤◌, List, [], ◌∷◌, ◌++◌, length, get_or, set, length-set, get_or-set_same, get_or-set_other, refl, sym, ap, subst, ◌∙◌, inl, inr, arith}
use Rattle.std.proofs.lemmas.Bool.{cases_lt, cases_eq}
use Rattle.std.proofs.lemmas.List.{get_or_append_left, length-append}
use Rattle.std.proofs.lemmas.List.Sums.{sum_by-append, sum_by-cons, sum_by-set, get_or-le-sum_by}
use Rattle.std.proofs.Math.Seq.{get_or-append_seam}
use Rattle.snap_grid.specs.declared.kind.Kind.{Kind}
use Rattle.snap_grid.specs.inside.Kinds.{AreAlike, AreKinds}
use Rattle.snap_grid.proofs.Clashing.{sum_more, sum_small}

-- what holds of each element, and of one more
pub pushed : {X : Type 0} (P : X → Type 0) (xs : List X) (new : X) → ((k : ℕ) (x : X) → k < length xs → P (get_or xs k x)) → P new → (k : ℕ) (x : X) → k < length (xs ++ new ∷ []) → P (get_or (xs ++ new ∷ []) k x)
pushed P xs new h g k x l = elim (cases_lt k (length xs)) [
  | inl m ↦ subst P (sym (get_or_append_left xs (new ∷ []) x k m)) (h k x m)
  | inr m ↦
      let same : k ≡ length xs = omega (arith, l, m, length-append xs (new ∷ [])) in
      subst (λ k. P (get_or (xs ++ new ∷ []) k x)) (sym same) (subst P (sym (get_or-append_seam xs new [] x)) g)
]

-- a row of a new kind
pub kind_added : (columns : List (List ℕ)) (first m : ℕ) (kinds : List Kind) (new : Kind) → new.row ≡ m → new.times ≡ 1 → AreKinds columns first m kinds → AreKinds columns first (m + 1) (kinds ++ new ∷ [])
kind_added columns first m kinds new r t h = record {
  within = pushed (λ (kind : Kind). kind.row < m + 1) kinds new (λ k kind l. omega (arith, h.within k kind l)) (omega (arith, r));
  sums = λ f told.
      let here : new.times * f (first + new.row) ≡ f (first + m) = (λ i. t i * f (first + r i)) ∙ omega arith in
      omega (arith, sum_more f first m, h.sums f told, here, sum_by-append (λ (kind : Kind). kind.times * f (first + kind.row)) kinds (new ∷ []), sum_by-cons (λ (kind : Kind). kind.times * f (first + kind.row)) new []);
}

-- a row of a kind that is known
pub kind_joined : (columns : List (List ℕ)) (first m k : ℕ) (kinds : List Kind) (old new : Kind) → k < length kinds → old ≡ get_or kinds k old → new.row ≡ old.row → new.times ≡ old.times + 1 → AreAlike columns (first + old.row) (first + m) → AreKinds columns first m kinds →
    AreKinds columns first (m + 1) (set kinds k new)
kind_joined columns first m k kinds old new l e r t like h = record {
  within = λ j kind n. elim (cases_eq j k) [
    | inl same ↦
        let here : get_or (set kinds k new) j kind ≡ new = ap (λ z. get_or (set kinds k new) z kind) same ∙ get_or-set_same kinds k new kind l in
        omega (arith, ap (λ (z : Kind). z.row) here, r, ap (λ (z : Kind). z.row) e, h.within k old l)
    | inr other ↦ omega (arith, ap (λ (z : Kind). z.row) (get_or-set_other kinds k j new kind other), h.within j kind (omega (arith, n, length-set kinds k new)))
  ];
  sums = λ f told.
      let g : Kind → ℕ = λ kind. kind.times * f (first + kind.row) in
      let here : g new ≡ g old + f (first + m) = (λ i. t i * f (first + r i)) ∙ once old.times (f (first + old.row)) ∙ ap (λ z. old.times * f (first + old.row) + z) (told (first + old.row) (first + m) like) in
      omega (arith, sum_more f first m, h.sums f told, here, sum_by-set g kinds k new old l, ap g e);
}
  where
    once : (t n : ℕ) → (t + 1) * n ≡ t * n + n
    once t n = grind arith

-- a kind has no more rows than there are
pub few_times : (columns : List (List ℕ)) (first m k : ℕ) (kinds : List Kind) (old : Kind) → k < length kinds → AreKinds columns first m kinds → (get_or kinds k old).times ≤ m
few_times columns first m k kinds old l h =
    omega (arith, get_or-le-sum_by (λ (kind : Kind). kind.times * 1) kinds k old l, h.sums (λ b. 1) (λ a b like. refl), sum_small (λ b. 1) 1 (λ b. omega arith) m first)
