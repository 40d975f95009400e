-- Where a test stops to hold, by a part of a list.
use Rattle.std.proofs.Common.{◌≡◌, ◌<◌, ◌≤◌, ◌+◌, ◌-◌, ℕ, Bool, true, false, List, length, take, drop, get_or, sym, ap, ◌∙◌, inl, inr, arith, length-take, length-drop}
use Rattle.std.specs.List.{AllWithin, SameBelow, TailFrom}
use Rattle.std.specs.List.Sorted.{IsPartitionedBy, IsPartitionPoint}
use Rattle.std.proofs.lemmas.Bool.{cases_lt, false≢true, false_from_ne_true}
use Rattle.std.proofs.lemmas.Grind.{get_or_default_zero}
use Rattle.std.proofs.lemmas.List.{get_or-drop, get_or-take}

-- the elements of a list from an index on
pub record IsPartFrom (xs ys : List ℕ) (low : ℕ) : Type 0 where
  pub fits : low + length ys ≤ length xs
  pub same : (k d : ℕ) → k < length ys → get_or ys k d ≡ get_or xs (low + k) d

pub slice_is_part : (xs : List ℕ) (low n : ℕ) → low + n ≤ length xs → IsPartFrom xs (take n (drop low xs)) low
slice_is_part xs low n l = record {
  fits = omega (arith, length-take n (drop low xs), length-drop low xs);
  same = λ k d b. get_or-take n (drop low xs) k d (omega (arith, b, length-take n (drop low xs))) ∙ get_or-drop low xs k d;
}

pub tail_is_part : (xs ys : List ℕ) (low at : ℕ) → low ≡ at → low + length ys ≤ length xs → TailFrom xs ys low → IsPartFrom xs ys at
tail_is_part xs ys low at e l same = record { fits = omega arith; same = λ k d b. same k d ∙ ap (λ n. get_or xs (n + k) d) e }

module _ (passes : ℕ → Bool) (xs : List ℕ) (parted : IsPartitionedBy passes xs) where
  -- what stands before an element that passes, passes
  pub passing_to : (m high : ℕ) → high ≤ m + 1 → m < length xs → true ≡ passes (get_or xs m 0) → AllWithin (λ x. passes x ≡ true) xs 0 high
  passing_to m high o l t k d a b = parted k m d (omega (arith, o, b)) l (ap passes (get_or_default_zero xs m d l) ∙ sym t)

  -- and what stands after one that fails, fails
  pub failing_from : (m low : ℕ) → m ≤ low → m < length xs → false ≡ passes (get_or xs m 0) → AllWithin (λ x. passes x ≡ false) xs low (length xs)
  failing_from m low o l t k d a b = false_from_ne_true _ (λ u. false≢true (t ∙ sym (ap passes (get_or_default_zero xs m d l)) ∙ parted m k d (omega (arith, o, a)) b u))

  -- the first elements are so too
  pub parted_front : (ys : List ℕ) → length ys ≤ length xs → SameBelow xs ys (length ys) → IsPartitionedBy passes ys
  parted_front ys fits same i j d o l t = ap passes (same i d (omega (arith, o, l))) ∙ parted i j d o (omega (arith, l, fits)) (sym (ap passes (same j d l)) ∙ t)

  module _ (ys : List ℕ) (low : ℕ) (part : IsPartFrom xs ys low) where
    pub parted_part : IsPartitionedBy passes ys
    parted_part i j d o l t = ap passes (part.same i d (omega (arith, o, l))) ∙ parted (low + i) (low + j) d (omega (arith, o)) (omega (arith, l, part.fits)) (sym (ap passes (part.same j d l)) ∙ t)

    in_part : (k d : ℕ) (b : Bool) → low ≤ k → k < low + length ys → passes (get_or ys (k - low) d) ≡ b → passes (get_or xs k d) ≡ b
    in_part k d b l h t = let e : low + (k - low) ≡ k = omega (arith, l) in sym (ap (λ n. passes (get_or xs n d)) e) ∙ sym (ap passes (part.same (k - low) d (omega (arith, l, h)))) ∙ t

    -- the place in a part is one in the whole, where all before the part pass and all after it fail
    pub point_by_part : (m : ℕ) → m ≤ length ys → AllWithin (λ x. passes x ≡ true) xs 0 low → AllWithin (λ x. passes x ≡ false) xs (low + length ys) (length xs)
        → IsPartitionPoint (λ x. passes x ≡ true) (λ x. passes x ≡ false) ys m → IsPartitionPoint (λ x. passes x ≡ true) (λ x. passes x ≡ false) xs (low + m)
    point_by_part m i front back point = (
      λ k d a b. elim (cases_lt k low) [
        | inl l ↦ front k d a l
        | inr l ↦ in_part k d true l (omega (arith, b, i)) (point.0 (k - low) d (omega arith) (omega (arith, b, l)))
      ],
      λ k d a b. elim (cases_lt k (low + length ys)) [
        | inl l ↦ in_part k d false (omega (arith, a)) l (point.1 (k - low) d (omega (arith, a)) (omega (arith, a, l)))
        | inr l ↦ back k d l b
      ],
    )
