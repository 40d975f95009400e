-- Where the first of some bytes that is a mark stands, by the lanes of a comparison.
use Rattle.std.proofs.Common.{◌≡◌, ◌<◌, ◌≤◌, ◌-◌, ◌++◌, ◌||◌, ◌⊎◌, ℕ, suc, Bool, true, false, not, List, [], ◌∷◌, eqb, length, length-take-le, map, drop, take, get_or, refl, sym, ap, ◌∙◌, subst, arith, append_assoc}
use Rattle.std.specs.Prelude.{◌≢◌}
use Rattle.std.specs.List.{All, prefix_len}
use Rattle.std.proofs.lemmas.Bool.{not-false, not-true}
use Rattle.std.proofs.lemmas.Bool.Decides.{nat_tests}
use Rattle.std.proofs.lemmas.List.{get_or-take, take-append-le, take_all}
use Rattle.std.proofs.Math.Seq.{take-suc}
use Rattle.std.proofs.lemmas.List.Sums.{prefix_len-le-length, prefix_len_passes, prefix_len_stops}
use Rattle.std.proofs.lemmas.Simd.{leading_from_mask_l, trailing_mask_l}
use lib.Count.{count_trailing_zeros}
use lib.Lanes.{mask_l}
use Rattle.snap_plain.specs.Lines.{AreNeither, FieldGoesOn, IsInner}

-- where no byte passes a test, no bit of their mask is set
empty_mask : (p : ℕ → Bool) (xs : List ℕ) → prefix_len (λ x. not (p x)) xs ≡ length xs → mask_l (map p xs) ≡ 0
empty_mask p [] all = refl
empty_mask p (x ∷ xs) all = grind (arith, empty_mask p xs)

-- one of two marks, or neither
is_neither : (one other x : ℕ) → (eqb x one || eqb x other) ≡ false → (x ≢ one) × (x ≢ other)
is_neither one other x none = grind (arith, nat_tests)

is_either : (one other x : ℕ) → (eqb x one || eqb x other) ≡ true → (x ≡ one) ⊎ (x ≡ other)
is_either one other x some = grind (arith, nat_tests)

-- bytes of which p says whether they are one of two marks
module _ (one other : ℕ) (p : ℕ → Bool) (tells : (x : ℕ) → p x ≡ (eqb x one || eqb x other)) (text : List ℕ) (n : ℕ) (room : n ≤ length text) where
  abbrev lanes : List ℕ
  lanes = take n text

  -- before the first byte of which p says so
  before : (m i : ℕ) → i < m → m ≡ prefix_len (λ x. not (p x)) lanes → m ≤ n → (get_or text i 0 ≢ one) × (get_or text i 0 ≢ other)
  before m i lt is within =
      let none : p (get_or lanes i 0) ≡ false = not-true _ (prefix_len_passes (λ x. not (p x)) lanes i 0 (omega (arith, is, lt))) in
      is_neither one other _ (sym (tells (get_or text i 0)) ∙ ap p (sym (get_or-take n text i 0 (omega (arith, lt, within)))) ∙ none)

  -- where no bit of their mask is set, none is a mark
  pub no_mark : mask_l (map p lanes) ≡ 0 → AreNeither one other n text
  no_mark none i lt = before n i lt (sym (leading_from_mask_l p lanes none ∙ length-take-le n text room)) (omega arith)

  -- and else the first mark stands where the lowest bit is set
  pub first_mark : (m : ℕ) → n ≤ 64 → m ≡ mask_l (map p lanes) → m ≢ 0
      → (count_trailing_zeros 64 m < n) × AreNeither one other (count_trailing_zeros 64 m) text × ((get_or text (count_trailing_zeros 64 m) 0 ≡ one) ⊎ (get_or text (count_trailing_zeros 64 m) 0 ≡ other))
  first_mark m short is some =
      let long = length-take-le n text room in
      let k = prefix_len (λ x. not (p x)) lanes in
      let first : count_trailing_zeros 64 m ≡ k = ap (count_trailing_zeros 64) is ∙ trailing_mask_l p 64 lanes (omega (arith, long)) (omega (arith, is, some)) in
      let within : k < n = omega (arith, long, prefix_len-le-length (λ x. not (p x)) lanes, λ (all : k ≡ length lanes). some (is ∙ empty_mask p lanes all)) in
      let here : p (get_or lanes k 0) ≡ true = not-false _ (prefix_len_stops (λ x. not (p x)) lanes 0 (omega (arith, long, within))) in
      let mark = is_either one other _ (sym (tells (get_or text k 0)) ∙ ap p (sym (get_or-take n text k 0 within)) ∙ here) in
      (omega (arith, first, within), λ i lt. before _ i lt first (omega (arith, first, within)), rw first mark)

-- the field of a text that begins with a word, the last byte of which is a comma
pub word_goes_on : (text word : List ℕ) → 0 < length word → get_or word (length word - 1) 0 ≡ 44 → All IsInner (take (length word - 1) word) → text ≡ word ++ drop (length word) text
    → FieldGoesOn (take (length word - 1) text) (drop (length word) text) text
word_goes_on text word some comma inner begins =
    let k = length word - 1 in
    let rest = drop (length word) text in
    let cut : word ≡ take k word ++ 44 ∷ [] = sym (take_all (suc k) word (omega (arith, some))) ∙ take-suc word k 0 (omega (arith, some)) ∙ ap (λ b. take k word ++ b ∷ []) comma in
    let whole : text ≡ take k word ++ 44 ∷ rest = begins ∙ ap (λ w. w ++ rest) cut ∙ append_assoc (take k word) (44 ∷ []) rest in
    let field : take k text ≡ take k word = ap (take k) begins ∙ take-append-le k word rest (omega arith) in
    record { inner = subst (All IsInner) (sym field) inner; whole = whole ∙ ap (λ f. f ++ 44 ∷ rest) (sym field) }
