use Rattle.std.proofs.Common.{◌≡◌, ◌<◌, ◌≤◌, ◌^◌, ◌%◌, ◌∙◌, ℕ, List, eqb, true, false, not, length, map, take, get_or, replicate, inl, inr, refl, sym, ap, arith}
use Rattle.std.proofs.lemmas.Bool.{both_ways, cases_eq, eqb-true, ne_eqb, not-true}
use Rattle.std.proofs.lemmas.List.{get_or-map, get_or-take, length-map, length-take-le}
use Rattle.std.proofs.lemmas.List.Sums.{prefix_len_passes}
use Rattle.std.proofs.lemmas.Simd.{leading_from_mask_l, mask_l-mod, zip2_splat}
use lib.Lanes.{mask_l, top, zip2}
use Rattle.snap_plain.proofs.front.begins_blank.Goals as goal

-- a lane is set where a byte is no newline
from_lanes : (s : List ℕ) (differ : ℕ → ℕ → ℕ) → 32 ≤ length s → eqb (mask_l (map (top 7) (zip2 differ (take 32 s) (replicate 32 10))) % 2 ^ 64) 0 ≡ true
    → ((x : ℕ) → (x ≡ 10 → ⊥) → differ x 10 ≡ 255) → (k : ℕ) → k < 32 → get_or s k 0 ≡ 10
from_lanes s differ room none sets k lt =
    let here = take 32 s in
    let long = length-take-le 32 s room in
    let z = map (λ x. differ x 10) here in
    let long_z = length-map here (λ x. differ x 10) ∙ long in
    let mask = ap (λ l. mask_l (map (top 7) l) % 2 ^ 64) (zip2_splat differ here 32 10 long) ∙ mask_l-mod (map (top 7) z) 64 (omega (arith, length-map z (top 7))) in
    let whole = leading_from_mask_l (top 7) z (sym mask ∙ eqb-true _ 0 none) in
    let clear : top 7 (get_or z k 0) ≡ false = not-true _ (prefix_len_passes (λ x. not (top 7 x)) z k 0 (omega (arith, whole, long_z, lt))) in
    let at = get_or-map (λ x. differ x 10) here k 0 0 (omega (arith, long, lt)) ∙ ap (λ x. differ x 10) (get_or-take 32 s k 0 lt) in
    elim (cases_eq (get_or s k 0) 10) [
      | inl e ↦ e
      | inr other ↦ absurd (both_ways _ clear (ap (top 7) (at ∙ sets _ other)))
    ]

pub returns : goal.returns
returns c none = from_lanes c.args.text.now _ c.requires none (λ x other. rw (ne_eqb x 10 other) refl)
