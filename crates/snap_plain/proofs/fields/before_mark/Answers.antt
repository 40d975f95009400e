use Rattle.std.proofs.Common.{◌≡◌, ◌%◌, ◌^◌, ◌||◌, ◌∙◌, ℕ, Bool, true, false, List, eqb, cond, length, map, take, length-take-le, replicate, bit_or, refl, sym, ap, arith}
use Rattle.std.proofs.lemmas.List.{length-map}
use Rattle.std.proofs.lemmas.Simd.{map-map, mask_l-mod, zip2_of_maps, zip2_splat}
use lib.Lanes.{mask_l, top, zip2}
use Rattle.snap_plain.proofs.MarkFacts.{first_mark, no_mark}
use Rattle.snap_plain.proofs.fields.before_mark.Goals as goal

-- the mask of two comparisons that are joined lane by lane
mask_is : (xs : List ℕ) (one other : ℕ) (same either : ℕ → ℕ → ℕ) → length xs ≡ 32
    → mask_l (map (top 7) (zip2 either (zip2 same xs (replicate 32 one)) (zip2 same xs (replicate 32 other)))) % 2 ^ 64 ≡ mask_l (map (λ x. top 7 (either (same x one) (same x other))) xs)
mask_is xs one other same either long =
    let joined = zip2_of_maps either (λ x. same x one) (λ x. same x other) xs (zip2_splat same xs 32 one long) (zip2_splat same xs 32 other long) in
    let lanes = map (λ (x : ℕ). either (same x one) (same x other)) xs in
    ap (λ l. mask_l (map (top 7) l) % 2 ^ 64) joined ∙ mask_l-mod (map (top 7) lanes) 64 (omega (arith, length-map lanes (top 7), length-map xs (λ (x : ℕ). either (same x one) (same x other)), long))
    ∙ ap mask_l (map-map (top 7) (λ x. either (same x one) (same x other)) xs)

-- a lane of them is set where one of the two bytes is the same
is_set : (one other : Bool) → top 7 (bit_or (cond one 255 0) (cond other 255 0)) ≡ (one || other)
is_set true true = refl
is_set true false = refl
is_set false true = refl
is_set false false = refl

pub returns-then-bits-eq0 : goal.returns-then-bits-eq0
returns-then-bits-eq0 c =
    let text = c.args.text.now in
    let mask = mask_is (take 32 text) c.args.one c.args.other _ _ (length-take-le 32 text c.requires) in
    no_mark c.args.one c.args.other _ (λ x. is_set (eqb x c.args.one) (eqb x c.args.other)) text 32 c.requires (sym mask ∙ c.if-bits-eq0.true)

pub returns-else-bits-eq0 : goal.returns-else-bits-eq0
returns-else-bits-eq0 c =
    let text = c.args.text.now in
    let mask = mask_is (take 32 text) c.args.one c.args.other _ _ (length-take-le 32 text c.requires) in
    first_mark c.args.one c.args.other _ (λ x. is_set (eqb x c.args.one) (eqb x c.args.other)) text 32 c.requires _ (omega arith) mask c.if-bits-eq0.false
