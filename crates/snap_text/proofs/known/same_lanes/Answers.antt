use Rattle.std.proofs.Common.{◌≡◌, ◌≤◌, ◌%◌, ◌^◌, ◌∙◌, ℕ, List, ap, cond, length, map, take, length-take-le, sym, arith, w8}
use Rattle.std.proofs.lemmas.Simd.{length-zip2, mask_l-mod, tops_compared}
use lib.Lanes.{mask_l, top, zip2}
use Rattle.snap_text.proofs.LaneFacts.{all_same, differ, same_before}
use Rattle.snap_text.proofs.known.same_lanes.Goals as goal

-- the mask of the lanes in which the first bytes of two texts differ
mask_is : (a b : List ℕ) → 32 ≤ length a → 32 ≤ length b
    → mask_l (map (top 7) (zip2 (λ x y. cond (differ x y) 255 0) (take 32 a) (take 32 b))) % 2 ^ 64 ≡ mask_l (zip2 differ (take 32 a) (take 32 b))
mask_is a b first second =
    let size = length-take-le 32 a first in
    let long = length-zip2 differ (take 32 a) (take 32 b) (size ∙ sym (length-take-le 32 b second)) in
    ap (λ l. mask_l l % 2 ^ 64) (tops_compared w8 differ (take 32 a) (take 32 b)) ∙ mask_l-mod (zip2 differ (take 32 a) (take 32 b)) 64 (omega (arith, size, long))

pub returns-then-others-eq0-clause-same : goal.returns-then-others-eq0-clause-same
returns-then-others-eq0-clause-same c =
    let (first, second) = c.requires in
    all_same c.args.a.now c.args.b.now 32 first second (omega arith) _ (mask_is c.args.a.now c.args.b.now first second) c.if-others-eq0.true

pub returns-else-others-eq0-clause-within : goal.returns-else-others-eq0-clause-within
returns-else-others-eq0-clause-within c =
    let (first, second) = c.requires in
    (same_before c.args.a.now c.args.b.now 32 first second (omega arith) _ (mask_is c.args.a.now c.args.b.now first second) c.if-others-eq0.false).0

pub returns-else-others-eq0-clause-same : goal.returns-else-others-eq0-clause-same
returns-else-others-eq0-clause-same c =
    let (first, second) = c.requires in
    (same_before c.args.a.now c.args.b.now 32 first second (omega arith) _ (mask_is c.args.a.now c.args.b.now first second) c.if-others-eq0.false).1
