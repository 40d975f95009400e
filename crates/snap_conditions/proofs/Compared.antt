-- Two views compared by the row of the first and the entries of the second: which of them shows more somewhere.
use Rattle.std.proofs.Common.{◌≡◌, ℕ, ◌+◌, ◌<◌, ◌≤◌, ◌↔◌, true, List, get_or, arith}
use Rattle.std.specs.Prelude.{nat_lt}
use Rattle.std.proofs.Math.Nat.{min-le_left, min-le_right}
use Rattle.std.proofs.lemmas.Bool.{ltb-true, lt-ltb}
use Rattle.snap_core.specs.declared.entry.Entry.{Entry}
use Rattle.snap_views.specs.Rows.{number_among, row_number, sum_below, IsLessSomewhere}
use Rattle.snap_views.proofs.Compared.{IsCompared, AreWhole, lesser_at, less_there}
use Rattle.snap_views.proofs.Sums.{sum_less, sum_some}
use Rattle.snap_conditions.specs.Rows.{AreSums}

-- where the lesser numbers have a smaller sum than those that are shown
less_here : (numbers : List ℕ) (ds : List Entry) (n : ℕ) → n ≤ 256 → sum_below (lesser_at numbers ds) n < sum_below (number_among ds) n → IsLessSomewhere (row_number numbers) (number_among ds)
less_here numbers ds n m l = let r = sum_some (lesser_at numbers ds) (number_among ds) n l in (r.0, omega (arith, r.1), omega (arith, r.2))

pub both_seen : (numbers sums : List ℕ) (ds : List Entry) (i k lesser sum : ℕ) → AreSums numbers sums → k < 256 → IsCompared numbers ds i (k + 1) lesser sum → lesser < sum → lesser < get_or sums k 0 →
    IsLessSomewhere (number_among ds) (row_number numbers) × IsLessSomewhere (row_number numbers) (number_among ds)
both_seen numbers sums ds i k lesser sum s l c m n = (
  less_there numbers ds (k + 1) c.within (omega (arith, c.lesser_is, s k l, n)),
  less_here numbers ds (k + 1) c.within (omega (arith, c.lesser_is, c.sum_is, m)),
)

pub first_more : (numbers sums : List ℕ) (ds : List Entry) (lesser sum : ℕ) → AreSums numbers sums → AreWhole numbers ds lesser sum → nat_lt lesser (get_or sums 255 0) ≡ true ↔ IsLessSomewhere (number_among ds) (row_number numbers)
first_more numbers sums ds lesser sum s w = (
  λ t. less_there numbers ds 256 (omega arith) (omega (arith, w.lesser_is, s 255 (omega arith), ltb-true _ _ t)),
  λ r. lt-ltb _ _ (omega (
    arith,
    w.lesser_is,
    s 255 (omega arith),
    sum_less (lesser_at numbers ds) (row_number numbers) (λ j. min-le_right (number_among ds j) (row_number numbers j)) 256 r.0 r.1
        (let m = min-le_left (number_among ds r.0) (row_number numbers r.0) in omega (arith, r.2)),
  )),
)

pub second_more : (numbers : List ℕ) (ds : List Entry) (lesser sum : ℕ) → AreWhole numbers ds lesser sum → nat_lt lesser sum ≡ true ↔ IsLessSomewhere (row_number numbers) (number_among ds)
second_more numbers ds lesser sum w = (
  λ t. less_here numbers ds 256 (omega arith) (omega (arith, w.lesser_is, w.sum_is, ltb-true _ _ t)),
  λ r. lt-ltb _ _ (omega (
    arith,
    w.lesser_is,
    w.sum_is,
    sum_less (lesser_at numbers ds) (number_among ds) (λ j. min-le_left (number_among ds j) (row_number numbers j)) 256 r.0 r.1
        (let m = min-le_right (number_among ds r.0) (row_number numbers r.0) in omega (arith, r.2)),
  )),
)
