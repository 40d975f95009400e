-- How many views are stale to others, one view more at a time, and what a tally says of them.
use mir.Val.{bool_byte}
use Rattle.std.proofs.Common.{◌≡◌, ℕ, ◌+◌, ◌<◌, ◌≤◌, get_or, take, Bool, true, false, List, length, sym, arith}
use Rattle.std.specs.List.{count_by}
use Rattle.std.proofs.lemmas.List.Sums.{count_by_more_no, count_by_more_yes}
use Rattle.snap_conditions.specs.Laws.{MonotoneByTally}
use Rattle.snap_conditions.specs.Tally.{tally_of}
use Rattle.snap_theory.proofs.StaleViews.{monotone_exactly}

-- one element more, by the byte of its test

pub byte_small : (b : Bool) → bool_byte b ≤ 1
byte_small true = omega arith
byte_small false = omega arith

pub counted_more : {X : Type 0} (p : X → Bool) (xs : List X) (i : ℕ) (d : X) (b : Bool) (count byte : ℕ) → i < length xs → b ≡ p (get_or xs i d) → byte ≡ bool_byte b → count ≡ count_by p (take i xs) → count + byte ≡ count_by p (take (i + 1) xs)
counted_more p xs i d true count byte l e h c = omega (arith, c, h, count_by_more_yes p xs i d l (sym e))
counted_more p xs i d false count byte l e h c = omega (arith, c, h, count_by_more_no p xs i d l (sym e))

pub monotone_by_tally : MonotoneByTally
unfolding tally_of
monotone_by_tally calls = let x = monotone_exactly calls in (x.1, x.0)
