-- The keys by which a sort makes the printed order.
use Rattle.std.specs.Prelude.{ℕ, List, Option, Some, None, if◌then◌else◌, map, filter, ◌↔◌, Contains, AllPairs}
use Rattle.snap_core.specs.Calls.{Call}
use Rattle.snap_theory.specs.KeyOrder.{KeyLess}
use Rattle.snap_theory.specs.Levels.{rank, is_printed}

abbrev pub key_of : List Call → Call → ℕ × ℕ
key_of calls c = (rank calls c, c.number)

-- the keys of the printed calls, by call number
abbrev pub printed_keys : List Call → List (ℕ × ℕ)
printed_keys calls = map (key_of calls) (filter (is_printed calls) calls)

-- the rank of a call, if it is printed
abbrev pub rank_of : List Call → Call → Option ℕ
rank_of calls c = if is_printed calls c then Some (rank calls c) else None

-- the keys of the printed calls, sorted
pub record AreSortedKeys (calls : List Call) (keys : List (ℕ × ℕ)) : Type 0 where
  pub sorted : AllPairs KeyLess keys
  pub same : (key : ℕ × ℕ) → Contains keys key ↔ Contains (printed_keys calls) key
