-- Levels, and the printed order.
use Rattle.std.specs.Prelude.{ℕ, Bool, true, not, ◌&&◌, ◌||◌, ◌+◌, ◌*◌, List, ◌==◌, nat_lt, nat_le, Option, is_some, length, filter, flat_map, count_by, ◌<◌, ◌⊎◌, ◌↔◌, ◌≡◌, Contains, AllPairs}
use Rattle.std.specs.List.{list_any, range_with_len}
use Rattle.snap_core.specs.declared.entry.Entry.{Entry}
use Rattle.snap_core.specs.Calls.{Call, Operation, Updates, Views, is_view, shown_number}
use Rattle.snap_theory.specs.Faults.{exceeds}

-- the number of completed views that do not show update e or a later one
unfoldable pub update_level : List Call → Entry → ℕ
update_level calls e = count_by (λ s. is_view s && nat_lt (shown_number s e.component) e.number) calls

-- the number of completed views with other numbers than r, and with no component above r's
unfoldable pub view_level : List Call → Call → ℕ
view_level calls r = count_by (λ s. is_view s && (exceeds r s && not (exceeds s r))) calls

-- twice the level, and one more for a view, so that updates come before views
abbrev pub rank_by : List Call → Call → Operation → ℕ
rank_by calls c (Updates e) = 2 * update_level calls e
rank_by calls c (Views answer) = 2 * view_level calls c + 1

unfoldable pub rank : List Call → Call → ℕ
rank calls c = rank_by calls c c.operation

abbrev pub stands_by : List Call → Option ℕ → Operation → Bool
stands_by calls ended (Updates e) = is_some ended || list_any (λ r. is_view r && nat_le e.number (shown_number r e.component)) calls
stands_by calls ended (Views answer) = is_some answer

-- a completed call, or a pending update that some view shows
unfoldable pub is_printed : List Call → Call → Bool
is_printed calls c = stands_by calls c.ended c.operation

-- by level, within a level updates before views, then by call number
unfoldable pub printed_order : List Call → List Call
printed_order calls = flat_map (λ n. filter (λ c. is_printed calls c && (rank calls c == n)) calls) (range_with_len 0 (2 * length calls + 2))

-- by level, within a level updates before views, then by call number
abbrev pub StandsBefore : List Call → Call → Call → Type 0
StandsBefore calls a b = (rank calls a < rank calls b) ⊎ ((rank calls a ≡ rank calls b) × (a.number < b.number))

-- the printed calls and no others, sorted
pub record IsPrintedOrder (calls order : List Call) : Type 0 where
  pub printed : (c : Call) → Contains order c ↔ (Contains calls c × (is_printed calls c ≡ true))
  pub sorted : AllPairs (StandsBefore calls) order
