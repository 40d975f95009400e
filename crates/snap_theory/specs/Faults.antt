-- The faults of a view against all views and all updates, and their tally.
use Rattle.std.specs.Prelude.{ℕ, suc, Bool, false, not, ◌&&◌, ◌||◌, List, [], ◌≡◌, ◌==◌, nat_lt, Option, Some, None, filter, flat_map, map, find, ◌∷◌}
use Rattle.std.specs.List.{count_by, list_any, range_with_len, sum_by}
use Rattle.snap_core.specs.declared.entry.Entry.{Entry}
use Rattle.snap_core.specs.Entries.{component_count}
use Rattle.snap_core.specs.Calls.{Call, Operation, Updates, Views, precedes, shown, shown_number, entries_of, is_update_numbered, views_of}

abbrev pub writes_entry : Operation → Entry → Bool
writes_entry (Updates d) e = (d.component == e.component) && ((d.number == e.number) && (d.value == e.value))
writes_entry (Views answer) e = false

abbrev pub is_unwritten : List Call → Option Entry → Bool
is_unwritten calls None = false
is_unwritten calls (Some e) = not (list_any (λ c. writes_entry c.operation e) calls)

-- r lists k, and no update of k has that number and that value
unfoldable pub integrity_fault : List Call → Call → ℕ → Bool
integrity_fault calls r k = is_unwritten calls (shown r k)

-- the next update of k precedes r
unfoldable pub old_fault : List Call → Call → ℕ → Bool
old_fault calls r k = list_any (λ a. is_update_numbered k (suc (shown_number r k)) a && precedes a r) calls

-- r precedes the update of k that it shows
unfoldable pub early_fault : List Call → Call → ℕ → Bool
early_fault calls r k = list_any (λ a. is_update_numbered k (shown_number r k) a && precedes r a) calls

-- r shows a greater number than s of some component
unfoldable pub exceeds : Call → Call → Bool
exceeds r s = list_any (λ e. nat_lt (shown_number s e.component) (shown_number r e.component)) (entries_of r.operation)

-- r shows more of some component than s, and precedes s or shows less of some component
unfoldable pub read_fault : Call → Call → Bool
read_fault r s = exceeds r s && (precedes r s || exceeds s r)

-- r precedes s and shows more of some component
unfoldable pub is_stale : Call → Call → Bool
is_stale r s = exceeds r s && precedes r s

-- the next update of j precedes the update of k that r shows
unfoldable pub write_fault : List Call → Call → ℕ → ℕ → Bool
write_fault calls r j k =
    list_any (λ a. is_update_numbered j (suc (shown_number r j)) a
    && list_any (λ b. is_update_numbered k (shown_number r k) b && precedes a b) calls) calls

abbrev pub components : List ℕ
components = range_with_len 0 component_count

-- the components that a view lists
abbrev pub listed : Call → List ℕ
listed r = map (λ e. e.component) (entries_of r.operation)

-- the faults with the first view in rs, ordered by that view, then by component, other view, or both components
unfoldable pub integrity_faults : List Call → List Call → List (Call × ℕ)
integrity_faults calls rs = flat_map (λ r. map (λ k. (r, k)) (filter (integrity_fault calls r) (listed r))) rs

unfoldable pub proximity_faults : List Call → List Call → List (Call × ℕ)
proximity_faults calls rs = flat_map (λ r. map (λ k. (r, k)) (filter (λ k. old_fault calls r k || early_fault calls r k) components)) rs

unfoldable pub read_faults : List Call → List Call → List (Call × Call)
read_faults calls rs = flat_map (λ r. map (λ s. (r, s)) (filter (read_fault r) (views_of calls))) rs

unfoldable pub write_faults : List Call → List Call → List (Call × ℕ × ℕ)
write_faults calls rs = flat_map (λ r. flat_map (λ j. map (λ k. (r, j, k)) (filter (write_fault calls r j) (listed r))) components) rs

-- for each view of rs, the number of completed views that are stale to it, added up
unfoldable pub stale_count : List Call → List Call → ℕ
stale_count calls rs = sum_by (λ r. count_by (is_stale r) (views_of calls)) rs

-- the write faults of a view that misses an update of component j
abbrev pub missed_at : List Call → Call → ℕ → List (Call × ℕ × ℕ)
missed_at calls r j = map (λ k. (r, j, k)) (filter (write_fault calls r j) (listed r))

-- no fault of one view alone
pub record HasNoLocalFault (calls : List Call) : Type 0 where
  pub integrity : integrity_faults calls (views_of calls) ≡ []
  pub proximity : proximity_faults calls (views_of calls) ≡ []

pub record HasNoFault (calls : List Call) : Type 0 where
  pub local : HasNoLocalFault calls
  pub read : read_faults calls (views_of calls) ≡ []
  pub write : write_faults calls (views_of calls) ≡ []

-- the least component of which r shows more than s
unfoldable pub least_exceeding : Call → Call → Option ℕ
least_exceeding r s = find (λ k. nat_lt (shown_number s k) (shown_number r k)) components

-- a tally has the count of the faults of a kind and the first of them, which is the least
abbrev pub first_of : {F : Type 0} → List F → Option F
first_of [] = None
first_of (f ∷ fs) = Some f
