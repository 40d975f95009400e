-- Legal orders of calls, and atomic histories.
use Rattle.std.specs.Prelude.{ℕ, Bool, true, false, List, [], ◌∷◌, ◌++◌, ◌≡◌, ◌≢◌, ◌==◌, ◌⊎◌, Option, Some, None, is_some, if◌then◌else◌, All, AllPairs, Contains}
use Rattle.snap_core.specs.declared.entry.Entry.{Entry}
use Rattle.snap_core.specs.Calls.{Call, Operation, Updates, Views, precedes, is_view, shown}

abbrev pub is_writing : Operation → Bool
is_writing (Updates e) = true
is_writing (Views answer) = false

unfoldable pub is_update : Call → Bool
is_update c = is_writing c.operation

unfoldable pub is_completed : Call → Bool
is_completed c = is_some c.ended

abbrev pub written_by : Operation → ℕ → Option Entry → Option Entry
written_by (Updates e) k last = if e.component == k then Some e else last
written_by (Views answer) k last = last

-- the entry of the last update of component k in a list, or what was there before the list
abbrev pub last_written : ℕ → Option Entry → List Call → Option Entry
last_written k last [] = last
last_written k last (c ∷ cs) = last_written k (written_by c.operation k last) cs

-- a list of distinct calls that has every completed call and otherwise only pending updates
pub record IsLegalOrder (calls order : List Call) : Type 0 where
  pub only : All (λ c. Contains calls c × ((is_completed c ≡ true) ⊎ (is_update c ≡ true))) order
  pub distinct : AllPairs (λ a b. a ≢ b) order
  pub completed : (c : Call) → Contains calls c → is_completed c ≡ true → Contains order c
  -- no call in it precedes one that is before it in the list
  pub precedence : AllPairs (λ a b. precedes b a ≡ false) order
  -- each view shows, for each component, the last update of that component before it in the list, or nothing if there is none
  pub latest : (before after : List Call) (r : Call) → order ≡ before ++ r ∷ after → is_view r ≡ true → (k : ℕ) → shown r k ≡ last_written k None before

-- linearizable: some list is a legal order
abbrev pub IsAtomic : List Call → Type 0
IsAtomic calls = (order : List Call) × IsLegalOrder calls order
