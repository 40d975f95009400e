-- A history after a quiet moment, with what was left there as its beginning.
use Rattle.std.specs.Prelude.{ℕ, true, false, List, ◌++◌, ◌∷◌, ◌≡◌, ◌≢◌, ◌≤◌, ◌<◌, ◌⊎◌, Option, Some, None, All, AllPairs, Contains}
use Rattle.snap_core.specs.declared.entry.Entry.{Entry}
use Rattle.snap_core.specs.Entries.{number_in}
use Rattle.snap_core.specs.declared.event.Event.{Event}
use Rattle.snap_core.specs.Calls.{Call, calls_of, precedes, is_view, shown, shown_number}
use Rattle.snap_core.specs.Orders.{is_completed, is_update, last_written}
use Rattle.snap_core.specs.Regular.{IsViewOf, IsUpdateOf, IsBegunBeforeEnd}
use Rattle.snap_core.specs.declared.writers.Writers.{Writers}
use Rattle.snap_core.specs.declared.writers.Writers.TheVariants.{One, Many}
use Rattle.snap_theory.specs.Versions.{IsLaterVersion}

-- no call is open after these events
abbrev pub IsQuiet : List Event → Type 0
IsQuiet before = All (λ c. is_completed c ≡ true) (calls_of before)

-- what these events leave of a component: the entry of its last update, or nothing
abbrev pub left_by : List Event → ℕ → Option Entry
left_by before k = last_written k None (calls_of before)

-- the beginning of a whole history: nothing was left of any component
abbrev pub nothing : ℕ → Option Entry
nothing k = None

-- regular, from what was left of the components
pub record IsRegularFrom (left : ℕ → Option Entry) (calls : List Call) : Type 0 where
  pub not_old : (r c : Call) (e : Entry) → IsViewOf calls r → IsUpdateOf calls c e → shown_number r e.component < e.number → precedes c r ≡ false
  -- no view shows less than what was left
  pub not_less : (r : Call) (k : ℕ) → IsViewOf calls r → number_in (left k) ≤ shown_number r k
  -- each entry is what was left, or that of an update begun before the view ended
  pub not_early : (r : Call) (k : ℕ) (e : Entry) → IsViewOf calls r → shown r k ≡ Some e → (left k ≡ Some e) ⊎ ((c : Call) × IsUpdateOf calls c e × IsBegunBeforeEnd c r)

-- a legal order, from what was left: a view before the first update of a component shows what was left of it
pub record IsLegalOrderFrom (left : ℕ → Option Entry) (calls order : List Call) : Type 0 where
  pub only : All (λ c. Contains calls c × ((is_completed c ≡ true) ⊎ (is_update c ≡ true))) order
  pub distinct : AllPairs (λ a b. a ≢ b) order
  pub completed : (c : Call) → Contains calls c → is_completed c ≡ true → Contains order c
  pub precedence : AllPairs (λ a b. precedes b a ≡ false) order
  pub latest : (before after : List Call) (r : Call) → order ≡ before ++ r ∷ after → is_view r ≡ true → (k : ℕ) → shown r k ≡ last_written k (left k) before

-- atomic, from what was left
abbrev pub IsAtomicFrom : (ℕ → Option Entry) → List Call → Type 0
IsAtomicFrom left calls = (order : List Call) × IsLegalOrderFrom left calls order

-- such an order in which the numbers of each component rise
pub record IsLegalInOrderFrom (left : ℕ → Option Entry) (calls order : List Call) : Type 0 where
  pub legal : IsLegalOrderFrom left calls order
  pub rising : AllPairs IsLaterVersion order

-- atomic from what was left, by an order that keeps the version order
abbrev pub IsAtomicInOrderFrom : (ℕ → Option Entry) → List Call → Type 0
IsAtomicInOrderFrom left calls = (order : List Call) × IsLegalInOrderFrom left calls order

-- atomic from what was left, by versions too where there are many writers
abbrev pub IsAtomicFromBy : Writers → (ℕ → Option Entry) → List Call → Type 0
IsAtomicFromBy One left calls = IsAtomicFrom left calls
IsAtomicFromBy Many left calls = IsAtomicInOrderFrom left calls
