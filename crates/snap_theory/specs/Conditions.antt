-- The four conditions, over all completed views, all updates and all components.
use Rattle.std.specs.Prelude.{ℕ, true, List, ◌≡◌, ◌<◌, ◌≤◌, ◌⊎◌, Some}
use Rattle.snap_core.specs.declared.entry.Entry.{Entry}
use Rattle.snap_core.specs.Calls.{Call, precedes, shown, shown_number}
use Rattle.snap_core.specs.Regular.{IsViewOf, IsUpdateOf}

pub record MeetsConditions (calls : List Call) : Type 0 where
  -- each entry of a view is the number and the value of an update of that component
  pub integrity : (r : Call) (k : ℕ) (e : Entry) → IsViewOf calls r → shown r k ≡ Some e → (c : Call) × IsUpdateOf calls c e
  -- a view that precedes an update shows less, and one that an update precedes shows no less
  pub proximity_early : (r c : Call) (e : Entry) → IsViewOf calls r → IsUpdateOf calls c e → precedes r c ≡ true → shown_number r e.component < e.number
  pub proximity_old : (r c : Call) (e : Entry) → IsViewOf calls r → IsUpdateOf calls c e → precedes c r ≡ true → e.number ≤ shown_number r e.component
  -- if r precedes s, or shows less of some component, it shows no more of any
  pub read : (r s : Call) → IsViewOf calls r → IsViewOf calls s → (precedes r s ≡ true) ⊎ ((k : ℕ) × (shown_number r k < shown_number s k)) → (j : ℕ) → shown_number r j ≤ shown_number s j
  -- a view that shows an update shows each that preceded it
  pub write : (r a b : Call) (d e : Entry) → IsViewOf calls r → IsUpdateOf calls a d → IsUpdateOf calls b e → precedes a b ≡ true → e.number ≤ shown_number r e.component → d.number ≤ shown_number r d.component
