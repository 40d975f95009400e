-- When the calls of a history are regular.
use Rattle.std.specs.Prelude.{ℕ, true, false, List, ◌≡◌, ◌<◌, Some, Contains}
use Rattle.snap_core.specs.declared.entry.Entry.{Entry}
use Rattle.snap_core.specs.Calls.{Call, Updates, precedes, is_view, shown, shown_number}

-- a completed view of the calls
pub record IsViewOf (calls : List Call) (r : Call) : Type 0 where
  pub there : Contains calls r
  pub completed : is_view r ≡ true

-- a call of the calls that writes the entry
pub record IsUpdateOf (calls : List Call) (c : Call) (e : Entry) : Type 0 where
  pub there : Contains calls c
  pub writes : c.operation ≡ Updates e

-- a begins before r ends
pub record IsBegunBeforeEnd (a r : Call) : Type 0 where
  pub place : ℕ
  pub ends : r.ended ≡ Some place
  pub before : a.begun < place

-- each completed view shows of each component a value neither older than its last update that precedes the view, nor begun after it
pub record IsRegular (calls : List Call) : Type 0 where
  pub not_old : (r c : Call) (e : Entry) → IsViewOf calls r → IsUpdateOf calls c e → shown_number r e.component < e.number → precedes c r ≡ false
  pub not_early : (r : Call) (k : ℕ) (e : Entry) → IsViewOf calls r → shown r k ≡ Some e → (c : Call) × IsUpdateOf calls c e × IsBegunBeforeEnd c r
