-- The view and the update that the side of a fault names.
use Rattle.std.specs.Prelude.{ℕ, suc, true, ◌<◌, ◌≡◌, length, List}
use Rattle.snap_core.specs.Calls.{Call, call_numbered, is_view}
use Rattle.snap_conditions.specs.declared.fault.ReadFault.{ReadFault}
use Rattle.snap_conditions.specs.declared.fault.Side.{Side}
use Rattle.snap_conditions.specs.declared.fault.Side.TheVariants.{Old, Early}

-- a completed view has this call number
pub record IsViewAt (calls : List Call) (c : ℕ) : Type 0 where
  pub within : c < length calls
  pub view : is_view (call_numbered calls c) ≡ true

-- both views of a read fault are completed
abbrev pub AreReadAt : List Call → ReadFault → Type 0
AreReadAt calls f = IsViewAt calls f.view × IsViewAt calls f.other

-- the number of the update that shows a proximity fault: the one that the view misses, or the one that it shows
abbrev pub side_number : Side → ℕ → ℕ
side_number Old number = suc number
side_number Early number = number
