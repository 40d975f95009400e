-- Orders of the calls of an ordered history that keep the versions rising.
use Rattle.std.specs.Prelude.{List, ◌≡◌, ◌<◌, AllPairs}
use Rattle.snap_core.specs.declared.entry.Entry.{Entry}
use Rattle.snap_core.specs.Calls.{Call, Updates}
use Rattle.snap_core.specs.declared.writers.Writers.{Writers}
use Rattle.snap_core.specs.declared.writers.Writers.TheVariants.{One, Many}
use Rattle.snap_core.specs.Orders.{IsAtomic, IsLegalOrder}

-- of two updates of a component, b has the greater number
abbrev pub IsLaterVersion : Call → Call → Type 0
IsLaterVersion a b = (d e : Entry) → a.operation ≡ Updates d → b.operation ≡ Updates e → d.component ≡ e.component → d.number < e.number

-- a legal order in which the numbers of each component rise
pub record IsLegalInOrder (calls order : List Call) : Type 0 where
  pub legal : IsLegalOrder calls order
  pub rising : AllPairs IsLaterVersion order

-- linearizable, by an order that keeps the version order
abbrev pub IsAtomicInOrder : List Call → Type 0
IsAtomicInOrder calls = (order : List Call) × IsLegalInOrder calls order

-- a legal order, of versions too where there are many writers
abbrev pub IsLegalBy : Writers → List Call → List Call → Type 0
IsLegalBy One calls order = IsLegalOrder calls order
IsLegalBy Many calls order = IsLegalInOrder calls order

-- atomic, by versions too where there are many writers
abbrev pub IsAtomicBy : Writers → List Call → Type 0
IsAtomicBy One calls = IsAtomic calls
IsAtomicBy Many calls = IsAtomicInOrder calls
