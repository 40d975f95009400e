-- Why a name has no status.
use Rattle.std.proofs.Common.{inl, inr, ℕ, List, Option, Ok}
use Rattle.snap_check.specs.declared.fault.RunFault.{RunFault}
use Rattle.snap_check.specs.declared.fault.RunFault.TheVariants as faults
use Rattle.snap_files.specs.Files.{IsTroubled, Opens}
use Rattle.snap_files.specs.inside.Files.{IsTroubleBy}
use Rattle.snap_names.specs.declared.opener.Trouble.{Trouble}

-- it was opened, and its check ended with a fault
pub of_fault : (opens : Opens) (name : List ℕ) (known : Option (List ℕ)) (fault : RunFault) (trouble : Trouble) → opens name (Ok known) → IsTroubleBy opens name fault trouble → IsTroubled opens name trouble
of_fault opens name known faults.Read trouble opened is = inl is
of_fault opens name known faults.Write trouble opened is = inr (known, opened, is)
of_fault opens name known faults.Memory trouble opened is = inr (known, opened, is)
