-- The exit status of a command that has none of its own.
use Rattle.std.specs.Prelude.{ℕ}
use Rattle.snap_commands.specs.declared.failure.Failure.{Failure}
use Rattle.snap_commands.specs.declared.failure.Failure.TheVariants.{Words, Unopened, Unheard, Run}
use Rattle.snap_words.specs.declared.job.JobFault.{JobFault}
use Rattle.snap_words.specs.declared.job.JobFault.TheVariants.{Usage, Memory}

-- the command line is wrong, or memory ran out before it was understood
abbrev pub fault_code : JobFault → ℕ
fault_code (Usage text) = 5
fault_code Memory = 4

abbrev pub failure_code : Failure → ℕ
failure_code (Words fault) = fault_code fault
failure_code Unopened = 4
failure_code Unheard = 4
failure_code (Run fault) = 4
