-- The records of one worker, and records of the workers below a number.
use Rattle.std.specs.Prelude.{◌≡◌, ℕ, ◌≤◌, ◌==◌, List, [], filter}
use mathlib.Core.Option.{some}
use lib.ListN.{get_elem?}
use Rattle.snap_board.specs.declared.record.Record.{Record}

-- the records of worker p, in order
abbrev pub of_worker : ℕ → List Record → List Record
of_worker p = filter (λ r. r.process == p)

-- no record is of worker n or a later one
abbrev pub AreBelow : ℕ → List Record → Type 0
AreBelow n records = (p : ℕ) → n ≤ p → of_worker p records ≡ []
