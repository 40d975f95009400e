-- When the views of a history do not go back.
use Rattle.std.specs.Prelude.{ℕ, true, List, ◌≡◌, ◌≤◌}
use Rattle.snap_core.specs.Calls.{Call, precedes, shown_number}
use Rattle.snap_core.specs.Regular.{IsViewOf}

-- no completed view precedes one that shows an older number of some component. The name is that of monotonic reads (Terry and
-- others 1994), here of the views of all processes by precedence. It leaves out the new-old inversion, which regular registers
-- have and atomic ones do not have (Lamport 1986)
abbrev pub IsMonotone : List Call → Type 0
IsMonotone calls = (r s : Call) → IsViewOf calls r → IsViewOf calls s → precedes r s ≡ true → (k : ℕ) → shown_number r k ≤ shown_number s k
