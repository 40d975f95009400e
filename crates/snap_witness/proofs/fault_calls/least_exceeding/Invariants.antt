use Rattle.std.proofs.Common.{◌≤◌, ◌<◌, ℕ}
use Rattle.snap_core.specs.Entries.{entry_of, number_in}
use Rattle.snap_witness.proofs.fault_calls.least_exceeding.Given as goal

-- the view shows no more of the components so far
abbrev pub invariant-loop-k : goal.invariant-loop-k
invariant-loop-k l = (j : ℕ) → j < l.k → number_in (entry_of j l.view) ≤ number_in (entry_of j l.other)
