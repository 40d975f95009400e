-- How many ticks a desk may draw.
use Rattle.std.specs.Prelude.{ℕ, ◌≤◌}
use Rattle.snap_account.specs.declared.limit.TheConstants.{TICK_CAP, TICK_LIMIT}

-- the limit if none is chosen
abbrev pub tick_limit : ℕ
tick_limit = TICK_LIMIT

-- the greatest limit
abbrev pub tick_cap : ℕ
tick_cap = TICK_CAP

-- a limit that may be chosen
abbrev pub IsTickLimit : ℕ → Type 0
IsTickLimit n = (1 ≤ n) × (n ≤ tick_cap)
