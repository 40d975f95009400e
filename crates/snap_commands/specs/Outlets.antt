-- A writer that remembers whether its reader has gone.
use Rattle.std.specs.Prelude.{Bool}
use Rattle.snap_commands.specs.declared.outlet.Outlet.{Outlet}

-- the last write that failed did so because nobody reads any more
abbrev pub is_closed : {W : Type 0} → Outlet W → Bool
is_closed outlet = outlet.is_closed
