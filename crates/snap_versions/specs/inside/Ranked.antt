-- Calls with the ranks of their versions among some as numbers.
use Rattle.std.specs.Prelude.{ℕ, List, map, Some, None}
use Rattle.snap_core.specs.declared.entry.Entry.{Entry}
use Rattle.snap_core.specs.Calls.{Call, Operation, Updates, Views}
use Rattle.snap_versions.specs.inside.Versions.{rank_among, versions_in}

abbrev pub ranked_entry : List (List ℕ) → Entry → Entry
ranked_entry lists e = record { component = e.component; number = rank_among (versions_in lists e.component) e.number; value = e.value }

abbrev pub ranked_operation : List (List ℕ) → Operation → Operation
ranked_operation lists (Updates e) = Updates (ranked_entry lists e)
ranked_operation lists (Views None) = Views None
ranked_operation lists (Views (Some es)) = Views (Some (map (ranked_entry lists) es))

abbrev pub ranked_call : List (List ℕ) → Call → Call
ranked_call lists c =
    record { number = c.number; process = c.process; operation = ranked_operation lists c.operation; begun = c.begun; ended = c.ended }
