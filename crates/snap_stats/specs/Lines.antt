-- The lines of what a run has shown.
use Rattle.std.specs.Prelude.{ℕ, Bool, true, false, List, [], ◌∷◌, ◌++◌, codes, decimal, map, nat_lt}
use Rattle.snap_report.specs.Lines.{Line, Word, text_of}
use Rattle.snap_stats.specs.declared.overlaps.Overlapping.{Overlapping}
use Rattle.snap_stats.specs.declared.stats.Stats.{Stats}
use Rattle.snap_stats.specs.declared.stats.ComponentStats.{ComponentStats}

-- what is counted, and the count
abbrev pub number_line : Word → ℕ → Line
number_line what n = what ∷ decimal n ∷ []

abbrev pub size_lines : Stats → List Line
size_lines s =
    number_line (codes "events") s.events
    ∷ number_line (codes "calls") s.calls
    ∷ number_line (codes "pending") s.pending
    ∷ number_line (codes "views") s.views
    ∷ number_line (codes "updates") s.updates
    ∷ number_line (codes "processes") s.processes
    ∷ number_line (codes "components") s.components ∷ []

abbrev pub overlap_lines : Overlapping → List Line
overlap_lines o =
    number_line (codes "views that overlap an update") o.update
    ∷ number_line (codes "views that overlap another view") o.view
    ∷ number_line (codes "views that overlap nothing") o.nothing ∷ []

abbrev pub open_lines : Stats → List Line
open_lines s =
    number_line (codes "updates that no view shows") s.unshown
    ∷ number_line (codes "most calls open at once") s.most_open
    ∷ number_line (codes "events of the longest call") s.longest ∷ []

-- component K writer P updates N views V
abbrev pub component_line : ComponentStats → Line
component_line c =
    codes "component" ∷ decimal c.component
    ∷ codes "writer" ∷ decimal c.writer
    ∷ codes "updates" ∷ decimal c.updates
    ∷ codes "views" ∷ decimal c.views ∷ []

-- some view overlaps an update: otherwise precedence alone determines what each view of a regular history shows
abbrev pub shows_concurrency : Stats → Bool
shows_concurrency s = nat_lt 0 s.overlapping.update

-- a line if that is not so; if no two calls are open at once, nothing overlapped
abbrev pub warning_by : Bool → Bool → List Line
warning_by true some_open = []
warning_by false true = (codes "no view overlapped an update: this run shows nothing of concurrency" ∷ []) ∷ []
warning_by false false = (codes "nothing overlapped: this run shows nothing of concurrency" ∷ []) ∷ []

abbrev pub warning_lines : Stats → List Line
warning_lines s = warning_by (shows_concurrency s) (nat_lt 1 s.most_open)

abbrev pub stats_lines : Stats → List ComponentStats → List Line
stats_lines s components = size_lines s ++ overlap_lines s.overlapping ++ open_lines s ++ map component_line components ++ warning_lines s

abbrev pub stats_text : Stats → List ComponentStats → List ℕ
stats_text s components = text_of (stats_lines s components)
