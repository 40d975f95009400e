-- The first faults of each kind, by the views that have one.
use Rattle.std.specs.Prelude.{ℕ, List, [], ◌∷◌, take}
use Rattle.std.specs.List.{filter_map, flat_map}
use Rattle.snap_core.specs.Calls.{Call, views_of}
use Rattle.snap_conditions.specs.Kinds.{first_in, kinds}
use Rattle.snap_conditions.specs.Tally.{tally_of}
use Rattle.snap_conditions.specs.declared.fault.Fault.{Fault}
use Rattle.snap_conditions.specs.declared.fault.Kind.{Kind}
use Rattle.snap_explain.specs.declared.view.Entries.{Entries}
use Rattle.snap_explain.specs.Faults.{fault_text}

-- the first fault of a kind of each of some views, of those that have one
abbrev pub firsts_among : Kind → List Call → List Call → List Fault
firsts_among kind calls rs = filter_map (λ r. first_in kind (tally_of calls (r ∷ []))) rs

-- of the first so many completed views that have one
abbrev pub first_faults : Kind → ℕ → List Call → List Fault
first_faults kind most calls = take most (firsts_among kind calls (views_of calls))

-- what is said of the first so many faults of a kind
abbrev pub firsts_text : ℕ → Entries → List ℕ → List Call → Kind → List ℕ
firsts_text most listed records calls kind = flat_map (fault_text listed records calls) (first_faults kind most calls)

-- what is said of the first so many faults of each kind
abbrev pub first_faults_text : ℕ → Entries → List ℕ → List Call → List ℕ
first_faults_text most listed records calls = flat_map (firsts_text most listed records calls) kinds
