-- The line of a view of a fault, and the numbers that a view shows of the components of the fault's updates.
use Rattle.std.specs.Prelude.{ℕ, Bool, not, List, [], ◌∷◌, ◌++◌, ◌==◌, nat_lt, codes, decimal, length, if◌then◌else◌}
use Rattle.std.specs.List.{count_by, flat_map, list_any}
use Rattle.snap_core.specs.declared.entry.Entry.{Entry}
use Rattle.snap_core.specs.Calls.{Call, call_numbered, entries_of}
use Rattle.snap_report.specs.Lines.{entry_word, update_word}
use Rattle.snap_explain.specs.declared.view.Entries.{Entries}
use Rattle.snap_explain.specs.declared.view.Entries.TheVariants.{OfFault, Whole}
use Rattle.snap_explain.specs.declared.view.TheConstants.{MOST_ENTRIES}
use Rattle.snap_explain.specs.Calls.{call_begin, entries_text}

-- some of the updates is of component k; each update has a component and a number
abbrev pub has_component : List (ℕ × ℕ) → ℕ → Bool
has_component updates k = list_any (λ u. u.0 == k) updates

-- an entry after a space, if some of the updates is of its component
abbrev pub named_text : List (ℕ × ℕ) → Entry → List ℕ
named_text updates e = if has_component updates e.component then codes " " ++ entry_word e else []

-- how many entries are of other components
abbrev pub other_count : List (ℕ × ℕ) → List Entry → ℕ
other_count updates es = count_by (λ e. not (has_component updates e.component)) es

-- the entries of the updates' components, and how many others there are
unfoldable pub some_text : List (ℕ × ℕ) → List Entry → List ℕ
some_text updates es = flat_map (named_text updates) es ++ codes " and " ++ decimal (other_count updates es) ++ codes " more entries"

-- all entries if they are few, and otherwise some
unfoldable pub of_fault_text : List (ℕ × ℕ) → List Entry → List ℕ
of_fault_text updates es = if nat_lt MOST_ENTRIES (length es) then some_text updates es else entries_text es

-- the entries that are listed of a view whose fault these updates show
abbrev pub shown_text : Entries → List (ℕ × ℕ) → List Entry → List ℕ
shown_text OfFault updates es = of_fault_text updates es
shown_text Whole updates es = entries_text es

-- call A of process P, records B and E: view .., for a view of a fault that these updates show
unfoldable pub view_text : Entries → List ℕ → List (ℕ × ℕ) → Call → List ℕ
view_text listed records updates c = call_begin records c ++ codes "view" ++ shown_text listed updates (entries_of c.operation) ++ codes "\n"

-- the lines of the views of these call numbers, whose fault these updates show
abbrev pub views_text : Entries → List ℕ → List Call → List (ℕ × ℕ) → List ℕ → List ℕ
views_text listed records calls updates views = flat_map (λ v. view_text listed records updates (call_numbered calls v)) views

-- the number that is shown of the component of an update, as 0:1
abbrev pub number_word : (ℕ → ℕ) → ℕ × ℕ → List ℕ
number_word shown u = update_word u.0 (shown u.0)

-- shows K:N and J:M .., after a space
abbrev pub numbers_text : (ℕ → ℕ) → List (ℕ × ℕ) → List ℕ
numbers_text shown [] = []
numbers_text shown (u ∷ us) = codes " shows " ++ number_word shown u ++ flat_map (λ v. codes " and " ++ number_word shown v) us
