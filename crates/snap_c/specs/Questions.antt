-- What may be asked of a text, and what the program answers to that.
use Rattle.std.specs.Prelude.{ℕ, ◌-◌, ◌==◌, ◌||◌, List, [], ◌∷◌, codes, Option, Some, None, if◌then◌else◌, nat_lt, slice_get}
use Rattle.std.proofs.Common.{Bor}
use Rattle.snap_core.specs.declared.limit.Limit.{Limit}
use Rattle.snap_options.specs.declared.limits.TheConstants.{FAULT_LIMIT, LINE_CALLS, MOST_CALLS}
use Rattle.snap_draw.specs.declared.window.Place.{Place}
use Rattle.snap_draw.specs.declared.window.Place.TheVariants.{Faults, From, Around}
use Rattle.snap_draw.specs.declared.window.Window.{Window}
use Rattle.snap_draw.specs.Window.{usual_lines, usual_page}
use Rattle.snap_options.specs.declared.scheme.Scheme.TheVariants.{Light, Dark}
use Rattle.snap_explain.specs.declared.view.Entries.{Entries}
use Rattle.snap_explain.specs.declared.view.Entries.TheVariants.{OfFault, Whole}
use Rattle.snap_check.specs.declared.status.Status.{Status}
use Rattle.snap_check.specs.Reports.{IsReport}
use Rattle.snap_runs.specs.Answers.{IsAnswerTo, IsCertain, IsCountsObject}
use Rattle.snap_runs.specs.declared.question.Question.TheVariants.{Explanation, ExplanationDrawn, Object, Witness, WitnessDrawn, WitnessMap, Page, Svg, Lines, Counts}
use Rattle.snap_c.specs.declared.question.Asked.{Asked}
use Rattle.snap_c.specs.declared.question.Asked.TheVariants.{Report, Of, InputCounts}

-- The status of a text and what is written of it, as the command does it, within a limit. A window may name a call
-- that the history lacks; then there is no status.
abbrev pub IsAnswer : Asked → Limit → List ℕ → Option Status → List ℕ → Type 0
IsAnswer Report limit text = IsCertain (IsReport limit text)
IsAnswer (Of question) limit text = IsAnswerTo question limit text
IsAnswer InputCounts limit text = IsCountsObject (codes "-") limit text

-- the answer to `explain`, which lists these entries of the views of a fault, by this many faults of a kind
abbrev pub explained : Entries → ℕ → Asked
explained listed faults = Of (Explanation (record { listed = listed; faults = faults }))

-- the object of a text with a name, whatever its history has shown
abbrev pub object_asked : Bor (List ℕ) → Asked
object_asked name = Of (Object (record { name = name; views = 0 }))

-- what a number chooses among, counted from 0

abbrev pub explanations : List Asked
explanations = explained OfFault 1 ∷ Of (ExplanationDrawn OfFault) ∷ explained Whole 1 ∷ Of (ExplanationDrawn Whole) ∷ []

-- explanations by at least one fault of a kind, and at most as many as the limit
abbrev pub explanation_of : ℕ → ℕ → Option Asked
explanation_of whole faults = if (faults == 0) || nat_lt FAULT_LIMIT faults then None else slice_get (explained OfFault faults ∷ explained Whole faults ∷ []) whole

abbrev pub witnesses : List Asked
witnesses = Of Witness ∷ Of WitnessDrawn ∷ Of WitnessMap ∷ []

-- the pictures of a window
abbrev pub pictures : Window → List Asked
pictures window =
    Of (Page None window) ∷ Of (Svg Light window) ∷ Of (Lines window) ∷ Of (Page (Some Light) window) ∷ Of (Page (Some Dark) window) ∷ Of (Svg Dark window) ∷ []

abbrev pub counts : List Asked
counts = Of (Counts None) ∷ InputCounts ∷ []

-- the most calls that a form may be asked for, and its usual window; the form of lines has number 2

abbrev pub most_calls : ℕ → ℕ
most_calls form = if form == 2 then LINE_CALLS else MOST_CALLS

abbrev pub usual_window : ℕ → Window
usual_window form = if form == 2 then usual_lines else usual_page

-- the place at two calls that are counted from 1; 0 names none, and two calls name no place
abbrev pub place_asked : ℕ → ℕ → Option Place
place_asked from around =
    if from == 0 then (if around == 0 then Some Faults else Some (Around (around - 1)))
    else (if around == 0 then Some (From (from - 1)) else None)

-- the number of calls that is asked for: for 0 the usual one
abbrev pub calls_asked : ℕ → ℕ → ℕ
calls_asked form calls = if calls == 0 then (usual_window form).calls else calls

abbrev pub window_at : ℕ → Option Place → Option Window
window_at calls None = None
window_at calls (Some place) = Some (record { calls = calls; place = place })

-- the window that is asked for, if the form has room for it
abbrev pub window_asked : ℕ → ℕ → ℕ → ℕ → Option Window
window_asked form calls from around =
    if nat_lt (most_calls form) (calls_asked form calls) then None else window_at (calls_asked form calls) (place_asked from around)

-- the picture that is asked for, if there are such a form and such a window
abbrev pub picture_asked : ℕ → Option Window → Option Asked
picture_asked form None = None
picture_asked form (Some window) = slice_get (pictures window) form
