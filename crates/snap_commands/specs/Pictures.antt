-- The window that the words of `draw` ask for.
use Rattle.std.specs.Prelude.{ℕ, ◌-◌, unwrap_or}
use Rattle.snap_draw.specs.declared.window.Place.{Place as At}
use Rattle.snap_draw.specs.declared.window.Place.TheVariants.{Faults as AtFaults, From as AtFrom, Around as AtAround}
use Rattle.snap_draw.specs.declared.window.TheConstants.{PAGE_CALLS}
use Rattle.snap_draw.specs.declared.window.Window.{Window}
use Rattle.snap_options.specs.declared.limits.TheConstants.{LINE_CALLS}
use Rattle.snap_words.specs.declared.drawing.Form.{Form}
use Rattle.snap_words.specs.declared.drawing.Form.TheVariants.{Lines, Page, Svg}
use Rattle.snap_words.specs.declared.drawing.Part.{Part}
use Rattle.snap_words.specs.declared.drawing.Place.{Place}
use Rattle.snap_words.specs.declared.drawing.Place.TheVariants.{Faults, From, Around}

-- the place of a window, whose calls are counted from 0; users count them from 1
abbrev pub place_of : Place → At
place_of Faults = AtFaults
place_of (From call) = AtFrom (call - 1)
place_of (Around call) = AtAround (call - 1)

-- the number of calls of a form if no other is asked for
abbrev pub usual_calls : Form → ℕ
usual_calls (Page scheme) = PAGE_CALLS
usual_calls (Svg scheme) = PAGE_CALLS
usual_calls Lines = LINE_CALLS

-- the window that a part asks for in a form
abbrev pub window_of : Form → Part → Window
window_of form part = record { calls = unwrap_or part.calls (usual_calls form); place = place_of part.place }
