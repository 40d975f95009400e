-- How many calls may be asked for in a picture.
use Rattle.std.specs.Prelude.{◌≤◌, ℕ, Option}
use Rattle.std.specs.Option.{ForSome}
use Rattle.snap_words.specs.declared.drawing.Form.{Form}
use Rattle.snap_words.specs.declared.drawing.Form.TheVariants.{Lines, Page, Svg}
use Rattle.snap_options.specs.declared.limits.TheConstants.{LINE_CALLS, MOST_CALLS}

-- the most calls that a form may be asked for
abbrev pub most_calls : Form → ℕ
most_calls (Page scheme) = MOST_CALLS
most_calls (Svg scheme) = MOST_CALLS
most_calls Lines = LINE_CALLS

-- a form has room for this number of calls, if one is asked for
abbrev pub HasRoom : Form → Option ℕ → Type 0
HasRoom form calls = ForSome calls (λ n. (1 ≤ n) × (n ≤ most_calls form))
