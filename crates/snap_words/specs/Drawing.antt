-- What the words of `draw` ask for.
use Rattle.std.specs.Prelude.{◌≡◌, ◌≤◌, ℕ, Bool, true, false, List, Option, Some, None, codes, decimal}
use Rattle.std.specs.Option.{ForSome, option_map}
use Rattle.clap.specs.Words.{Row, one_of}
use Rattle.snap_core.specs.Events.{event_cap}
use Rattle.snap_core.specs.UsualLimits.{usual_limit}
use Rattle.snap_core.specs.declared.limit.Limit.{Limit}
use Rattle.snap_options.specs.declared.scheme.Scheme.{Scheme}
use Rattle.snap_options.specs.declared.scheme.Scheme.TheVariants.{Light, Dark}
use Rattle.snap_words.specs.declared.drawing.Part.{Part}
use Rattle.snap_words.specs.declared.drawing.Place.{Place}
use Rattle.snap_words.specs.declared.drawing.Place.TheVariants.{Faults, From, Around}
use Rattle.snap_words.specs.declared.drawing.Form.{Form}
use Rattle.snap_words.specs.declared.drawing.Form.TheVariants.{Lines, Page, Svg}
use Rattle.snap_words.specs.Jobs.{flag_text}
use Rattle.snap_words.specs.Limits.{AsksLimit}
use Rattle.snap_words.specs.Parts.{HasRoom}

-- whether a form has the flag --svg
abbrev pub asks_svg : Form → Bool
asks_svg (Page scheme) = false
asks_svg (Svg scheme) = true
asks_svg Lines = false

-- whether a form has the flag --text
abbrev pub asks_text : Form → Bool
asks_text (Page scheme) = false
asks_text (Svg scheme) = false
asks_text Lines = true

-- whether colours have the flag --light
abbrev pub asks_light : Option Scheme → Bool
asks_light None = false
asks_light (Some Light) = true
asks_light (Some Dark) = false

-- whether colours have the flag --dark
abbrev pub asks_dark : Option Scheme → Bool
asks_dark None = false
asks_dark (Some Light) = false
asks_dark (Some Dark) = true

-- the colours of a form, if it has some of its own
abbrev pub scheme_of : Form → Option Scheme
scheme_of (Page scheme) = scheme
scheme_of (Svg scheme) = scheme
scheme_of Lines = None

-- the flags of `draw` are those of these colours
pub record AsksScheme (rows : List Row) (scheme : Option Scheme) : Type 0 where
  pub light_is : one_of (codes "light") rows ≡ Some (flag_text (asks_light scheme))
  pub dark_is : one_of (codes "dark") rows ≡ Some (flag_text (asks_dark scheme))

-- the call that --from names
abbrev pub from_of : Place → Option ℕ
from_of Faults = None
from_of (From call) = Some call
from_of (Around call) = None

-- the call that --around names
abbrev pub around_of : Place → Option ℕ
around_of Faults = None
around_of (From call) = None
around_of (Around call) = Some call

-- --from and --around ask for this place; no history has a call of a greater number
pub record AsksPlace (rows : List Row) (place : Place) : Type 0 where
  pub from_fits : ForSome (from_of place) (λ n. n ≤ event_cap)
  pub around_fits : ForSome (around_of place) (λ n. n ≤ event_cap)
  pub from_is : one_of (codes "from") rows ≡ option_map decimal (from_of place)
  pub around_is : one_of (codes "around") rows ≡ option_map decimal (around_of place)

-- the flags of `draw` are those of a form, its numbers those of a part, for which the form has room, and the limit is this
pub record AsksDrawWithin (limit : Limit) (rows : List Row) (form : Form) (part : Part) : Type 0 where
  pub limit_is : AsksLimit limit rows
  pub svg_is : one_of (codes "svg") rows ≡ Some (flag_text (asks_svg form))
  pub text_is : one_of (codes "text") rows ≡ Some (flag_text (asks_text form))
  pub scheme : AsksScheme rows (scheme_of form)
  pub room : HasRoom form part.calls
  pub calls_are : one_of (codes "calls") rows ≡ option_map decimal part.calls
  pub place : AsksPlace rows part.place

-- the usual number of calls, at the first faults
abbrev pub usual_part : Part
usual_part = record { calls = None; place = Faults }

-- what `draw` asks for if no limit and no part is chosen
abbrev pub AsksDraw : List Row → Form → Type 0
AsksDraw rows form = AsksDrawWithin usual_limit rows form usual_part
