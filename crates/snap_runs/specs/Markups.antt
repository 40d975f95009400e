-- What is proved of the bytes of a picture: how they end. The rest of them is tested only.
use Rattle.snap_runs.specs.Drawing.{Writes}
use Rattle.snap_draw.specs.Ends.{EndsPage, EndsSvg}

-- SVG alone
abbrev pub is_svg : Writes
is_svg events records sources shapes parts order said text = EndsSvg text

-- a page with SVG in it
abbrev pub is_page : Writes
is_page events records sources shapes parts order said text = EndsPage text

-- lines of characters
abbrev pub is_lines : Writes
is_lines events records sources shapes parts order said text = Unit {0}
