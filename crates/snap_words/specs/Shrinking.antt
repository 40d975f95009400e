-- What the words of `shrink` ask for.
use Rattle.std.specs.Prelude.{◌≡◌, Bool, true, false, List, Some, codes}
use Rattle.clap.specs.Words.{Row, one_of}
use Rattle.snap_core.specs.UsualLimits.{usual_limit}
use Rattle.snap_core.specs.declared.limit.Limit.{Limit}
use Rattle.snap_words.specs.declared.shrunk.Shrunk.{Shrunk}
use Rattle.snap_words.specs.declared.shrunk.Shrunk.TheVariants.{Witness, Picture, Map}
use Rattle.snap_words.specs.Jobs.{flag_text}
use Rattle.snap_words.specs.Limits.{AsksLimit}

-- whether the flag --draw asks for it
abbrev pub asks_picture : Shrunk → Bool
asks_picture Witness = false
asks_picture Picture = true
asks_picture Map = false

-- whether the flag --map asks for it
abbrev pub asks_map : Shrunk → Bool
asks_map Witness = false
asks_map Picture = false
asks_map Map = true

-- the flags of `shrink` ask for this, and the limit is this
pub record AsksShrinkWithin (limit : Limit) (shrunk : Shrunk) (rows : List Row) : Type 0 where
  pub picture_is : one_of (codes "draw") rows ≡ Some (flag_text (asks_picture shrunk))
  pub map_is : one_of (codes "map") rows ≡ Some (flag_text (asks_map shrunk))
  pub limit_is : AsksLimit limit rows

-- what `shrink` asks for if no limit is chosen
abbrev pub AsksShrink : Shrunk → List Row → Type 0
AsksShrink = AsksShrinkWithin usual_limit

-- --draw and --map are both given: that asks for no job
pub record DrawsMap (rows : List Row) : Type 0 where
  pub drawn : one_of (codes "draw") rows ≡ Some (flag_text true)
  pub mapped : one_of (codes "map") rows ≡ Some (flag_text true)
