-- The names that a command line gives.
use Rattle.std.specs.Prelude.{◌≡◌, Bool, List, Some, codes}
use Rattle.clap.specs.Words.{Row, first_of, one_of}
use Rattle.snap_words.specs.Jobs.{files_of, flag_text, text_of, texts_of}
use Rattle.snap_words.specs.declared.input.Input.{Input}

-- the names are those that the options of a command have
pub record IsInputOf (rows : List Row) (input : Input) : Type 0 where
  pub files_are : texts_of input.files.items ≡ files_of rows
  pub list_is : text_of input.list ≡ first_of (codes "list") rows
  pub null_is : (null : Bool) → one_of (codes "null") rows ≡ Some (flag_text null) → input.null ≡ null
  pub folder_is : text_of input.folder ≡ first_of (codes "folder") rows
