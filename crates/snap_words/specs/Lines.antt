-- What whole lines of words mean, by what the parser reads in them.
use Rattle.std.specs.Prelude.{◌≡◌, List, Some, true}
use Rattle.clap.specs.Words.{Row, Text, subcommand_of, takes}
use Rattle.snap_words.specs.CommandLine.{program_app}
use Rattle.snap_words.specs.Jobs.{files_of}

-- The parser takes these words, the program's name first. They name this command, whose options ask for this, and these files.
pub record Means (words : List Text) (command : Text) (Asks : List Row → Type 0) (files : List Text) : Type 0 where
  pub rows : List Row
  pub taken : takes program_app words ≡ true
  pub rows_are : subcommand_of program_app words ≡ Some (command, rows)
  pub asks : Asks rows
  pub files_are : files_of rows ≡ files
