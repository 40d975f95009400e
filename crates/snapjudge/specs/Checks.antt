-- What the words of a check ask for of each text.
use Rattle.snap_check.specs.declared.options.CheckOptions.{CheckOptions}
use Rattle.snap_check.specs.declared.workers.TheConstants.{SHARED_FROM}
use Rattle.snap_core.specs.declared.limit.Limit.{Limit}
use Rattle.snap_files.specs.declared.format.FileOptions.{FileOptions}
use Rattle.snap_files.specs.declared.format.Format.{Format}
use Rattle.snap_files.specs.declared.format.Format.TheVariants.{Json, Plain}
use Rattle.snap_words.specs.declared.format.Format.{Format as Asked}
use Rattle.snap_words.specs.declared.format.Format.TheVariants as asks
use Rattle.snap_words.specs.declared.job.Options.{Options}

-- the check of each text
abbrev pub check_of : Limit → Options → CheckOptions
check_of limit asked = record { quiet = asked.quiet; views = asked.views; limit = limit; alone_below = SHARED_FROM; finer = asked.finer }

-- what is written of each text: an object, or a report, from which the cases of a document are made too
abbrev pub format_of : Asked → Format
format_of asks.Plain = Plain
format_of asks.Json = Json
format_of asks.Junit = Plain

abbrev pub options_of : Limit → Options → FileOptions
options_of limit asked = record { format = format_of asked.format; check = check_of limit asked }
