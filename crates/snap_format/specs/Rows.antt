-- The records of a byte text, as `csv` reads them.
use Rattle.std.specs.Prelude.{ℕ, List}
use Rattle.csv.specs.Reading.{records, default_config, strip_bom}
use Rattle.snap_text.specs.Fields.{Fields}

abbrev pub rows_of : List ℕ → List Fields
rows_of text = records default_config (strip_bom text)
