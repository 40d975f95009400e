-- The records of a text: those that a reader of `csv` has left, and those of a history.
use Rattle.std.specs.Prelude.{◌≡◌, ◌<◌, ℕ, true, false, List, length, Some, Result, Ok, Err}
use Rattle.snap_core.specs.declared.limit.Limit.{Limit}
use Rattle.std.specs.Global.{Vec}
use Rattle.csv.specs.Machine.{ends_at_end}
use Rattle.csv.specs.Reading.{records_from, default_config, source_of, Ready}
use Rattle.csv.specs.declared.reader.Reader.{Reader}
use Rattle.csv.specs.declared.reader.Trim.TheVariants as trim
use Rattle.std.proofs.Common.{Bor}
use Rattle.snap_core.specs.Limited.{LimitedEvents}
use Rattle.snap_text.specs.Fields.{Fields}
use Rattle.snap_format.specs.declared.refusal.ReadRefusal.{ReadRefusal}
use Rattle.snap_format.specs.Records.{RowsNumbered}
use Rattle.snap_format.specs.Taking.{AnswersRows, RefusesRows}

-- a reader over memory has these records left
pub record Stands (r : Reader (Bor (List ℕ))) (rows : List Fields) : Type 0 where
  pub trim : r.trim ≡ trim.None
  pub ready : Ready r
  pub config : r.config ≡ default_config
  pub flexible : r.flexible ≡ true
  pub between : ends_at_end r.state ≡ false
  pub left : List ℕ
  pub source : source_of (λ s. Some s.now) r ≡ Some left
  pub fuel : ℕ
  pub enough : length left < fuel
  pub gives : records_from default_config fuel r.state left ≡ rows

-- what an answer says of records, with the number of each event's record
abbrev pub AnswersListed : Limit → List Fields → Result (LimitedEvents × Vec ℕ) ReadRefusal → Type 0
AnswersListed limit rows (Ok x) = AnswersRows limit rows (Ok x.0) × RowsNumbered rows x.1.items
AnswersListed limit rows (Err e) = RefusesRows limit rows e
