-- What is answered of the records of a text with stamps.
use Rattle.std.specs.Prelude.{List, Result, Ok, Err}
use Rattle.std.specs.Global.{Vec}
use Rattle.snap_core.specs.declared.limit.Limit.{Limit}
use Rattle.snap_text.specs.Fields.{Fields}
use Rattle.snap_format.specs.declared.refusal.ReadRefusal.{ReadRefusal}
use Rattle.snap_format.specs.declared.refusal.ReadRefusal.TheVariants as refusals
use Rattle.snap_format.specs.declared.stamped.Stamped.{Stamped}
use Rattle.snap_format.specs.StampedTexts.{RowsStamped, RowsStampedFault}

abbrev pub RefusesStampedRows : Limit → List Fields → ReadRefusal → Type 0
RefusesStampedRows limit rows (refusals.Text place f) = RowsStampedFault limit rows place f
RefusesStampedRows limit rows refusals.Device = ⊥
RefusesStampedRows limit rows refusals.Memory = Unit {0}

abbrev pub AnswersStampedRows : Limit → List Fields → Result (Vec Stamped) ReadRefusal → Type 0
AnswersStampedRows limit rows (Ok sorted) = RowsStamped limit rows sorted.items
AnswersStampedRows limit rows (Err e) = RefusesStampedRows limit rows e
