-- What the call answers that reads the stamped events of a text.
use Rattle.std.specs.Prelude.{ℕ, List, Result, Ok, Err}
use Rattle.std.specs.Global.{Vec}
use Rattle.snap_core.specs.declared.limit.Limit.{Limit}
use Rattle.snap_format.specs.declared.refusal.ReadRefusal.{ReadRefusal}
use Rattle.snap_format.specs.declared.refusal.ReadRefusal.TheVariants as refusals
use Rattle.snap_format.specs.declared.stamped.Stamped.{Stamped}
use Rattle.snap_format.specs.StampedTexts.{HasStampedFault, IsStampedText}

-- what a refusal says of a text with at most so many events
abbrev pub RefusesStampedText : Limit → List ℕ → ReadRefusal → Type 0
RefusesStampedText limit text (refusals.Text place f) = HasStampedFault limit text place f
RefusesStampedText limit text refusals.Device = Unit {0}
RefusesStampedText limit text refusals.Memory = Unit {0}

abbrev pub AnswersStampedText : Limit → List ℕ → Result (Vec Stamped) ReadRefusal → Type 0
AnswersStampedText limit text (Ok sorted) = IsStampedText limit text sorted.items
AnswersStampedText limit text (Err e) = RefusesStampedText limit text e
