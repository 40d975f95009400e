-- What the calls that read a text answer.
use Rattle.std.specs.Prelude.{◌≡◌, ◌<◌, ⊤, ℕ, List, Result, Ok, Err}
use Rattle.snap_core.specs.declared.limit.Limit.{Limit}
use Rattle.std.specs.Global.{Vec}
use Rattle.snap_core.specs.Limited.{LimitedEvents}
use Rattle.snap_core.specs.Counting.{Rose}
use Rattle.snap_format.specs.declared.refusal.ReadRefusal.{ReadRefusal}
use Rattle.snap_format.specs.declared.refusal.ReadRefusal.TheVariants as refusals
use Rattle.snap_format.specs.Texts.{IsText, HasFault}
use Rattle.snap_format.specs.Records.{HaveRecords}

-- what a refusal says of a text whose history may have `limit` events
abbrev pub RefusesText : Limit → List ℕ → ReadRefusal → Type 0
RefusesText limit text (refusals.Text place f) = HasFault limit text place f
RefusesText limit text refusals.Device = Unit {0}
RefusesText limit text refusals.Memory = Unit {0}

abbrev pub AnswersText : Limit → List ℕ → Result LimitedEvents ReadRefusal → Type 0
AnswersText limit text (Ok h) = IsText limit text h.events
AnswersText limit text (Err e) = RefusesText limit text e

-- what an answer says of a text, with the number of each event's record
abbrev pub AnswersRecords : Limit → List ℕ → Result (LimitedEvents × Vec ℕ) ReadRefusal → Type 0
AnswersRecords limit text (Ok x) = HaveRecords limit text x.0.events x.1.items
AnswersRecords limit text (Err e) = RefusesText limit text e

-- what a room has after a refusal: the text, unless it was too long, or a device or memory failed
abbrev pub RefusalLeaves : List ℕ → List ℕ → ReadRefusal → Type 0
RefusalLeaves text room (refusals.Text place f) = 0 < place → room ≡ text
RefusalLeaves text room refusals.Device = ⊤
RefusalLeaves text room refusals.Memory = ⊤

abbrev pub Leaves : {A : Type 0} → List ℕ → List ℕ → Result A ReadRefusal → Type 0
Leaves text room (Ok x) = room ≡ text
Leaves text room (Err e) = RefusalLeaves text room e

-- what a refusal says of a text in memory, for which no device fails
abbrev pub RefusesWhole : Limit → List ℕ → ReadRefusal → Type 0
RefusesWhole limit text (refusals.Text place f) = HasFault limit text place f
RefusesWhole limit text refusals.Device = ⊥
RefusesWhole limit text refusals.Memory = Unit {0}

abbrev pub AnswersWhole : Limit → List ℕ → Result LimitedEvents ReadRefusal → Type 0
AnswersWhole limit text (Ok h) = IsText limit text h.events
AnswersWhole limit text (Err e) = RefusesWhole limit text e

-- the count before and after a refusal: it rose, or is at its last value, if the device failed; else it is unchanged
abbrev pub RefusalCounts : ℕ → ℕ → ReadRefusal → Type 0
RefusalCounts old new (refusals.Text place f) = new ≡ old
RefusalCounts old new refusals.Device = Rose old new
RefusalCounts old new refusals.Memory = new ≡ old

abbrev pub Counts : {A : Type 0} → ℕ → ℕ → Result A ReadRefusal → Type 0
Counts old new (Ok x) = new ≡ old
Counts old new (Err e) = RefusalCounts old new e
