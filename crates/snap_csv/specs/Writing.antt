-- What goes out when a history is written, and what a writer over memory holds before that.
use Rattle.std.specs.Prelude.{◌≡◌, ◌++◌, ℕ, false, List, Option, Result, Ok, Err}
use Rattle.std.specs.Global.{Vec}
use Rattle.std.specs.Io.KnownBytes.{Appends, Keeps}
use Rattle.csv.specs.Writing.{default_writer, fields_written, has_written, writer_pending, writer_setup, writer_under}
use Rattle.csv.specs.declared.writer.Writer.{Writer}
use Rattle.snap_core.specs.Counting.{Rose}
use Rattle.snap_core.specs.Sending.{SendsFront}
use Rattle.snap_csv.specs.declared.refusal.WriteRefusal.{WriteRefusal}
use Rattle.snap_csv.specs.declared.refusal.WriteRefusal.TheVariants as refusals

-- a writer is between two records, and has this text
pub record Holds (w : Writer (Vec ℕ)) (text : List ℕ) : Type 0 where
  pub fields : fields_written w ≡ 0
  pub clean : has_written w ≡ false
  pub setup : writer_setup w ≡ default_writer
  pub bytes : (writer_under w).items ++ writer_pending w ≡ text

-- what a writer holds before and after: the whole text went out; a front of it, perhaps all; or nothing
abbrev pub Refuses : Option (List ℕ) → Option (List ℕ) → List ℕ → WriteRefusal → Type 0
Refuses old new text refusals.Device = SendsFront old new text
Refuses old new text refusals.Memory = Keeps old new

abbrev pub Writes : {A : Type 0} → Option (List ℕ) → Option (List ℕ) → List ℕ → Result A WriteRefusal → Type 0
Writes old new text (Ok u) = Appends old new text
Writes old new text (Err e) = Refuses old new text e

-- the count before and after: it rose, or is at its last value, if the device failed; else it is unchanged
abbrev pub RefusalRose : ℕ → ℕ → WriteRefusal → Type 0
RefusalRose old new refusals.Device = Rose old new
RefusalRose old new refusals.Memory = new ≡ old

abbrev pub CountsWrite : {A : Type 0} → ℕ → ℕ → Result A WriteRefusal → Type 0
CountsWrite old new (Ok u) = new ≡ old
CountsWrite old new (Err e) = RefusalRose old new e
