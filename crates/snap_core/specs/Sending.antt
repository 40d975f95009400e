-- What goes out when a text is sent, and what that does to the count of failures.
use Rattle.std.specs.Prelude.{◌≡◌, ◌≤◌, ℕ, List, length, take, Option, Result, Ok, Err}
use Rattle.std.specs.Io.KnownBytes.{Appends}
use Rattle.snap_core.specs.Counting.{Rose}

-- a front of the text went out, perhaps all of it
abbrev pub SendsFront : Option (List ℕ) → Option (List ℕ) → List ℕ → Type 0
SendsFront old new text = (n : ℕ) × (n ≤ length text) × Appends old new (take n text)

-- what a writer holds before and after: the whole text went out, or a front of it
abbrev pub Sends : {T E : Type 0} → Option (List ℕ) → Option (List ℕ) → List ℕ → Result T E → Type 0
Sends old new text (Ok u) = Appends old new text
Sends old new text (Err e) = SendsFront old new text

-- the count before and after: unchanged, or it rose
abbrev pub CountsSend : {T E : Type 0} → ℕ → ℕ → Result T E → Type 0
CountsSend old new (Ok u) = new ≡ old
CountsSend old new (Err e) = Rose old new
