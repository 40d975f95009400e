-- What a reader gives when its whole text is taken.
use Rattle.std.specs.Prelude.{◌≡◌, ◌≤◌, ◌<◌, ℕ, List, length, Option, IfSome, Result, Ok, Err}
use Rattle.snap_core.specs.declared.limit.Limit.{Limit}
use Rattle.snap_text.specs.declared.fault.TextFault.TheVariants as faults
use Rattle.snap_format.specs.declared.refusal.ReadRefusal.{ReadRefusal}
use Rattle.snap_format.specs.declared.refusal.ReadRefusal.TheVariants as refusals
use Rattle.snap_format.specs.Texts.{bytes_within}

-- everything that a reader has left was taken as this text, or is too long
abbrev pub RefusesIntake : Limit → Option (List ℕ) → ReadRefusal → Type 0
RefusesIntake limit known (refusals.Text place f) = (place ≡ 0) × (f ≡ faults.TooLong) × IfSome known (λ text. bytes_within limit < length text)
RefusesIntake limit known refusals.Device = Unit {0}
RefusesIntake limit known refusals.Memory = Unit {0}

abbrev pub TakesIn : {A : Type 0} → Limit → Option (List ℕ) → List ℕ → Result A ReadRefusal → Type 0
TakesIn limit known taken (Ok x) = (length taken ≤ bytes_within limit) × IfSome known (λ text. taken ≡ text)
TakesIn limit known taken (Err e) = RefusesIntake limit known e
