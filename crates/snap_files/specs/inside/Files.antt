-- The pages of a round, as they are made and written.
use Rattle.std.specs.Prelude.{◌≡◌, ℕ, List, [], ◌∷◌, Option, Result, Err, IfErr}
use Rattle.std.specs.Global.{Vec}
use Rattle.std.specs.List.{AllZip}
use Rattle.std.specs.Io.KnownBytes.{Appends}
use Rattle.snap_core.specs.Counting.{Rose}
use Rattle.snap_check.specs.declared.fault.RunFault.{RunFault}
use Rattle.snap_check.specs.declared.fault.RunFault.TheVariants as faults
use Rattle.snap_files.specs.declared.format.FileOptions.{FileOptions}
use Rattle.snap_names.specs.declared.opener.Trouble.{Trouble}
use Rattle.snap_names.specs.declared.opener.Trouble.TheVariants.{Memory}
use Rattle.snap_files.specs.Files.{Answer, Opens, IsPage, Told, Page, written, said, greatest_code}

-- a run blames its reader only if the count of its failures rose
abbrev pub BlamesReader : {A : Type 0} → ℕ → ℕ → Result A RunFault → Type 0
BlamesReader old new result = IfErr result (λ fault. fault ≡ faults.Read → Rose old new)

-- Why an opened text has no status, by the fault of its check. The opener says it of a failed read. A failed write there is lack of memory.
abbrev pub IsTroubleBy : Opens → List ℕ → RunFault → Trouble → Type 0
IsTroubleBy opens name faults.Read trouble = opens name (Err trouble)
IsTroubleBy opens name faults.Write trouble = trouble ≡ Memory
IsTroubleBy opens name faults.Memory trouble = trouble ≡ Memory

-- what is answered and written for each of some names, in the order of the names
abbrev pub AreAnswered : Opens → FileOptions → List (Vec ℕ) → List (Answer × Vec ℕ) → Type 0
AreAnswered opens options names pages = AllZip (λ name page. IsPage opens options (name.items) page.0 page.1.items) names pages

-- the names with what is answered and written for each
abbrev pub paged : List (Vec ℕ) → List (Answer × Vec ℕ) → List Page
paged [] pages = []
paged (name ∷ names) [] = []
paged (name ∷ names) (page ∷ pages) = record { name = name.items; answer = page.0; out = page.1.items } ∷ paged names pages

-- some pages were written: the greatest status, what was written, and what was said
pub record WritesAll (options : FileOptions) (pages : List Page) (old new : Option (List ℕ)) (told_old told_new : Option (List ℕ)) (failures_old failures_new : ℕ) (code : ℕ) : Type 0 where
  pub greatest : code ≡ greatest_code pages
  pub wrote : Appends old new (written pages)
  pub told : Told told_old told_new failures_old failures_new (said options pages)
