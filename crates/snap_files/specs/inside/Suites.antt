-- A document of JUnit, as it is sent.
use Rattle.std.specs.Prelude.{◌≡◌, ◌++◌, ℕ, List, Option, codes}
use Rattle.std.specs.Io.KnownBytes.{Appends}
use Rattle.snap_files.specs.Files.{Page, Told, greatest_code, said, written}
use Rattle.snap_files.specs.declared.format.FileOptions.{FileOptions}

-- a begin, the cases of some pages, and the end of a document
abbrev pub around : List ℕ → List Page → List ℕ
around front pages = front ++ written pages ++ codes "</testsuite>\n"

-- all of that was sent: the greatest status, and what was said
pub record SendsAround (options : FileOptions) (front : List ℕ) (pages : List Page) (old new : Option (List ℕ)) (told_old told_new : Option (List ℕ)) (failures_old failures_new : ℕ) (code : ℕ) : Type 0 where
  pub greatest : code ≡ greatest_code pages
  pub wrote : Appends old new (around front pages)
  pub told : Told told_old told_new failures_old failures_new (said options pages)
