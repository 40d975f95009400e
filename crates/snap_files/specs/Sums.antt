-- The number of files with each status, and the first of them.
use Rattle.std.specs.Prelude.{◌≡◌, ◌==◌, ◌++◌, ◌⊎◌, ℕ, Bool, true, List, [], length, map, Option, Some, None, codes, count_by, decimal, find}
use Rattle.std.specs.Global.{Vec}
use Rattle.std.specs.Io.KnownBytes.{Appends}
use Rattle.snap_core.specs.Sending.{SendsFront}
use Rattle.snap_names.specs.Shown.{shown}
use Rattle.snap_check.specs.declared.options.CheckOptions.{CheckOptions}
use Rattle.snap_files.specs.Files.{ArePages, Opens, Page, Told, answer_code, greatest_code, said}
use Rattle.snap_files.specs.declared.format.FileOptions.{FileOptions}
use Rattle.snap_files.specs.declared.format.Format.TheVariants.{Plain}

-- a name with its exit status
pub record Judged : Type 0 where
  pub name : List ℕ
  pub code : ℕ

abbrev pub with_code : List ℕ → ℕ → Judged
with_code name code = record { name = name; code = code }

-- the names that were judged with their exit statuses, in the order of the names
abbrev pub judged_of : List Page → List Judged
judged_of pages = map (λ page. with_code page.name (answer_code page.answer)) pages

abbrev pub has_code : ℕ → Judged → Bool
has_code code file = file.code == code

-- what is shown about the first file of a kind
abbrev pub first_text : Option Judged → List ℕ
first_text None = []
first_text (Some file) = codes " first " ++ shown file.name

-- the line of a kind: its word, the number of files with its status, and the first of them
abbrev pub kind_text : List ℕ → ℕ → List Judged → List ℕ
kind_text word code files = word ++ decimal (count_by (has_code code) files) ++ first_text (find (has_code code) files) ++ codes "\n"

-- the sums: the number of files, and the lines of the kinds
abbrev pub sums_text : List Judged → List ℕ
sums_text files =
    codes "files " ++ decimal (length files) ++ codes "\n" ++ kind_text (codes "atomic ") 0 files ++ kind_text (codes "only-regular ") 1 files
    ++ kind_text (codes "not-regular ") 2 files ++ kind_text (codes "refused ") 3 files ++ kind_text (codes "failed ") 4 files

-- what is asked of each text if only its status is counted
abbrev pub counting : CheckOptions → FileOptions
counting check = record { format = Plain; check = record check { quiet = true } }

-- all names were judged: the greatest status, the sums that were written, and what was said
pub record SumsAll (opens : Opens) (check : CheckOptions) (names : List (Vec ℕ)) (old new : Option (List ℕ)) (told_old told_new : Option (List ℕ)) (failures_old failures_new : ℕ) (code : ℕ) : Type 0 where
  pub pages : List Page
  pub each : ArePages opens (counting check) names pages
  pub greatest : code ≡ greatest_code pages
  pub wrote : Appends old new (sums_text (judged_of pages))
  pub told : Told told_old told_new failures_old failures_new (said (counting check) pages)

-- a front of the sums went out, after all names were judged
pub record SumsCut (opens : Opens) (check : CheckOptions) (names : List (Vec ℕ)) (old new : Option (List ℕ)) : Type 0 where
  pub pages : List Page
  pub each : ArePages opens (counting check) names pages
  pub wrote : SendsFront old new (sums_text (judged_of pages))

-- nothing was written, or a front of the sums
abbrev pub SumsSome : Opens → CheckOptions → List (Vec ℕ) → Option (List ℕ) → Option (List ℕ) → Type 0
SumsSome opens check names old new = Appends old new [] ⊎ SumsCut opens check names old new
