-- The sums of the files so far.
use Rattle.std.specs.Prelude.{◌≡◌, ℕ, max, List, [], ◌∷◌, length, Option, Some, None, count_by, find, slice_get}
use Rattle.std.specs.Global.{Vec}
use Rattle.snap_files.specs.declared.sums.Kind.{Kind}
use Rattle.snap_files.specs.declared.sums.Sums.{Sums}
use Rattle.snap_check.specs.declared.options.CheckOptions.{CheckOptions}
use Rattle.snap_files.specs.Files.{ArePages, Opens, Page, Told, said}
use Rattle.snap_files.specs.Sums.{Judged, counting, has_code, judged_of}

-- the greatest exit status
abbrev pub greatest_of : List Judged → ℕ
greatest_of [] = 0
greatest_of (file ∷ files) = max file.code (greatest_of files)

-- the place of the first file that has this status, if there is one
abbrev pub IsFirst : ℕ → List Judged → Option ℕ → Type 0
IsFirst code files None = find (has_code code) files ≡ None
IsFirst code files (Some place) = (first : Judged) × (find (has_code code) files ≡ Some first) × (slice_get files place ≡ Some first)

-- the number of files with the status of a kind, and the first of them
pub record IsKind (code : ℕ) (files : List Judged) (kind : Kind) : Type 0 where
  pub code_is : kind.code ≡ code
  pub counts : kind.files ≡ count_by (has_code code) files
  pub first : IsFirst code files kind.first

pub record AreSums (files : List Judged) (sums : Sums) : Type 0 where
  pub counts : sums.files ≡ length files
  pub greatest : sums.greatest ≡ greatest_of files
  pub atomic : IsKind 0 files sums.atomic
  pub only_regular : IsKind 1 files sums.only_regular
  pub not_regular : IsKind 2 files sums.not_regular
  pub refused : IsKind 3 files sums.refused
  pub failed : IsKind 4 files sums.failed

-- the names that were counted so far
pub record Summed (opens : Opens) (check : CheckOptions) (names : List (Vec ℕ)) (told_old told_new : Option (List ℕ)) (failures_old failures_new : ℕ) (sums : Sums) : Type 0 where
  pub pages : List Page
  pub each : ArePages opens (counting check) names pages
  pub told : Told told_old told_new failures_old failures_new (said (counting check) pages)
  pub sums_are : AreSums (judged_of pages) sums
