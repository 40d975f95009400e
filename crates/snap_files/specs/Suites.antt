-- The document of JUnit for several texts.
use Rattle.std.specs.Prelude.{◌≡◌, ◌++◌, ◌⊎◌, ℕ, Bool, true, false, List, [], length, Option, Some, None, Ok, Err, codes, count_by, decimal}
use Rattle.std.specs.Global.{Vec}
use Rattle.std.specs.Io.KnownBytes.{Appends}
use Rattle.snap_core.specs.Sending.{SendsFront}
use Rattle.snap_check.specs.declared.options.CheckOptions.{CheckOptions}
use Rattle.snap_check.specs.declared.status.Status.TheVariants.{Atomic, Regular, Irregular, Refused, Recorded}
use Rattle.snap_files.specs.Files.{Answer, ArePages, Opens, Page, Told, greatest_code, said, written}
use Rattle.snap_files.specs.declared.format.FileOptions.{FileOptions}
use Rattle.snap_files.specs.declared.format.Format.TheVariants.{Junit}

-- whether the case of a name fails: its history is not atomic, or has fewer views than are asked for
abbrev pub is_failure : Answer → Bool
is_failure (Ok (Some Atomic)) = false
is_failure (Ok (Some Regular)) = true
is_failure (Ok (Some Irregular)) = true
is_failure (Ok (Some Refused)) = false
is_failure (Ok (Some Recorded)) = false
is_failure (Ok None) = true
is_failure (Err trouble) = false

-- whether it has an error: its text is refused, or met a trouble
abbrev pub is_error : Answer → Bool
is_error (Ok (Some Atomic)) = false
is_error (Ok (Some Regular)) = false
is_error (Ok (Some Irregular)) = false
is_error (Ok (Some Refused)) = true
is_error (Ok (Some Recorded)) = false
is_error (Ok None) = false
is_error (Err trouble) = true

-- the begin of a document of so many cases, of which so many have a failure or an error
abbrev pub suite_front : ℕ → ℕ → ℕ → List ℕ
suite_front tests failures errors =
    codes "<?xml version=\"1.0\" encoding=\"UTF-8\"?>\n<testsuite name=\"snapjudge\" tests=\"" ++ decimal tests ++ codes "\" failures=\"" ++ decimal failures
    ++ codes "\" errors=\"" ++ decimal errors ++ codes "\">\n"

-- the document: a suite of the cases of all names, which says how many there are
abbrev pub suite_text : List Page → List ℕ
suite_text pages =
    suite_front (length pages) (count_by (λ page. is_failure page.answer) pages) (count_by (λ page. is_error page.answer) pages) ++ written pages
    ++ codes "</testsuite>\n"

-- what is asked of each text
abbrev pub with_cases : CheckOptions → FileOptions
with_cases check = record { format = Junit; check = check }

-- all names were judged: the greatest status, the document that was written, and what was said
pub record WritesSuite (opens : Opens) (check : CheckOptions) (names : List (Vec ℕ)) (old new : Option (List ℕ)) (told_old told_new : Option (List ℕ)) (failures_old failures_new : ℕ) (code : ℕ) : Type 0 where
  pub pages : List Page
  pub each : ArePages opens (with_cases check) names pages
  pub greatest : code ≡ greatest_code pages
  pub wrote : Appends old new (suite_text pages)
  pub told : Told told_old told_new failures_old failures_new (said (with_cases check) pages)

-- a front of the document went out, after all names were judged
pub record CutsSuite (opens : Opens) (check : CheckOptions) (names : List (Vec ℕ)) (old new : Option (List ℕ)) : Type 0 where
  pub pages : List Page
  pub each : ArePages opens (with_cases check) names pages
  pub wrote : SendsFront old new (suite_text pages)

-- nothing was written, or a front of the document
abbrev pub SomeOfSuite : Opens → CheckOptions → List (Vec ℕ) → Option (List ℕ) → Option (List ℕ) → Type 0
SomeOfSuite opens check names old new = Appends old new [] ⊎ CutsSuite opens check names old new
