-- What the words of `check --cut` ask for.
use Rattle.std.specs.Prelude.{◌≡◌, ◌<◌, ◌≤◌, ◌||◌, ◌⊎◌, ℕ, Bool, true, false, List, Some, codes, decimal, length}
use Rattle.clap.specs.Words.{Row, Text, first_of, one_of}
use Rattle.snap_core.specs.declared.limit.Limit.{Limit}
use Rattle.snap_core.specs.declared.writers.Writers.TheVariants.{One}
use Rattle.snap_words.specs.Jobs.{files_of, first_name, flag_text, format_text, names_unheeded, names_windows, text_of}
use Rattle.snap_words.specs.Limits.{AsksCutLimit, writers_text}
use Rattle.snap_words.specs.declared.format.Format.{Format}
use Rattle.snap_words.specs.declared.format.Format.TheVariants.{Plain}
use Rattle.snap_words.specs.declared.job.Job.{Job}
use Rattle.snap_words.specs.declared.job.Job.TheVariants.{Check, Follow, Cut, Shrink, Explain, Draw, Stats, Record}
use Rattle.snap_words.specs.declared.word.TheConstants.{NUMBER_LIMIT}

-- the job judges a history once its updates are cut: the only one of these files, within this limit, by its verdicts alone or not
abbrev pub IsCut : Limit → Bool → List Text → Job → Type 0
IsCut limit quiet files (Check cutting given options input) = ⊥
IsCut limit quiet files (Follow given windows file) = ⊥
IsCut limit quiet files (Cut asked given file) = (asked ≡ quiet) × (given ≡ limit) × (text_of file ≡ first_name files)
IsCut limit quiet files (Shrink shrunk given file) = ⊥
IsCut limit quiet files (Explain cut drawn whole faults given file) = ⊥
IsCut limit quiet files (Draw form part given file) = ⊥
IsCut limit quiet files (Stats json given names) = ⊥
IsCut limit quiet files (Record w rounds judge scan stamped seed) = ⊥

-- Whether an option with a value is given that has no use with --cut: one of those that have no use with --follow, or of windows.
abbrev pub names_uncut : List Row → Bool
names_uncut rows = names_unheeded rows || names_windows rows

-- The options of `check` ask for a cut of one history, within this limit, and for its verdicts alone or not. They ask for nothing else
-- that has no use with a cut.
pub record AsksCut (limit : Limit) (quiet : Bool) (rows : List Row) : Type 0 where
  pub limit_is : AsksCutLimit limit rows
  pub one_file : length (files_of rows) ≤ 1
  pub cut_is : one_of (codes "cut") rows ≡ Some (flag_text true)
  pub all_heeded : names_uncut rows ≡ false
  pub follow_is : one_of (codes "follow") rows ≡ Some (flag_text false)
  pub quiet_is : one_of (codes "quiet") rows ≡ Some (flag_text quiet)
  pub format_is : first_of (codes "format") rows ≡ Some (format_text Plain)
  pub summary_is : one_of (codes "summary") rows ≡ Some (flag_text false)
  pub null_is : one_of (codes "null") rows ≡ Some (flag_text false)
  pub views_are : one_of (codes "views") rows ≡ Some (decimal 0)

-- a flag is given that has no use with --cut
abbrev pub FlagsUncut : List Row → Type 0
FlagsUncut rows =
    (one_of (codes "follow") rows ≡ Some (flag_text true)) ⊎ (one_of (codes "summary") rows ≡ Some (flag_text true))
    ⊎ (one_of (codes "null") rows ≡ Some (flag_text true))

-- --format names another format than that of reports
pub record AsksOther (rows : List Row) : Type 0 where
  pub format : Format
  pub format_is : first_of (codes "format") rows ≡ Some (format_text format)
  pub other : format ≡ Plain → ⊥

-- --views asks for a completed view or more
pub record AsksViews (rows : List Row) : Type 0 where
  pub views : ℕ
  pub views_are : one_of (codes "views") rows ≡ Some (decimal views)
  pub some_view : 0 < views
  pub is_number : views ≤ NUMBER_LIMIT

-- the options and the files of `check` have no use with --cut: an option with a value, a flag, a format, views, or several files
abbrev pub IsUncut : List Row → Type 0
IsUncut rows = (names_uncut rows ≡ true) ⊎ FlagsUncut rows ⊎ AsksOther rows ⊎ AsksViews rows ⊎ (1 < length (files_of rows))

-- --cut is given, and something that has no use with it, or --writers says one: that asks for no job
pub record CutsUnheeding (rows : List Row) : Type 0 where
  pub cut_is : one_of (codes "cut") rows ≡ Some (flag_text true)
  pub unheeded : (first_of (codes "writers") rows ≡ Some (writers_text One)) ⊎ IsUncut rows
