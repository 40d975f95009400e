-- What the words of a command line ask for.
use Rattle.std.specs.Prelude.{◌≡◌, ◌-◌, ◌*◌, ◌/◌, ◌<◌, ◌≤◌, ◌+◌, ◌||◌, min, ℕ, Bool, true, false, List, [], ◌∷◌, Option, Some, None, IsSome, codes, decimal, is_none, is_some, if◌then◌else◌, length, map, option_map}
use Rattle.std.specs.Global.{Vec}
use Rattle.std.specs.List.{count_by}
use Rattle.std.specs.Str.{bytes_eq}
use Rattle.clap.specs.Words.{Row, Text, all_of, first_of, one_of}
use Rattle.snap_core.specs.Events.{event_cap}
use Rattle.snap_core.specs.Limits.{IsLimit, event_limit}
use Rattle.snap_core.specs.UsualLimits.{usual_limit}
use Rattle.snap_core.specs.declared.limit.Limit.{Limit}
use Rattle.snap_core.specs.declared.writers.Writers.TheVariants.{Many}
use Rattle.snap_record.specs.Plans.{AreRounds, AreRoundsWithin, AreWorkers, worker_limit}
use Rattle.snap_threads.specs.Cuttings.{IsPieces, IsWorkers}
use Rattle.snap_words.specs.declared.drawing.Form.{Form}
use Rattle.snap_words.specs.declared.drawing.Part.{Part}
use Rattle.snap_words.specs.Parts.{HasRoom}
use Rattle.snap_words.specs.Limits.{AsksEvents, AsksLimit}
use Rattle.snap_words.specs.declared.job.Job.{Job}
use Rattle.snap_words.specs.declared.job.Job.TheVariants.{Check, Follow, Cut, Shrink, Explain, Draw, Stats, Record}
use Rattle.snap_words.specs.declared.color.Color.{Color}
use Rattle.snap_words.specs.declared.color.Color.TheVariants.{Auto, Always, Never}
use Rattle.snap_words.specs.declared.format.Format.{Format}
use Rattle.snap_words.specs.declared.format.Format.TheVariants.{Plain, Json, Junit}
use Rattle.snap_words.specs.declared.job.Options.{Options}
use Rattle.snap_words.specs.declared.job.Windows.{Windows}
use Rattle.snap_words.specs.declared.shrunk.Shrunk.{Shrunk}
use Rattle.snap_options.specs.declared.limits.TheConstants.{FAULT_LIMIT}
use Rattle.snap_words.specs.declared.word.TheConstants.{NUMBER_LIMIT}

-- a history of `events` events can have this many completed views, of two events each
abbrev pub AreViews : ℕ → ℕ → Type 0
AreViews events n = 2 * n ≤ events

-- One form of answer is asked for. The lines of the verdicts alone are those of reports, and sums are neither these nor of another
-- format.
pub record IsOneForm (options : Options) : Type 0 where
  pub verdicts : options.quiet ≡ true → options.format ≡ Plain
  pub sums : options.summary ≡ true → (options.quiet ≡ false) × (options.format ≡ Plain)

-- the number of events from which on a window ends is a limit, and at most that of a history
abbrev pub IsWindow : ℕ → ℕ → Type 0
IsWindow events least = IsLimit least × (least ≤ events)

-- the number of faults of a kind that an explanation has
abbrev pub AreFaults : ℕ → Type 0
AreFaults faults = (1 ≤ faults) × (faults ≤ FAULT_LIMIT)

-- The numbers of a job are in their ranges. It asks for one form of answer, and not for a report with stamps. Where updates are cut,
-- each component may have many writers.
abbrev pub IsInRange : Job → Type 0
IsInRange (Check cutting limit options input) =
    IsPieces cutting.pieces × IsWorkers cutting.workers × IsLimit limit.events × AreViews limit.events options.views × IsOneForm options
IsInRange (Follow limit windows file) = IsLimit limit.events × AreViews limit.events windows.views × IsWindow limit.events windows.least
IsInRange (Cut quiet limit file) = IsLimit limit.events × (limit.writers ≡ Many)
IsInRange (Shrink shrunk limit file) = IsLimit limit.events
IsInRange (Explain cut drawn whole faults limit file) =
    IsLimit limit.events × AreFaults faults × (drawn ≡ true → faults ≡ 1) × (cut ≡ true → limit.writers ≡ Many)
IsInRange (Draw form part limit file) = IsLimit limit.events × HasRoom form part.calls
IsInRange (Stats json limit files) = IsLimit limit.events
IsInRange (Record workers rounds judge scan stamped seed) = AreWorkers workers × AreRounds rounds × (judge ≡ true → stamped ≡ false)

-- the texts of some names, and of one that may be absent
abbrev pub texts_of : List (Vec ℕ) → List Text
texts_of names = map (λ name. name.items) names

abbrev pub text_of : Option (Vec ℕ) → Option Text
text_of name = option_map (λ name. name.items) name

abbrev pub first_name : List Text → Option Text
first_name [] = None
first_name (name ∷ names) = Some name

-- whether a name is that of standard input
abbrev pub is_input : Text → Bool
is_input name = bytes_eq name (codes "-")

abbrev pub inputs_in : List Text → ℕ
inputs_in names = count_by is_input names

-- how often a name, which may be absent, is that of standard input
abbrev pub inputs_at : Option Text → ℕ
inputs_at None = 0
inputs_at (Some name) = if is_input name then 1 else 0

-- What a check is asked for: its cutting, its limit and its options. Besides the words there may be a list of names, and
-- whether a zero byte ends each, and a folder.
pub record Checking : Type 0 where
  pub pieces : ℕ
  pub workers : ℕ
  pub limit : Limit
  pub options : Options
  pub list : Option Text
  pub null : Bool
  pub folder : Option Text

-- the whole report, of any number of completed views, in as many pieces as the program chooses for a long text
abbrev pub no_options : Options
no_options = record { quiet = false; views = 0; format = Plain; summary = false; no_progress = false; color = Auto; finer = true }

-- what is asked for if no option is given
abbrev pub plain_check : Checking
plain_check = record { pieces = 8; workers = 2; limit = usual_limit; options = no_options; list = None; null = false; folder = None }

-- the job is such a check of these files
abbrev pub IsCheck : Checking → List Text → Job → Type 0
IsCheck asked files (Check cutting limit options input) =
    (cutting.pieces ≡ asked.pieces) × (cutting.workers ≡ asked.workers) × (limit ≡ asked.limit) × (options ≡ asked.options)
    × (texts_of input.files.items ≡ files) × (text_of input.list ≡ asked.list) × (input.null ≡ asked.null) × (text_of input.folder ≡ asked.folder)
IsCheck asked files (Follow limit windows file) = ⊥
IsCheck asked files (Cut quiet limit file) = ⊥
IsCheck asked files (Shrink shrunk limit file) = ⊥
IsCheck asked files (Explain cut drawn whole faults limit file) = ⊥
IsCheck asked files (Draw form part limit file) = ⊥
IsCheck asked files (Stats json limit names) = ⊥
IsCheck asked files (Record w rounds judge scan stamped seed) = ⊥

-- the job judges a recording while it grows: the only one of these files, with windows within this limit
abbrev pub IsFollow : Limit → Windows → List Text → Job → Type 0
IsFollow limit windows files (Check cutting given options input) = ⊥
IsFollow limit windows files (Follow given asked file) = (given ≡ limit) × (asked ≡ windows) × (text_of file ≡ first_name files)
IsFollow limit windows files (Cut quiet given file) = ⊥
IsFollow limit windows files (Shrink shrunk given file) = ⊥
IsFollow limit windows files (Explain cut drawn whole faults given file) = ⊥
IsFollow limit windows files (Draw form part given file) = ⊥
IsFollow limit windows files (Stats json given names) = ⊥
IsFollow limit windows files (Record w rounds judge scan stamped seed) = ⊥

-- the job cuts down the history in the first of these files, within this limit, and writes this of it
abbrev pub IsShrink : Limit → Shrunk → List Text → Job → Type 0
IsShrink limit shrunk files (Check cutting given options input) = ⊥
IsShrink limit shrunk files (Follow given windows file) = ⊥
IsShrink limit shrunk files (Cut quiet given file) = ⊥
IsShrink limit shrunk files (Shrink asked given file) = (asked ≡ shrunk) × (given ≡ limit) × (text_of file ≡ first_name files)
IsShrink limit shrunk files (Explain cut drawn whole faults given file) = ⊥
IsShrink limit shrunk files (Draw form part given file) = ⊥
IsShrink limit shrunk files (Stats json given names) = ⊥
IsShrink limit shrunk files (Record w rounds judge scan stamped seed) = ⊥

-- The job explains it, with its updates cut first or not, and with a picture or without. It does so with all entries of the views of
-- a fault or without, and with this many faults.
abbrev pub IsExplain : Limit → Bool → Bool → Bool → ℕ → List Text → Job → Type 0
IsExplain limit cut drawn whole faults files (Check cutting given options input) = ⊥
IsExplain limit cut drawn whole faults files (Follow given windows file) = ⊥
IsExplain limit cut drawn whole faults files (Cut quiet given file) = ⊥
IsExplain limit cut drawn whole faults files (Shrink asked given file) = ⊥
IsExplain limit cut drawn whole faults files (Explain cuts asked all told given file) =
    (cuts ≡ cut) × (asked ≡ drawn) × (all ≡ whole) × (told ≡ faults) × (given ≡ limit) × (text_of file ≡ first_name files)
IsExplain limit cut drawn whole faults files (Draw form part given file) = ⊥
IsExplain limit cut drawn whole faults files (Stats json given names) = ⊥
IsExplain limit cut drawn whole faults files (Record w rounds judge scan stamped seed) = ⊥

-- the job draws a part of it in a form
abbrev pub IsDraw : Limit → Form → Part → List Text → Job → Type 0
IsDraw limit form part files (Check cutting given options input) = ⊥
IsDraw limit form part files (Follow given windows file) = ⊥
IsDraw limit form part files (Cut quiet given file) = ⊥
IsDraw limit form part files (Shrink shrunk given file) = ⊥
IsDraw limit form part files (Explain cut drawn whole faults given file) = ⊥
IsDraw limit form part files (Draw asked cut given file) = (asked ≡ form) × (cut ≡ part) × (given ≡ limit) × (text_of file ≡ first_name files)
IsDraw limit form part files (Stats json given names) = ⊥
IsDraw limit form part files (Record w rounds judge scan stamped seed) = ⊥

-- the job counts what the history in each of these files has shown, as objects or as lines
abbrev pub IsStats : Limit → Bool → List Text → Job → Type 0
IsStats limit json files (Check cutting given options input) = ⊥
IsStats limit json files (Follow given windows file) = ⊥
IsStats limit json files (Cut quiet given file) = ⊥
IsStats limit json files (Shrink shrunk given file) = ⊥
IsStats limit json files (Explain cut drawn whole faults given file) = ⊥
IsStats limit json files (Draw form part given file) = ⊥
IsStats limit json files (Stats asked given names) = (asked ≡ json) × (given ≡ limit) × (texts_of names.items ≡ files)
IsStats limit json files (Record w rounds judge scan stamped seed) = ⊥

-- the flags of a recording: its report in place of its history, scans in place of views, and the stamps of its events
pub record Flags : Type 0 where
  pub judge : Bool
  pub scan : Bool
  pub stamped : Bool

abbrev pub no_flags : Flags
no_flags = record { judge = false; scan = false; stamped = false }

-- the job is a recording of this many workers and rounds, with the pauses of this seed and with these flags
abbrev pub IsRecord : ℕ → ℕ → ℕ → Flags → Job → Type 0
IsRecord workers rounds seed flags (Check cutting limit options input) = ⊥
IsRecord workers rounds seed flags (Follow limit windows file) = ⊥
IsRecord workers rounds seed flags (Cut quiet limit file) = ⊥
IsRecord workers rounds seed flags (Shrink shrunk limit file) = ⊥
IsRecord workers rounds seed flags (Explain cut drawn whole faults limit file) = ⊥
IsRecord workers rounds seed flags (Draw form part limit file) = ⊥
IsRecord workers rounds seed flags (Stats json limit names) = ⊥
IsRecord workers rounds seed flags (Record w r judge scan stamped s) =
    (w ≡ workers) × (r ≡ rounds) × (s ≡ seed) × (judge ≡ flags.judge) × (scan ≡ flags.scan) × (stamped ≡ flags.stamped)

-- the text of a flag that was given or not given
abbrev pub flag_text : Bool → List ℕ
flag_text true = codes "true"
flag_text false = codes "false"

-- the files that are named, or none if the word is absent
abbrev pub given_or_none : Option (List Text) → List Text
given_or_none None = []
given_or_none (Some names) = names

abbrev pub files_of : List Row → List Text
files_of rows = given_or_none (all_of (codes "file") rows)

-- the word of a format
abbrev pub format_text : Format → List ℕ
format_text Plain = codes "plain"
format_text Json = codes "json"
format_text Junit = codes "junit"

-- the format of objects, or of lines
abbrev pub object_format : Bool → Format
object_format true = Json
object_format false = Plain

-- whether --format asks for an object, and the limit; standard input is named at most once
pub record AsksStatsWithin (limit : Limit) (json : Bool) (rows : List Row) : Type 0 where
  pub format_is : first_of (codes "format") rows ≡ Some (format_text (object_format json))
  pub limit_is : AsksLimit limit rows
  pub input_once : inputs_in (files_of rows) ≤ 1

-- the files name standard input more than once
abbrev pub NamesInputTwice : List Row → Type 0
NamesInputTwice rows = 1 < inputs_in (files_of rows)

-- what `stats` asks for if no limit is chosen
abbrev pub AsksStats : Bool → List Row → Type 0
AsksStats = AsksStatsWithin usual_limit

-- the word that says when verdicts have colours
abbrev pub color_text : Color → List ℕ
color_text Auto = codes "auto"
color_text Always = codes "always"
color_text Never = codes "never"

-- --color with this word, or its absence, says this
abbrev pub SaysColor : Option Text → Color → Type 0
SaysColor None color = color ≡ Auto
SaysColor (Some text) color = text ≡ color_text color

-- The number of events from which on a window ends if --window is not given. It is 1000, or half of the events that a history may
-- have, if that is less.
abbrev pub usual_window : ℕ → ℕ
usual_window events = min 1000 (events - events / 2)

-- the number of records that may wait if --late is not given
abbrev pub usual_late : ℕ
usual_late = 1000

-- an option with this text, or without one, says this number, or the usual one
abbrev pub SaysOr : ℕ → Option Text → ℕ → Type 0
SaysOr usual None n = n ≡ usual
SaysOr usual (Some text) n = text ≡ decimal n

-- whether --window, --idle or --late is given
abbrev pub names_windows : List Row → Bool
names_windows rows = is_some (first_of (codes "window") rows) || is_some (first_of (codes "idle") rows) || is_some (first_of (codes "late") rows)

-- --window, --idle or --late is given, and --follow is not: that asks for no job
pub record LacksFollow (rows : List Row) : Type 0 where
  pub no_follow : one_of (codes "follow") rows ≡ Some (flag_text false)
  pub windows_named : names_windows rows ≡ true

-- Whether an option is given that has no use with --follow: --pieces, --workers, --color, --files-from or --recursive.
abbrev pub names_unheeded : List Row → Bool
names_unheeded rows =
    is_some (first_of (codes "pieces") rows) || is_some (first_of (codes "workers") rows)
    || is_some (first_of (codes "color") rows) || is_some (first_of (codes "list") rows) || is_some (first_of (codes "folder") rows)

-- --follow is given, and such an option too: that asks for no job
pub record FollowsUnheeding (rows : List Row) : Type 0 where
  pub followed : one_of (codes "follow") rows ≡ Some (flag_text true)
  pub unheeded_named : names_unheeded rows ≡ true

-- The options of `check` have these numbers, which are in their ranges. The number of pieces of a long text is left to the program
-- exactly if --pieces is not given. Each flag is given or not, and the format and the colours have their words. One form of answer
-- is asked for, and none by windows or of a cut. Names end with a zero byte only in a list, and standard input is named at most once.
pub record AsksCheck (rows : List Row) (asked : Checking) : Type 0 where
  pub pieces_fit : IsPieces asked.pieces
  pub workers_fit : IsWorkers asked.workers
  pub limit_is : AsksLimit asked.limit rows
  pub views_fit : AreViews asked.limit.events asked.options.views
  pub one_form : IsOneForm asked.options
  pub null_ends : asked.null ≡ true → IsSome asked.list
  pub input_once : inputs_in (files_of rows) + inputs_at asked.list ≤ 1
  pub cut_is : one_of (codes "cut") rows ≡ Some (flag_text false)
  pub follow_is : one_of (codes "follow") rows ≡ Some (flag_text false)
  pub no_windows : names_windows rows ≡ false
  pub pieces_are : SaysOr 8 (one_of (codes "pieces") rows) asked.pieces
  pub finer_is : asked.options.finer ≡ is_none (one_of (codes "pieces") rows)
  pub workers_are : SaysOr 2 (one_of (codes "workers") rows) asked.workers
  pub views_are : one_of (codes "views") rows ≡ Some (decimal asked.options.views)
  pub quiet_is : one_of (codes "quiet") rows ≡ Some (flag_text asked.options.quiet)
  pub format_is : first_of (codes "format") rows ≡ Some (format_text asked.options.format)
  pub summary_is : one_of (codes "summary") rows ≡ Some (flag_text asked.options.summary)
  pub no_progress_is : one_of (codes "no-progress") rows ≡ Some (flag_text asked.options.no_progress)
  pub color_is : SaysColor (first_of (codes "color") rows) asked.options.color
  pub list_is : first_of (codes "list") rows ≡ asked.list
  pub null_is : one_of (codes "null") rows ≡ Some (flag_text asked.null)
  pub folder_is : first_of (codes "folder") rows ≡ asked.folder

-- The options of `check` ask for windows with these numbers, which are in their ranges, of one recording. They ask for nothing else
-- that has no use with windows.
pub record AsksFollow (limit : Limit) (rows : List Row) (windows : Windows) : Type 0 where
  pub limit_is : AsksLimit limit rows
  pub views_fit : AreViews limit.events windows.views
  pub window_fits : IsWindow limit.events windows.least
  pub idle_fits : windows.idle ≤ NUMBER_LIMIT
  pub late_fits : windows.late ≤ event_cap
  pub one_file : length (files_of rows) ≤ 1
  pub cut_is : one_of (codes "cut") rows ≡ Some (flag_text false)
  pub follow_is : one_of (codes "follow") rows ≡ Some (flag_text true)
  pub all_heeded : names_unheeded rows ≡ false
  pub quiet_is : one_of (codes "quiet") rows ≡ Some (flag_text false)
  pub format_is : first_of (codes "format") rows ≡ Some (format_text Plain)
  pub summary_is : one_of (codes "summary") rows ≡ Some (flag_text false)
  pub null_is : one_of (codes "null") rows ≡ Some (flag_text false)
  pub views_are : one_of (codes "views") rows ≡ Some (decimal windows.views)
  pub window_is : SaysOr (usual_window limit.events) (one_of (codes "window") rows) windows.least
  pub idle_is : SaysOr 0 (one_of (codes "idle") rows) windows.idle
  pub late_is : SaysOr usual_late (one_of (codes "late") rows) windows.late

-- the rounds if --rounds is not given: 16, or as many as the limit of events allows, if that is less
abbrev pub usual_rounds : ℕ → ℕ
usual_rounds events = min 16 (events / (4 * worker_limit))

-- The options of `record` have these numbers of workers and rounds, and this seed. The rounds are those of --rounds or the usual
-- ones, in their range for the limit of events. Each flag is given or not, but they do not ask for a report with stamps.
pub record AsksRecordWithin (events : ℕ) (rows : List Row) (workers rounds seed : ℕ) (flags : Flags) : Type 0 where
  pub limit : AsksEvents events rows
  pub workers_fit : AreWorkers workers
  pub rounds_fit : AreRoundsWithin events rounds
  pub seed_fits : seed ≤ NUMBER_LIMIT
  pub one_output : flags.judge ≡ true → flags.stamped ≡ false
  pub workers_are : one_of (codes "workers") rows ≡ Some (decimal workers)
  pub rounds_are : SaysOr (usual_rounds events) (one_of (codes "rounds") rows) rounds
  pub seed_is : one_of (codes "seed") rows ≡ Some (decimal seed)
  pub judge_is : one_of (codes "judge") rows ≡ Some (flag_text flags.judge)
  pub scan_is : one_of (codes "scan") rows ≡ Some (flag_text flags.scan)
  pub stamped_is : one_of (codes "stamped") rows ≡ Some (flag_text flags.stamped)

-- --rounds names more rounds than the limit of events has room for: that asks for no job
pub record AsksTooManyRounds (rows : List Row) : Type 0 where
  pub events : ℕ
  pub rounds : ℕ
  pub limit : AsksEvents events rows
  pub rounds_are : one_of (codes "rounds") rows ≡ Some (decimal rounds)
  pub is_number : rounds ≤ NUMBER_LIMIT
  pub too_many : events < 4 * worker_limit * rounds

-- what `record` asks for if no limit of events is chosen
abbrev pub AsksRecord : List Row → ℕ → ℕ → ℕ → Flags → Type 0
AsksRecord = AsksRecordWithin event_limit
