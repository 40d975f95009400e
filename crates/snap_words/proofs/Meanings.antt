-- What whole lines mean, where the parser reads them so.
use Rattle.std.proofs.Common.{◌≡◌, ◌∙◌, ◌+◌, ◌≤◌, ℕ, Bool, List, Option, Some, None, [], true, false, ap, arith, codes, length, refl, subst, sym}
use Rattle.std.specs.Prelude.{IsSome, decimal, is_none, option_map}
use Rattle.std.specs.Option.{ForSome}
use Rattle.std.proofs.lemmas.Bool.{false≢true}
use Rattle.clap.specs.Words.{Row, Text, first_of, one_of, subcommand_of, takes}
use Rattle.snap_core.specs.Events.{event_cap}
use Rattle.snap_core.specs.Limits.{event_limit}
use Rattle.snap_core.specs.UsualLimits.{greatest_limit, usual_limit}
use Rattle.snap_core.specs.declared.limit.Limit.{Limit}
use Rattle.snap_core.specs.declared.writers.Writers.TheVariants.{One}
use Rattle.snap_threads.specs.Cuttings.{IsPieces, IsWorkers}
use Rattle.snap_words.specs.CommandLine.{program_app}
use Rattle.snap_record.specs.Plans.{AreRoundsWithin}
use Rattle.snap_words.specs.Drawing.{AsksPlace}
use Rattle.snap_words.specs.Jobs.{AreViews, AsksCheck, AsksFollow, AsksRecordWithin, AsksStatsWithin, Checking, Flags, IsOneForm, IsWindow, SaysColor, SaysOr, files_of, flag_text, format_text, inputs_at, inputs_in, names_unheeded, names_windows, object_format, plain_check, usual_late, usual_rounds, usual_window}
use Rattle.snap_words.specs.Limits.{AsksEvents, AsksLimit, SaysWriters, usual_many}
use Rattle.snap_words.specs.Lines.{Means}
use Rattle.snap_words.specs.declared.drawing.Place.TheVariants.{Faults}
use Rattle.snap_words.specs.declared.format.Format.TheVariants.{Plain}
use Rattle.snap_words.specs.declared.job.Options.{Options}
use Rattle.snap_words.specs.declared.job.Windows.{Windows}
use Rattle.snap_words.specs.declared.word.TheConstants.{NUMBER_LIMIT}
use Rattle.snap_words.proofs.Numbers.{hundred_text, million_text, two_text, usual_text}
use Rattle.snap_words.proofs.Rows.{rows_in}

abbrev pub rows_by : List Text → List Row
rows_by words = rows_in (subcommand_of program_app words)

-- the command that some words name
abbrev pub command_in : Option (Text × List Row) → Option Text
command_in = option_map (λ named. named.0)

rows_behind : (named : Option (Text × List Row)) (command : Text) → command_in named ≡ Some command → named ≡ Some (command, rows_in named)
rows_behind None command is = absurd cc
rows_behind (Some named) command is =
    let same : named.0 ≡ command = cc in
    ap (λ (name : Text). Some (name, named.1)) same

-- a line asks for what its rows ask for
pub means : (words : List Text) (command : Text) (Asks : List Row → Type 0) (files : List Text)
    → takes program_app words ≡ true → command_in (subcommand_of program_app words) ≡ Some command → Asks (rows_by words)
    → files_of (rows_by words) ≡ files → Means words command Asks files
means words command Asks files taken named asks files_are =
    record { rows = rows_by words; taken = taken; rows_are = rows_behind _ command named; asks = asks; files_are = files_are }

pub usual_events : (rows : List Row) → one_of (codes "events") rows ≡ Some (codes "65536") → AsksEvents event_limit rows
usual_events rows is = record { events_fit = (omega arith, omega arith); events_are = is ∙ ap Some (sym usual_text) }

pub greatest_events : (rows : List Row) → one_of (codes "events") rows ≡ Some (codes "1048576") → AsksEvents 1048576 rows
greatest_events rows is = record { events_fit = (omega arith, omega arith); events_are = is ∙ ap Some (sym million_text) }

pub small_events : (rows : List Row) → one_of (codes "events") rows ≡ Some (codes "100") → AsksEvents 100 rows
small_events rows is = record { events_fit = (omega arith, omega arith); events_are = is ∙ ap Some (sym hundred_text) }

pub asks_usual : (rows : List Row) → one_of (codes "events") rows ≡ Some (codes "65536") → first_of (codes "writers") rows ≡ None → AsksLimit usual_limit rows
asks_usual rows is none = record { events_are = is ∙ ap Some (sym usual_text); writers_are = subst (λ text. SaysWriters text One) (sym none) refl }

pub asks_greatest : (rows : List Row) → one_of (codes "events") rows ≡ Some (codes "1048576") → first_of (codes "writers") rows ≡ None → AsksLimit greatest_limit rows
asks_greatest rows is none = record { events_are = is ∙ ap Some (sym million_text); writers_are = subst (λ text. SaysWriters text One) (sym none) refl }

pub asks_many : (rows : List Row) → one_of (codes "events") rows ≡ Some (codes "65536") → first_of (codes "writers") rows ≡ Some (codes "many") → AsksLimit usual_many rows
asks_many rows is many = record { events_are = is ∙ ap Some (sym usual_text); writers_are = subst (λ text. SaysWriters text usual_many.writers) (sym many) refl }

-- all that the options of a check say, so that its rows are computed once
pub record Said : Type 0 where
  pub pieces : Option Text
  pub workers : Option Text
  pub events : Option Text
  pub writers : Option Text
  pub views : Option Text
  pub quiet : Option Text
  pub format : Option Text
  pub summary : Option Text
  pub follow : Option Text
  pub cut : Option Text
  pub window : Option Text
  pub idle : Option Text
  pub late : Option Text
  pub windows : Bool
  pub unheeded : Bool
  pub no_progress : Option Text
  pub color : Option Text
  pub list : Option Text
  pub null : Option Text
  pub folder : Option Text

abbrev pub said_in : List Row → Said
said_in rows = record {
  pieces = one_of (codes "pieces") rows;
  workers = one_of (codes "workers") rows;
  events = one_of (codes "events") rows;
  writers = first_of (codes "writers") rows;
  views = one_of (codes "views") rows;
  quiet = one_of (codes "quiet") rows;
  format = first_of (codes "format") rows;
  summary = one_of (codes "summary") rows;
  follow = one_of (codes "follow") rows;
  cut = one_of (codes "cut") rows;
  window = one_of (codes "window") rows;
  idle = one_of (codes "idle") rows;
  late = one_of (codes "late") rows;
  windows = names_windows rows;
  unheeded = names_unheeded rows;
  no_progress = one_of (codes "no-progress") rows;
  color = first_of (codes "color") rows;
  list = first_of (codes "list") rows;
  null = one_of (codes "null") rows;
  folder = first_of (codes "folder") rows;
}

-- what is said where this is asked for, by these texts of numbers, writers and colours or without
abbrev pub saying : Checking → Option Text → Option Text → Option Text → Option Text → Bool → Said
saying asked pieces workers writers color unheeded = record {
  pieces = pieces;
  workers = workers;
  events = Some (decimal asked.limit.events);
  writers = writers;
  views = Some (decimal asked.options.views);
  quiet = Some (flag_text asked.options.quiet);
  format = Some (format_text asked.options.format);
  summary = Some (flag_text asked.options.summary);
  follow = Some (flag_text false);
  cut = Some (flag_text false);
  window = None;
  idle = None;
  late = None;
  windows = false;
  unheeded = unheeded;
  no_progress = Some (flag_text asked.options.no_progress);
  color = color;
  list = asked.list;
  null = Some (flag_text asked.null);
  folder = asked.folder;
}

-- what is asked for goes together with these files, and its numbers are in their ranges and what these texts say
pub record Fit (asked : Checking) (files : List Text) (pieces workers writers color : Option Text) : Type 0 where
  pub pieces_fit : IsPieces asked.pieces
  pub workers_fit : IsWorkers asked.workers
  pub views_fit : AreViews asked.limit.events asked.options.views
  pub one_form : IsOneForm asked.options
  pub null_ends : asked.null ≡ true → IsSome asked.list
  pub input_once : inputs_in files + inputs_at asked.list ≤ 1
  pub pieces_are : SaysOr 8 pieces asked.pieces
  pub finer_is : asked.options.finer ≡ is_none pieces
  pub workers_are : SaysOr 2 workers asked.workers
  pub writers_are : SaysWriters writers asked.limit.writers
  pub color_is : SaysColor color asked.options.color

-- a check is asked for where its options say so
pub asks_check : {pieces workers writers color : Option Text} → (rows : List Row) (asked : Checking) (files : List Text) (unheeded : Bool)
    → Fit asked files pieces workers writers color → said_in rows ≡ saying asked pieces workers writers color unheeded → files_of rows ≡ files → AsksCheck rows asked
asks_check rows asked files unheeded fit said files_are = record {
  pieces_fit = fit.pieces_fit;
  workers_fit = fit.workers_fit;
  limit_is = record {
    events_are = ap (λ s. s.events) said;
    writers_are = subst (λ text. SaysWriters text asked.limit.writers) (sym (ap (λ s. s.writers) said)) fit.writers_are;
  };
  views_fit = fit.views_fit;
  one_form = fit.one_form;
  null_ends = fit.null_ends;
  input_once = subst (λ (names : List Text). inputs_in names + inputs_at asked.list ≤ 1) (sym files_are) fit.input_once;
  cut_is = ap (λ s. s.cut) said;
  follow_is = ap (λ s. s.follow) said;
  no_windows = ap (λ s. s.windows) said;
  pieces_are = subst (λ text. SaysOr 8 text asked.pieces) (sym (ap (λ s. s.pieces) said)) fit.pieces_are;
  finer_is = fit.finer_is ∙ ap is_none (sym (ap (λ s. s.pieces) said));
  workers_are = subst (λ text. SaysOr 2 text asked.workers) (sym (ap (λ s. s.workers) said)) fit.workers_are;
  views_are = ap (λ s. s.views) said;
  quiet_is = ap (λ s. s.quiet) said;
  format_is = ap (λ s. s.format) said;
  summary_is = ap (λ s. s.summary) said;
  no_progress_is = ap (λ s. s.no_progress) said;
  color_is = subst (λ text. SaysColor text asked.options.color) (sym (ap (λ s. s.color) said)) fit.color_is;
  list_is = ap (λ s. s.list) said;
  null_is = ap (λ s. s.null) said;
  folder_is = ap (λ s. s.folder) said;
}

-- options of a plain check fit, of files of which at most one is standard input
pub plain_fit : {writers color : Option Text} → (limit : Limit) (options : Options) (files : List Text) → AreViews limit.events options.views → IsOneForm options
    → options.finer ≡ true → SaysWriters writers limit.writers → SaysColor color options.color → inputs_in files ≤ 1
    → Fit (record plain_check { limit = limit; options = options }) files None None writers color
plain_fit limit options files views_fit one_form finer writers color once = record {
  pieces_fit = (omega arith, omega arith);
  workers_fit = (omega arith, omega arith);
  views_fit = views_fit;
  one_form = one_form;
  null_ends = λ null. absurd (false≢true null);
  input_once = omega (arith, once);
  pieces_are = refl;
  finer_is = finer;
  workers_are = refl;
  writers_are = writers;
  color_is = color;
}

-- a whole report is one form of answer, and so is an object or a document
pub whole : (options : Options) → options.quiet ≡ false → options.summary ≡ false → IsOneForm options
whole options is_whole no_sums = record {
  verdicts = λ quiet. absurd (false≢true (sym is_whole ∙ quiet));
  sums = λ sums. absurd (false≢true (sym no_sums ∙ sums));
}

-- lines of `check`
pub check_of : {pieces workers writers color : Option Text} → (words : List Text) (asked : Checking) (files : List Text) (unheeded : Bool)
    → Fit asked files pieces workers writers color → takes program_app words ≡ true → command_in (subcommand_of program_app words) ≡ Some (codes "check")
    → said_in (rows_by words) ≡ saying asked pieces workers writers color unheeded → files_of (rows_by words) ≡ files
    → Means words (codes "check") (λ rows. AsksCheck rows asked) files
check_of words asked files unheeded fit taken named said files_are =
    means words (codes "check") (λ rows. AsksCheck rows asked) files taken named
    (asks_check (rows_by words) asked files unheeded fit said files_are) files_are

-- what is said where windows are asked for, by these texts of writers and numbers or without
abbrev pub following : Limit → Windows → Option Text → Option Text → Option Text → Option Text → Said → Said
following limit windows writers window idle late said = record said {
  events = Some (decimal limit.events);
  writers = writers;
  views = Some (decimal windows.views);
  quiet = Some (flag_text false);
  format = Some (format_text Plain);
  summary = Some (flag_text false);
  follow = Some (flag_text true);
  cut = Some (flag_text false);
  window = window;
  idle = idle;
  late = late;
  unheeded = false;
  null = Some (flag_text false);
}

-- lines of `check --follow`
pub follow_of : {writers window idle late : Option Text} → (words : List Text) (limit : Limit) (windows : Windows) (files : List Text) → SaysWriters writers limit.writers
    → AreViews limit.events windows.views → IsWindow limit.events windows.least → windows.idle ≤ NUMBER_LIMIT → windows.late ≤ event_cap → length files ≤ 1
    → SaysOr (usual_window limit.events) window windows.least → SaysOr 0 idle windows.idle → SaysOr usual_late late windows.late → takes program_app words ≡ true
    → command_in (subcommand_of program_app words) ≡ Some (codes "check")
    → said_in (rows_by words) ≡ following limit windows writers window idle late (said_in (rows_by words)) → files_of (rows_by words) ≡ files
    → Means words (codes "check") (λ rows. AsksFollow limit rows windows) files
follow_of words limit windows files writers_are views_fit window_fits idle_fits late_fits one_file window_is idle_is late_is taken named said files_are =
    means words (codes "check") (λ rows. AsksFollow limit rows windows) files taken named (record {
      limit_is = record {
        events_are = ap (λ s. s.events) said;
        writers_are = subst (λ text. SaysWriters text limit.writers) (sym (ap (λ s. s.writers) said)) writers_are;
      };
      views_fit = views_fit;
      window_fits = window_fits;
      idle_fits = idle_fits;
      late_fits = late_fits;
      one_file = subst (λ (names : List Text). length names ≤ 1) (sym files_are) one_file;
      cut_is = ap (λ s. s.cut) said;
      follow_is = ap (λ s. s.follow) said;
      all_heeded = ap (λ s. s.unheeded) said;
      quiet_is = ap (λ s. s.quiet) said;
      format_is = ap (λ s. s.format) said;
      summary_is = ap (λ s. s.summary) said;
      null_is = ap (λ s. s.null) said;
      views_are = ap (λ s. s.views) said;
      window_is = subst (λ text. SaysOr (usual_window limit.events) text windows.least) (sym (ap (λ s. s.window) said)) window_is;
      idle_is = subst (λ text. SaysOr 0 text windows.idle) (sym (ap (λ s. s.idle) said)) idle_is;
      late_is = subst (λ text. SaysOr usual_late text windows.late) (sym (ap (λ s. s.late) said)) late_is;
    }) files_are

-- no number is asked for, or one
pub no_number : (P : ℕ → Type 0) → ForSome None P
no_number P = λ n is. absurd cc

pub one_number : (P : ℕ → Type 0) (n : ℕ) → P n → ForSome (Some n) P
one_number P n fits = λ m is. subst P (some_is n m is) fits
  where
    some_is : (n m : ℕ) → Some n ≡ Some m → n ≡ m
    some_is n m is = cc

-- rows of `draw` that choose no place
pub no_place : (rows : List Row) → one_of (codes "from") rows ≡ None → one_of (codes "around") rows ≡ None → AsksPlace rows Faults
no_place rows from around = record { from_fits = no_number _; around_fits = no_number _; from_is = from; around_is = around }

-- lines of `stats`
pub stats_of : (limit : Limit) (json : Bool) (files : List Text) (words : List Text)
    → takes program_app words ≡ true → command_in (subcommand_of program_app words) ≡ Some (codes "stats")
    → first_of (codes "format") (rows_by words) ≡ Some (format_text (object_format json)) → AsksLimit limit (rows_by words)
    → inputs_in files ≤ 1 → files_of (rows_by words) ≡ files
    → Means words (codes "stats") (AsksStatsWithin limit json) files
stats_of limit json files words taken named format_is limit_is once files_are =
    means words (codes "stats") (AsksStatsWithin limit json) files taken named (record {
      format_is = format_is;
      limit_is = limit_is;
      input_once = subst (λ (names : List Text). inputs_in names ≤ 1) (sym files_are) once;
    }) files_are

-- lines of `record` with 2 workers, as where nothing else is said
pub usual_record : {said : Option Text} → {sown : Text} → (events : ℕ) (words : List Text) (rounds seed : ℕ) (flags : Flags)
    → takes program_app words ≡ true → command_in (subcommand_of program_app words) ≡ Some (codes "record")
    → AsksEvents events (rows_by words) → AreRoundsWithin events rounds → seed ≤ NUMBER_LIMIT → (flags.judge ≡ true → flags.stamped ≡ false)
    → one_of (codes "workers") (rows_by words) ≡ Some (codes "2") → one_of (codes "rounds") (rows_by words) ≡ said → SaysOr (usual_rounds events) said rounds
    → one_of (codes "seed") (rows_by words) ≡ Some sown → sown ≡ decimal seed
    → one_of (codes "judge") (rows_by words) ≡ Some (flag_text flags.judge) → one_of (codes "scan") (rows_by words) ≡ Some (flag_text flags.scan)
    → one_of (codes "stamped") (rows_by words) ≡ Some (flag_text flags.stamped) → files_of (rows_by words) ≡ []
    → Means words (codes "record") (λ rows. AsksRecordWithin events rows 2 rounds seed flags) []
usual_record events words rounds seed flags taken named limit rounds_fit seed_fits one_output workers said_is rounds_are sown_is seed_is judge_is scan_is stamped_is files_are =
    means words (codes "record") (λ rows. AsksRecordWithin events rows 2 rounds seed flags) [] taken named (record {
      limit = limit;
      workers_fit = (omega arith, omega arith);
      rounds_fit = rounds_fit;
      seed_fits = seed_fits;
      one_output = one_output;
      workers_are = workers ∙ ap Some (sym two_text);
      rounds_are = subst (λ text. SaysOr (usual_rounds events) text rounds) (sym said_is) rounds_are;
      seed_is = sown_is ∙ ap Some seed_is;
      judge_is = judge_is;
      scan_is = scan_is;
      stamped_is = stamped_is;
    }) files_are
