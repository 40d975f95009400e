-- The command line, as the parser sees it.
use Rattle.std.specs.Prelude.{◌*◌, Some, true, codes, pos, [], ◌∷◌}
use Rattle.clap.specs.Words.{App, Rule, new_app, new_rule}
use Rattle.clap.specs.declared.builder.action.ArgAction.TheVariants.{Append, SetTrue}
use Rattle.clap.specs.declared.builder.value_parser.ValueParser.TheVariants.{Signed}
use Rattle.snap_core.specs.Events.{event_cap}
use Rattle.snap_record.specs.Plans.{worker_limit}
use Rattle.snap_record.specs.declared.plan.TheConstants.{LEAST_WORKERS}
use Rattle.snap_threads.specs.declared.cutting.TheConstants.{PIECE_LIMIT, WORKER_LIMIT}
use Rattle.snap_options.specs.declared.limits.TheConstants.{FAULT_LIMIT, MOST_CALLS}
use Rattle.snap_words.specs.declared.word.TheConstants.{NUMBER_LIMIT}
use Rattle.snap_words.specs.declared.command.Kind.{Kind}
use Rattle.snap_words.specs.declared.command.Kind.TheVariants.{Check, Draw, Explain, Record, Shrink, Stats}
use Rattle.snap_words.specs.Tables.{with_apps, with_rules}

-- --pieces P
abbrev pub pieces_rule : Rule
pieces_rule = record (new_rule (codes "pieces")) { long = Some (codes "pieces"); value_names = 1; parser = Some (Signed (pos 1) (pos PIECE_LIMIT)) }

-- --workers W
abbrev pub workers_rule : Rule
workers_rule = record (new_rule (codes "workers")) { long = Some (codes "workers"); value_names = 1; parser = Some (Signed (pos 1) (pos WORKER_LIMIT)) }

-- --quiet, -q
abbrev pub quiet_rule : Rule
quiet_rule = record (new_rule (codes "quiet")) { long = Some (codes "quiet"); short = Some 113; action = Some SetTrue }

-- --views N, or 0 if it is not given; the parser takes any number of 32 bits
abbrev pub views_rule : Rule
views_rule = record (new_rule (codes "views")) { long = Some (codes "views"); value_names = 1; parser = Some (Signed (pos 0) (pos NUMBER_LIMIT)); defaults = codes "0" ∷ [] }

-- --events N, or 65536 if it is not given
abbrev pub events_rule : Rule
events_rule = record (new_rule (codes "events")) { long = Some (codes "events"); value_names = 1; parser = Some (Signed (pos 1) (pos event_cap)); defaults = codes "65536" ∷ [] }

-- --writers WRITERS; the parser takes any text
abbrev pub writers_rule : Rule
writers_rule = record (new_rule (codes "writers")) { long = Some (codes "writers"); value_names = 1 }

-- --format FORMAT, or plain if it is not given; the parser takes any text
abbrev pub format_rule : Rule
format_rule = record (new_rule (codes "format")) { long = Some (codes "format"); value_names = 1; defaults = codes "plain" ∷ [] }

-- --summary
abbrev pub summary_rule : Rule
summary_rule = record (new_rule (codes "summary")) { long = Some (codes "summary"); action = Some SetTrue }

-- --follow
abbrev pub follow_rule : Rule
follow_rule = record (new_rule (codes "follow")) { long = Some (codes "follow"); action = Some SetTrue }

-- --cut
abbrev pub cut_rule : Rule
cut_rule = record (new_rule (codes "cut")) { long = Some (codes "cut"); action = Some SetTrue }

-- --window N
abbrev pub window_rule : Rule
window_rule = record (new_rule (codes "window")) { long = Some (codes "window"); value_names = 1; parser = Some (Signed (pos 1) (pos event_cap)) }

-- --idle SECONDS; the parser takes any number of 32 bits
abbrev pub idle_rule : Rule
idle_rule = record (new_rule (codes "idle")) { long = Some (codes "idle"); value_names = 1; parser = Some (Signed (pos 0) (pos NUMBER_LIMIT)) }

-- --late N
abbrev pub late_rule : Rule
late_rule = record (new_rule (codes "late")) { long = Some (codes "late"); value_names = 1; parser = Some (Signed (pos 0) (pos event_cap)) }

-- --no-progress
abbrev pub no_progress_rule : Rule
no_progress_rule = record (new_rule (codes "no-progress")) { long = Some (codes "no-progress"); action = Some SetTrue }

-- --color WHEN; the parser takes any text
abbrev pub color_rule : Rule
color_rule = record (new_rule (codes "color")) { long = Some (codes "color"); value_names = 1 }

-- FILE .., any number of them
abbrev pub files_rule : Rule
files_rule = record (new_rule (codes "file")) { value_names = 1; action = Some Append }

-- FILE, which may be left out
abbrev pub file_rule : Rule
file_rule = record (new_rule (codes "file")) { value_names = 1 }

-- --files-from LIST
abbrev pub list_rule : Rule
list_rule = record (new_rule (codes "list")) { long = Some (codes "files-from"); value_names = 1 }

-- --null, -0
abbrev pub null_rule : Rule
null_rule = record (new_rule (codes "null")) { long = Some (codes "null"); short = Some 48; action = Some SetTrue }

-- --recursive FOLDER, -r FOLDER
abbrev pub folder_rule : Rule
folder_rule = record (new_rule (codes "folder")) { long = Some (codes "recursive"); short = Some 114; value_names = 1 }

-- check [--pieces P] [--workers W] [--files-from LIST [--null]] [--recursive FOLDER] [--quiet] [--views N] [--events N]
-- [--writers WRITERS] [--format FORMAT] [--summary] [--follow] [--window N] [--idle SECONDS] [--late N] [--cut] [--no-progress]
-- [--color WHEN] [FILE ..]
abbrev pub check_app : App
check_app = with_rules (new_app (codes "check"))
    (pieces_rule ∷ workers_rule ∷ list_rule ∷ null_rule ∷ folder_rule ∷ quiet_rule ∷ views_rule ∷ events_rule ∷ writers_rule ∷ format_rule
    ∷ summary_rule ∷ follow_rule ∷ window_rule ∷ idle_rule ∷ late_rule ∷ cut_rule ∷ no_progress_rule ∷ color_rule ∷ files_rule ∷ [])

-- --draw
abbrev pub draw_rule : Rule
draw_rule = record (new_rule (codes "draw")) { long = Some (codes "draw"); action = Some SetTrue }

-- --map
abbrev pub map_rule : Rule
map_rule = record (new_rule (codes "map")) { long = Some (codes "map"); action = Some SetTrue }

-- shrink [--draw] [--map] [--events N] [--writers WRITERS] [FILE]
abbrev pub shrink_app : App
shrink_app = with_rules (new_app (codes "shrink")) (draw_rule ∷ map_rule ∷ events_rule ∷ writers_rule ∷ file_rule ∷ [])

-- --all
abbrev pub all_rule : Rule
all_rule = record (new_rule (codes "all")) { long = Some (codes "all"); action = Some SetTrue }

-- --faults N, or 1 if it is not given
abbrev pub faults_rule : Rule
faults_rule = record (new_rule (codes "faults")) { long = Some (codes "faults"); value_names = 1; parser = Some (Signed (pos 1) (pos FAULT_LIMIT)); defaults = codes "1" ∷ [] }

-- explain [--cut] [--draw] [--all] [--faults N] [--events N] [--writers WRITERS] [FILE]
abbrev pub explain_app : App
explain_app = with_rules (new_app (codes "explain")) (cut_rule ∷ draw_rule ∷ all_rule ∷ faults_rule ∷ events_rule ∷ writers_rule ∷ file_rule ∷ [])

-- --svg
abbrev pub svg_rule : Rule
svg_rule = record (new_rule (codes "svg")) { long = Some (codes "svg"); action = Some SetTrue }

-- --text
abbrev pub text_rule : Rule
text_rule = record (new_rule (codes "text")) { long = Some (codes "text"); action = Some SetTrue }

-- --light
abbrev pub light_rule : Rule
light_rule = record (new_rule (codes "light")) { long = Some (codes "light"); action = Some SetTrue }

-- --dark
abbrev pub dark_rule : Rule
dark_rule = record (new_rule (codes "dark")) { long = Some (codes "dark"); action = Some SetTrue }

-- --calls N
abbrev pub calls_rule : Rule
calls_rule = record (new_rule (codes "calls")) { long = Some (codes "calls"); value_names = 1; parser = Some (Signed (pos 1) (pos MOST_CALLS)) }

-- --from CALL
abbrev pub from_rule : Rule
from_rule = record (new_rule (codes "from")) { long = Some (codes "from"); value_names = 1; parser = Some (Signed (pos 1) (pos event_cap)) }

-- --around CALL
abbrev pub around_rule : Rule
around_rule = record (new_rule (codes "around")) { long = Some (codes "around"); value_names = 1; parser = Some (Signed (pos 1) (pos event_cap)) }

-- draw [--svg] [--text] [--light] [--dark] [--calls N] [--from CALL] [--around CALL] [--events N] [--writers WRITERS] [FILE]
abbrev pub draw_app : App
draw_app = with_rules (new_app (codes "draw"))
    (svg_rule ∷ text_rule ∷ light_rule ∷ dark_rule ∷ calls_rule ∷ from_rule ∷ around_rule ∷ events_rule ∷ writers_rule ∷ file_rule ∷ [])

-- stats [--format FORMAT] [--events N] [--writers WRITERS] [FILE ..]
abbrev pub stats_app : App
stats_app = with_rules (new_app (codes "stats")) (format_rule ∷ events_rule ∷ writers_rule ∷ files_rule ∷ [])

-- --workers W, or 2 if it is not given
abbrev pub recorders_rule : Rule
recorders_rule = record (new_rule (codes "workers")) { long = Some (codes "workers"); value_names = 1; parser = Some (Signed (pos LEAST_WORKERS) (pos worker_limit)); defaults = codes "2" ∷ [] }

-- --rounds R; the parser takes any number of 32 bits
abbrev pub rounds_rule : Rule
rounds_rule = record (new_rule (codes "rounds")) { long = Some (codes "rounds"); value_names = 1; parser = Some (Signed (pos 0) (pos NUMBER_LIMIT)) }

-- --events N of a recording, or 65536 if it is not given: at least as many as a round of the most workers has
abbrev pub recorded_rule : Rule
recorded_rule = record (new_rule (codes "events")) { long = Some (codes "events"); value_names = 1; parser = Some (Signed (pos (4 * worker_limit)) (pos event_cap)); defaults = codes "65536" ∷ [] }

-- --seed N, or 0 if it is not given; the parser takes any number of 32 bits
abbrev pub seed_rule : Rule
seed_rule = record (new_rule (codes "seed")) { long = Some (codes "seed"); value_names = 1; parser = Some (Signed (pos 0) (pos NUMBER_LIMIT)); defaults = codes "0" ∷ [] }

-- --judge
abbrev pub judge_rule : Rule
judge_rule = record (new_rule (codes "judge")) { long = Some (codes "judge"); action = Some SetTrue }

-- --scan
abbrev pub scan_rule : Rule
scan_rule = record (new_rule (codes "scan")) { long = Some (codes "scan"); action = Some SetTrue }

-- --stamped
abbrev pub stamped_rule : Rule
stamped_rule = record (new_rule (codes "stamped")) { long = Some (codes "stamped"); action = Some SetTrue }

-- record [--workers W] [--rounds R] [--events N] [--seed N] [--judge] [--scan] [--stamped]
abbrev pub record_app : App
record_app = with_rules (new_app (codes "record")) (recorders_rule ∷ rounds_rule ∷ recorded_rule ∷ seed_rule ∷ judge_rule ∷ scan_rule ∷ stamped_rule ∷ [])

-- the command of a kind
abbrev pub app_for : Kind → App
app_for Check = check_app
app_for Shrink = shrink_app
app_for Explain = explain_app
app_for Draw = draw_app
app_for Stats = stats_app
app_for Record = record_app

-- one of the commands must be named
abbrev pub needs_subcommand : App → App
needs_subcommand app = record app { top = record app.top { subcommand_required = true } }

-- the program, with its commands
abbrev pub program_app : App
program_app = with_apps (needs_subcommand (new_app (codes "snapjudge"))) (check_app ∷ shrink_app ∷ explain_app ∷ draw_app ∷ stats_app ∷ record_app ∷ [])
