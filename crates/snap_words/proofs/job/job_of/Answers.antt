use Rattle.std.proofs.Common.{◌≡◌, ◌∙◌, List, Option, ap, ap₂, codes, map, refl, true}
use Rattle.std.specs.Prelude.{string_bytes}
use Rattle.clap.specs.Words.{Row, Text, is_simple, subcommand_of, subcommand_rows_of, takes}
use Rattle.snap_words.specs.CommandLine.{program_app}
use Rattle.snap_words.specs.Cutting.{IsCut}
use Rattle.snap_words.specs.Jobs.{IsCheck, IsDraw, IsExplain, IsFollow, IsShrink, IsStats}
use Rattle.snap_words.specs.declared.job.JobFault.TheVariants.{Memory}
use Rattle.snap_words.proofs.Finding.{on_files}
use Rattle.snap_words.proofs.Rows.{program_is_simple}
use Rattle.snap_words.proofs.job.job_of.Goals.{After-drop-words-2, After-drop-words-in-Err}
use Rattle.snap_words.proofs.job.job_of.Goals as goal

-- where the parser takes the words, memory ran out
memory : (c : After-drop-words-in-Err) → takes program_app (map string_bytes c.args.words.items) ≡ true → c.fault_of.result ≡ Memory
memory c taken = c.fault_of.ensures (c.in-Err.ensures.passes (ap₂ takes c.in_ok-command.ensures (ap (map string_bytes) c.as_slice.ensures.value) ∙ taken))

-- what the matches have is what the program's parser finds
found : (c : After-drop-words-2) (rows : Option (Text × List Row)) → subcommand_of program_app (map string_bytes c.args.words.items) ≡ rows → subcommand_rows_of c.in-Ok.matches ≡ rows
found c rows is =
    (c.in-Ok.ensures.matches (ap is_simple c.in_ok-command.ensures ∙ program_is_simple)).1
    ∙ ap₂ subcommand_of c.in_ok-command.ensures (ap (map string_bytes) c.as_slice.ensures.value) ∙ is

pub returns-in-Err-clause-check : goal.returns-in-Err-clause-check
returns-in-Err-clause-check c = λ asked files means. memory c means.taken

pub returns-clause-check : goal.returns-clause-check
returns-clause-check c = λ asked files means.
    on_files means.rows files (IsCheck asked) c.asked_by.result means.files_are ((c.asked_by.ensures.asked (codes "check") means.rows (found c _ means.rows_are)).check asked refl means.asks)

pub returns-in-Err-clause-follow : goal.returns-in-Err-clause-follow
returns-in-Err-clause-follow c = λ limit windows files means. memory c means.taken

pub returns-clause-follow : goal.returns-clause-follow
returns-clause-follow c = λ limit windows files means.
    on_files means.rows files (IsFollow limit windows) c.asked_by.result means.files_are ((c.asked_by.ensures.asked (codes "check") means.rows (found c _ means.rows_are)).follow limit windows refl means.asks)

pub returns-in-Err-clause-cut : goal.returns-in-Err-clause-cut
returns-in-Err-clause-cut c = λ limit quiet files means. memory c means.taken

pub returns-clause-cut : goal.returns-clause-cut
returns-clause-cut c = λ limit quiet files means.
    on_files means.rows files (IsCut limit quiet) c.asked_by.result means.files_are ((c.asked_by.ensures.asked (codes "check") means.rows (found c _ means.rows_are)).cut limit quiet refl means.asks)

pub returns-in-Err-clause-shrink : goal.returns-in-Err-clause-shrink
returns-in-Err-clause-shrink c = λ limit shrunk files means. memory c means.taken

pub returns-clause-shrink : goal.returns-clause-shrink
returns-clause-shrink c = λ limit shrunk files means.
    on_files means.rows files (IsShrink limit shrunk) c.asked_by.result means.files_are ((c.asked_by.ensures.asked (codes "shrink") means.rows (found c _ means.rows_are)).shrink limit shrunk refl means.asks)

pub returns-in-Err-clause-explain : goal.returns-in-Err-clause-explain
returns-in-Err-clause-explain c = λ limit cut drawn whole faults files means. memory c means.taken

pub returns-clause-explain : goal.returns-clause-explain
returns-clause-explain c = λ limit cut drawn whole faults files means.
    on_files means.rows files (IsExplain limit cut drawn whole faults) c.asked_by.result means.files_are ((c.asked_by.ensures.asked (codes "explain") means.rows (found c _ means.rows_are)).explain limit cut drawn whole faults refl means.asks)

pub returns-in-Err-clause-draw : goal.returns-in-Err-clause-draw
returns-in-Err-clause-draw c = λ limit form part files means. memory c means.taken

pub returns-clause-draw : goal.returns-clause-draw
returns-clause-draw c = λ limit form part files means.
    on_files means.rows files (IsDraw limit form part) c.asked_by.result means.files_are ((c.asked_by.ensures.asked (codes "draw") means.rows (found c _ means.rows_are)).draw limit form part refl means.asks)

pub returns-in-Err-clause-stats : goal.returns-in-Err-clause-stats
returns-in-Err-clause-stats c = λ limit json files means. memory c means.taken

pub returns-clause-stats : goal.returns-clause-stats
returns-clause-stats c = λ limit json files means.
    on_files means.rows files (IsStats limit json) c.asked_by.result means.files_are ((c.asked_by.ensures.asked (codes "stats") means.rows (found c _ means.rows_are)).stats limit json refl means.asks)

pub returns-in-Err-clause-recording : goal.returns-in-Err-clause-recording
returns-in-Err-clause-recording c = λ events workers rounds seed flags files means. memory c means.taken

pub returns-clause-recording : goal.returns-clause-recording
returns-clause-recording c = λ events workers rounds seed flags files means. (c.asked_by.ensures.asked (codes "record") means.rows (found c _ means.rows_are)).recording events workers rounds seed flags refl means.asks

pub returns-clause-unfollowed : goal.returns-clause-unfollowed
returns-clause-unfollowed c = λ files means. (c.asked_by.ensures.asked (codes "check") means.rows (found c _ means.rows_are)).unfollowed refl means.asks

pub returns-clause-unheeded : goal.returns-clause-unheeded
returns-clause-unheeded c = λ files means. (c.asked_by.ensures.asked (codes "check") means.rows (found c _ means.rows_are)).unheeded refl means.asks

pub returns-clause-uncut : goal.returns-clause-uncut
returns-clause-uncut c = λ files means. (c.asked_by.ensures.asked (codes "check") means.rows (found c _ means.rows_are)).uncut refl means.asks

pub returns-clause-repeated : goal.returns-clause-repeated
returns-clause-repeated c = λ files means. (c.asked_by.ensures.asked (codes "stats") means.rows (found c _ means.rows_are)).repeated refl means.asks

pub returns-clause-overfull : goal.returns-clause-overfull
returns-clause-overfull c = λ files means. (c.asked_by.ensures.asked (codes "record") means.rows (found c _ means.rows_are)).overfull refl means.asks

pub returns-clause-drawn_map : goal.returns-clause-drawn_map
returns-clause-drawn_map c = λ files means. (c.asked_by.ensures.asked (codes "shrink") means.rows (found c _ means.rows_are)).drawn_map refl means.asks

pub returns-clause-drawn_faults : goal.returns-clause-drawn_faults
returns-clause-drawn_faults c = λ files means. (c.asked_by.ensures.asked (codes "explain") means.rows (found c _ means.rows_are)).drawn_faults refl means.asks

pub returns-clause-one_writer : goal.returns-clause-one_writer
returns-clause-one_writer c = λ files means. (c.asked_by.ensures.asked (codes "explain") means.rows (found c _ means.rows_are)).one_writer refl means.asks
