use Rattle.std.proofs.Common.{◌≡◌, ◌∷◌, [], List, Some, None, arith, codes, false, refl, true}
use Rattle.std.specs.Prelude.{decimal}
use Rattle.std.proofs.lemmas.Bool.{false≢true}
use Rattle.std.specs.Fmt.{digits}
use Rattle.clap.specs.Words.{Text}
use Rattle.clap.proofs.OnLiterals.{clap_on_literals}
use Rattle.snap_core.specs.UsualLimits.{greatest_limit, usual_limit}
use Rattle.snap_words.specs.Limits.{limit_of, usual_many}
use Rattle.snap_words.specs.Jobs.{FollowsUnheeding, LacksFollow, inputs_in, no_options, plain_check}
use Rattle.snap_words.specs.declared.color.Color.TheVariants.{Never}
use Rattle.snap_words.specs.declared.format.Format.TheVariants.{Json, Junit}
use Rattle.snap_words.proofs.Meanings.{Fit, check_of, follow_of, means, plain_fit, whole}
use Rattle.snap_words.proofs.lines.check_lines.Goals as goal

-- what each line asks for fits; this is shown apart, where the parser is not computed
nothing_fits : Fit plain_check [] None None None None
nothing_fits = plain_fit _ _ _ (omega arith) (whole _ refl refl) refl refl refl (omega arith)

cut_fits : Fit (record plain_check { pieces = 3; workers = 4; options = record no_options { finer = false } }) [] (Some (decimal 3)) (Some (decimal 4)) None None
cut_fits = record {
  pieces_fit = (omega arith, omega arith);
  workers_fit = (omega arith, omega arith);
  views_fit = nothing_fits.views_fit;
  one_form = whole _ refl refl;
  null_ends = nothing_fits.null_ends;
  input_once = nothing_fits.input_once;
  pieces_are = refl;
  finer_is = refl;
  workers_are = refl;
  writers_are = refl;
  color_is = refl;
}

pieces_fits : Fit (record plain_check { options = record no_options { finer = false } }) [] (Some (decimal 8)) None None None
pieces_fits = record {
  pieces_fit = nothing_fits.pieces_fit;
  workers_fit = nothing_fits.workers_fit;
  views_fit = nothing_fits.views_fit;
  one_form = whole _ refl refl;
  null_ends = nothing_fits.null_ends;
  input_once = nothing_fits.input_once;
  pieces_are = refl;
  finer_is = refl;
  workers_are = refl;
  writers_are = refl;
  color_is = refl;
}

quiet_fits : Fit (record plain_check { options = record no_options { quiet = true } }) [] None None None None
quiet_fits = plain_fit _ _ _ (omega arith) (record { verdicts = λ _. refl; sums = λ sums. absurd (false≢true sums) }) refl refl refl (omega arith)

views_fits : Fit (record plain_check { options = record no_options { views = 5 } }) [] None None None None
views_fits = plain_fit _ _ _ (omega arith) (whole _ refl refl) refl refl refl (omega arith)

json_fits : Fit (record plain_check { options = record no_options { format = Json } }) [] None None None None
json_fits = plain_fit _ _ _ (omega arith) (whole _ refl refl) refl refl refl (omega arith)

junit_fits : Fit (record plain_check { options = record no_options { format = Junit } }) [] None None None None
junit_fits = plain_fit _ _ _ (omega arith) (whole _ refl refl) refl refl refl (omega arith)

summary_fits : Fit (record plain_check { options = record no_options { summary = true } }) [] None None None None
summary_fits = plain_fit _ _ _ (omega arith) (record { verdicts = λ _. refl; sums = λ _. (refl, refl) }) refl refl refl (omega arith)

color_fits : Fit (record plain_check { options = record no_options { color = Never } }) [] None None None (Some (codes "never"))
color_fits = plain_fit _ _ _ (omega arith) (whole _ refl refl) refl refl refl (omega arith)

events_fits : Fit (record plain_check { limit = greatest_limit }) [] None None None None
events_fits = plain_fit _ _ _ (omega arith) (whole _ refl refl) refl refl refl (omega arith)

many_fits : Fit (record plain_check { limit = usual_many }) [] None None (Some (codes "many")) None
many_fits = plain_fit _ _ _ (omega arith) (whole _ refl refl) refl refl refl (omega arith)

abbrev named : List Text
named = codes "a.csv" ∷ codes "-" ∷ []

named_fits : Fit plain_check named None None None None
named_fits =
    let once : inputs_in named ≡ 1 = refl in
    plain_fit _ _ _ (omega arith) (whole _ refl refl) refl refl refl (omega (arith, once))

pub returns-clause-alone : goal.returns-clause-alone
unfolding clap_on_literals digits
returns-clause-alone c = λ name. check_of (name ∷ codes "check" ∷ []) plain_check [] false nothing_fits refl refl refl refl

pub returns-clause-cut : goal.returns-clause-cut
unfolding clap_on_literals digits
returns-clause-cut c = λ name. check_of (name ∷ codes "check" ∷ codes "--pieces" ∷ codes "3" ∷ codes "--workers" ∷ codes "4" ∷ []) (record plain_check { pieces = 3; workers = 4; options = record no_options { finer = false } }) [] true cut_fits refl refl refl refl

pub returns-clause-pieces : goal.returns-clause-pieces
unfolding clap_on_literals digits
returns-clause-pieces c = λ name. check_of (name ∷ codes "check" ∷ codes "--pieces" ∷ codes "8" ∷ []) (record plain_check { options = record no_options { finer = false } }) [] true pieces_fits refl refl refl refl

pub returns-clause-quiet : goal.returns-clause-quiet
unfolding clap_on_literals digits
returns-clause-quiet c = λ name. check_of (name ∷ codes "check" ∷ codes "--quiet" ∷ []) (record plain_check { options = record no_options { quiet = true } }) [] false quiet_fits refl refl refl refl

pub returns-clause-views : goal.returns-clause-views
unfolding clap_on_literals digits
returns-clause-views c = λ name. check_of (name ∷ codes "check" ∷ codes "--views" ∷ codes "5" ∷ []) (record plain_check { options = record no_options { views = 5 } }) [] false views_fits refl refl refl refl

pub returns-clause-json : goal.returns-clause-json
unfolding clap_on_literals digits
returns-clause-json c = λ name. check_of (name ∷ codes "check" ∷ codes "--format" ∷ codes "json" ∷ []) (record plain_check { options = record no_options { format = Json } }) [] false json_fits refl refl refl refl

pub returns-clause-junit : goal.returns-clause-junit
unfolding clap_on_literals digits
returns-clause-junit c = λ name. check_of (name ∷ codes "check" ∷ codes "--format" ∷ codes "junit" ∷ []) (record plain_check { options = record no_options { format = Junit } }) [] false junit_fits refl refl refl refl

pub returns-clause-summary : goal.returns-clause-summary
unfolding clap_on_literals digits
returns-clause-summary c = λ name. check_of (name ∷ codes "check" ∷ codes "--summary" ∷ []) (record plain_check { options = record no_options { summary = true } }) [] false summary_fits refl refl refl refl

pub returns-clause-color : goal.returns-clause-color
unfolding clap_on_literals digits
returns-clause-color c = λ name. check_of (name ∷ codes "check" ∷ codes "--color" ∷ codes "never" ∷ []) (record plain_check { options = record no_options { color = Never } }) [] true color_fits refl refl refl refl

pub returns-clause-events : goal.returns-clause-events
unfolding clap_on_literals digits
returns-clause-events c = λ name. check_of (name ∷ codes "check" ∷ codes "--events" ∷ codes "1048576" ∷ []) (record plain_check { limit = greatest_limit }) [] false events_fits refl refl refl refl

pub returns-clause-writers : goal.returns-clause-writers
unfolding clap_on_literals digits
returns-clause-writers c = λ name. check_of (name ∷ codes "check" ∷ codes "--writers" ∷ codes "many" ∷ []) (record plain_check { limit = usual_many }) [] false many_fits refl refl refl refl

pub returns-clause-short : goal.returns-clause-short
unfolding clap_on_literals digits
returns-clause-short c = λ name. check_of (name ∷ codes "check" ∷ codes "-q" ∷ []) (record plain_check { options = record no_options { quiet = true } }) [] false quiet_fits refl refl refl refl

pub returns-clause-files : goal.returns-clause-files
unfolding clap_on_literals digits
returns-clause-files c = λ name. check_of (name ∷ codes "check" ∷ codes "a.csv" ∷ codes "-" ∷ []) plain_check named false named_fits refl refl refl refl

pub returns-clause-follow : goal.returns-clause-follow
unfolding clap_on_literals digits
returns-clause-follow c = λ name. follow_of {writers = None} {window = Some (decimal 500)} {idle = Some (decimal 5)} {late = None} (name ∷ codes "check" ∷ codes "--follow" ∷ codes "--window" ∷ codes "500" ∷ codes "--idle" ∷ codes "5" ∷ []) usual_limit (record { least = 500; idle = 5; late = 1000; views = 0 }) [] refl (omega arith) ((omega arith, omega arith), omega arith) (omega arith) (omega arith) (omega arith) refl refl refl refl refl refl refl

pub returns-clause-few : goal.returns-clause-few
unfolding clap_on_literals digits
returns-clause-few c = λ name fits. follow_of {writers = None} {window = None} {idle = None} {late = None} (name ∷ codes "check" ∷ codes "--follow" ∷ codes "--events" ∷ codes "500" ∷ []) (limit_of 500 fits) (record { least = 250; idle = 0; late = 1000; views = 0 }) [] refl (omega arith) ((omega arith, omega arith), omega arith) (omega arith) (omega arith) (omega arith) refl refl refl refl refl refl refl

pub returns-clause-late : goal.returns-clause-late
unfolding clap_on_literals digits
returns-clause-late c = λ name. follow_of {writers = None} {window = None} {idle = None} {late = Some (decimal 20)} (name ∷ codes "check" ∷ codes "--follow" ∷ codes "--late" ∷ codes "20" ∷ []) usual_limit (record { least = 1000; idle = 0; late = 20; views = 0 }) [] refl (omega arith) ((omega arith, omega arith), omega arith) (omega arith) (omega arith) (omega arith) refl refl refl refl refl refl refl

pub returns-clause-follow_writers : goal.returns-clause-follow_writers
unfolding clap_on_literals digits
returns-clause-follow_writers c = λ name. follow_of {writers = Some (codes "many")} {window = None} {idle = None} {late = None} (name ∷ codes "check" ∷ codes "--follow" ∷ codes "--writers" ∷ codes "many" ∷ []) usual_many (record { least = 1000; idle = 0; late = 1000; views = 0 }) [] refl (omega arith) ((omega arith, omega arith), omega arith) (omega arith) (omega arith) (omega arith) refl refl refl refl refl refl refl

pub returns-clause-late_unfollowed : goal.returns-clause-late_unfollowed
unfolding clap_on_literals
returns-clause-late_unfollowed c = λ name. means (name ∷ codes "check" ∷ codes "--late" ∷ codes "20" ∷ []) (codes "check") LacksFollow [] refl refl (record { no_follow = refl; windows_named = refl }) refl

pub returns-clause-unfollowed : goal.returns-clause-unfollowed
unfolding clap_on_literals
returns-clause-unfollowed c = λ name. means (name ∷ codes "check" ∷ codes "--window" ∷ codes "500" ∷ []) (codes "check") LacksFollow [] refl refl (record { no_follow = refl; windows_named = refl }) refl

pub returns-clause-unheeded : goal.returns-clause-unheeded
unfolding clap_on_literals
returns-clause-unheeded c = λ name. means (name ∷ codes "check" ∷ codes "--follow" ∷ codes "--workers" ∷ codes "4" ∷ []) (codes "check") FollowsUnheeding [] refl refl (record { followed = refl; unheeded_named = refl }) refl
