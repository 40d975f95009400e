use Rattle.std.proofs.Common.{◌≡◌, ◌∙◌, List, Option, Some, None, arith, ap, codes, is_some, refl, sym}
use Rattle.std.specs.Prelude.{is_none, not, option_map, slice_get}
use Rattle.std.specs.List.{find}
use Rattle.std.specs.Option.{option_and_then}
use Rattle.std.specs.Str.{bytes_eq}
use Rattle.clap.specs.Words.{Row, Text, first_of, found_of, one_of, rows_of}
use Rattle.clap.specs.Walk.{row_text}
use Rattle.snap_words.proofs.command_jobs.options_in.Goals as goal

kept : {A B : Type 0} → (f : A → B) (found : Option A) → not (is_some found) ≡ is_none (option_map f found)
kept f None = refl
kept f (Some a) = refl

-- an option that was not given has no text that is read
not_given : (id : Text) (rows : List Row) → not (is_some (first_of id rows)) ≡ is_none (one_of id rows)
not_given id rows = go (find (λ r. bytes_eq r.id id) rows)
  where
    go : (row : Option Row) → not (is_some (option_and_then (λ r. slice_get r.values 0) row)) ≡ is_none (option_and_then row_text row)
    go None = refl
    go (Some r) = kept _ (slice_get r.values 0)

pub returns : goal.returns
returns c = λ asked asks.
    let views_given = c.in_ok-views.ensures.given asked.options.views (omega (arith, asked.limit.fits, asks.views_fit)) asks.views_are in
    let format_given = c.in_ok-format.ensures.given asked.options.format asks.format_is in
    let color_given = c.in_ok-color.ensures.given asked.options.color asks.color_is in
    let quiet = c.flag_in-quiet.ensures.given asked.options.quiet asks.quiet_is in
    let views : c.in_ok-views.views ≡ asked.options.views = cc in
    let format : c.in_ok-format.format ≡ asked.options.format = cc in
    let summary = c.flag_in-summary.ensures.given asked.options.summary asks.summary_is in
    let no_progress = c.flag_in-no_progress.ensures.given asked.options.no_progress asks.no_progress_is in
    let color : c.in_ok-color.color ≡ asked.options.color = cc in
    let finer = ap not c.is_given-finer.ensures ∙ not_given (codes "pieces") (rows_of (found_of c.args.matches.now)) ∙ sym asks.finer_is in
    λ i. Some (record {
      quiet = quiet i;
      views = views i;
      format = format i;
      summary = summary i;
      no_progress = no_progress i;
      color = color i;
      finer = finer i;
    })
