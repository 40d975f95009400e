-- What lines with --cut mean, where the parser reads them so.
use Rattle.std.proofs.Common.{◌≡◌, ◌≤◌, ◌∙◌, Bool, List, Option, Some, None, ap, codes, false, length, refl, subst, sym, true}
use Rattle.std.specs.Prelude.{decimal, ◌||◌}
use Rattle.clap.specs.Words.{Row, Text, first_of, one_of, subcommand_of, takes}
use Rattle.snap_core.specs.declared.limit.Limit.{Limit}
use Rattle.snap_core.specs.declared.writers.Writers.TheVariants.{Many}
use Rattle.snap_words.specs.CommandLine.{program_app}
use Rattle.snap_words.specs.Cutting.{AsksCut}
use Rattle.snap_words.specs.Jobs.{files_of, flag_text, format_text}
use Rattle.snap_words.specs.Limits.{AsksCutLimit, LeavesMany, usual_many}
use Rattle.snap_words.specs.Lines.{Means}
use Rattle.snap_words.specs.declared.format.Format.TheVariants.{Plain}
use Rattle.snap_words.proofs.Meanings.{Said, command_in, means, rows_by, said_in}
use Rattle.snap_words.proofs.Numbers.{usual_text}

-- neither of two
neither : (a b : Bool) → a ≡ false → b ≡ false → (a || b) ≡ false
neither a b no_a no_b = ap (λ (x : Bool). x || b) no_a ∙ no_b

-- the usual limit of events, with many writers where nothing is said of them
pub asks_cut_usual : (rows : List Row) → one_of (codes "events") rows ≡ Some (codes "65536") → first_of (codes "writers") rows ≡ None → AsksCutLimit usual_many rows
asks_cut_usual rows is none = record {
  events_are = is ∙ ap Some (sym usual_text);
  writers_are = subst (λ text. LeavesMany text) (sym none) tt;
  many = refl;
}

-- what is said where a cut is asked for, by this text of writers or without
abbrev pub cutting : Limit → Bool → Option Text → Said → Said
cutting limit quiet writers said = record said {
  events = Some (decimal limit.events);
  writers = writers;
  views = Some (decimal 0);
  quiet = Some (flag_text quiet);
  format = Some (format_text Plain);
  summary = Some (flag_text false);
  follow = Some (flag_text false);
  cut = Some (flag_text true);
  windows = false;
  unheeded = false;
  null = Some (flag_text false);
}

-- lines of `check --cut`
pub cut_of : {writers : Option Text} → (words : List Text) (limit : Limit) (quiet : Bool) (files : List Text) → LeavesMany writers → limit.writers ≡ Many → length files ≤ 1
    → takes program_app words ≡ true → command_in (subcommand_of program_app words) ≡ Some (codes "check")
    → said_in (rows_by words) ≡ cutting limit quiet writers (said_in (rows_by words)) → files_of (rows_by words) ≡ files
    → Means words (codes "check") (AsksCut limit quiet) files
cut_of words limit quiet files writers_are many one_file taken named said files_are =
    means words (codes "check") (AsksCut limit quiet) files taken named (record {
      limit_is = record {
        events_are = ap (λ s. s.events) said;
        writers_are = subst (λ text. LeavesMany text) (sym (ap (λ s. s.writers) said)) writers_are;
        many = many;
      };
      one_file = subst (λ (names : List Text). length names ≤ 1) (sym files_are) one_file;
      cut_is = ap (λ s. s.cut) said;
      all_heeded = neither _ _ (ap (λ s. s.unheeded) said) (ap (λ s. s.windows) said);
      follow_is = ap (λ s. s.follow) said;
      quiet_is = ap (λ s. s.quiet) said;
      format_is = ap (λ s. s.format) said;
      summary_is = ap (λ s. s.summary) said;
      null_is = ap (λ s. s.null) said;
      views_are = ap (λ s. s.views) said;
    }) files_are
