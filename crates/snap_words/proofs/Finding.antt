-- The command that the parser entered, and the job that its rows ask for.
use Rattle.std.proofs.Common.{◌≡◌, ◌∙◌, List, Option, Some, None, true, false, ap, sym, subst}
use Rattle.std.specs.Prelude.{Box, MatchResult, Result, option_map}
use Rattle.std.specs.Box.{box_value}
use Rattle.std.specs.Str.{bytes_eq}
use Rattle.std.proofs.lemmas.Bool.{false≢true}
use Rattle.clap.specs.Words.{Row, Text, subcommand_rows}
use Rattle.clap.specs.declared.parser.matches.ArgMatches.TheViews.{out-SubCommand}
use Rattle.clap.specs.declared.parser.matches.SubCommand.{SubCommand}
use Rattle.snap_words.specs.declared.job.Job.{Job}
use Rattle.snap_words.specs.declared.job.JobFault.{JobFault}
use Rattle.snap_words.specs.declared.job.JobFault.TheVariants.{Memory}
use Rattle.snap_words.specs.Jobs.{files_of}
use Rattle.snap_words.specs.inside.Found.{Finds}

-- the name of the command is the one before its rows
pub command_found : {Z : Type 0} → (entered : Option (Box SubCommand Z)) (name command : Text) (rows : List Row)
    → Some name ≡ option_map (λ b. (out-SubCommand (box_value b)).name.now) entered → subcommand_rows entered ≡ Some (command, rows) → command ≡ name
command_found None name command rows is named = absurd cc
command_found (Some b) name command rows is named =
    let same : Some command ≡ Some name = sym (ap (option_map (λ (p : Text × List Row). p.0)) named) ∙ sym is in
    cc

-- a command with this name has no other
pub has_name : (command name other : Text) → command ≡ name → bytes_eq name other ≡ false → bytes_eq other other ≡ true → command ≡ other → ⊥
has_name command name other is differs same_text same = false≢true (sym differs ∙ ap (λ (text : Text). bytes_eq text other) (sym is ∙ same) ∙ same_text)

-- what gives each job gives those that are asked for
pub gives_more : (command : Text) (rows : List Row) (Gives More : (Job → Type 0) → Type 0) (GivesNone MoreNone : Type 0)
    → ((Is : Job → Type 0) → Gives Is → More Is) → (GivesNone → MoreNone) → Finds command rows Gives GivesNone → Finds command rows More MoreNone
gives_more command rows Gives More GivesNone MoreNone more none finds = record {
  check = λ asked is asks. more _ (finds.check asked is asks);
  follow = λ limit windows is asks. more _ (finds.follow limit windows is asks);
  cut = λ limit quiet is asks. more _ (finds.cut limit quiet is asks);
  shrink = λ limit shrunk is asks. more _ (finds.shrink limit shrunk is asks);
  drawn_map = λ is asks. none (finds.drawn_map is asks);
  explain = λ limit cut drawn whole faults is asks. more _ (finds.explain limit cut drawn whole faults is asks);
  drawn_faults = λ is asks. none (finds.drawn_faults is asks);
  one_writer = λ is asks. none (finds.one_writer is asks);
  draw = λ limit form part is asks. more _ (finds.draw limit form part is asks);
  stats = λ limit json is asks. more _ (finds.stats limit json is asks);
  repeated = λ is asks. none (finds.repeated is asks);
  recording = λ events workers rounds seed flags is asks. more _ (finds.recording events workers rounds seed flags is asks);
  unfollowed = λ is asks. none (finds.unfollowed is asks);
  unheeded = λ is asks. none (finds.unheeded is asks);
  uncut = λ is asks. none (finds.uncut is asks);
  overfull = λ is asks. none (finds.overfull is asks);
}

-- the command and the rows by which a job was found are those that the words name
pub finds_named : (name command : Text) (found rows : List Row) (Gives : (Job → Type 0) → Type 0) (GivesNone : Type 0) → command ≡ name → found ≡ rows
    → Finds name found Gives GivesNone → Finds command rows Gives GivesNone
finds_named name command found rows Gives GivesNone is same finds =
    subst (λ (text : Text). Finds text rows Gives GivesNone) (sym is) (subst (λ (rs : List Row). Finds name rs Gives GivesNone) same finds)

-- a job on the files of the rows is one on these
pub on_files : (rows : List Row) (files : List Text) (Is : List Text → Job → Type 0) (result : Result Job JobFault) → files_of rows ≡ files
    → MatchResult result (Is (files_of rows)) (λ fault. fault ≡ Memory) → MatchResult result (Is files) (λ fault. fault ≡ Memory)
on_files rows files Is result are gives = subst (λ (names : List Text). MatchResult result (Is names) (λ fault. fault ≡ Memory)) are gives
