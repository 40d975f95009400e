-- The job that the rows of a command ask for.
use Rattle.std.specs.Prelude.{◌≡◌, ℕ, Bool, List, Option, Result, codes, IsErr, IsNone, IsSomeAnd, MatchResult}
use Rattle.clap.specs.Words.{Row, Text}
use Rattle.snap_core.specs.declared.limit.Limit.{Limit}
use Rattle.snap_words.specs.Drawing.{AsksDrawWithin}
use Rattle.snap_words.specs.Jobs.{AsksCheck, AsksFollow, AsksRecordWithin, AsksStatsWithin, AsksTooManyRounds, Checking, Flags, FollowsUnheeding, IsCheck, IsDraw, IsExplain, IsFollow, IsRecord, IsShrink, IsStats, LacksFollow, NamesInputTwice, files_of}
use Rattle.snap_words.specs.Cutting.{AsksCut, CutsUnheeding, IsCut}
use Rattle.snap_words.specs.Explaining.{AsksExplanationWithin, CutsOneWriter, DrawsFaults}
use Rattle.snap_words.specs.Shrinking.{AsksShrinkWithin, DrawsMap}
use Rattle.snap_words.specs.declared.drawing.Form.{Form}
use Rattle.snap_words.specs.declared.drawing.Part.{Part}
use Rattle.snap_words.specs.declared.shrunk.Shrunk.{Shrunk}
use Rattle.snap_words.specs.declared.job.Job.{Job}
use Rattle.snap_words.specs.declared.job.JobFault.{JobFault}
use Rattle.snap_words.specs.declared.job.JobFault.TheVariants.{Memory}
use Rattle.snap_words.specs.declared.job.Windows.{Windows}

-- If the rows of a command ask for a job, an answer gives such a job, on the files of the rows. If they ask for none, it gives none.
pub record Finds (command : Text) (rows : List Row) (Gives : (Job → Type 0) → Type 0) (GivesNone : Type 0) : Type 0 where
  pub check : (asked : Checking) → command ≡ codes "check" → AsksCheck rows asked → Gives (IsCheck asked (files_of rows))
  pub follow : (limit : Limit) (windows : Windows) → command ≡ codes "check" → AsksFollow limit rows windows → Gives (IsFollow limit windows (files_of rows))
  pub cut : (limit : Limit) (quiet : Bool) → command ≡ codes "check" → AsksCut limit quiet rows → Gives (IsCut limit quiet (files_of rows))
  pub shrink : (limit : Limit) (shrunk : Shrunk) → command ≡ codes "shrink" → AsksShrinkWithin limit shrunk rows → Gives (IsShrink limit shrunk (files_of rows))
  pub drawn_map : command ≡ codes "shrink" → DrawsMap rows → GivesNone
  pub explain : (limit : Limit) (cut drawn whole : Bool) (faults : ℕ) → command ≡ codes "explain" → AsksExplanationWithin limit cut drawn whole faults rows → Gives (IsExplain limit cut drawn whole faults (files_of rows))
  pub drawn_faults : command ≡ codes "explain" → DrawsFaults rows → GivesNone
  pub one_writer : command ≡ codes "explain" → CutsOneWriter rows → GivesNone
  pub draw : (limit : Limit) (form : Form) (part : Part) → command ≡ codes "draw" → AsksDrawWithin limit rows form part → Gives (IsDraw limit form part (files_of rows))
  pub stats : (limit : Limit) (json : Bool) → command ≡ codes "stats" → AsksStatsWithin limit json rows → Gives (IsStats limit json (files_of rows))
  pub repeated : command ≡ codes "stats" → NamesInputTwice rows → GivesNone
  pub recording : (events workers rounds seed : ℕ) (flags : Flags) → command ≡ codes "record" → AsksRecordWithin events rows workers rounds seed flags → Gives (IsRecord workers rounds seed flags)
  pub unfollowed : command ≡ codes "check" → LacksFollow rows → GivesNone
  pub unheeded : command ≡ codes "check" → FollowsUnheeding rows → GivesNone
  pub uncut : command ≡ codes "check" → CutsUnheeding rows → GivesNone
  pub overfull : command ≡ codes "record" → AsksTooManyRounds rows → GivesNone

-- a job is found
abbrev pub FindsJob : Option Job → Text → List Row → Type 0
FindsJob found command rows = Finds command rows (IsSomeAnd found) (IsNone found)

-- a job is given, if memory suffices
abbrev pub FindsGiven : Result Job JobFault → Text → List Row → Type 0
FindsGiven result command rows = Finds command rows (λ Is. MatchResult result Is (λ fault. fault ≡ Memory)) (IsErr result)
