-- What the words of `explain` ask for.
use Rattle.std.specs.Prelude.{◌≡◌, ◌<◌, ℕ, Bool, true, false, List, Some, codes, decimal}
use Rattle.clap.specs.Words.{Row, first_of, one_of}
use Rattle.snap_core.specs.UsualLimits.{usual_limit}
use Rattle.snap_core.specs.declared.limit.Limit.{Limit}
use Rattle.snap_words.specs.Jobs.{AreFaults, flag_text}
use Rattle.snap_core.specs.declared.writers.Writers.TheVariants.{One}
use Rattle.snap_words.specs.Limits.{AsksLimitWith, writers_text}

-- Whether --cut asks that the updates are cut first, --draw for a picture, and --all for all entries of the views of a fault. The
-- number of faults of a kind is that of --faults, in its range, or 1, and the limit is this. A picture goes with one fault.
pub record AsksExplanationWithin (limit : Limit) (cut drawn whole : Bool) (faults : ℕ) (rows : List Row) : Type 0 where
  pub limit_is : AsksLimitWith cut limit rows
  pub faults_fit : AreFaults faults
  pub one_drawn : drawn ≡ true → faults ≡ 1
  pub cut_is : one_of (codes "cut") rows ≡ Some (flag_text cut)
  pub drawn_is : one_of (codes "draw") rows ≡ Some (flag_text drawn)
  pub whole_is : one_of (codes "all") rows ≡ Some (flag_text whole)
  pub faults_are : one_of (codes "faults") rows ≡ Some (decimal faults)

-- what `explain` asks for if no limit is chosen and nothing is cut
abbrev pub AsksExplanation : Bool → Bool → ℕ → List Row → Type 0
AsksExplanation = AsksExplanationWithin usual_limit false

-- --draw is given, and --faults asks for more than one fault of a kind: that asks for no job
pub record DrawsFaults (rows : List Row) : Type 0 where
  pub faults : ℕ
  pub faults_fit : AreFaults faults
  pub several : 1 < faults
  pub drawn : one_of (codes "draw") rows ≡ Some (flag_text true)
  pub faults_are : one_of (codes "faults") rows ≡ Some (decimal faults)

-- --cut is given, and --writers says one: that asks for no job
pub record CutsOneWriter (rows : List Row) : Type 0 where
  pub cut_is : one_of (codes "cut") rows ≡ Some (flag_text true)
  pub one_said : first_of (codes "writers") rows ≡ Some (writers_text One)
