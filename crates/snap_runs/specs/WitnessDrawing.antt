-- The picture of a witness.
use Rattle.snap_core.specs.declared.writers.Writers.{Writers}
use Rattle.std.specs.Prelude.{ℕ, List, length}
use Rattle.std.specs.List.{range_with_len}
use Rattle.snap_core.specs.declared.event.Event.{Event}
use Rattle.snap_draw.specs.Window.{usual_lines}
use Rattle.snap_runs.specs.Cutting.{AreBeside}
use Rattle.snap_runs.specs.Drawing.{IsDrawing}
use Rattle.snap_runs.specs.Markups.{is_lines}
use Rattle.snap_runs.specs.Shrinking.{IsCutTo}
use Rattle.snap_runs.specs.declared.markup.Said.TheVariants.{Sentences}
use Rattle.snap_check.specs.declared.status.Status.{Status}

-- The status of a history, and the picture of what it is cut down to: its witness, or itself if it is atomic. The picture is lines of
-- characters. The records are those of the text of what is left, and beside the numbers of its calls stand those in the history.
pub record DrawsWitness (writers : Writers) (events : List Event) (status : Status) (out : List ℕ) : Type 0 where
  pub left : List Event
  pub cut : IsCutTo writers events status left
  pub numbers : List ℕ
  pub beside : AreBeside writers events left numbers
  pub drawn : IsDrawing usual_lines 0 Sentences is_lines left (range_with_len 2 (length left)) numbers out
