-- What is written if a history is drawn.
use Rattle.snap_core.specs.declared.writers.Writers.{Writers}
use Rattle.std.specs.Prelude.{◌≡◌, ℕ, true, false, List, [], length, Option, Some, None, if◌then◌else◌, map}
use Rattle.snap_core.specs.declared.event.Event.{Event}
use Rattle.snap_core.specs.Calls.{Call, calls_of, views_of}
use Rattle.snap_conditions.specs.declared.tally.Tally.{Tally}
use Rattle.snap_conditions.specs.Tally.{tally_of}
use Rattle.snap_draw.specs.declared.shapes.Shapes.{Shapes}
use Rattle.snap_draw.specs.declared.window.Window.{Window}
use Rattle.snap_draw.specs.Calls.{drawn_call}
use Rattle.snap_draw.specs.Marks.{marks_of}
use Rattle.snap_draw.specs.Pieces.{AreEach, held_calls, pieces_of}
use Rattle.snap_draw.specs.Timelines.{AreShapes, calls_drawn}
use Rattle.snap_draw.specs.Window.{has_call}
use Rattle.snap_explain.specs.Explanations.{IsExplanation, sentences_text}
use Rattle.snap_theory.specs.Levels.{printed_order}
use Rattle.snap_report.specs.Reports.{has_no_fault}
use Rattle.snap_runs.specs.declared.markup.Said.{Said}
use Rattle.snap_runs.specs.declared.markup.Said.TheVariants.{Sentences, Whole}
use Rattle.snap_check.specs.declared.status.Status.{Status}
use Rattle.snap_check.specs.Verdicts.{HasStatus}

-- what a markup may write of the events of a history, their records, the numbers of its calls in a run that it is made from, its shapes,
-- those of its pieces, the numbers of its printed order, and its explanation
abbrev pub Writes : Type 1
Writes = List Event → List ℕ → List ℕ → Shapes → List Shapes → List ℕ → List ℕ → List ℕ → Type 0

-- the numbers of the printed order, by the tally of all completed views, and none if that has a fault
abbrev pub order_drawn : List Call → Tally → List ℕ
order_drawn calls t = if has_no_fault t then map (λ (c : Call). c.number) (printed_order calls) else []

-- the shapes of the calls of a history in a window. They are those of its printed order, of its tally and of the calls of its first
-- faults
abbrev pub AreShapesOf : Window → List Call → Tally → Shapes → Type 0
AreShapesOf window calls t = AreShapes (order_drawn calls t) (marks_of calls t) (calls_drawn window calls t)

-- the shapes of the pieces of a history that has more calls than a window, with up to `held` calls in all
abbrev pub ArePartsOf : ℕ → Window → List Call → Tally → List Shapes → Type 0
ArePartsOf held window calls t =
    AreEach (order_drawn calls t) (marks_of calls t) (pieces_of window.calls (held_calls held window (marks_of calls t) (map drawn_call calls)))

-- what a picture has of the explanation of the history of these calls
abbrev pub IsSaid : Said → List ℕ → List Call → List ℕ → Type 0
IsSaid (Whole listed) records calls said = IsExplanation listed records calls said
IsSaid Sentences records calls said = said ≡ sentences_text records calls (tally_of calls (views_of calls))

-- the text is what the markup writes of the shapes of the history, its pieces, its order, and what it has of the explanation. The records
-- are those of its events, and the sources the numbers of its calls in a run that it is made from
pub record IsDrawing (window : Window) (held : ℕ) (says : Said) (Is : Writes) (events : List Event) (records sources out : List ℕ) : Type 0 where
  pub shapes : Shapes
  pub parts : List Shapes
  pub said : List ℕ
  pub are_shapes : AreShapesOf window (calls_of events) (tally_of (calls_of events) (views_of (calls_of events))) shapes
  pub are_parts : ArePartsOf held window (calls_of events) (tally_of (calls_of events) (views_of (calls_of events))) parts
  pub explained : IsSaid says records (calls_of events) said
  pub written : Is events records sources shapes parts (order_drawn (calls_of events) (tally_of (calls_of events) (views_of (calls_of events)))) said out

-- the status of a history, and its picture by the records of its events and the numbers of its calls in a run
abbrev pub DrawsHistory : Window → ℕ → Said → Writes → Writers → List Event → List ℕ → List ℕ → Status → List ℕ → Type 0
DrawsHistory window held says Is writers events records sources status out = HasStatus writers events status × IsDrawing window held says Is events records sources out

-- The answer to a history with the call that the window names, and its picture. Without that call there is no status and no picture. The
-- history is made from no run.
abbrev pub AnswersHistory : Window → ℕ → Said → Writes → Writers → List Event → List ℕ → Option Status → List ℕ → Type 0
AnswersHistory window held says Is writers events records (Some status) out =
    (has_call window.place (length (calls_of events)) ≡ true) × DrawsHistory window held says Is writers events records [] status out
AnswersHistory window held says Is writers events records None out = (has_call window.place (length (calls_of events)) ≡ false) × (out ≡ [])
