-- The picture of a text that is a history.
use Rattle.std.proofs.Common.{◌≡◌, ◌∙◌, ℕ, Bool, List, [], Option, Some, None, Result, Bor, ap, map, refl, subst, sym}
use Rattle.std.proofs.lemmas.Result.{IfOk-weaker}
use Rattle.std.specs.Prelude.{IfOk, if◌then◌else◌, is_some}
use Rattle.std.specs.Global.{Vec}
use Rattle.std.specs.Option.{ForSome, option_map_or}
use Rattle.snap_core.specs.declared.event.Event.{Event}
use Rattle.snap_core.specs.Calls.{Call, calls_of, views_of}
use Rattle.snap_conditions.specs.declared.tally.Tally.{Tally}
use Rattle.snap_conditions.specs.Tally.{tally_of}
use Rattle.snap_draw.specs.declared.shapes.Shapes.{Shapes}
use Rattle.snap_draw.specs.declared.window.Window.{Window}
use Rattle.snap_draw.specs.Calls.{drawn_call}
use Rattle.snap_draw.specs.Marks.{marks_of}
use Rattle.snap_draw.specs.Pieces.{AreEach, held_calls, pieces_of}
use Rattle.snap_draw.specs.Timelines.{AreShapes, calls_drawn}
use Rattle.snap_runs.specs.declared.markup.Said.{Said}
use Rattle.snap_theory.specs.Levels.{printed_order}
use Rattle.snap_report.specs.Reports.{has_no_fault}
use Rattle.snap_runs.specs.Drawing.{ArePartsOf, AreShapesOf, IsDrawing, IsSaid, Writes, order_drawn}

pub order_is : (calls : List Call) (t : Tally) (order : Option (Bor (List ℕ))) → is_some order ≡ has_no_fault t → ForSome order (λ numbers. numbers.now ≡ map (λ (c : Call). c.number) (printed_order calls)) →
    option_map_or (λ (numbers : Bor (List ℕ)). numbers.now) order [] ≡ order_drawn calls t
order_is calls t None given printed = ap (λ (b : Bool). if b then map (λ (c : Call). c.number) (printed_order calls) else []) given
order_is calls t (Some numbers) given printed = printed numbers refl ∙ ap (λ (b : Bool). if b then map (λ (c : Call). c.number) (printed_order calls) else []) given

abbrev whole : List Event → Tally
whole es = tally_of (calls_of es) (views_of (calls_of es))

pub drawing : {E : Type 0} (window given : Window) (most kept : ℕ) (says : Said) (Is : Writes) (es : List Event) (records sources : List ℕ) (t : Tally) (order : List ℕ) (shapes : Shapes) (parts made : List Shapes) (said : List ℕ) (result : Result (Vec ℕ) E) → given ≡ window → kept ≡ most → t ≡ whole es → order ≡ order_drawn (calls_of es) t →
    AreShapes order (marks_of (calls_of es) t) (calls_drawn given (calls_of es) t) shapes → parts ≡ made →
    AreEach order (marks_of (calls_of es) t) (pieces_of given.calls (held_calls kept given (marks_of (calls_of es) t) (map drawn_call (calls_of es)))) made →
    IsSaid says records (calls_of es) said → IfOk result (λ out. Is es records sources shapes parts order said out.items) → IfOk result (λ out. IsDrawing window most says Is es records sources out.items)
drawing window given most kept says Is es records sources t order shapes parts made said result same held tally printed are passed each explained written =
    let order_are : order ≡ order_drawn (calls_of es) (whole es) = printed ∙ ap (order_drawn (calls_of es)) tally in
    let shapes_are : AreShapesOf window (calls_of es) (whole es) shapes =
    subst (λ os. AreShapes os (marks_of (calls_of es) (whole es)) (calls_drawn window (calls_of es) (whole es)) shapes) order_are
    (subst (λ (t : Tally). AreShapes order (marks_of (calls_of es) t) (calls_drawn window (calls_of es) t) shapes) tally
    (subst (λ (w : Window). AreShapes order (marks_of (calls_of es) t) (calls_drawn w (calls_of es) t) shapes) same are)) in
    let held_in : ℕ → Window → Tally → List ℕ → List Shapes → Type 0 = λ n w t os ss. AreEach os (marks_of (calls_of es) t) (pieces_of w.calls (held_calls n w (marks_of (calls_of es) t) (map drawn_call (calls_of es)))) ss in
    let parts_are : ArePartsOf most window (calls_of es) (whole es) parts =
    subst (λ os. held_in most window (whole es) os parts) order_are
    (subst (λ (t : Tally). held_in most window t order parts) tally
    (subst (λ (w : Window). held_in most w t order parts) same
    (subst (λ (n : ℕ). held_in n given t order parts) held
    (subst (λ ss. held_in kept given t order ss) (sym passed) each)))) in
    IfOk-weaker result _ _ (λ out w. record {
      shapes = shapes;
      parts = parts;
      said = said;
      are_shapes = shapes_are;
      are_parts = parts_are;
      explained = explained;
      written = subst (λ os. Is es records sources shapes parts os said out.items) order_are w;
    }) written
