use Rattle.std.proofs.Common.{[], inl, inr, length, refl, subst, sym}
use Rattle.std.specs.List.{range_with_len}
use Rattle.snap_theory.proofs.OrderLaws.{in_order_by}
use Rattle.snap_draw.specs.Window.{usual_lines}
use Rattle.snap_runs.specs.Cutting.{AreBeside, IsNumbered}
use Rattle.snap_runs.specs.Drawing.{IsDrawing}
use Rattle.snap_runs.specs.Markups.{is_lines}
use Rattle.snap_runs.specs.declared.markup.Said.TheVariants.{Sentences}
use Rattle.snap_runs.proofs.Shrinking.{cut_to_itself, cut_to_witness}
use Rattle.snap_runs.proofs.draw_witness.witness_drawn.Goals as goal
use Rattle.snap_runs.proofs.draw_witness.witness_drawn.Goals.{in-Some+in_ok-text-in-Some, in-None+in_ok-text-in-None}

pub returns : goal.returns
returns g c = λ writers history.
    let es = c.args.history.now.events in
    let judged = c.in_ok-status.ensures in
    elim c.match-found.branch [
      | in-Some+in_ok-text-in-Some w ↦
          let left = w.in-Some.left.events in
          record {
            left = left;
            cut = cut_to_witness writers _ _ _ _ w.in-Some.is history (judged.status writers history) judged.witness;
            numbers = w.deref.result.now;
            beside = subst (AreBeside writers es left) (sym w.deref.ensures.value) (inr (subst (IsNumbered es) w.in-Some.is judged.witness).2);
            drawn = subst (λ text. IsDrawing usual_lines 0 Sentences is_lines left (range_with_len 2 (length left)) w.deref.result.now text.items) (sym w.text-is) w.in_ok-text-in-Some.ensures;
          }
      | in-None+in_ok-text-in-None w ↦ record {
        left = es;
        cut = cut_to_itself writers _ _ _ w.in-None.is history (judged.status writers history) judged.witness;
        numbers = [];
        beside = inl ((in_order_by writers es history).0 (subst (IsNumbered es) w.in-None.is judged.witness), refl);
        drawn = subst (λ text. IsDrawing usual_lines 0 Sentences is_lines es (range_with_len 2 (length es)) [] text.items) (sym w.text-is) w.in_ok-text-in-None.ensures;
      }
    ]
