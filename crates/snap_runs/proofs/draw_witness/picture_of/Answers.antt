use Rattle.std.proofs.Common.{◌∙◌, ap, length, subst}
use Rattle.std.specs.List.{range_with_len}
use Rattle.std.proofs.lemmas.List.FromFn.{length-range_with_len}
use Rattle.snap_core.specs.declared.writers.Writers.TheVariants.{Many}
use Rattle.snap_draw.specs.Window.{usual_lines}
use Rattle.snap_runs.specs.Drawing.{IsDrawing}
use Rattle.snap_runs.specs.Markups.{is_lines}
use Rattle.snap_runs.specs.declared.markup.Said.TheVariants.{Sentences}
use Rattle.snap_runs.proofs.draw_witness.picture_of.Goals as goal

pub drawn-requires-clause-each : goal.drawn-requires-clause-each
drawn-requires-clause-each g c =
    ap length (c.deref.ensures.value ∙ c.in_ok-records.ensures) ∙ length-range_with_len 2 c.len.result ∙ c.len.ensures.len

pub returns : goal.returns
returns g c =
    let es = c.args.history.now.events in
    let drawing = (c.in_ok-text.ensures Many c.events-events.ensures.ordered.history).1 in
    let lined = subst (λ window. IsDrawing window 0 Sentences is_lines es c.deref.result.now c.args.sources.now c.in_ok-text.text.items) c.usual_lines.ensures drawing in
    subst (λ records. IsDrawing usual_lines 0 Sentences is_lines es records c.args.sources.now c.in_ok-text.text.items) (c.deref.ensures.value ∙ c.in_ok-records.ensures ∙ ap (range_with_len 2) c.len.ensures.len) lined
