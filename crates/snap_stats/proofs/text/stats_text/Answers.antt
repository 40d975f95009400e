use Rattle.std.proofs.Common.{◌≡◌, ◌++◌, ◌∙◌, ap}
use Rattle.std.specs.List.{flat_map}
use Rattle.snap_report.specs.Lines.{line_text, text_of}
use Rattle.snap_stats.specs.Lines.{component_line, open_lines, overlap_lines, size_lines, warning_lines}
use Rattle.snap_stats.proofs.Pieces.{all_lines}
use Rattle.snap_stats.proofs.text.stats_text.Goals as goal

pub returns : goal.returns
returns c =
    let s = c.args.stats.now in
    let cs = c.args.components.now in
    c.in_ok-put_warning.ensures
    ∙ ap (λ z. z ++ text_of (warning_lines s)) (c.in_ok-put_components.ensures
    ∙ ap (λ z. z ++ flat_map (λ x. line_text (component_line x)) cs) (c.in_ok-put_open.ensures
    ∙ ap (λ z. z ++ text_of (open_lines s)) (c.in_ok-put_overlaps.ensures
    ∙ ap (λ z. z ++ text_of (overlap_lines s.overlapping)) (c.in_ok-put_sizes.ensures
    ∙ ap (λ z. z ++ text_of (size_lines s)) c.new-out.ensures.items))))
    ∙ all_lines line_text component_line (size_lines s) (overlap_lines s.overlapping) (open_lines s) cs (warning_lines s)
