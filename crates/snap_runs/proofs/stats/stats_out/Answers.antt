use Rattle.std.proofs.Common.{◌∙◌, Vec, Global, ap}
use Rattle.std.specs.Option.{option_copied}
use Rattle.snap_core.specs.Calls.{calls_of}
use Rattle.snap_stats.specs.Stats.{components_of, stats_of}
use Rattle.snap_runs.proofs.Counted.{lines_written, object_written}
use Rattle.snap_runs.proofs.stats.stats_out.Goals as goal

pub returns-in-Some : goal.returns-in-Some
returns-in-Some c =
    object_written (λ (v : Vec _ Global). v.items) c.stats_line.result _ c.in-Some.name.now _ c.code.result c.args.history.now.events c.in_ok-counts.counts c.deref-in-Some.result.now (ap option_copied c.in-Some.is) (c.deref.ensures ∙ c.in_ok-shown-in-Some.ensures) c.code.ensures
    (c.in_ok-counts.ensures.counts ∙ ap stats_of c.in_ok-index.ensures)
    (c.deref-in-Some.ensures.value ∙ c.in_ok-counts.ensures.components ∙ ap (λ es. components_of (calls_of es)) c.in_ok-index.ensures)
    c.stats_line.ensures

pub returns : goal.returns
returns c =
    lines_written (λ (v : Vec _ Global). v.items) c.stats_text.result _ c.args.history.now.events c.in_ok-counts.counts c.deref-in-None.result.now (ap option_copied c.in-None.is)
    (c.in_ok-counts.ensures.counts ∙ ap stats_of c.in_ok-index.ensures)
    (c.deref-in-None.ensures.value ∙ c.in_ok-counts.ensures.components ∙ ap (λ es. components_of (calls_of es)) c.in_ok-index.ensures)
    c.stats_text.ensures
