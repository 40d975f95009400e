use Rattle.std.proofs.Common.{◌∙◌, ap, sym}
use Rattle.snap_core.specs.Refusals.{breaks_writer}
use Rattle.snap_windows.proofs.judge.WindowJudge.breaks_writer.Goals as goal

pub returns-in-One : goal.returns-in-One
returns-in-One c = λ before h single.
    let one = sym c.writers.ensures ∙ c.in-One.is in
    c.has_other_writer.ensures before h (single one) ∙ sym (ap (λ w. breaks_writer w before c.args.event.now) one)
