use Rattle.std.proofs.Common.{◌∙◌, ap, sym, get_or}
use Rattle.std.specs.Prelude.{◌==◌}
use Rattle.snap_conditions.proofs.Surrounded.{written_by_value}
use Rattle.snap_conditions.proofs.shown_and_next.ShownAndNext.is_written.Goals as goal

pub returns : goal.returns
returns c = λ es kept fits value.
    ap (λ j. get_or c.args.self.now.values j 0 == c.from-2.result) c.from.ensures ∙ ap (λ v. get_or c.args.self.now.values c.args.entry.component 0 == v) c.from-2.ensures
    ∙ sym (written_by_value es kept c.args.self.now c.args.entry value fits)
