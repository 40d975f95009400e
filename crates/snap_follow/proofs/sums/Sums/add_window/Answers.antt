use Rattle.std.proofs.Common.{◌∙◌, ap, sym}
use Rattle.snap_follow.specs.Windows.{verdict_code}
use Rattle.snap_follow.proofs.Summing.{events_more, stopped_more, views_more}
use Rattle.snap_follow.proofs.sums.Sums.add_window.Goals as goal

pub returns : goal.returns
returns c = λ told t window number span sums.
    let same = c.add.ensures.same in
    record {
      counts = c.add.ensures.counts told t (ap (λ w. verdict_code w.verdict) window ∙ sym c.of.ensures.code) number (record {
        windows_are = sums.counts.windows_are;
        atomic = sums.counts.atomic;
        only_regular = sums.counts.only_regular;
        not_regular = sums.counts.not_regular;
        refused = sums.counts.refused;
        failed = sums.counts.failed;
      });
      events_are = stopped_more _ _ _ _ _ _ (same.0 ∙ c.saturating_add-self.ensures) sums.events_are span.events_are (events_more told t);
      views_are = stopped_more _ _ _ _ _ _ (same.1 ∙ c.saturating_add-self-2.ensures) sums.views_are span.views_are (views_more told t);
    }
