use Rattle.std.proofs.Common.{◌++◌, ◌∙◌, ap, codes, length}
use Rattle.std.specs.Prelude.{count_by, decimal, sum_by}
use Rattle.snap_follow.specs.Spans.{ends_view, stop}
use Rattle.snap_follow.specs.Windows.{kind_text}
use Rattle.snap_follow.proofs.Ending.{on_ok_then}
use Rattle.snap_follow.proofs.Summing.{sums_spelled}
use Rattle.snap_follow.proofs.sums.Sums.put.Goals as goal

pub returns-clause-text : goal.returns-clause-text
returns-clause-text c = λ told sums.
    let out = c.args.out.now.items in
    let counts = sums.counts in
    let windows = c.in_ok-put_number.ensures ∙ ap (λ z. out ++ codes "windows " ++ decimal z) counts.windows_are in
    let events = c.in_ok-put_number-2.ensures ∙ ap (λ z. c.put_number.new.out.items ++ codes " events " ++ decimal z) sums.events_are in
    let views = c.in_ok-put_number-3.ensures ∙ ap (λ z. c.put_number-2.new.out.items ++ codes " views " ++ decimal z) sums.views_are in
    on_ok_then c.put_count-5.result _ _ (c.put_count-5.ensures.text told counts.failed)
    (λ last. sums_spelled out (codes "windows ") (decimal (stop (length told))) (codes " events ") (decimal (stop (sum_by (λ t. length t.events) told)))
    (codes " views ") (decimal (stop (sum_by (λ t. count_by ends_view t.events) told))) (codes "\n")
    (kind_text (codes "atomic") 0 told) (kind_text (codes "only-regular") 1 told) (kind_text (codes "not-regular") 2 told) (kind_text (codes "refused") 3 told) (kind_text (codes "failed") 4 told)
    c.put_number.new.out.items c.put_number-2.new.out.items c.put_number-3.new.out.items c.push.new.self.items c.put_count.new.out.items c.put_count-2.new.out.items c.put_count-3.new.out.items c.put_count-4.new.out.items c.put_count-5.new.out.items
    windows events views c.in_ok-push.ensures.items (c.in_ok-put_count.ensures.text told counts.atomic) (c.in_ok-put_count-2.ensures.text told counts.only_regular) (c.in_ok-put_count-3.ensures.text told counts.not_regular) (c.in_ok-put_count-4.ensures.text told counts.refused) last)
