use Rattle.std.proofs.Common.{◌++◌, ◌∙◌, ap, codes}
use Rattle.std.specs.Prelude.{decimal}
use Rattle.snap_follow.specs.Windows.{kind_word, missed_text, place_text}
use Rattle.snap_follow.proofs.Summing.{window_spelled}
use Rattle.snap_follow.proofs.lines.put_window.Goals as goal

pub returns-clause-text : goal.returns-clause-text
returns-clause-text c =
    let window = c.args.window.now in
    let names = c.args.names.now in
    let word = c.in_ok-extend_from_slice.ensures.items ∙ ap (λ z. c.push.new.self.items ++ z) (c.word.ensures ∙ c.of.ensures.word) in
    window_spelled c.args.out.now.items (codes "window ") (decimal c.args.number) (codes " events ") (decimal window.span.events) (codes " ") (kind_word window.verdict)
    (codes " from ") (place_text names window.span.first) (codes " to ") (place_text names window.span.last) (missed_text names window.span.missed) (codes "\n")
    c.put_number.new.out.items c.put_number-2.new.out.items c.push.new.self.items c.extend_from_slice.new.self.items c.put_place.new.out.items c.put_place-2.new.out.items c.put_missed.new.out.items c.push-2.new.self.items
    c.in_ok-put_number.ensures c.in_ok-put_number-2.ensures c.in_ok-push.ensures.items word c.in_ok-put_place.ensures c.in_ok-put_place-2.ensures c.in_ok-put_missed.ensures c.in_ok-push-2.ensures.items
