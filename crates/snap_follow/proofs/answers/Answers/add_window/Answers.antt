use Rattle.std.proofs.Common.{◌≡◌, ◌++◌, ◌∙◌, ap, refl}
use Rattle.snap_follow.specs.Windows.{Told, line_of, window_text}
use Rattle.snap_follow.proofs.Summing.{lines_more}
use Rattle.snap_follow.proofs.answers.Answers.add_window.Goals as goal

pub returns : goal.returns
returns c = λ gone told events span h.
    let t : Told = record { number = c.next.result; events = events; window = c.args.window.now; names = c.deref.result.now } in
    let number = c.next.ensures told h.sums_are in
    let line : c.deref-2.result.now ≡ line_of t =
    c.deref-2.ensures.value ∙ c.in_ok-put_window.ensures.text ∙ ap (λ z. z ++ window_text c.next.result c.args.window.now c.deref.result.now) c.clear.ensures.items in (
      t,
      refl,
      refl,
      number,
      record {
        written = lines_more gone c.args.self.now.lines c.add.new.self c.deref-2.result.now told t c.in_ok-add.ensures line h.written;
        sums_are = c.add_window.ensures told t refl number span h.sums_are;
      },
    )
