use Rattle.std.proofs.Common.{◌≡◌, ◌++◌, ap, codes}
use Rattle.snap_core.specs.Calls.{call_numbered, calls_of, shown, shown_number}
use Rattle.snap_core.specs.Entries.{entry_of, number_in}
use Rattle.snap_report.specs.Lines.{call_word}
use Rattle.snap_report.proofs.Pieces.{same_text}
use Rattle.snap_explain.specs.Faults.{view_numbers}
use Rattle.snap_explain.specs.Views.{numbers_text}
use Rattle.snap_explain.proofs.Pieces.{three_pieces}
use Rattle.snap_explain.proofs.view.put_numbers.Goals as goal

pub returns : goal.returns
unfolding shown_number shown
returns g c =
    let out = c.args.out.now.items in
    let calls = calls_of c.args.index.now in
    let updates = c.args.updates.now in
    let call = call_numbered calls c.args.view in
    let same : numbers_text (λ k. number_in (entry_of k c.view_numbered.result.now)) updates ≡ numbers_text (shown_number call) updates =
    ap (λ es. numbers_text (λ k. number_in (entry_of k es)) updates) c.view_numbered.ensures in
    same_text c.put_shown_numbers.result c.put_shown_numbers.new.out.items _ (out ++ c.args.text.now ++ view_numbers calls updates c.args.view)
    (rw (c.in_ok-put_call.ensures, c.in_ok-extend_from_slice.ensures.items, same)
    (three_pieces (out ++ c.args.text.now) (codes "view ") (call_word c.args.view) (numbers_text (shown_number call) updates)))
    c.put_shown_numbers.ensures
